-- The windows passed are in place.
use Rattle.std.proofs.Common.{◌≡◌, ◌/◌, ◌++◌, drop}
use Rattle.model.specs.Below.{list_below}
use Rattle.model.specs.Contention.{of_phase}
use Rattle.verifier.specs.Views.{table_in}
use Rattle.verifier.proofs.planned.PlannedTable.fill_windows.Given as goal

abbrev pub invariant-loop-x : goal.invariant-loop-x
invariant-loop-x l =
    (l.core ≡ list_below (λ x. (table_in l.self).core (x / 2)) l.x ++ drop l.x l.initial.core)
    × (l.start ≡ list_below (of_phase (table_in l.self).R (table_in l.self).W) l.x ++ drop l.x l.initial.start)
    × (l.end ≡ list_below (of_phase (table_in l.self).E (table_in l.self).F) l.x ++ drop l.x l.initial.end)
