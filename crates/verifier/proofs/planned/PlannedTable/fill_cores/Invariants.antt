-- The cores passed are in place.
use Rattle.std.proofs.Common.{◌≡◌, ◌++◌, drop}
use Rattle.model.specs.Below.{list_below}
use Rattle.verifier.specs.Views.{table_in}
use Rattle.verifier.proofs.planned.PlannedTable.fill_cores.Given as goal

abbrev pub invariant-loop-i : goal.invariant-loop-i
invariant-loop-i l = l.cores ≡ list_below (table_in l.self).core l.i ++ drop l.i l.initial.cores
