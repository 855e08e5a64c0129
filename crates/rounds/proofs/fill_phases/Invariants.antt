-- `rounds::fill_phases` meets its contract. The cores passed are in place.
use lib.ListN.{drop}
use mathlib.Core.List.{◌++◌}
use mathlib.Core.Path.{◌≡◌}
use Prim.Native.Nat.{◌/◌}
use Rattle.model.specs.Below.{list_below}
use Rattle.model.specs.ListRule.{core_in}
use Rattle.rounds.proofs.fill_phases.Given as goal

abbrev pub invariant-loop-x : goal.invariant-loop-x
invariant-loop-x l = l.core ≡ list_below (λ y. core_in l.choices (y / 2)) l.x ++ drop l.x l.initial.core
