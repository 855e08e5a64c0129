-- `rounds::fill_cores` meets its contract. The cores passed are in place.
use lib.ListN.{drop}
use mathlib.Core.List.{◌++◌}
use mathlib.Core.Path.{◌≡◌}
use Rattle.model.specs.Below.{list_below}
use Rattle.model.specs.ListRule.{core_in}
use Rattle.rounds.proofs.fill_cores.Given as goal

abbrev pub invariant-loop-a : goal.invariant-loop-a
invariant-loop-a l = l.cores ≡ list_below (core_in l.choices) l.a ++ drop l.a l.initial.cores
