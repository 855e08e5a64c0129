-- `rounds::first_lengths` meets its contract. The delays passed are in place.
use lib.ListN.{drop}
use mathlib.Core.List.{◌++◌}
use mathlib.Core.Path.{◌≡◌}
use Rattle.model.specs.Below.{at, list_below}
use Rattle.model.specs.Counts.{delay}
use Rattle.rounds.proofs.first_lengths.Given as goal

abbrev pub invariant-loop-x : goal.invariant-loop-x
invariant-loop-x l = l.lengths ≡ list_below (λ y. delay l.bus (at l.words y) 0) l.x ++ drop l.x l.initial.lengths
