-- `rounds::grow_all` meets its contract. The windows passed have grown; the others are as they were.
use lib.Dec.{ltb}
use lib.ListN.{drop}
use mathlib.Core.List.{◌++◌}
use mathlib.Core.Path.{◌≡◌}
use Prim.Native.Nat.{max}
use Rattle.model.specs.Below.{at, list_below, any_below}
use Rattle.rounds.proofs.grow_all.Given as goal

abbrev pub invariant-loop-x : goal.invariant-loop-x
invariant-loop-x l =
    record {
      grew : l.grew ≡ any_below (λ y. ltb (at l.initial.lengths y) (at l.due y)) l.x;
      grown : l.lengths ≡ list_below (λ y. max (at l.initial.lengths y) (at l.due y)) l.x ++ drop l.x l.initial.lengths;
    }
