-- `rounds::greatest_end` meets its contract. The greatest F of the places passed.
use mathlib.Core.Path.{◌≡◌}
use Prim.Native.Nat.{◌*◌, ◌+◌}
use Rattle.model.specs.Below.{at, max_below}
use Rattle.rounds.proofs.greatest_end.Given as goal

abbrev pub invariant-loop-a : goal.invariant-loop-a
invariant-loop-a l = l.most ≡ max_below (λ b. at l.end (2 * b + 1)) l.a
