-- `maker::place_of` meets its contract. The task stands nowhere before.
use Rattle.model.specs.Below.{at}
use lib.Dec.{eqb}
use Prim.Native.Nat.{ℕ, ◌<◌}
use mathlib.Core.Bool.{false}
use mathlib.Core.Path.{◌≡◌}
use Rattle.maker.proofs.place_of.Given as goal

abbrev pub invariant-loop-a : goal.invariant-loop-a
invariant-loop-a l = (b : ℕ) → b < l.a → eqb (at l.order b) l.task ≡ false
