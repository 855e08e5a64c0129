-- `contention::reach::Reach::near_between` meets its contract. What is counted up to y, but for what stands before lo.
use Prim.Native.Nat.{◌+◌}
use mathlib.Core.Path.{◌≡◌}
use Rattle.model.specs.Below.{count_below}
use Rattle.contention.specs.Views.{near_to}
use Rattle.contention.proofs.reach.Reach.near_between.Given as goal

abbrev pub invariant-loop-y : goal.invariant-loop-y
invariant-loop-y l = let near = near_to l.self.phases l.self.closes.now l.x in l.n + count_below near l.lo ≡ count_below near l.y
