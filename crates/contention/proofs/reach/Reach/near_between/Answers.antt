-- `contention::reach::Reach::near_between` meets its contract. What is counted up to y, but for what stands before lo.
use Rattle.contention.proofs.Ranges.{between_again, between_fits}
use Rattle.contention.specs.Views.{near_to}
use native.Mathlib.Omega.{arith}
use Rattle.contention.proofs.reach.Reach.near_between.Goals as goal

pub overflow_add-n : goal.overflow_add-n
overflow_add-n c =
    let p = near_to c.args.self.now.phases c.args.self.now.closes.now c.args.x in
    omega (arith, between_fits p _ _ _ _ _ c.loop-y.invariant c.from-n.ensures c.near.ensures, c.args.self.now.phases.sized.few)

pub loop-y-preserved : goal.loop-y-preserved
loop-y-preserved c =
    let p = near_to c.args.self.now.phases c.args.self.now.closes.now c.args.x in
    between_again p _ _ _ _ _ c.loop-y.invariant c.from-n.ensures c.near.ensures
