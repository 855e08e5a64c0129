-- `plan::graph::Graph::waiting` meets its contract. The edges passed are counted (proofs/Counted.antt).
use Rattle.std.proofs.Common.{arith}
use Rattle.plan.proofs.Counted.{to_none, to_fits, to_next}
use Rattle.plan.proofs.Waiting.{to_room}
use Rattle.plan.proofs.graph.Graph.waiting.Goals as goal

pub loop-target-init : goal.loop-target-init
loop-target-init c = to_none _ _

pub overflow_add-left : goal.overflow_add-left
overflow_add-left c = omega (arith, to_fits _ _ _ _ _ _ c.loop-target-test.true c.loop-target.invariant c.from.ensures (rw c.args.self.paired (to_room _ _ _ c.args.self.edges)))

pub loop-target-preserved : goal.loop-target-preserved
loop-target-preserved c = to_next _ _ _ _ _ _ c.loop-target-test.true c.loop-target.invariant c.from.ensures
    (omega (arith, c.from.ensures, c.args.self.edges.targets_low c.loop-target.target-index, c.loop-target.invariant.long))
