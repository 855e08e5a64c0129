-- `plan::graph::Graph::list_order` meets its contract. What is kept of the tasks and the list so far are those of the
-- definition (proofs/Waiting.antt).
use Rattle.plan.proofs.Waiting.{Ordered}
use Rattle.plan.specs.Order.{Passed}
use Rattle.plan.proofs.graph.Graph.list_order.Given as goal

abbrev pub invariant-loop-taken : goal.invariant-loop-taken
invariant-loop-taken l = record {
  ordered : Ordered l.self.tasks l.self.sources.now l.self.targets.now l.initial.order l.order l.left l.taken;
  passed : Passed l.self.tasks l.left l.from;
}
