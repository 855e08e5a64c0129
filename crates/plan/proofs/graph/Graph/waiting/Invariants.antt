-- `plan::graph::Graph::waiting` meets its contract. The edges passed are counted (proofs/Counted.antt).
use Rattle.plan.specs.Order.{Raised, edges_to}
use Rattle.plan.proofs.graph.Graph.waiting.Given as goal

abbrev pub invariant-loop-target : goal.invariant-loop-target
invariant-loop-target l = Raised (edges_to l.target-index l.self.targets.now) l.initial.left l.left
