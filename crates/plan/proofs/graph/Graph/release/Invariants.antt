-- `plan::graph::Graph::release` meets its contract. The edges from the task that were passed are no longer counted
-- (proofs/Counted.antt).
use Rattle.plan.specs.Order.{Released}
use Rattle.model.specs.Below.{at}
use Rattle.std.proofs.Common.{ℕ, ◌≤◌, ◌<◌, length}
use Rattle.plan.proofs.graph.Graph.release.Given as goal

abbrev pub invariant-loop-e : goal.invariant-loop-e
invariant-loop-e l = record {
  from : (k : ℕ) → l.e ≤ k → k < length l.self.sources.now → l.i ≤ at l.self.sources.now k;
  released : Released l.e l.self.sources.now l.self.targets.now l.i l.initial.left l.left l.low;
}
