-- `plan::graph::next_ready` meets its contract. No task before this one is ready.
use lib.ListN.{length}
use Rattle.plan.specs.Order.{Passed}
use Rattle.plan.proofs.graph.next_ready.Given as goal

abbrev pub invariant-loop-i : goal.invariant-loop-i
invariant-loop-i l = Passed (length l.left) l.left l.i
