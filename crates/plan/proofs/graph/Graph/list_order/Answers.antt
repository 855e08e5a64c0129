-- `plan::graph::Graph::list_order` meets its contract. What is kept of the tasks and the list so far are those of the
-- definition (proofs/Waiting.antt).
use Rattle.std.proofs.Common.{arith}
use Rattle.plan.proofs.Waiting.{ordered_start, ordered_room, ordered_next, ordered_stuck, ordered_end}
use Rattle.plan.proofs.Counted.{passed_none, passed_next, front_passed, front_ready, front_stuck}
use Rattle.plan.proofs.graph.Graph.list_order.Goals as goal

pub loop-taken-init : goal.loop-taken-init
loop-taken-init c = record { ordered = ordered_start _ _ _ c.args.self.edges _ _ c.waiting-left.ensures; passed = passed_none _ _ }

pub next_ready-requires : goal.next_ready-requires
next_ready-requires c = front_passed _ _ (omega (arith, c.args.self.edges.few_tasks)) _ c.loop-taken.invariant.passed

pub returns-in_default : goal.returns-in_default
returns-in_default c = let e = ordered_stuck _ _ _ c.args.self.edges _ _ _ _ c.loop-taken.invariant.ordered (front_stuck _ _ (omega (arith, c.args.self.edges.few_tasks)) c.in_default.ensures) in record { count = e.0; order = e.1 }

pub release-from-requires : goal.release-from-requires
release-from-requires c =
    let next = front_ready _ _ (omega (arith, c.args.self.edges.few_tasks)) c.in-Some.ensures in
    ordered_room _ _ _ c.args.self.edges _ _ _ _ c.loop-taken.invariant.ordered _ next.0 next.1

pub loop-taken-preserved : goal.loop-taken-preserved
loop-taken-preserved c =
    let next = front_ready _ _ (omega (arith, c.args.self.edges.few_tasks)) c.in-Some.ensures in
    record {
      ordered = ordered_next _ _ _ c.args.self.edges _ _ _ _ c.loop-taken.invariant.ordered _ next.0 next.1 c.loop-taken-test.true _ c.release-from.ensures.lowered;
      passed = passed_next _ _ _ _ _ _ _ _ next.0 next.1 c.release-from.ensures;
    }

pub returns : goal.returns
returns c =
    let e = ordered_end _ _ _ c.args.self.edges _ _ _ _ c.loop-taken.invariant.ordered c.loop-taken-test.false in
    record { count = omega (arith, e.0); order = e.1 }
