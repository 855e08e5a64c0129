-- `plan::graph::next_ready` meets its contract. No task before this one is ready.
use Rattle.std.proofs.Common.{sym, eq-eqb}
use Rattle.plan.specs.Order.{next_by}
use Rattle.model.proofs.Below.{first_here, first_none}
use Rattle.plan.proofs.graph.next_ready.Goals as goal

pub returns-then-left-i-eq1 : goal.returns-then-left-i-eq1
unfolding next_by
returns-then-left-i-eq1 c = (first_here _ _ _ c.loop-i-test.true c.loop-i.invariant.none (eq-eqb _ 1 c.if-left-i-eq1.true), c.loop-i-test.true)

pub returns : goal.returns
unfolding next_by
returns c = sym (first_none _ _ _ c.loop-i.invariant.within c.loop-i-test.false c.loop-i.invariant.none)
