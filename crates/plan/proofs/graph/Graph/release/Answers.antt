-- `plan::graph::Graph::release` meets its contract. The edges from the task that were passed are no longer counted
-- (proofs/Counted.antt).
use Rattle.std.proofs.Common.{arith, rules}
use Rattle.plan.proofs.Counted.{released_none, released_some, released_next, released_end}
use Rattle.plan.proofs.Waiting.{sources_rise}
use Rattle.plan.proofs.graph.Graph.release.Goals as goal

pub loop-e-init : goal.loop-e-init
loop-e-init c = let w = c.first_edge-e.ensures in record { from = w.above; released = released_none _ _ _ _ w _ }

-- the edges from here on are from tasks above
pub returns-then-i-from : goal.returns-then-i-from
returns-then-i-from c =
    released_end _ _ _ _ _ _ _ _ (omega arith) c.loop-e.invariant.released
    (λ k a b. omega (arith, sources_rise _ _ _ c.args.self.edges c.loop-e.e k a b, c.from.ensures, c.if-i-from.true))

pub overflow_sub-left : goal.overflow_sub-left
overflow_sub-left c =
    let w = c.loop-e.invariant in
    released_some _ _ _ _ _ _ _ _ (omega arith) w.released _ _ c.loop-e-test.true w.from c.from.ensures c.if-i-from.false c.from-target.ensures c.requires

pub loop-e-preserved : goal.loop-e-preserved
loop-e-preserved c =
    let w = c.loop-e.invariant in
    let ok = c.args.self.edges in
    record {
      from = λ k a b. w.from k (omega arith) b;
      released =
          released_next _ _ _ _ _ _ _ _ (omega arith) w.released _ _ c.loop-e-test.true w.from c.from.ensures c.if-i-from.false c.from-target.ensures c.requires
          (omega (arith, ok.targets_low c.loop-e.e c.loop-e-test.true, w.released.lowered.long))
          _ (search rules);
    }

pub returns : goal.returns
returns c = released_end _ _ _ _ _ _ _ _ (omega arith) c.loop-e.invariant.released (λ k a b. absurd (omega (arith, c.loop-e-test.false)))
