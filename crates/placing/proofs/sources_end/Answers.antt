-- `placing::sources_end` meets its contract. What is left of the chain has the other sources.
use Rattle.placing.proofs.Chains.{walk_start, walk_less, walk_on, walk_end}
use native.Mathlib.Omega.{arith}
use Rattle.placing.proofs.sources_end.Goals as goal

pub loop-left-init : goal.loop-left-init
loop-left-init c = walk_start c.args.candidate.now.ready.chained c.requires.place_in c.from-left.ensures

pub loop-left-smaller : goal.loop-left-smaller
loop-left-smaller c = walk_less c.args.candidate.now.ready.chained c.requires.place_in c.loop-left.invariant c.loop-left-test.true c.from-left-in-loop-left.ensures

pub loop-left-preserved : goal.loop-left-preserved
loop-left-preserved c = walk_on c.args.candidate.now.ready.chained c.requires.place_in c.loop-left.invariant c.loop-left-test.true (grind arith) c.from-left-in-loop-left.ensures

pub returns : goal.returns
returns c = walk_end c.args.candidate.now.ready.chained c.requires.place_in c.loop-left.invariant c.loop-left-test.false
