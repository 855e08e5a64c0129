-- `placing::sources_end` meets its contract. What is left of the chain has the other sources.
use Rattle.placing.proofs.Chains.{Walked}
use Rattle.placing.proofs.sources_end.Given as goal

abbrev pub invariant-loop-left : goal.invariant-loop-left
invariant-loop-left l = let e = l.candidate.edges in Walked e.sources.now e.targets.now l.end l.a l.from l.left

abbrev pub decreases-loop-left : goal.decreases-loop-left
decreases-loop-left l = l.left
