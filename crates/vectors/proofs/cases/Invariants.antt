-- `vectors::cases`: each case takes its kind's byte at least.
use Rattle.std.proofs.Common.{length}
use Rattle.vectors.proofs.cases.Given as goal

abbrev pub decreases-loop-kind : goal.decreases-loop-kind
decreases-loop-kind g l = length l.rest
