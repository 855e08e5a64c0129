-- `plan::Columns::parse` meets its contract. Each field carries the plan so far on (proofs/Fields.antt).
use Rattle.plan.proofs.Fields.{From}
use Rattle.std.proofs.Common.{length, ◌-◌}
use Rattle.plan.proofs.Columns.parse.Given as goal

abbrev pub invariant-loop-taken : goal.invariant-loop-taken
invariant-loop-taken l = From l.plan l.self l.seen

abbrev pub decreases-loop-taken : goal.decreases-loop-taken
decreases-loop-taken l = length l.plan - l.seen.at
