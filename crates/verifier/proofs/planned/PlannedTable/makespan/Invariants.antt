-- The greatest end so far.
use Rattle.std.proofs.Common.{◌≡◌}
use Rattle.model.specs.Below.{max_below}
use Rattle.verifier.specs.Views.{table_in}
use Rattle.verifier.proofs.planned.PlannedTable.makespan.Given as goal

abbrev pub invariant-loop-i : goal.invariant-loop-i
invariant-loop-i l = l.most ≡ max_below (table_in l.self).F l.i
