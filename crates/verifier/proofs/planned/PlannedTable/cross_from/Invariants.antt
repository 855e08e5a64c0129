-- The pairs passed obey the rule.
use Rattle.std.proofs.Common.{◌≡◌}
use Rattle.std.specs.Prelude.{Ok}
use Rattle.model.specs.Refusals.{first_bad}
use Rattle.model.specs.Rules.{cross_at}
use Rattle.verifier.specs.Views.{table_in}
use Rattle.verifier.proofs.planned.PlannedTable.cross_from.Given as goal

abbrev pub invariant-loop-j : goal.invariant-loop-j
invariant-loop-j l = first_bad (cross_at (table_in l.self) l.i) l.j ≡ Ok tt
