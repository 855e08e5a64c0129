-- What code is lent, as the model has it: a plan and a table, and a task's span. Assumes nothing.
use Rattle.std.specs.Prelude.{ℕ}
use Rattle.model.specs.Plan.{Plan}
use Rattle.model.specs.Table.{Table, of_numbers}
use Rattle.verifier.specs.Columns.{plan_by}
use Rattle.verifier.specs.declared.planned.PlannedTable.{PlannedTable}
use Rattle.verifier.specs.declared.planned.Span.{Span}

abbrev pub plan_in : PlannedTable → Plan
plan_in c = plan_by c.bus c.costs.now c.edges.sources.now c.edges.targets.now c.edges.amounts.now

abbrev pub table_in : PlannedTable → Table
table_in c = of_numbers c.table.now

abbrev pub span_in : Table → ℕ → Span
span_in t i = record { core = t.core i; from = t.R i; to = t.F i }
