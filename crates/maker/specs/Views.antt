-- What code hands over, as the list rule has it. Assumes nothing.
use Rattle.std.specs.Prelude.{ℕ, ◌≡◌, List, length, take}
use Rattle.model.specs.Plan.{Plan}
use Rattle.model.specs.Table.{Table}
use Rattle.plan.specs.declared.Columns.{Columns}
use Rattle.placing.specs.Candidates.{plan_by}
use Rattle.maker.specs.Renumbering.{masked_by, rows_by}
use Rattle.maker.specs.Choosing.{by_task}
use Rattle.maker.specs.declared.by_place.ByPlace.{ByPlace}
use Rattle.maker.specs.declared.trial.Trial.{Trial}

-- the fronts of the columns that were read
abbrev pub plan_of_columns : Columns → Plan
plan_of_columns c =
    plan_by c.bus (take c.tasks c.costs) (take c.edges c.sources) (take c.edges c.targets) (take c.edges c.amounts)

abbrev pub plan_in : ByPlace → Plan
plan_in p = plan_by p.bus p.costs.now p.edges.sources.now p.edges.targets.now p.edges.amounts.now

-- a column has the words of the edges between the first n places at its front
abbrev pub Within : ByPlace → ℕ → List ℕ → Type 0
Within p n column =
    take (length p.edges.sources.now) column ≡ masked_by p.edges.sources.now p.edges.targets.now p.edges.amounts.now n

-- the table by task, from the columns that a candidate was settled in
abbrev pub table_by : Trial → ByPlace → Table
table_by t p = by_task p.order.now (rows_by t.cores t.start t.end)
