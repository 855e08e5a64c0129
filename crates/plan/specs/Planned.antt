-- What the plan reader gives: the refusal, if there is one, and the columns of the plan; of a plan that is refused at a field,
-- what was read before it.
-- Assumes nothing.
use Rattle.std.specs.Prelude.{◌≡◌, ℕ, ◌+◌, ◌<◌, ◌≤◌, true, false, List, length, take, replicate, set, Ok, Err}
use Rattle.std.proofs.lemmas.List.Edits.{sets}
use Rattle.model.specs.Refusals.{refusal, refuse_if, or_else, Check}
use Rattle.model.specs.Plan.{Plan, Valid, tasks, edges, key_of, reading_of}
use Rattle.model.specs.Graph.{left_over, list_order, plan_of}
use Rattle.model.specs.declared.Fault.TheVariants.{Cyclic}
use Rattle.model.specs.declared.Side.TheVariants.{OfPlan}
use Rattle.model.specs.declared.Seen.{Seen}
use Rattle.model.specs.declared.Taken.{Taken}
use Rattle.model.specs.declared.Taken.TheVariants.{Header, Task, Edge}
use Rattle.plan.specs.Order.{graph_of, Edges}
use Rattle.plan.specs.declared.Columns.{Columns}
use Rattle.plan.specs.declared.PlanRead.{PlanRead}

-- a column with new entries stored at its front
unfoldable pub filled : List ℕ → List ℕ → List ℕ
filled front old = sets old 0 front

-- the list order, once the fields are good
abbrev pub order_by : Plan → Check → List ℕ
order_by p (Ok tt) = filled (list_order p) (replicate 64 0)
order_by p (Err r) = replicate 64 0

-- the columns of a plan
unfoldable pub columns_of : Plan → List ℕ → Columns
columns_of p order =
    record {
      bus = p.bus;
      tasks = tasks p;
      edges = edges p;
      costs = filled p.costs (replicate 64 0);
      order = order;
      sources = filled p.sources (replicate 256 0);
      targets = filled p.targets (replicate 256 0);
      amounts = filled p.amounts (replicate 256 0);
    }

-- "the first bad field decides .. Then 7."
unfoldable pub plan_check : List ℕ → Check
plan_check bytes =
    or_else (reading_of bytes).check (refuse_if (left_over (reading_of bytes).plan) (refusal Cyclic OfPlan (length bytes)))

unfoldable pub plan_read : List ℕ → PlanRead
plan_read bytes =
    record {
      check = plan_check bytes;
      columns = columns_of (reading_of bytes).plan (order_by (reading_of bytes).plan (reading_of bytes).check);
    }

-- what is known behind the header, behind a task, behind an edge
abbrev pub after : Seen → Taken → Seen
after s (Header b next) = record { at = next; started = true; tasks = s.tasks; edges = s.edges; least = s.least }
after s (Task c next) = record { at = next; started = s.started; tasks = s.tasks + 1; edges = s.edges; least = s.least }
after s (Edge from to words next) =
    record { at = next; started = s.started; tasks = s.tasks; edges = s.edges + 1; least = key_of from to + 1 }

-- n tasks and m edges leave room for what a field gives
abbrev pub Room : ℕ → ℕ → Taken → Type 0
Room n m (Header b next) = Unit {0}
Room n m (Task c next) = n < 64
Room n m (Edge from to words next) = m < 256

-- the columns with what a field gives
abbrev pub kept : Columns → Taken → Columns
kept c (Header b next) = record c { bus = b }
kept c (Task cost next) = record c { tasks = c.tasks + 1; costs = set c.costs c.tasks cost }
kept c (Edge from to words next) =
    record c {
      edges = c.edges + 1;
      sources = set c.sources c.edges from;
      targets = set c.targets c.edges to;
      amounts = set c.amounts c.edges words;
    }

-- the tasks and edges of the columns, and what the list order needs of them
abbrev pub graph_in : Columns → Plan
graph_in c = graph_of c.tasks (take c.edges c.sources) (take c.edges c.targets)

abbrev pub EdgesIn : Columns → Type 0
EdgesIn c = Edges c.tasks (take c.edges c.sources) (take c.edges c.targets)

-- the columns are as long as their arrays
pub record Sized (c : Columns) : Type 0 where
  pub costs : 64 ≡ length c.costs
  pub order : 64 ≡ length c.order
  pub sources : 256 ≡ length c.sources
  pub targets : 256 ≡ length c.targets
  pub amounts : 256 ≡ length c.amounts

-- what holds of the columns of bytes that are a plan: of the plan p that they are, each column's front
pub record Holds (bytes : List ℕ) (c : Columns) (p : Plan) : Type 0 where
  pub is : plan_of bytes ≡ Ok p
  pub valid : Valid p
  pub full : left_over p ≡ false
  pub few_tasks : c.tasks ≤ 64
  pub few_edges : c.edges ≤ 256
  pub bus : c.bus ≡ p.bus
  pub tasks : c.tasks ≡ tasks p
  pub edges : c.edges ≡ edges p
  pub costs : take c.tasks c.costs ≡ p.costs
  pub order : take c.tasks c.order ≡ list_order p
  pub sources : take c.edges c.sources ≡ p.sources
  pub targets : take c.edges c.targets ≡ p.targets
  pub amounts : take c.edges c.amounts ≡ p.amounts
