-- "For each one, every core is tried in two modes .. with the earlier tasks' cores and modes kept" (document 01, "The list rule";
-- `chosen`), over the columns by place. Assumes nothing.
use Rattle.std.specs.Prelude.{ℕ, ◌+◌, ◌*◌, ◌≤◌, ◌<◌, ◌≡◌, false, List, [], ◌∷◌, ◌++◌, length}
use Rattle.model.specs.Below.{at}
use Rattle.model.specs.Counts.{Settings}
use Rattle.model.specs.Plan.{Plan, Valid, tasks, edges, cost, amount}
use Rattle.model.specs.Graph.{place_of, list_order, left_over}
use Rattle.model.specs.Table.{Table}
use Rattle.model.specs.ListRule.{candidate, makespan_of, chosen}
use Rattle.placing.specs.Candidates.{Chained}

-- the makespan with a choice for place k, behind those of the places before it
unfoldable pub span_choosing : Plan → ℕ → ℕ → ℕ
span_choosing q k choice = makespan_of (candidate q (chosen q k ++ (choice ∷ [])))

-- what holds of a plan in list order, and of the chains of its edges (`Ready` of every candidate follows from it)
pub record Listed (q : Plan) (links : List ℕ) : Type 0 where
  pub settings : Settings q.bus
  pub few_tasks : tasks q ≤ 64
  pub few_edges : edges q ≤ 256
  pub costs_most : (a : ℕ) → a < tasks q → cost q a ≤ 65535
  pub targets_all : length q.targets ≡ edges q
  pub amounts_all : length q.amounts ≡ edges q
  pub amounts_most : (e : ℕ) → amount q e ≤ 4095
  pub chained : Chained q.sources q.targets links (tasks q)

-- a plan that was read, and its list order
pub record Planned (p : Plan) (order : List ℕ) : Type 0 where
  pub valid : Valid p
  pub full : left_over p ≡ false
  pub listed : order ≡ list_order p

-- a list of n tasks in which each of them has a place
pub record Ordered (n : ℕ) (order : List ℕ) : Type 0 where
  pub all : length order ≡ n
  pub placed : (i : ℕ) → i < n → place_of order i < n

-- a table by place, by task
abbrev pub by_task : List ℕ → Table → Table
by_task order t =
    record {
      core = λ i. t.core (place_of order i);
      R = λ i. t.R (place_of order i);
      E = λ i. t.E (place_of order i);
      W = λ i. t.W (place_of order i);
      F = λ i. t.F (place_of order i);
    }

-- the first n places of a table stand in the columns of a settled candidate
pub record Placed (n : ℕ) (t : Table) (cores start end : List ℕ) : Type 0 where
  pub core : (a : ℕ) → a < n → at cores a ≡ t.core a
  pub R : (a : ℕ) → a < n → at start (2 * a) ≡ t.R a
  pub E : (a : ℕ) → a < n → at end (2 * a) ≡ t.E a
  pub W : (a : ℕ) → a < n → at start (2 * a + 1) ≡ t.W a
  pub F : (a : ℕ) → a < n → at end (2 * a + 1) ≡ t.F a
