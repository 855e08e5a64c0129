-- The list order as code keeps it: a number for each task, 0 once it is taken, else one more than the edges that keep it
-- waiting. Assumes nothing.
use Rattle.std.specs.Prelude.{ℕ, ◌+◌, ◌≤◌, ◌<◌, ◌≡◌, false, cond, not, ◌&&◌, List, [], eqb, length, replicate}
use Rattle.model.specs.Below.{at, count_below, first_below}
use Rattle.model.specs.Plan.{Plan, no_plan, key_of}
use Rattle.model.specs.Graph.{taken}

-- n tasks and edges between them, as a plan without the rest
unfoldable pub graph_of : ℕ → List ℕ → List ℕ → Plan
graph_of n sources targets =
    record { bus = no_plan.bus; costs = replicate n 0; sources = sources; targets = targets; amounts = [] }

-- what holds of them where their plan was read
pub record Edges (n : ℕ) (sources targets : List ℕ) : Type 0 where
  pub few_tasks : n ≤ 64
  pub few_edges : length sources ≤ 256
  pub sources_low : (e : ℕ) → e < length sources → at sources e < n
  pub targets_low : (e : ℕ) → e < length sources → at targets e < n
  pub rising : (e : ℕ) → e + 1 < length sources → key_of (at sources e) (at targets e) < key_of (at sources (e + 1)) (at targets (e + 1))

-- the edges before edge e are from tasks below i, the others are not
pub record Parts (sources : List ℕ) (i e : ℕ) : Type 0 where
  pub within : e ≤ length sources
  pub below : (k : ℕ) → k < e → at sources k < i
  pub above : (k : ℕ) → e ≤ k → k < length sources → i ≤ at sources k

-- how many of the first m edges end at task j, and how many of them are from task i
unfoldable pub edges_to : ℕ → List ℕ → ℕ → ℕ
edges_to m targets j = count_below (λ e. eqb (at targets e) j) m

unfoldable pub edges_between : ℕ → List ℕ → List ℕ → ℕ → ℕ → ℕ
edges_between m sources targets i j = count_below (λ e. eqb (at sources e) i && eqb (at targets e) j) m

-- `high` is `low` with f j more for each task j
pub record Raised (f : ℕ → ℕ) (low high : List ℕ) : Type 0 where
  pub long : length high ≡ length low
  pub each : (j : ℕ) → at high j ≡ at low j + f j

-- the edges from task i no longer count: `after` is `before` without them, and they end at no task below `low`
pub record Released (m : ℕ) (sources targets : List ℕ) (i : ℕ) (before after : List ℕ) (low : ℕ) : Type 0 where
  pub lowered : Raised (edges_between m sources targets i) after before
  pub least : low ≤ i
  pub clear : (k : ℕ) → k < low → edges_between m sources targets i k ≡ 0

-- how many edges to task j are from a task that is not taken, with o taken so far
unfoldable pub open_to : ℕ → List ℕ → List ℕ → List ℕ → ℕ → ℕ
open_to m sources targets o j = count_below (λ e. not (taken o (at sources e)) && eqb (at targets e) j) m

-- what is kept of task j
unfoldable pub left_by : ℕ → List ℕ → List ℕ → List ℕ → ℕ → ℕ
left_by m sources targets o j = cond (taken o j) 0 (1 + open_to m sources targets o j)

-- the lowest of n tasks that is not taken and that no edge keeps waiting
unfoldable pub next_by : ℕ → List ℕ → ℕ
next_by n left = first_below (λ i. eqb (at left i) 1) n

-- none of the tasks below `from` is that
pub record Passed (n : ℕ) (left : List ℕ) (from : ℕ) : Type 0 where
  pub within : from ≤ n
  pub none : (k : ℕ) → k < from → eqb (at left k) 1 ≡ false
