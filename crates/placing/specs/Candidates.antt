-- A candidate of the list rule as the maker keeps it: columns by list place, one entry for each place added, and the plan's edges
-- between places. Assumes nothing.
use Rattle.std.specs.Prelude.{ℕ, zero, suc, ◌+◌, ◌≤◌, ◌<◌, ◌≡◌, cond, List, length, eqb}
use Rattle.model.specs.Below.{at}
use Rattle.model.specs.Counts.{Settings}
use Rattle.model.specs.Plan.{Plan}
use Rattle.model.specs.Contention.{phase_words}
use Rattle.model.specs.ListRule.{Candidate, core_in}
use Rattle.model.specs.declared.Bus.{Bus}
use Rattle.contention.specs.Columns.{Edges}

abbrev pub plan_by : Bus → List ℕ → List ℕ → List ℕ → List ℕ → Plan
plan_by bus costs sources targets amounts =
    record { bus = bus; costs = costs; sources = sources; targets = targets; amounts = amounts }

-- the candidate: a choice for each place, and the words that follow from the cores chosen
abbrev pub candidate_by : Bus → List ℕ → List ℕ → List ℕ → List ℕ → List ℕ → Candidate
candidate_by bus costs sources targets amounts choices =
    let p = plan_by bus costs sources targets amounts in
    record { plan = p; choices = choices; words = phase_words p (core_in choices) }

-- ---- the edges to each place, as a chain
-- one more than the last of the first m edges that ends at place a; 0 where none does
unfoldable pub last_to : List ℕ → ℕ → ℕ → ℕ
last_to targets a zero = 0
last_to targets a (suc e) = cond (eqb (at targets e) a) (suc e) (last_to targets a e)

-- `links` has at a the last edge to place a, and at 64 + e the last one before e to the same place; an edge's source is the
-- earlier place
pub record Chained (sources targets links : List ℕ) (n : ℕ) : Type 0 where
  pub links_all : 64 + length sources ≤ length links
  pub heads : (a : ℕ) → a < n → at links a ≡ last_to targets a (length sources)
  pub nexts : (e : ℕ) → e < length sources → at links (64 + e) ≡ last_to targets (at targets e) e
  pub before : (e : ℕ) → e < length sources → at targets e < n → at sources e < at targets e

-- what holds of the columns: ranges, and the chains of edges
pub record Ready (bus : Bus) (costs sources targets amounts links choices : List ℕ) : Type 0 where
  pub settings : Settings bus
  pub few : length costs ≤ 64
  pub costs_most : (a : ℕ) → at costs a ≤ 65535
  pub edges : Edges (length costs) sources targets amounts
  pub choices_all : length choices ≡ length costs
  pub chained : Chained sources targets links (length costs)

-- the first n places are on cores below 8
abbrev pub FewCores : List ℕ → ℕ → Type 0
FewCores choices n = (a : ℕ) → a < n → core_in choices a < 8
