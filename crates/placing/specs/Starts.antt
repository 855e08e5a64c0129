-- Step 2 of the list rule on columns: cores, words, lengths and windows by phase, execute times and choices by place, and the
-- chains of edges. Assumes nothing.
use Rattle.std.specs.Prelude.{ℕ, ◌+◌, ◌*◌, ◌-◌, ◌/◌, ◌≤◌, ◌<◌, max, ◌≡◌, Bool, true, false, cond, ◌||◌, List, length, set, eqb}
use Rattle.model.specs.Below.{at, max_below, any_below}
use Rattle.model.specs.Plan.{tasks}
use Rattle.model.specs.ListRule.{Candidate, core_in, exclusive, LeastFree}
use Rattle.contention.specs.Columns.{rival_by, close_of}
use Rattle.placing.specs.Candidates.{Chained}
pub use Rattle.placing.specs.declared.earlier.Task.{Task}

-- a column with these entries for the read and the write of place a
abbrev pub with_pair : List ℕ → ℕ → ℕ → ℕ → List ℕ
with_pair l a read write = set (set l (2 * a) read) (2 * a + 1) write

-- ---- "not before the F of any source or of any earlier-listed task on its core"
-- the greatest F of the first a places on core `mine`
unfoldable pub free_by : List ℕ → List ℕ → ℕ → ℕ → ℕ
free_by core end mine a = max_below (λ b. cond (eqb (at core (2 * b)) mine) (at end (2 * b + 1)) 0) a

-- the greatest F of the sources of place a, along the first m edges
unfoldable pub sent_by : List ℕ → List ℕ → List ℕ → ℕ → ℕ → ℕ
sent_by sources targets end a m = max_below (λ e. cond (eqb (at targets e) a) (at end (2 * at sources e + 1)) 0) m

abbrev pub earliest_by : List ℕ → List ℕ → List ℕ → List ℕ → ℕ → ℕ
earliest_by sources targets core end a = max (free_by core end (at core (2 * a)) a) (sent_by sources targets end a (length sources))

-- `free` has at each core below 8 the greatest F of its places so far
pub record Freed (core end free : List ℕ) (a : ℕ) : Type 0 where
  pub all : 8 ≡ length free
  pub each : (c : ℕ) → c < 8 → at free c ≡ free_by core end c a

-- ---- phases that carry no words are closed: they end at 0, so that no window meets them
abbrev pub close_by : List ℕ → List ℕ → ℕ → ℕ
close_by words end y = close_of (at words y) (at end y)

-- `closes` has the ends so far, and `tops` at y one that is not before any of those below y
pub record Closed (words end closes tops : List ℕ) (a : ℕ) : Type 0 where
  pub closes_all : 128 ≡ length closes
  pub tops_all : 129 ≡ length tops
  pub closed : (y : ℕ) → y < 2 * a → at closes y ≡ close_by words end y
  pub topped : (y z : ℕ) → y ≤ 2 * a → z < y → at closes z ≤ at tops y

-- when place a stands: its core is free from its F on, its phases close, and the greatest close is known before the next ones
abbrev pub with_free : List ℕ → List ℕ → List ℕ → ℕ → List ℕ
with_free free core end a = set free (at core (2 * a)) (max (at free (at core (2 * a))) (at end (2 * a + 1)))

abbrev pub with_closes : List ℕ → List ℕ → List ℕ → ℕ → List ℕ
with_closes closes words end a = with_pair closes a (close_by words end (2 * a)) (close_by words end (2 * a + 1))

abbrev pub with_tops : List ℕ → List ℕ → List ℕ → ℕ → List ℕ
with_tops tops words end a =
    let top = max (at tops (2 * a)) (close_by words end (2 * a)) in
    set (set tops (2 * a + 1) top) (2 * a + 2) (max top (close_by words end (2 * a + 1)))

-- ---- "the least such time at which neither of its phases overlaps a phase of an earlier-listed task on another core"
-- the numbers of a task to be placed
abbrev pub task : ℕ → ℕ → ℕ → ℕ → ℕ → ℕ → Task
task mine reads writes read cost write =
    record { mine = mine; reads = reads; writes = writes; read = read; cost = cost; write = write }

abbrev pub task_at : List ℕ → List ℕ → List ℕ → List ℕ → ℕ → Task
task_at costs core words lengths a =
    task (at core (2 * a)) (at words (2 * a)) (at words (2 * a + 1)) (at lengths (2 * a)) (at costs a) (at lengths (2 * a + 1))

-- the end of phase y where the window [from, to) of `own` words on core `mine` meets it, 0 where not
unfoldable pub end_met : List ℕ → List ℕ → List ℕ → List ℕ → ℕ → ℕ → ℕ → ℕ → ℕ → ℕ
end_met core start end words mine own from to y = cond (rival_by core start end words mine own from to y) (at end y) 0

-- the greatest end that it meets
abbrev pub met_until : List ℕ → List ℕ → List ℕ → List ℕ → ℕ → ℕ → ℕ → ℕ → ℕ → ℕ
met_until core start end words count mine own from to = max_below (end_met core start end words mine own from to) count

-- started at r, the task meets one of the first `count` phases
unfoldable pub clash_by : List ℕ → List ℕ → List ℕ → List ℕ → ℕ → Task → ℕ → Bool
clash_by core start end words count t r =
    let e = r + t.read in
    let w = e + t.cost in
    any_below
    (λ y. rival_by core start end words t.mine t.reads r e y || rival_by core start end words t.mine t.writes w (w + t.write) y)
    count

-- the next start to try: past every phase that the task meets when started at r; r itself where it meets none
unfoldable pub next_by : List ℕ → List ℕ → List ℕ → List ℕ → ℕ → Task → ℕ → ℕ
next_by core start end words count t r =
    let e = r + t.read in
    let w = e + t.cost in
    max r
    (max (met_until core start end words count t.mine t.reads r e)
    (met_until core start end words count t.mine t.writes w (w + t.write) - (t.read + t.cost)))

-- ---- the start r of place a, by its mode
pub record Starts (costs sources targets choices core words lengths start end : List ℕ) (a r : ℕ) : Type 0 where
  pub overlapping : exclusive choices a ≡ false → r ≡ earliest_by sources targets core end a
  pub alone :
      exclusive choices a ≡ true
      → LeastFree (clash_by core start end words (2 * a) (task_at costs core words lengths a)) (earliest_by sources targets core end a) r

-- what is read to place a: the columns have it, and behind the greatest end before it there is room for its windows
pub record Room (costs sources targets links core lengths start end : List ℕ) (a : ℕ) : Type 0 where
  pub few : a < 64
  pub few_cores : at core (2 * a) < 8
  pub costs_all : a < length costs
  pub chained : Chained sources targets links (length costs)
  pub phases_all : 2 * a + 2 ≤ length core
  pub starts_all : 2 * a + 2 ≤ length start
  pub ends_all : 2 * a + 2 ≤ length end
  pub fits : max_below (at end) (2 * a) + at lengths (2 * a) + at costs a + at lengths (2 * a + 1) < 4294967296

-- ---- the columns of a candidate: the cores and words of its phases, and lengths of at most 512 for each word
pub record Prepared (c : Candidate) (core words lengths : List ℕ) : Type 0 where
  pub cores_all : 2 * tasks c.plan ≤ length core
  pub loads_all : 2 * tasks c.plan ≤ length words
  pub lengths_all : 2 * tasks c.plan ≤ length lengths
  pub cores : (x : ℕ) → x < 2 * tasks c.plan → at core x ≡ core_in c.choices (x / 2)
  pub loads : (x : ℕ) → x < 2 * tasks c.plan → at words x ≡ at c.words x
  pub short : (x : ℕ) → x < 2 * tasks c.plan → at lengths x ≤ 512 * at c.words x
