-- What code hands over, as the list rule has it. Assumes nothing.
use Rattle.std.specs.Prelude.{ℕ, ◌*◌, ◌≤◌, ◌<◌, Bool, List, length, take}
use Rattle.model.specs.Below.{at}
use Rattle.model.specs.Table.{Table}
use Rattle.model.specs.ListRule.{Candidate as ListCandidate, placed}
use Rattle.placing.specs.Candidates.{candidate_by}
use Rattle.placing.specs.Starts.{Task, task_at, Starts, Room, end_met, met_until, next_by, clash_by}
use Rattle.placing.specs.declared.candidate.Candidate.{Candidate}
use Rattle.placing.specs.declared.candidate.PhaseLoads.{PhaseLoads}
use Rattle.placing.specs.declared.earlier.Earlier.{Earlier}
use Rattle.placing.specs.declared.earlier.Window.{Window}

abbrev pub as_candidate : Candidate → ListCandidate
as_candidate c =
    candidate_by c.bus c.costs.now c.edges.sources.now c.edges.targets.now c.edges.amounts.now c.choices.now

-- the table of step 2, with windows of these lengths
abbrev pub placed_in : Candidate → List ℕ → Table
placed_in c lengths = placed (as_candidate c) (take (2 * length c.costs.now) lengths)

abbrev pub task_in : Candidate → PhaseLoads → ℕ → Task
task_in c p a = task_at c.costs.now p.core.now p.words.now p.lengths.now a

abbrev pub RoomIn : Candidate → PhaseLoads → List ℕ → List ℕ → ℕ → Type 0
RoomIn c p start end a =
    Room c.costs.now c.edges.sources.now c.edges.targets.now c.links.now p.core.now p.lengths.now start end a

abbrev pub StartsIn : Candidate → PhaseLoads → List ℕ → List ℕ → ℕ → ℕ → Type 0
StartsIn c p start end a r =
    Starts c.costs.now c.edges.sources.now c.edges.targets.now c.choices.now p.core.now p.words.now p.lengths.now start end a r

-- ---- among the phases of earlier places: what a window meets, and where a task clashes
abbrev pub end_met_in : Earlier → Window → ℕ → ℕ
end_met_in e w y = end_met e.core.now e.start.now e.closes.now e.closes.now w.mine w.own w.from w.to y

abbrev pub met_in : Earlier → Window → ℕ
met_in e w = met_until e.core.now e.start.now e.closes.now e.closes.now (length e.core.now) w.mine w.own w.from w.to

abbrev pub next_in : Earlier → Task → ℕ → ℕ
next_in e t r = next_by e.core.now e.start.now e.closes.now e.closes.now (length e.core.now) t r

abbrev pub clash_in : Earlier → Task → ℕ → Bool
clash_in e t r = clash_by e.core.now e.start.now e.closes.now e.closes.now (length e.core.now) t r

-- the phases below `low` close by this time
abbrev pub AreOver : Earlier → ℕ → Type 0
AreOver e from = (y : ℕ) → y < e.low → at e.closes.now y ≤ from
