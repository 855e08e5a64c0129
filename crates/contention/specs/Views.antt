-- Columns that code lends, as the model has them: phases, and edges as the plan of n tasks with them. Assumes nothing.
use Rattle.std.specs.Prelude.{ℕ, Bool, List, length}
use Rattle.model.specs.Below.{at}
use Rattle.model.specs.Plan.{Plan}
use Rattle.model.specs.Contention.{Phases}
use Rattle.contention.specs.Columns.{phases_by, near_by, edges_by, Edges}
use Rattle.contention.specs.declared.lent.EdgeColumns.{EdgeColumns}
use Rattle.contention.specs.declared.lent.PhaseColumns.{PhaseColumns}

abbrev pub as_phases : PhaseColumns → Phases
as_phases p = phases_by p.core.now p.start.now p.end.now p.words.now (length p.core.now)

-- phase y, which closes as `closes` has it, is on another core than phase x and overlaps its window
abbrev pub near_to : PhaseColumns → List ℕ → ℕ → ℕ → Bool
near_to p closes x = near_by p.core.now p.start.now closes (at p.core.now x) (at p.start.now x) (at p.end.now x)

abbrev pub as_plan : ℕ → EdgeColumns → Plan
as_plan n e = edges_by n e.sources.now e.targets.now e.amounts.now

-- the edges are in range, and those that move words are among n tasks
abbrev pub Among : ℕ → EdgeColumns → Type 0
Among n e = Edges n e.sources.now e.targets.now e.amounts.now
