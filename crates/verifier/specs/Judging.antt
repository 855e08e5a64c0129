-- The judging of a plan's and a table's bytes, as far as the verifier and the bus run share it. Assumes nothing.
use Rattle.std.specs.Prelude.{◌≡◌, ℕ, ◌*◌, ◌<◌, List, Ok, Err}
use Rattle.model.specs.Refusals.{Outcome, passing, and_then}
use Rattle.model.specs.Plan.{Plan, tasks}
use Rattle.model.specs.Graph.{plan_of}
use Rattle.model.specs.Table.{Table, of_numbers, table_of}
use Rattle.model.specs.Contention.{Phases, phases_of, phase_words}
use Rattle.model.specs.Rules.{rules_check, makespan}
use Rattle.model.specs.Answers.{onto, Judged, judged}
use Rattle.contention.specs.Columns.{core_column, start_column, end_column}
use Rattle.verifier.specs.declared.Obeyed.{Obeyed}

-- phases h are those of a plan and a table
pub record Shown (h : Phases) (p : Plan) (t : Table) : Type 0 where
  pub count : h.count ≡ 2 * tasks p
  pub core : (x : ℕ) → x < 2 * tasks p → h.core x ≡ (phases_of p t).core x
  pub start : (x : ℕ) → x < 2 * tasks p → h.start x ≡ (phases_of p t).start x
  pub end : (x : ℕ) → x < 2 * tasks p → h.end x ≡ (phases_of p t).end x
  pub words : (x : ℕ) → x < 2 * tasks p → h.words x ≡ (phases_of p t).words x

-- what is said of a table that obeys every rule
abbrev pub obeys : Plan → Table → Obeyed
obeys p t = record { bus = p.bus; tasks = tasks p; makespan = record { 0 = makespan (tasks p) t } }

unfoldable pub ruled : Plan → Table → Outcome Obeyed
ruled p t = passing (rules_check p t) (obeys p t)

-- the same from the bytes
abbrev pub judgement_by : Outcome Judged → Outcome Obeyed
judgement_by (Ok j) = Ok (obeys j.plan (of_numbers j.table))
judgement_by (Err r) = Err r

unfoldable pub judgement_of : List ℕ → List ℕ → Outcome Obeyed
judgement_of p s = judgement_by (judged p s)

-- ---- the phases, in columns lent for them: of bytes that read as a plan and a table
abbrev pub phase_cores : Plan → Table → List ℕ
phase_cores p t = core_column (tasks p) t

abbrev pub phase_starts : Plan → Table → List ℕ
phase_starts p t = start_column (tasks p) t

abbrev pub phase_ends : Plan → Table → List ℕ
phase_ends p t = end_column (tasks p) t

abbrev pub phase_loads : Plan → Table → List ℕ
phase_loads p t = phase_words p t.core

unfoldable pub column_of : (Plan → Table → List ℕ) → List ℕ → List ℕ → List ℕ → List ℕ
column_of f p s out = onto out (and_then (plan_of p) (λ plan. and_then (table_of plan s) (λ v. Ok (f plan (of_numbers v)))))
