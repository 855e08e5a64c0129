-- The rules on phases in columns, the phases that are shown there, and from the judgement to the verdict. Assumes nothing.
use mathlib.Core.Path.{◌≡◌, sym, ap, ◌∙◌}
use mathlib.Core.List.{List, ◌++◌}
use Prim.Native.Nat.{ℕ, ◌*◌, ◌≤◌, ◌<◌}
use native.Mathlib.Omega.{arith}
use lib.ListN.{length, take, drop, length-replicate}
use Rattle.std.specs.Prelude.{Ok, Err}
use Rattle.model.specs.Below.{at, list_below}
use Rattle.model.specs.Counts.{most_words}
use Rattle.model.specs.Refusals.{or_else, first_bad, Outcome}
use Rattle.model.specs.Plan.{Plan, Valid, tasks}
use Rattle.model.specs.Table.{Table, of_numbers}
use Rattle.model.specs.Contention.{moved, read_words, write_words, of_phase, phase_words, Phases, phases_of}
use Rattle.model.specs.Rules.{delay_at, window_at}
use Rattle.model.specs.Answers.{Judged, judged, verdict_by, verdict_of}
use Rattle.model.specs.declared.Bus.{Bus}
use Rattle.model.specs.declared.Refusal.{Refusal}
use Rattle.model.proofs.Below.{join_cong, list_at, list_length}
use Rattle.model.proofs.Contention.{Agree, rivals_same, phase_most, phase_words_at}
use Rattle.contention.specs.Columns.{phases_by, core_column, start_column, end_column, Sized, edges_by}
use Rattle.contention.proofs.Columns.{is_column, fill_length}
use Rattle.contention.proofs.Loads.{words_same}
use Rattle.contention.proofs.Rivalry.{front_agrees}
use Rattle.verifier.specs.Columns.{plan_by}
use Rattle.verifier.specs.Judging.{Shown, obeys, judgement_by, judgement_of}
use Rattle.verifier.specs.declared.Obeyed.{Obeyed}

-- phases that agree are judged alike
window_same : (b : Bus) (h g : Phases) → Agree h g → (x : ℕ) → x < h.count → window_at b h x ≡ window_at b g x
unfolding window_at delay_at
window_same b h g a x l = rw (a.start x l, a.end x l, a.words x l, rivals_same h g a b x l)

-- ---- the phases of a plan and a table, shown in columns
module _ (h : Phases) (p : Plan) (t : Table) (s : Shown h p t) where
  agree : Agree h (phases_of p t)
  agree =
      record {
        count = s.count;
        core = λ x l. s.core x (omega (arith, s.count));
        start = λ x l. s.start x (omega (arith, s.count));
        end = λ x l. s.end x (omega (arith, s.count));
        words = λ x l. s.words x (omega (arith, s.count));
      }

  pub shown_windows : (b : Bus) → first_bad (window_at b h) h.count ≡ first_bad (window_at b (phases_of p t)) (2 * tasks p)
  shown_windows b =
      join_cong or_else (Ok tt) (window_at b h) (window_at b (phases_of p t)) h.count (window_same b h (phases_of p t) agree)
      ∙ ap (first_bad (window_at b (phases_of p t))) s.count

  pub shown_loads : Valid p → (x : ℕ) → x < h.count → h.words x ≤ most_words
  shown_loads v x l =
      rw (s.words x (omega (arith, s.count)), phase_words_at p t.core x (omega (arith, s.count))) (phase_most p v.ranges t.core x)

-- ---- the words of all phases, from the cores of the tasks in a column
module _ (bus : Bus) (costs sources targets amounts : List ℕ) (v : Valid (plan_by bus costs sources targets amounts)) where
  abbrev p : Plan
  p = plan_by bus costs sources targets amounts

  abbrev n : ℕ
  n = length costs

  edges_plan : (f : ℕ → ℕ) → phase_words (edges_by n sources targets amounts) f ≡ phase_words p f
  unfolding phase_words read_words write_words moved
  edges_plan f = ap (λ (k : ℕ). list_below (of_phase (read_words p f) (write_words p f)) (2 * k)) (length-replicate n 0)

  pub words_plan : (f : ℕ → ℕ) (cores old : List ℕ) → cores ≡ list_below f n
      → phase_words (edges_by (length cores) sources targets amounts) (at cores) ++ drop (2 * length cores) old ≡ phase_words p f ++ drop (2 * n) old
  words_plan f cores old e =
      let l : length cores ≡ n = rw e (list_length f n) in
      let same : phase_words (edges_by n sources targets amounts) (at cores) ≡ phase_words (edges_by n sources targets amounts) f =
      rw e
      (words_same (edges_by n sources targets amounts) (at (list_below f n)) f
      (λ e k h. list_at f n (at sources e) (v.ranges.sources_known e k))
      (λ e k h. list_at f n (at targets e) (v.ranges.targets_known e k))) in
      rw (l, same) (ap (λ (x : List ℕ). x ++ drop (2 * n) old) (edges_plan f))

  -- the columns show them
  module _ (t : Table) (core start end words cores starts ends loads : List ℕ)
      (long : (128 ≤ length core) × (128 ≤ length start) × (128 ≤ length end) × (128 ≤ length words))
      (ec : cores ≡ core_column n t ++ drop (2 * n) core) (es : starts ≡ start_column n t ++ drop (2 * n) start) (ee : ends ≡ end_column n t ++ drop (2 * n) end)
      (ew : loads ≡ phase_words p t.core ++ drop (2 * n) words) where
    room : (2 * n ≤ length core) × (2 * n ≤ length start) × (2 * n ≤ length end) × (2 * n ≤ length words)
    room =
        let few = v.ranges.few_tasks in
        (omega (arith, long.0), omega (arith, long.1), omega (arith, long.2), omega (arith, long.3))

    loads_fill : loads ≡ list_below (of_phase (read_words p t.core) (write_words p t.core)) (2 * n) ++ drop (2 * n) words
    unfolding phase_words
    loads_fill = ew

    sized : Sized cores starts ends loads (2 * n)
    sized =
        record {
          few = omega (arith, v.ranges.few_tasks);
          cores = omega (arith, room.0, fill_length _ core cores (2 * n) room.0 ec);
          starts = omega (arith, room.1, fill_length _ start starts (2 * n) room.1 es);
          ends = omega (arith, room.2, fill_length _ end ends (2 * n) room.2 ee);
          loads = omega (arith, room.3, fill_length _ words loads (2 * n) room.3 loads_fill);
        }

    abbrev front : Phases
    front = phases_by (take (2 * n) cores) starts ends loads (length (take (2 * n) cores))

    pub shown : Shown front p t
    shown =
        let a = front_agrees cores starts ends loads (2 * n) sized in
        let c = a.count in
        record {
          count = c;
          core = λ x l. a.core x (omega (arith, c)) ∙ (is_column _ (2 * n) core room.0 cores ec).each x l;
          start = λ x l. (is_column _ (2 * n) start room.1 starts es).each x l;
          end = λ x l. (is_column _ (2 * n) end room.2 ends ee).each x l;
          words = λ x l. (is_column _ (2 * n) words room.3 loads loads_fill).each x l ∙ sym (phase_words_at p t.core x l);
        }

-- ---- from a judgement to a verdict
by_refused : (o : Outcome Judged) {r : Refusal} → judgement_by o ≡ Err r → verdict_by o ≡ Err r
by_refused (Ok j) e = cc
by_refused (Err q) e = cc

by_obeyed : (o : Outcome Judged) {j : Obeyed} → judgement_by o ≡ Ok j → verdict_by o ≡ Ok j.makespan
by_obeyed (Ok k) {j} e = let q : ◌≡◌ {A = Obeyed} (obeys k.plan (of_numbers k.table)) j = cc in ap (λ (x : Obeyed). Ok x.makespan) q
by_obeyed (Err q) e = cc

module _ (p s : List ℕ) where
  pub verdict_refused : {r : Refusal} → judgement_of p s ≡ Err r → verdict_of p s ≡ Err r
  unfolding judgement_of verdict_of
  verdict_refused e = by_refused (judged p s) e

  pub verdict_obeyed : {j : Obeyed} → judgement_of p s ≡ Ok j → verdict_of p s ≡ Ok j.makespan
  unfolding judgement_of verdict_of
  verdict_obeyed e = by_obeyed (judged p s) e

pub ruleset verdicts = (verdict_refused, verdict_obeyed)
