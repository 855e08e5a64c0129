-- The ways out of `run`: the answer, and the lent list after it. Assumes nothing.
use mathlib.Core.Path.{◌≡◌, refl, sym, ap, ◌∙◌}
use mathlib.Core.Bool.{Bool, true, false, not}
use mathlib.Core.List.{List, [], ◌∷◌, ◌++◌}
use Prim.Native.Nat.{ℕ, ◌*◌, ◌≤◌, ◌<◌}
use native.Mathlib.Omega.{arith}
use lib.ListN.{length, take, drop, length-append}
use lib.Seq.{take-append_seam}
use lib.Dec.{ltb, leb, eqb}
use borrow.Author.Tests.{ltb-false, leb-false, eqb-true}
use Rattle.model.specs.Below.{at, first_below}
use Rattle.model.specs.Refusals.{refusal, Outcome, or_else, refuse_if, Check}
use Rattle.model.specs.Plan.{Plan, Valid, tasks, cores}
use Rattle.model.specs.Graph.{plan_of}
use Rattle.model.specs.Table.{Table, of_numbers, table_of}
use Rattle.model.specs.Contention.{Phases, phases_of}
use Rattle.model.specs.Rules.{rules_check}
use Rattle.model.specs.BusRule.{Use, answers, run, finish, waits}
use Rattle.model.specs.Answers.{Judged, judged, declared, served_check, words_check, room, playing, played_of, played_output}
use Rattle.model.specs.declared.Bus.{Bus}
use Rattle.model.specs.declared.Fault.TheVariants.{WordsWrong}
use Rattle.model.specs.declared.Side.TheVariants.{OfNeither}
use Rattle.model.specs.declared.Refusal.{Refusal}
use Rattle.model.proofs.Below.{list_length, list_at, first}
use Rattle.model.proofs.Refusals.{ok_err, or_good, not_refused, passed, and_then_lem}
use Rattle.model.proofs.Contention.{Agree, phase_words_length}
use Rattle.model.proofs.RoundTrip.{blocks_length, InRange}
use Rattle.model.proofs.Rules.{good_of}
use Rattle.model.proofs.Graph.{plan_read_lem}
use Rattle.model.proofs.SameRun.{answers_same}
use Rattle.contention.specs.Columns.{phases_by}
use Rattle.guarantee.proofs.Lasting.{Accepted}
use Rattle.guarantee.proofs.Guarantee.{by_phases, by_rivals}
use Rattle.guarantee.proofs.Demand.{accepted}
use Rattle.guarantee.proofs.Alike.{accepted_alike}
use Rattle.guarantee.proofs.Verified.{read_in_range}
use Rattle.verifier.specs.Judging.{obeys, judgement_by, judgement_of, column_of, phase_cores, phase_starts, phase_ends, phase_loads}
use Rattle.verifier.specs.declared.Obeyed.{Obeyed}
use Rattle.bus.specs.Playing.{use_of, Playable}
use Rattle.run.proofs.Checks.{first_refusal}
use Rattle.run.specs.Checks.{over_at, over_check, words_by, run_by}
use Rattle.std.specs.Prelude.{Ok, Err}

-- ---- what the judgement says of the bytes
refused_by : (o : Outcome Judged) {r : Refusal} → judgement_by o ≡ Err r → o ≡ Err r
refused_by (Ok j) e = cc
refused_by (Err r) e = cc

pub record Found (o : Outcome Judged) (k : Obeyed) : Type 0 where
  pub j : Judged
  pub given : o ≡ Ok j
  pub bus_is : k.bus ≡ j.plan.bus
  pub tasks_is : k.tasks ≡ tasks j.plan

found_by : (o : Outcome Judged) {k : Obeyed} → judgement_by o ≡ Ok k → Found o k
found_by (Ok j) {k} e =
    let q : ◌≡◌ {A = Obeyed} (obeys j.plan (of_numbers j.table)) k = cc in
    record { j = j; given = refl; bus_is = ap (λ (x : Obeyed). x.bus) (sym q); tasks_is = ap (λ (x : Obeyed). x.tasks) (sym q) }
found_by (Err r) e = ok_err (sym e)

pub found : (p s : List ℕ) {k : Obeyed} → judgement_of p s ≡ Ok k → Found (judged p s) k
unfolding judgement_of
found p s e = found_by (judged p s) e

-- a table that obeys every rule, as facts
pub record Ruled (j : Judged) : Type 0 where
  pub valid : Valid j.plan
  pub range : InRange j.plan (of_numbers j.table) (tasks j.plan)
  pub accepts : Accepted j.plan.bus (phases_of j.plan (of_numbers j.table)) (by_rivals j.plan.bus (phases_of j.plan (of_numbers j.table)))

pub ruled_is : (p s : List ℕ) (j : Judged) → judged p s ≡ Ok j → Ruled j
unfolding judged
ruled_is p s j e =
    and_then_lem (plan_of p) _ e (λ plan ep e2.
    and_then_lem (table_of plan s) _ e2 (λ v ev e3.
    let g = passed (rules_check plan (of_numbers v)) (record { plan = plan; table = v }) e3 in
    let valid = (plan_read_lem p ep).0.valid in
    let range = read_in_range plan s v ev in
    rw (← g.1)
    (record {
      valid = valid;
      range = range;
      accepts = accepted plan (of_numbers v) valid.settings range.core (good_of plan (of_numbers v) g.0);
    })))

-- ---- the columns that judging leaves hold the table's phases in front
module _ (p s : List ℕ) (j : Judged) (e : judged p s ≡ Ok j) where
  column_is : (f : Plan → Table → List ℕ) (old : List ℕ) → column_of f p s old ≡ f j.plan (of_numbers j.table) ++ drop (length (f j.plan (of_numbers j.table))) old
  unfolding column_of judged
  column_is f old =
      and_then_lem (plan_of p) _ e (λ plan ep e2.
      and_then_lem (table_of plan s) _ e2 (λ v ev e3.
      let g = passed (rules_check plan (of_numbers v)) (record { plan = plan; table = v }) e3 in
      rw (ep, ev, ← g.1)))

  front : (f : Plan → Table → List ℕ) (old new : List ℕ) (n : ℕ) → n ≡ tasks j.plan → length (f j.plan (of_numbers j.table)) ≡ 2 * tasks j.plan
      → new ≡ column_of f p s old → take (2 * n) new ≡ f j.plan (of_numbers j.table)
  front f old new n en l q =
      let c = f j.plan (of_numbers j.table) in
      let k : 2 * n ≡ length c = omega (arith, en, l) in
      rw (q, column_is f old, k) (take-append_seam c (drop (length c) old))

  pub front_room : (f : Plan → Table → List ℕ) (old new : List ℕ) (n : ℕ) → n ≡ tasks j.plan → length (f j.plan (of_numbers j.table)) ≡ 2 * tasks j.plan
      → new ≡ column_of f p s old → 2 * n ≤ length new
  front_room f old new n en l q =
      let c = f j.plan (of_numbers j.table) in
      rw (q, column_is f old) (omega (arith, en, l, length-append c (drop (length c) old)))

  pub front_cores : (old new : List ℕ) (n : ℕ) → n ≡ tasks j.plan → new ≡ column_of phase_cores p s old → take (2 * n) new ≡ phase_cores j.plan (of_numbers j.table)
  front_cores old new n en = front phase_cores old new n en (list_length _ (2 * tasks j.plan))

  pub front_starts : (old new : List ℕ) (n : ℕ) → n ≡ tasks j.plan → new ≡ column_of phase_starts p s old → take (2 * n) new ≡ phase_starts j.plan (of_numbers j.table)
  front_starts old new n en = front phase_starts old new n en (list_length _ (2 * tasks j.plan))

  pub front_ends : (old new : List ℕ) (n : ℕ) → n ≡ tasks j.plan → new ≡ column_of phase_ends p s old → take (2 * n) new ≡ phase_ends j.plan (of_numbers j.table)
  front_ends old new n en = front phase_ends old new n en (list_length _ (2 * tasks j.plan))

  pub front_loads : (old new : List ℕ) (n : ℕ) → n ≡ tasks j.plan → new ≡ column_of phase_loads p s old → take (2 * n) new ≡ phase_loads j.plan (of_numbers j.table)
  front_loads old new n en = front phase_loads old new n en (phase_words_length j.plan (of_numbers j.table).core)

-- ---- the columns as phases
module _ (j : Judged) (r : Ruled j) where
  abbrev plan : Plan
  plan = j.plan

  abbrev table : Table
  table = of_numbers j.table

  abbrev pub columns : Phases
  columns = phases_by (phase_cores plan table) (phase_starts plan table) (phase_ends plan table) (phase_loads plan table) (2 * tasks plan)

  agree : Agree (phases_of plan table) columns
  agree =
      record {
        count = refl;
        core = λ x l. sym (list_at _ (2 * tasks plan) x l);
        start = λ x l. sym (list_at _ (2 * tasks plan) x l);
        end = λ x l. sym (list_at _ (2 * tasks plan) x l);
        words = λ x l. refl;
      }

  module _ (served : ℕ) (words : List ℕ) where
    abbrev given : Use
    given = record { served = served; actual = at words }

    module _ (known : served < cores plan) (long : length words ≡ 2 * tasks plan) (within : (x : ℕ) → x < 2 * tasks plan → at words x ≤ at (declared j) x) where
      ok : Accepted plan.bus columns (by_rivals plan.bus columns)
      ok = accepted_alike plan.bus (phases_of plan table) columns agree r.accepts

      pub playable : Playable plan.bus columns served words
      unfolding declared
      playable =
          record {
            settings = r.valid.settings;
            counted = long;
            placed = ok.core_within;
            served_known = known;
            within = within;
            kept = by_phases plan.bus columns given (record { served_in = known; declared = within }) ok;
          }

      pub answers_columns : answers plan.bus columns given ≡ answers plan.bus (phases_of plan table) given
      answers_columns =
          sym (answers_same plan.bus (phases_of plan table) columns.core columns.start columns.end columns.words given
          agree.core agree.start known r.accepts.core_within)

-- ---- the answers
-- two numbers for each phase
pub answers_length : (b : Bus) (h : Phases) (u : Use) → length (answers b h u) ≡ 2 * h.count
unfolding answers
answers_length b h u = blocks_length (λ x. finish b h u (run b h u) x ∷ waits b h u (run b h u) x ∷ []) 2 (λ x. refl) h.count

module _ (p s : List ℕ) (served : ℕ) (words out : List ℕ) where
  abbrev pub Answered : Check → List ℕ → Type 0
  Answered r out' = (r ≡ played_of p s served words out) × (out' ≡ played_output p s served words out)

  pub unjudged : {r : Refusal} → judgement_of p s ≡ Err r → Answered (Err r) out
  unfolding judgement_of played_of played_output playing
  unjudged e = let o = refused_by (judged p s) e in (rw o, rw o)

  module _ (j : Judged) (e : judged p s ≡ Ok j) where
    abbrev most : List ℕ
    most = phase_loads j.plan (of_numbers j.table)

    most_long : length most ≡ 2 * tasks j.plan
    most_long = phase_words_length j.plan (of_numbers j.table).core

    abbrev check : Check
    check = or_else (served_check j served) (or_else (words_check j words) (room (4 * tasks j.plan) out))

    pub check_is : run_by (cores j.plan) served most words (length out) ≡ check
    unfolding run_by words_by over_check over_at served_check words_check declared room
    check_is =
        let k : 2 * (2 * tasks j.plan) ≡ 4 * tasks j.plan = omega arith in
        rw (first_refusal (λ x. ltb (at most x) (at words x)) (refusal WordsWrong OfNeither) (length most), most_long, k)

    module _ (x : Check) (q : x ≡ run_by (cores j.plan) served most words (length out)) where
      pub unplayed : {r : Refusal} → x ≡ Err r → Answered (Err r) out
      unfolding played_of played_output playing
      unplayed {r} b = let c : check ≡ Err r = sym (q ∙ check_is) ∙ b in (rw (e, c), rw (e, c))

      module _ (g : x ≡ Ok tt) where
        passes : check ≡ Ok tt
        passes = sym (q ∙ check_is) ∙ g

        pub served_good : served < cores j.plan
        unfolding served_check
        served_good = leb-false (cores j.plan) served (not_refused (leb (cores j.plan) served) _ (or_good (served_check j served) _ passes).0)

        behind : (words_check j words ≡ Ok tt) × (room (4 * tasks j.plan) out ≡ Ok tt)
        behind = or_good (words_check j words) (room (4 * tasks j.plan) out) (or_good (served_check j served) _ passes).1

        abbrev n : ℕ
        n = 2 * tasks j.plan

        abbrev bad : ℕ
        bad = first_below (λ x. ltb (at (declared j) x) (at words x)) n

        counts_good : (not (eqb (length words) n) ≡ false) × (ltb bad n ≡ false)
        unfolding words_check
        counts_good =
            let long = refuse_if (not (eqb (length words) n)) (refusal WordsWrong OfNeither (length words)) in
            let few = refuse_if (ltb bad n) (refusal WordsWrong OfNeither bad) in
            let both = or_good long few behind.0 in
            (not_refused (not (eqb (length words) n)) _ both.0, not_refused (ltb bad n) _ both.1)

        pub words_long : length words ≡ 2 * tasks j.plan
        words_long = eqb-true (length words) n (yes (eqb (length words) n) counts_good.0)
          where
            yes : (b : Bool) → not b ≡ false → b ≡ true
            yes true e = refl
            yes false e = cc

        pub words_within : (x : ℕ) → x < 2 * tasks j.plan → at words x ≤ at (declared j) x
        words_within x k =
            let most = ltb-false bad n counts_good.1 in
            let none = (first (λ x. ltb (at (declared j) x) (at words x)) n).before x (omega arith) in
            ltb-false (at (declared j) x) (at words x) none

        pub room_good : 4 * tasks j.plan ≤ length out
        unfolding room
        room_good = ltb-false (length out) (4 * tasks j.plan) (not_refused (ltb (length out) (4 * tasks j.plan)) _ behind.1)

        pub played : (r : Ruled j) (out' : List ℕ)
            → out' ≡ answers j.plan.bus (phases_by (phase_cores j.plan (of_numbers j.table)) (phase_starts j.plan (of_numbers j.table)) (phase_ends j.plan (of_numbers j.table)) most (2 * tasks j.plan)) (use_of served words) ++ drop (2 * length words) out
            → Answered (Ok tt) out'
        unfolding played_of played_output playing
        played r out' eo =
            let b = j.plan.bus in
            let u : Use = record { served = served; actual = at words } in
            let h = phases_of j.plan (of_numbers j.table) in
            let same : answers b (columns j r) u ≡ answers b h u = answers_columns j r served words served_good words_long words_within in
            let whole : length (answers b h u) ≡ 2 * (2 * tasks j.plan) = answers_length b h u in
            (rw (e, passes), eo ∙ rw (words_long, same, e, passes, whole))
