-- The places in list order. While place a is placed, the columns hold the windows of the places before it as the list rule has
-- them: so what is computed on columns is what the rule says. Assumes nothing.
use mathlib.Core.Path.{◌≡◌, refl, sym, ap, ◌∙◌}
use mathlib.Core.Bool.{Bool, true, false, cond, not, ◌||◌}
use mathlib.Core.List.{List, ◌++◌}
use Prim.Native.Nat.{ℕ, zero, suc, ◌+◌, ◌*◌, ◌%◌, ◌≤◌, ◌<◌, max, zero-le}
use native.Mathlib.Nat.{le_refl}
use native.Mathlib.Omega.{arith}
use lib.ListN.{length, take, drop, set, replicate, length-set, length-replicate}
use lib.Seq.{get_or-take, get_or-set_same, get_or-set_other}
use lib.Dec.{ltb, eqb}
use borrow.Author.Tests.{eqb-true, eq-eqb, ne_eqb, le-ltb, ltb-false}
use Rattle.model.specs.Below.{at, join_below, max_below, any_below}
use Rattle.model.specs.Table.{Table}
use Rattle.model.specs.Contention.{Phases, of_phase, phases_in}
use Rattle.model.specs.Rules.{makespan}
use Rattle.model.specs.ListRule.{Candidate, core_in, exclusive, windows, is_source, earliest, LeastFree, starts_of, placed}
use Rattle.model.specs.declared.Bus.{Bus}
use Rattle.model.proofs.Tests.{either, lt_or_ge, conflict, same_or_not, cond_le, and_no, and_true, and_both, or_left, or_right}
use Rattle.model.proofs.Below.{max_ge, max_le, max_same, max_mono, join_step, any_same, any_here, any_found}
use Rattle.model.proofs.Contention.{half_even, of_even, of_odd}
use Rattle.model.proofs.Placing.{meets, clashing, end_within, overlapping_start, exclusive_start_lem, starts_length, starts_stay, placed_start, placed_top, placed_within}
use Rattle.model.proofs.Spans.{Limits, room_within}
use Rattle.contention.specs.Columns.{overlap_of, rival_of, rival_by, Sized, start_column, end_column, back_to, close_of, near_of, near_by}
use Rattle.contention.proofs.Ranges.{back_le, back_over, near_rival}
use Rattle.contention.proofs.Columns.{Column, column_is}
use Rattle.contention.proofs.Rivalry.{front_count, sized_front}
use Rattle.placing.specs.Candidates.{plan_by, candidate_by, Ready, FewCores}
use Rattle.placing.specs.Starts.{free_by, sent_by, earliest_by, Freed, close_by, Closed, with_pair, with_free, with_closes, with_tops, Task, task_at, end_met, clash_by, Starts, Room, Prepared}

-- ---- phases that are closed are met as before
close_self : (x : ℕ) → x ≡ close_of x x
unfolding close_of
close_self x = either (ltb 0 x) (λ t. rw t) (λ t. rw t (omega (arith, ltb-false 0 x t)))

module _ (core start closes : List ℕ) (y mine own from to : ℕ) where
  pub near_met : 0 < own → near_by core start closes mine from to y ≡ rival_by core start closes closes mine own from to y
  near_met h = near_rival core start closes mine from to y closes closes own h (close_self (at closes y))

  -- the end that is met, by the test that code makes
  pub met_here : 0 < own → near_of mine from to (at core y) (at start y) (at closes y) ≡ true
      → at closes y ≡ end_met core start closes closes mine own from to y
  unfolding near_by end_met
  met_here h t = rw (sym (near_met h) ∙ t)

  pub met_not : 0 < own → near_of mine from to (at core y) (at start y) (at closes y) ≡ false
      → 0 ≡ end_met core start closes closes mine own from to y
  unfolding near_by end_met
  met_not h t = rw (sym (near_met h) ∙ t)

  idle_meets : (end words : List ℕ) → own ≡ 0 → rival_by core start end words mine own from to y ≡ false
  unfolding rival_by rival_of overlap_of
  idle_meets end words z = rw (le-ltb 0 own (omega arith)) (and_no (not (eqb mine (at core y))))

  meet_closed :
      (end words : List ℕ) → at closes y ≡ close_by words end y
      → rival_by core start closes closes mine own from to y ≡ rival_by core start end words mine own from to y
  meet_closed end words e =
      lt_or_ge 0 own
      (λ h. sym (near_met h) ∙ near_rival core start closes mine from to y end words own h e)
      (λ h. idle_meets closes closes (omega arith) ∙ sym (idle_meets end words (omega arith)))

pub ruleset meeting = (met_here, met_not)

-- ---- one place, on columns
module _ {costs sources targets links core lengths start end : List ℕ} {a : ℕ}
    (room : Room costs sources targets links core lengths start end a) where
  abbrev ends : ℕ
  ends = max_below (at end) (2 * a)

  free_top : free_by core end (at core (2 * a)) a ≤ ends
  unfolding free_by
  free_top =
      max_le _ a ends
      (λ b l. cond_le (eqb (at core (2 * b)) (at core (2 * a))) (max_ge (at end) (2 * a) (2 * b + 1) (omega arith)) zero-le)

  sent_top : sent_by sources targets end a (length sources) ≤ ends
  unfolding sent_by
  sent_top =
      max_le _ (length sources) ends
      (λ e l.
      either (eqb (at targets e) a)
      (λ t.
      let q = eqb-true (at targets e) a t in
      rw t (max_ge (at end) (2 * a) (2 * at sources e + 1) (omega (arith, room.chained.before e l (omega (arith, q, room.costs_all)), q))))
      (λ t. rw t zero-le))

  module _ {from : ℕ} (q : from ≡ earliest_by sources targets core end a) where
    pub starts_overlapping :
        {choices words : List ℕ} → (at choices a % 2 ≡ 1 → ⊥) → Starts costs sources targets choices core words lengths start end a from
    starts_overlapping {choices} d =
        record { overlapping = λ _. q; alone = λ e. absurd (d (eqb-true (at choices a % 2) 1 e)) }

    module _ {words closes tops : List ℕ} (w : Closed words end closes tops a) where
      closes_within : max_below (at closes) (2 * a) ≤ ends
      unfolding close_of
      closes_within =
          max_mono (at closes) (at end) (2 * a)
          (λ y l. rw (w.closed y l) (cond_le (ltb 0 (at words y)) (le_refl (at end y)) zero-le))

      -- the phases searched are the first ones
      abbrev first : List ℕ
      first = take (2 * a) core

      first_all : Sized core start closes closes (2 * a)
      first_all =
          record {
            few = omega (arith, room.few);
            cores = omega (arith, room.phases_all);
            starts = omega (arith, room.starts_all);
            ends = omega (arith, room.few, w.closes_all);
            loads = omega (arith, room.few, w.closes_all);
          }

      first_count : length first ≡ 2 * a
      first_count = front_count core start closes closes (2 * a) first_all

      meet_first :
          (mine own from to y : ℕ) → y < 2 * a
          → rival_by first start closes closes mine own from to y ≡ rival_by core start end words mine own from to y
      unfolding rival_by
      meet_first mine own from to y l =
          ap
          (λ (m : ℕ). rival_of mine own from to m (at closes y) (at start y) (at closes y))
          (get_or-take (2 * a) core y 0 l)
          ∙ meet_closed core start closes y mine own from to end words (w.closed y l)

      clash_first :
          (t : Task) (r : ℕ) → clash_by first start closes closes (length first) t r ≡ clash_by core start end words (2 * a) t r
      unfolding clash_by
      clash_first t r =
          let e : ℕ = r + t.read in
          let f : ℕ = e + t.cost in
          rw first_count
          (any_same _ _ (2 * a)
          (λ y l. rw (meet_first t.mine t.reads r e y l, meet_first t.mine t.writes f (f + t.write) y l)))

      pub first_sized : Sized first start closes closes (length first)
      first_sized = sized_front core start closes closes (2 * a) first_all

      module _ {low : ℕ} (b : low ≡ back_to tops from (2 * a)) where
        pub low_within : low ≤ length first
        low_within = omega (arith, b, first_count, back_le tops from (2 * a))

        pub low_over : (y : ℕ) → y < low → at closes y ≤ from
        low_over y l = back_over tops from (at closes) (2 * a) (λ x k z m. w.topped x z k m) y (omega (arith, b))

      module _ {t : Task} (e : t ≡ task_at costs core words lengths a) where
        pub start_within : from + t.read + t.cost + t.write < 4294967296
        start_within = rw e (omega (arith, q, free_top, sent_top, room.fits))

        pub closes_fit : max_below (at closes) (length first) + t.read + t.cost + t.write < 4294967296
        closes_fit = rw (e, first_count) (omega (arith, closes_within, room.fits))

        pub starts_alone :
            {choices : List ℕ} {r : ℕ} → at choices a % 2 ≡ 1 → LeastFree (clash_by first start closes closes (length first) t) from r
            → Starts costs sources targets choices core words lengths start end a r
        starts_alone {choices} {r} o f =
            let g = rw e at f in
            let s = task_at costs core words lengths a in
            record {
              overlapping = λ n. conflict (eq-eqb (at choices a % 2) 1 o) n;
              alone =
                  λ _.
                  record {
                    later = omega (arith, q, g.later);
                    clear = sym (clash_first s r) ∙ g.clear;
                    least = λ x m n. sym (clash_first s x) ∙ g.least x (omega (arith, q)) n;
                  };
            }

-- ---- two entries stored
module _ (l : List ℕ) (i j u v : ℕ) (apart : i < j) (room : j < length l) where
  abbrev stored : List ℕ
  stored = set (set l i u) j v

  pair_first : at stored i ≡ u
  pair_first = get_or-set_other (set l i u) j i v 0 (λ e. omega arith) ∙ get_or-set_same l i u 0 (omega arith)

  pair_second : at stored j ≡ v
  pair_second = get_or-set_same (set l i u) j v 0 (simp length-set room)

  pair_other : (x : ℕ) → (x ≡ i → ⊥) → (x ≡ j → ⊥) → at stored x ≡ at l x
  pair_other x n m = get_or-set_other (set l i u) j x v 0 m ∙ get_or-set_other l i x u 0 n

-- ---- a column with the two phases of one more place
column_pair :
    (f : ℕ → ℕ) (a : ℕ) (old new : List ℕ) (u v : ℕ) → 2 * a + 2 ≤ length old → Column f (2 * a) old new → u ≡ f (2 * a)
    → v ≡ f (2 * a + 1) → Column f (2 * (a + 1)) old (with_pair new a u v)
column_pair f a old new u v room c p q =
    let two = with_pair new a u v in
    let near : 2 * a < 2 * a + 1 = omega arith in
    let fits : 2 * a + 1 < length new = omega (arith, c.long) in
    let other = pair_other new (2 * a) (2 * a + 1) u v near fits in
    record {
      long = simp length-set c.long;
      each =
          λ x l.
          same_or_not x (2 * a)
          (λ e. ap (at two) e ∙ pair_first new (2 * a) (2 * a + 1) u v near fits ∙ p ∙ ap f (sym e))
          (λ n.
          same_or_not x (2 * a + 1)
          (λ e. ap (at two) e ∙ pair_second new (2 * a) (2 * a + 1) u v near fits ∙ q ∙ ap f (sym e))
          (λ m. other x n m ∙ c.each x (omega arith)));
      rest = λ x l. other x (λ e. omega arith) (λ e. omega arith) ∙ c.rest x (omega arith);
    }

-- ---- no place yet
zeros : (k i : ℕ) → at (replicate k 0) i ≡ 0
zeros zero i = refl
zeros (suc k) zero = refl
zeros (suc k) (suc i) = zeros k i

pub freed_none : (core end : List ℕ) → Freed core end (replicate 8 0) 0
unfolding free_by join_below
freed_none core end = record { all = sym (length-replicate {A = ℕ} 8 0); each = λ c l. zeros 8 c }

pub closed_none : (words end : List ℕ) → Closed words end (replicate 128 0) (replicate 129 0) 0
closed_none words end =
    record {
      closes_all = sym (length-replicate {A = ℕ} 128 0);
      tops_all = sym (length-replicate {A = ℕ} 129 0);
      closed = λ y l. absurd (omega arith);
      topped = λ y z l k. absurd (omega arith);
    }

-- ---- when a place is put behind the others: its core, and its ends
module _ {end end' : List ℕ} {a : ℕ} (same : (y : ℕ) → y < 2 * a → at end' y ≡ at end y) where
  pub freed_more :
      {core free free' : List ℕ} → Freed core end free a → at core (2 * a) < 8
      → free' ≡ with_free free core end' a
      → Freed core end' free' (a + 1)
  unfolding free_by
  freed_more {core} {free} {free'} w few e =
      let mine : ℕ = at core (2 * a) in
      record {
        all = rw e (simp length-set w.all);
        each =
            λ x l.
            let f : ℕ → ℕ = λ b. cond (eqb (at core (2 * b)) x) (at end' (2 * b + 1)) 0 in
            let kept : at free x ≡ max_below f a = w.each x l ∙ max_same _ f a (λ b m. rw (same (2 * b + 1) (omega arith))) in
            same_or_not x mine
            (λ q.
            let now : f a ≡ at end' (2 * a + 1) = rw (eq-eqb mine x (sym q)) in
            rw (e, join_step max 0 f a, now, ← kept, q) (get_or-set_same free mine _ 0 (omega (arith, w.all))))
            (λ d.
            let now : f a ≡ 0 = rw (ne_eqb mine x (λ q. d (sym q))) in
            rw (e, join_step max 0 f a, now, get_or-set_other free mine x _ 0 d) (omega (arith, kept)));
      }

  pub closed_more :
      {words closes tops closes' tops' : List ℕ} → a < 64 → Closed words end closes tops a
      → closes' ≡ with_closes closes words end' a
      → tops' ≡ with_tops tops words end' a
      → Closed words end' closes' tops' (a + 1)
  closed_more {words} {closes} {tops} {closes'} {tops'} few w p q =
      let u : ℕ = close_by words end' (2 * a) in
      let v : ℕ = close_by words end' (2 * a + 1) in
      let top : ℕ = max (at tops (2 * a)) u in
      let near : 2 * a < 2 * a + 1 = omega arith in
      let fits : 2 * a + 1 < length closes = omega (arith, w.closes_all) in
      let near' : 2 * a + 1 < 2 * a + 2 = omega arith in
      let fits' : 2 * a + 2 < length tops = omega (arith, w.tops_all) in
      let first : at closes' (2 * a) ≡ u = rw p (pair_first closes (2 * a) (2 * a + 1) u v near fits) in
      let second : at closes' (2 * a + 1) ≡ v = rw p (pair_second closes (2 * a) (2 * a + 1) u v near fits) in
      let before : (y : ℕ) → y < 2 * a → at closes' y ≡ at closes y =
      λ y l. rw p (pair_other closes (2 * a) (2 * a + 1) u v near fits y (λ e. omega arith) (λ e. omega arith)) in
      let top-first : at tops' (2 * a + 1) ≡ top = rw q (pair_first tops (2 * a + 1) (2 * a + 2) top (max top v) near' fits') in
      let top-second : at tops' (2 * a + 2) ≡ max top v = rw q (pair_second tops (2 * a + 1) (2 * a + 2) top (max top v) near' fits') in
      let tops-before : (y : ℕ) → y ≤ 2 * a → at tops' y ≡ at tops y =
      λ y l. rw q (pair_other tops (2 * a + 1) (2 * a + 2) top (max top v) near' fits' y (λ e. omega arith) (λ e. omega arith)) in
      let up_to : (z : ℕ) → z < 2 * a → at closes' z ≤ at tops (2 * a) =
      λ z l. omega (arith, before z l, w.topped (2 * a) z (omega arith) l) in
      let read : (z : ℕ) → z < 2 * a + 1 → at closes' z ≤ top =
      λ z l. same_or_not z (2 * a) (λ e. rw e (omega (arith, first))) (λ d. omega (arith, up_to z (omega arith))) in
      record {
        closes_all = rw p (simp length-set w.closes_all);
        tops_all = rw q (simp length-set w.tops_all);
        closed =
            λ y l.
            same_or_not y (2 * a)
            (λ e. rw e first)
            (λ d.
            same_or_not y (2 * a + 1)
            (λ e. rw e second)
            (λ d'. before y (omega arith) ∙ w.closed y (omega arith) ∙ ap (close_of (at words y)) (sym (same y (omega arith)))));
        topped =
            λ y z l k.
            same_or_not y (2 * a + 2)
            (λ e.
            same_or_not z (2 * a + 1)
            (λ o. rw (e, o) (omega (arith, top-second, second)))
            (λ d. rw e (omega (arith, top-second, read z (omega arith)))))
            (λ d.
            same_or_not y (2 * a + 1)
            (λ e. rw e (omega (arith, top-first, read z (omega arith))))
            (λ d'. omega (arith, tops-before y (omega arith), before z (omega arith), w.topped y z (omega arith) k)));
      }

-- a phase of columns is met as one of phases with its numbers
meet_same :
    (core start end words : List ℕ) (h : Phases) (m m' w w' s s' e e' y : ℕ) → m ≡ m' → w ≡ w' → s ≡ s' → e ≡ e'
    → at core y ≡ h.core y → at start y ≡ h.start y → at end y ≡ h.end y → at words y ≡ h.words y
    → rival_by core start end words m w s e y ≡ meets h m' w' s' e' y
unfolding rival_by rival_of overlap_of meets
meet_same core start end words h m m' w w' s s' e e' y a b c d a' b' c' d' = cc

-- a candidate's plan is within the limits
pub ready_limits :
    (bus : Bus) (costs sources targets amounts links choices : List ℕ)
    → Ready bus costs sources targets amounts links choices → Limits (plan_by bus costs sources targets amounts)
ready_limits bus costs sources targets amounts links choices ready =
    record {
      settings = ready.settings;
      few_tasks = ready.few;
      few_edges = ready.edges.few;
      costs_most = ready.costs_most;
      amounts_most = ready.edges.amounts_most;
    }

-- the windows of the first a places of a table stand in the columns
pub record Done (t : Table) (start₀ end₀ start end : List ℕ) (a : ℕ) : Type 0 where
  pub starts : Column (of_phase t.R t.W) (2 * a) start₀ start
  pub ends : Column (of_phase t.E t.F) (2 * a) end₀ end

-- what a further place leaves as it was
pub done_kept : {t : Table} {start₀ end₀ start end start' end' : List ℕ} {a : ℕ} → Done t start₀ end₀ start end a
    → Done t start₀ end₀ start' end' (a + 1) → (y : ℕ) → y < 2 * a → at end' y ≡ at end y
done_kept d d' y l = d'.ends.each y (omega arith) ∙ sym (d.ends.each y l)

pub done_none : (t : Table) (start end : List ℕ) → Done t start end start end 0
done_none t start end =
    record {
      starts = record { long = refl; each = λ x l. absurd (omega arith); rest = λ x l. refl };
      ends = record { long = refl; each = λ x l. absurd (omega arith); rest = λ x l. refl };
    }

module _ {bus : Bus} {costs sources targets amounts links choices core words lengths : List ℕ}
    (ready : Ready bus costs sources targets amounts links choices)
    (prep : Prepared (candidate_by bus costs sources targets amounts choices) core words lengths)
    (few : FewCores choices (length costs)) where
  abbrev c : Candidate
  c = candidate_by bus costs sources targets amounts choices

  abbrev k : ℕ
  k = length costs

  abbrev l : List ℕ
  l = take (2 * k) lengths

  abbrev t : Table
  t = placed c l

  length_at : (x : ℕ) → x < 2 * k → at l x ≡ at lengths x
  length_at x h = get_or-take (2 * k) lengths x 0 h

  room_at : (a : ℕ) → a < k → makespan a t + at lengths (2 * a) + at costs a + at lengths (2 * a + 1) ≤ 1077673920
  room_at a h =
      omega (
        arith,
        room_within c (core_in choices) (ready_limits bus costs sources targets amounts links choices ready) refl l (λ x m. omega (arith, length_at x m, prep.short x m)) a h,
        placed_top c l a (omega arith),
        length_at (2 * a) (omega arith),
        length_at (2 * a + 1) (omega arith),
      )

  module _ {start₀ end₀ start end : List ℕ} {a : ℕ} (roomy : 2 * k ≤ length start₀) (space : 2 * k ≤ length end₀) (h : a < k)
      (d : Done t start₀ end₀ start end a) where
    ends_within : max_below (at end) (2 * a) ≤ makespan a t
    unfolding placed
    ends_within =
        max_le (at end) (2 * a) (makespan a t)
        (λ y m. omega (arith, d.ends.each y m, end_within c l (starts_of c l k) a y m))

    core_read : (b : ℕ) → b < k → at core (2 * b) ≡ core_in choices b
    core_read b m = prep.cores (2 * b) (omega arith) ∙ ap (core_in choices) (half_even b)

    pub room_next : Room costs sources targets links core lengths start end a
    room_next =
        record {
          few = omega (arith, ready.few);
          few_cores = omega (arith, core_read a h, few a h);
          costs_all = h;
          chained = ready.chained;
          phases_all = omega (arith, prep.cores_all);
          starts_all = omega (arith, d.starts.long);
          ends_all = omega (arith, d.ends.long);
          fits = omega (arith, ends_within, room_at a h);
        }

    -- "not before the F of any source or of any earlier-listed task on its core": by edges and by cores, as over places
    abbrev table : Table
    table = windows c l (starts_of c l k)

    abbrev held : ℕ → Bool
    held b = is_source c.plan b a || eqb (core_in choices b) (core_in choices a)

    abbrev latest : ℕ
    latest = max_below (λ b. cond (held b) (table.F b) 0) a

    end_at_lem : (b : ℕ) → b < a → at end (2 * b + 1) ≡ table.F b
    unfolding placed
    end_at_lem b m = d.ends.each (2 * b + 1) (omega arith) ∙ of_odd table.E table.F b

    held_latest : (b : ℕ) → b < a → held b ≡ true → at end (2 * b + 1) ≤ latest
    held_latest b m t =
        let f : cond (held b) (table.F b) 0 ≡ table.F b = rw t in
        omega (arith, end_at_lem b m, f, max_ge (λ x. cond (held x) (table.F x) 0) a b m)

    free_latest : free_by core end (at core (2 * a)) a ≤ latest
    unfolding free_by
    free_latest =
        max_le _ a latest
        (λ b m.
        either (eqb (at core (2 * b)) (at core (2 * a)))
        (λ t. rw t (held_latest b m (or_right (is_source c.plan b a) _ (rw (core_read b (omega arith), core_read a h) at t))))
        (λ t. rw t zero-le))

    sent_latest : sent_by sources targets end a (length sources) ≤ latest
    unfolding sent_by is_source
    sent_latest =
        max_le _ (length sources) latest
        (λ e m.
        either (eqb (at targets e) a)
        (λ t.
        let b : ℕ = at sources e in
        let q = eqb-true (at targets e) a t in
        let first : b < a = omega (arith, q, ready.chained.before e m (omega (arith, q))) in
        let here : is_source c.plan b a ≡ true = any_here _ (length sources) e m (and_true (eqb b b) (eqb (at targets e) a) (eq-eqb b b refl) t) in
        rw t (held_latest b first (or_left (is_source c.plan b a) (eqb (core_in choices b) (core_in choices a)) here)))
        (λ t. rw t zero-le))

    source_sent : (b : ℕ) → is_source c.plan b a ≡ true → at end (2 * b + 1) ≤ sent_by sources targets end a (length sources)
    unfolding sent_by is_source
    source_sent b t =
        let w = any_found _ (length sources) t in
        let e : ℕ = w.0 in
        let both = and_both (eqb (at sources e) b) (eqb (at targets e) a) w.2 in
        let same = eqb-true (at sources e) b both.0 in
        let f : cond (eqb (at targets e) a) (at end (2 * at sources e + 1)) 0 ≡ at end (2 * b + 1) = rw (both.1, same) in
        omega (arith, f, max_ge (λ x. cond (eqb (at targets x) a) (at end (2 * at sources x + 1)) 0) (length sources) e w.1)

    core_free : (b : ℕ) → b < a → eqb (core_in choices b) (core_in choices a) ≡ true → at end (2 * b + 1) ≤ free_by core end (at core (2 * a)) a
    unfolding free_by
    core_free b m t =
        let f : cond (eqb (at core (2 * b)) (at core (2 * a))) (at end (2 * b + 1)) 0 ≡ at end (2 * b + 1) = rw (core_read b (omega arith), core_read a h, t) in
        omega (arith, f, max_ge (λ x. cond (eqb (at core (2 * x)) (at core (2 * a))) (at end (2 * x + 1)) 0) a b m)

    latest_held : latest ≤ earliest_by sources targets core end a
    latest_held =
        max_le _ a (earliest_by sources targets core end a)
        (λ b m.
        either (is_source c.plan b a)
        (λ t. rw t (omega (arith, end_at_lem b m, source_sent b t)))
        (λ t.
        either (eqb (core_in choices b) (core_in choices a))
        (λ u. rw (t, u) (omega (arith, end_at_lem b m, core_free b m u)))
        (λ u. rw (t, u) zero-le)))

    earliest_same : earliest_by sources targets core end a ≡ earliest c l (starts_of c l k) a
    unfolding earliest
    earliest_same = omega (arith, free_latest, sent_latest, latest_held)

    clash_same :
        (r : ℕ)
        → clash_by core start end words (2 * a) (task_at costs core words lengths a) r
        ≡ any_below (clashing c l (phases_in a t c.words) a r) (2 * a)
    unfolding clash_by clashing placed
    clash_same r =
        let p : Phases = phases_in a t c.words in
        let read = length_at (2 * a) (omega arith) in
        let write = length_at (2 * a + 1) (omega arith) in
        any_same _ _ (2 * a)
        (λ y m.
        let q = prep.cores y (omega arith) in
        let w = prep.loads y (omega arith) in
        let s = d.starts.each y m in
        let e = d.ends.each y m in
        let one =
        meet_same core start end words p (at core (2 * a)) (core_in choices a) (at words (2 * a)) (at c.words (2 * a))
        r r (r + at lengths (2 * a)) (r + at l (2 * a)) y
        (core_read a h) (prep.loads (2 * a) (omega arith)) refl (omega arith) q s e w in
        let two =
        meet_same core start end words p (at core (2 * a)) (core_in choices a) (at words (2 * a + 1)) (at c.words (2 * a + 1))
        (r + at lengths (2 * a) + at costs a) (r + at l (2 * a) + at costs a)
        (r + at lengths (2 * a) + at costs a + at lengths (2 * a + 1)) (r + at l (2 * a) + at costs a + at l (2 * a + 1)) y
        (core_read a h) (prep.loads (2 * a + 1) (omega arith)) (omega arith) (omega arith) q s e w in
        rw (one, two))

    module _ {r : ℕ} (o : Starts costs sources targets choices core words lengths start end a r) where
      start_placed : r ≡ t.R a
      unfolding placed
      start_placed =
          let s = starts_of c l a in
          let all = starts_of c l k in
          let same : (b : ℕ) → b < a → at s b ≡ at all b = λ b m. sym (starts_stay c l k a b (omega arith) m) in
          either (exclusive choices a)
          (λ e.
          let f = o.alone e in
          exclusive_start_lem c l s all a r (starts_length c l a) same e
          (record {
            later = omega (arith, f.later, earliest_same);
            clear = sym (clash_same r) ∙ f.clear;
            least = λ x m n. sym (clash_same x) ∙ f.least x (omega (arith, earliest_same)) n;
          }))
          (λ e. overlapping_start c l s all a r (starts_length c l a) same e (o.overlapping e ∙ earliest_same))
          ∙ sym (placed_start c l a h)

      pub start_fits : r + at lengths (2 * a) + at costs a + at lengths (2 * a + 1) < 4294967296
      start_fits = omega (arith, start_placed, placed_within c l a h, room_at a h)

      pub done_more :
          {start' end' : List ℕ}
          → start' ≡ with_pair start a r (r + at lengths (2 * a) + at costs a)
          → end' ≡ with_pair end a (r + at lengths (2 * a)) (r + at lengths (2 * a) + at costs a + at lengths (2 * a + 1))
          → Done t start₀ end₀ start' end' (a + 1)
      unfolding placed
      done_more {start'} {end'} p q =
          let read = length_at (2 * a) (omega arith) in
          let write = length_at (2 * a + 1) (omega arith) in
          record {
            starts =
                rw p
                (column_pair (of_phase t.R t.W) a start₀ start _ _ (omega arith) d.starts
                (start_placed ∙ sym (of_even t.R t.W a))
                (omega (arith, start_placed, of_odd t.R t.W a)));
            ends =
                rw q
                (column_pair (of_phase t.E t.F) a end₀ end _ _ (omega arith) d.ends
                (omega (arith, start_placed, of_even t.E t.F a))
                (omega (arith, start_placed, of_odd t.E t.F a)));
          }

-- all places
pub done_all :
    {t : Table} {start₀ end₀ start end : List ℕ} {a n : ℕ} → 2 * n ≤ length start₀ → 2 * n ≤ length end₀ → a ≤ n → n ≤ a
    → Done t start₀ end₀ start end a
    → (start ≡ start_column n t ++ drop (2 * n) start₀) × (end ≡ end_column n t ++ drop (2 * n) end₀)
done_all {t} {start₀} {end₀} {start} {end} {a} {n} p q l m d =
    let e : a ≡ n = omega arith in (
      column_is (of_phase t.R t.W) (2 * n) start₀ p start (rw e at d.starts),
      column_is (of_phase t.E t.F) (2 * n) end₀ q end (rw e at d.ends),
    )
