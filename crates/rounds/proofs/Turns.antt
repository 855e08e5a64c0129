-- One round after the other: what the columns hold, and that the last one holds the settled lengths. Assumes nothing.
use mathlib.Core.Path.{◌≡◌, refl, sym, ap, ◌∙◌}
use mathlib.Core.Bool.{Bool, false}
use mathlib.Core.List.{List, ◌++◌}
use Prim.Native.Nat.{ℕ, suc, ◌+◌, ◌*◌, ◌≤◌, ◌<◌, max}
use native.Mathlib.Numerals.{add-one}
use native.Mathlib.Omega.{arith}
use lib.ListN.{length, take, drop}
use lib.Seq.{ext_get_or, get_or-take, length-take-le}
use lib.Dec.{ltb}
use borrow.Author.Tests.{ltb-false}
use Rattle.model.specs.Below.{at, any_below, list_below}
use Rattle.model.specs.Counts.{most_words}
use Rattle.model.specs.Contention.{Phases, of_phase, phases_in}
use Rattle.model.specs.Rules.{delay_at}
use Rattle.model.specs.ListRule.{Candidate as ListCandidate, core_in, placed, grown, rounds, settled}
use Rattle.model.proofs.Below.{any_each, list_length, list_at, list_same}
use Rattle.model.proofs.Contention.{Agree}
use Rattle.model.proofs.Settles.{rounds_length, settled_early}
use Rattle.model.proofs.Spans.{words_within, rounds_short}
use Rattle.contention.specs.Columns.{phases_by, start_column, end_column}
use Rattle.contention.proofs.Rivalry.{delay_same}
use Rattle.placing.specs.Starts.{Prepared}
use Rattle.placing.specs.Views.{as_candidate}
use Rattle.placing.specs.declared.candidate.Candidate.{Candidate}
use Rattle.rounds.specs.Standing.{Standing}
use Rattle.rounds.proofs.Fronts.{front_at, front_take, front_drop}
use Rattle.rounds.proofs.Settling.{limits}

-- a list is the list of its entries
listed : (l : List ℕ) (n : ℕ) → length l ≡ n → list_below (at l) n ≡ l
listed l n e =
    ext_get_or 0 (list_below (at l) n) l (list_length (at l) n ∙ sym e)
    (λ i h. list_at (at l) n i (omega (arith, list_length (at l) n)))

module _ (t : Candidate) (core words first : List ℕ) (p : Prepared (as_candidate t) core words first) where
  abbrev c : ListCandidate
  c = as_candidate t

  abbrev k : ℕ
  k = length t.costs.now

  abbrev cores : List ℕ
  cores = take (2 * k) core

  count : length cores ≡ 2 * k
  count = length-take-le (2 * k) core p.cores_all

  -- the first cores are all that matter
  pub prepared_front : Prepared c cores words first
  prepared_front =
      record {
        cores_all = omega (arith, count);
        loads_all = p.loads_all;
        lengths_all = p.lengths_all;
        cores = λ x h. get_or-take (2 * k) core x 0 h ∙ p.cores x h;
        loads = p.loads;
        short = p.short;
      }

  pub loads_fit : (x : ℕ) → x < length cores → at words x ≤ most_words
  loads_fit x h = omega (arith, count, p.loads x (omega (arith, count)), words_within c (core_in t.choices.now) (limits t) refl x)

  module _ (old-lengths old-start old-end lengths start end : List ℕ) (n : ℕ)
      (s : Standing c (rounds c n) old-lengths old-start old-end lengths start end) where
    abbrev l : List ℕ
    l = rounds c n

    abbrev h : Phases
    h = phases_by cores start end words (length cores)

    agree : Agree h (phases_in k (placed c l) c.words)
    unfolding placed
    agree =
        record {
          count = count;
          core = λ x m. get_or-take (2 * k) core x 0 (omega (arith, count)) ∙ p.cores x (omega (arith, count));
          start =
              λ x m.
              let r : x < 2 * k = omega (arith, count) in
              front_at (start_column k (placed c l)) _ start (2 * k) (list_length _ (2 * k)) s.starts x r
              ∙ list_at (of_phase (placed c l).R (placed c l).W) (2 * k) x r;
          end =
              λ x m.
              let r : x < 2 * k = omega (arith, count) in
              front_at (end_column k (placed c l)) _ end (2 * k) (list_length _ (2 * k)) s.ends x r
              ∙ list_at (of_phase (placed c l).E (placed c l).F) (2 * k) x r;
          words = λ x m. p.loads x (omega (arith, count));
        }

    length_at : (x : ℕ) → x < 2 * k → at lengths x ≡ at l x
    length_at x m = front_at l _ lengths (2 * k) (rounds_length c n) s.lasts x m

    grown_here : list_below (λ x. max (at lengths x) (delay_at t.bus h x)) (length cores) ≡ grown c l
    unfolding grown
    grown_here =
        list_same _ (λ x. max (at l x) (delay_at t.bus (phases_in k (placed c l) c.words) x)) (length cores)
        (λ x m. rw (length_at x (omega (arith, count)), delay_same t.bus h (phases_in k (placed c l) c.words) agree x m))
        ∙ rw count

    module _ (grew : Bool) (next : List ℕ) (q : grew ≡ any_below (λ x. ltb (at lengths x) (delay_at t.bus h x)) (length cores))
        (e : next ≡ list_below (λ x. max (at lengths x) (delay_at t.bus h x)) (length cores) ++ drop (length cores) lengths) where
      next_lasts : next ≡ rounds c (suc n) ++ drop (2 * k) old-lengths
      unfolding rounds
      next_lasts = rw (grown_here, count, front_drop l (drop (2 * k) old-lengths) lengths (2 * k) (rounds_length c n) s.lasts) at e

      -- none grew: the lengths are the settled ones
      still : grew ≡ false → grown c l ≡ l
      still z =
          sym grown_here
          ∙ list_same _ (at l) (length cores)
          (λ x m.
          omega (
            arith,
            length_at x (omega (arith, count)),
            ltb-false (at lengths x) (delay_at t.bus h x) (any_each _ (length cores) (sym q ∙ z) x m),
          ))
          ∙ rw count (listed l (2 * k) (rounds_length c n))

      pub stop_early : grew ≡ false → Standing c (settled c) old-lengths old-start old-end next start end
      unfolding rounds
      stop_early z =
          let same : settled c ≡ l = settled_early c n (still z) in
          rw same
          (record {
            lasts = next_lasts ∙ ap (λ (x : List ℕ). x ++ drop (2 * k) old-lengths) (still z);
            starts = s.starts;
            ends = s.ends;
          })

      -- one grew: all are placed anew
      pub prepared_next : length next ≡ length first → Prepared c cores words next
      prepared_next same =
          record {
            cores_all = prepared_front.cores_all;
            loads_all = p.loads_all;
            lengths_all = omega (arith, p.lengths_all);
            cores = prepared_front.cores;
            loads = p.loads;
            short =
                λ x m.
                omega (
                  arith,
                  front_at (rounds c (suc n)) (drop (2 * k) old-lengths) next (2 * k) (rounds_length c (suc n)) next_lasts x m,
                  rounds_short c (core_in t.choices.now) (limits t) refl (suc n) x m,
                );
          }

      pub go_on :
          (start' end' : List ℕ)
          → start' ≡ start_column k (placed c (take (2 * k) next)) ++ drop (2 * k) start
          → end' ≡ end_column k (placed c (take (2 * k) next)) ++ drop (2 * k) end
          → Standing c (rounds c (n + 1)) old-lengths old-start old-end next start' end'
      go_on start' end' a b =
          let new : take (2 * k) next ≡ rounds c (suc n) =
          front_take (rounds c (suc n)) (drop (2 * k) old-lengths) next (2 * k) (rounds_length c (suc n)) next_lasts in
          let rest_start : drop (2 * k) start ≡ drop (2 * k) old-start =
          front_drop (start_column k (placed c l)) _ start (2 * k) (list_length _ (2 * k)) s.starts in
          let rest_end : drop (2 * k) end ≡ drop (2 * k) old-end =
          front_drop (end_column k (placed c l)) _ end (2 * k) (list_length _ (2 * k)) s.ends in
          rw add-one
          (record {
            lasts = next_lasts;
            starts = rw (← new, ← rest_start) a;
            ends = rw (← new, ← rest_end) b;
          })
