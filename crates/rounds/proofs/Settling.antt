-- A candidate's columns, from its choices to its first lengths, and the greatest F in the end. Assumes nothing.
use mathlib.Core.Path.{◌≡◌, refl, sym, ap, ◌∙◌}
use mathlib.Core.List.{List, ◌++◌}
use Prim.Native.Nat.{ℕ, ◌+◌, ◌*◌, ◌/◌, ◌≤◌, ◌<◌}
use native.Mathlib.Omega.{arith}
use lib.ListN.{length, take, drop}
use Rattle.model.specs.Below.{at, max_below, list_below}
use Rattle.model.specs.Counts.{delay, most_words}
use Rattle.model.specs.Plan.{Plan, source, target}
use Rattle.model.specs.Contention.{of_phase, phase_words}
use Rattle.model.specs.ListRule.{Candidate as ListCandidate, core_in, first_lengths, rounds, placed, settled, finished, makespan_of}
use Rattle.model.proofs.Below.{list_at, list_length, max_same}
use Rattle.model.proofs.Contention.{of_odd, phase_words_length}
use Rattle.model.proofs.Settles.{rounds_length}
use Rattle.model.proofs.Spans.{Limits, words_within, rounds_short}
use Rattle.contention.specs.Columns.{edges_by, end_column}
use Rattle.contention.proofs.Columns.{fill_take, fill_count}
use Rattle.contention.proofs.Loads.{plan_words, words_same}
use Rattle.placing.specs.Starts.{Prepared}
use Rattle.placing.specs.Views.{as_candidate}
use Rattle.placing.specs.declared.candidate.Candidate.{Candidate}
use Rattle.placing.proofs.Places.{ready_limits}
use Rattle.rounds.proofs.Fronts.{front_at, front_take, front_room}

module _ (t : Candidate) where
  abbrev c : ListCandidate
  c = as_candidate t

  abbrev k : ℕ
  k = length t.costs.now

  abbrev choices : List ℕ
  choices = t.choices.now

  pub limits : Limits c.plan
  limits = ready_limits _ _ _ _ _ _ _ t.ready

  words_long : length c.words ≡ 2 * k
  words_long = phase_words_length c.plan (core_in choices)

  first_long : length (first_lengths c) ≡ 2 * k
  unfolding rounds
  first_long = rounds_length c 0

  -- ---- the words by the cores of the places
  pub words_are :
      (cores rest old words : List ℕ) → cores ≡ list_below (core_in choices) (length choices) ++ rest
      → words ≡ phase_words (edges_by (length (take k cores)) t.edges.sources.now t.edges.targets.now t.edges.amounts.now) (at (take k cores)) ++ drop (2 * length (take k cores)) old
      → words ≡ c.words ++ drop (2 * k) old
  words_are cores rest old words e q =
      let p : Plan = c.plan in
      let first : take k cores ≡ list_below (core_in choices) k = fill_take (core_in choices) k rest cores (rw t.ready.choices_all at e) in
      let here : (a : ℕ) → a < k → at (take k cores) a ≡ core_in choices a = λ a h. rw first (list_at (core_in choices) k a h) in
      let same : phase_words (edges_by k p.sources p.targets p.amounts) (at (take k cores)) ≡ c.words =
      plan_words p (at (take k cores))
      ∙ words_same p (at (take k cores)) (core_in choices)
      (λ e l h. here (source p e) (t.ready.edges.sources_known e l h))
      (λ e l h. here (target p e) (t.ready.edges.targets_known e l h)) in
      rw (sym (fill_count (core_in choices) k rest cores (rw t.ready.choices_all at e))) at q ∙ ap (λ (x : List ℕ). x ++ drop (2 * k) old) same

  module _ (words rest : List ℕ) (w : words ≡ c.words ++ rest) where
    first_words : take (2 * k) words ≡ c.words
    first_words = front_take c.words rest words (2 * k) words_long w

    pub words_fit : (x : ℕ) → x < length (take (2 * k) words) → at (take (2 * k) words) x ≤ most_words
    words_fit x h = rw first_words (words_within c (core_in choices) limits refl x)

    -- ---- the first lengths
    pub lengths_are :
        (old lengths : List ℕ)
        → lengths ≡ list_below (λ x. delay t.bus (at (take (2 * k) words) x) 0) (length (take (2 * k) words)) ++ drop (length (take (2 * k) words)) old
        → lengths ≡ first_lengths c ++ drop (2 * k) old
    unfolding first_lengths
    lengths_are old lengths e = rw (first_words, words_long) at e

    pub prepared_first :
        (core more lengths tail : List ℕ) → core ≡ list_below (λ x. core_in choices (x / 2)) (2 * length choices) ++ more → lengths ≡ first_lengths c ++ tail
        → Prepared c core words lengths
    unfolding rounds
    prepared_first core more lengths tail e q =
        let e : core ≡ list_below (λ x. core_in choices (x / 2)) (2 * k) ++ more = rw t.ready.choices_all at e in
        let long = list_length (λ x. core_in choices (x / 2)) (2 * k) in
        record {
          cores_all = front_room _ more core (2 * k) long e;
          loads_all = front_room c.words rest words (2 * k) words_long w;
          lengths_all = front_room (first_lengths c) tail lengths (2 * k) first_long q;
          cores = λ x h. front_at _ more core (2 * k) long e x h ∙ list_at (λ x. core_in choices (x / 2)) (2 * k) x h;
          loads = front_at c.words rest words (2 * k) words_long w;
          short = λ x h. omega (arith, front_at (first_lengths c) tail lengths (2 * k) first_long q x h, rounds_short c (core_in choices) limits refl 0 x h);
        }

  -- the greatest F
  pub greatest : (end rest : List ℕ) → end ≡ end_column k (placed c (settled c)) ++ rest
      → max_below (λ a. at (take (2 * k) end) (2 * a + 1)) (length (take (2 * k) end) / 2) ≡ makespan_of c
  unfolding makespan_of finished
  greatest end rest e =
      let f : ℕ → ℕ = of_phase (finished c).E (finished c).F in
      let all : length (end_column k (finished c)) ≡ 2 * k = list_length f (2 * k) in
      let half : 2 * k / 2 ≡ k = omega arith in
      rw (front_take (end_column k (finished c)) rest end (2 * k) all e, all, half)
      (max_same _ (finished c).F k
      (λ a h. list_at f (2 * k) (2 * a + 1) (omega arith) ∙ of_odd (finished c).E (finished c).F a))
