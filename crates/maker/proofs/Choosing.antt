-- The choice of a place: the first of those with the least makespan, the earlier choices kept. Assumes nothing.
use mathlib.Core.Path.{◌≡◌, refl, sym, ap, ◌∙◌}
use mathlib.Core.List.{List, [], ◌∷◌, ◌++◌}
use Prim.Native.Nat.{ℕ, zero, suc, ◌+◌, ◌*◌, ◌≤◌, ◌<◌}
use native.Mathlib.Numerals.{add-one}
use native.Mathlib.Omega.{arith}
use lib.ListN.{length, take, set}
use lib.Dec.{ltb}
use borrow.Author.Tests.{lt-ltb, le-ltb}
use Rattle.std.proofs.lemmas.Grind.{take-set_at}
use Rattle.model.specs.Below.{best_below}
use Rattle.model.specs.Plan.{Plan, cores}
use Rattle.model.specs.ListRule.{chosen}
use Rattle.model.proofs.Tests.{either, same_or_not}
use Rattle.model.proofs.Plan.{snoc_old, snoc_new}
use Rattle.model.proofs.Chosen.{chosen_core, chosen_length}
use Rattle.placing.specs.Candidates.{FewCores}
use Rattle.maker.specs.Choosing.{Listed, span_choosing}

-- ---- the best so far
-- what code has in hand after the choices below n: the best of them, and its makespan
pub record Leading (f : ℕ → ℕ) (n best least : ℕ) : Type 0 where
  pub first : best ≡ best_below f n
  pub none : n ≡ 0 → least ≡ 4294967295
  pub span : 0 < n → least ≡ f best

pub leading_none : (f : ℕ → ℕ) → Leading f 0 0 4294967295
unfolding best_below
leading_none f = record { first = refl; none = λ _. refl; span = λ h. absurd (omega arith) }

-- with the makespan of choice n: less than the least, or not
pub leading_less : (f : ℕ → ℕ) (n best least span : ℕ) → Leading f n best least → span ≡ f n → span < least → Leading f (n + 1) n span
unfolding best_below
leading_less f zero best least span l e h =
    record { first = either (ltb (f 0) (f 0)) (λ t. rw t) (λ t. rw t); none = λ z. absurd (omega arith); span = λ _. e }
leading_less f (suc m) best least span l e h =
    let b : f (suc m) < f (best_below f (suc m)) = omega (arith, l.span (omega arith), ap f l.first) in
    record { first = rw (add-one, lt-ltb (f (suc m)) (f (best_below f (suc m))) b); none = λ z. absurd (omega arith); span = λ _. e }

pub leading_more : (f : ℕ → ℕ) (n best least span : ℕ) → Leading f n best least → span ≡ f n → span < 4294967296 → least ≤ span → Leading f (n + 1) best least
unfolding best_below
leading_more f zero best least span l e fits h =
    record {
      first = l.first ∙ either (ltb (f 0) (f 0)) (λ t. rw t) (λ t. rw t);
      none = λ z. absurd (omega arith);
      span = λ _. rw l.first (omega (arith, l.none refl));
    }
leading_more f (suc m) best least span l e fits h =
    let b : f (best_below f (suc m)) ≤ f (suc m) = omega (arith, l.span (omega arith), ap f l.first) in
    record {
      first = rw (add-one, le-ltb (f (suc m)) (f (best_below f (suc m))) b) l.first;
      none = λ z. absurd (omega arith);
      span = λ _. l.span (omega arith);
    }

pub ruleset leading = (leading_none, leading_less, leading_more)

-- ---- a choice stored behind those of the first k places
module _ (q : Plan) (k : ℕ) (l : List ℕ) (room : k < length l) (kept : take k l ≡ chosen q k) where
  pub stored_last : (x : ℕ) → take (k + 1) (set l k x) ≡ chosen q k ++ (x ∷ [])
  stored_last x = take-set_at l k (k + 1) x refl room ∙ ap (λ (m : List ℕ). m ++ (x ∷ [])) kept

  pub chosen_next : (best : ℕ) → best ≡ best_below (span_choosing q k) (2 * cores q) → take (k + 1) (set l k best) ≡ chosen q (k + 1)
  unfolding chosen span_choosing
  chosen_next best e =
      let more : chosen q (k + 1) ≡ chosen q (suc k) = rw add-one in
      stored_last best ∙ ap (λ (x : ℕ). chosen q k ++ (x ∷ [])) e ∙ sym more

  -- all on cores below 8
  pub stored_few : (links : List ℕ) (x : ℕ) → Listed q links → x < 16 → FewCores (take (k + 1) (set l k x)) (k + 1)
  stored_few links x w h a m =
      rw (stored_last x)
      (same_or_not a k
      (λ e. omega (arith, snoc_new (chosen q k) x a (omega (arith, chosen_length q k))))
      (λ d.
      let j : a < k = omega arith in
      omega (
        arith,
        snoc_old (chosen q k) x a (omega (arith, chosen_length q k)),
        chosen_core q k a (omega (arith, w.settings.cores_some)) j,
        w.settings.cores_most,
      )))

pub chosen_few : (q : Plan) (links : List ℕ) (k : ℕ) → Listed q links → FewCores (chosen q k) k
chosen_few q links k w a h = omega (arith, chosen_core q k a (omega (arith, w.settings.cores_some)) h, w.settings.cores_most)
