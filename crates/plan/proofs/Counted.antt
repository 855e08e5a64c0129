-- Edges that are counted: the loops of `waiting` and `release`, and where the next task is looked for.
-- Assumes nothing.
use mathlib.Core.Path.{◌≡◌, refl, ap, ◌∙◌}
use mathlib.Core.Bool.{Bool, false, ◌&&◌}
use mathlib.Core.List.{List}
use Prim.Native.Nat.{ℕ, zero, suc, ◌+◌, ◌-◌, ◌≤◌, ◌<◌, min}
use native.Mathlib.Omega.{arith}
use lib.Dec.{eqb}
use lib.ListN.{length, set, length-set, take}
use lib.Seq.{get_or-set_other, get_or-take, length-take-le}
use Rattle.std.proofs.lemmas.Grind.{common_steps}
use borrow.Author.Tests.{eq-eqb, ne_eqb}
use Rattle.model.specs.Below.{join_below, at, bit, count_below}
use Rattle.model.proofs.Tests.{lt_or_ge}
use Rattle.model.proofs.Below.{join_step, sum_zero, sum_longer, first, first_same}
use Rattle.plan.specs.Order.{Parts, Passed, Raised, Released, edges_to, edges_between, next_by}

-- nothing is counted from e on
count_rest : (p : ℕ → Bool) (e m : ℕ) → e ≤ m → ((k : ℕ) → e ≤ k → k < m → p k ≡ false) → count_below p m ≡ count_below p e
unfolding join_below
count_rest p e zero l h = let q : e ≡ 0 = omega arith in rw q
count_rest p e (suc m) l h =
    lt_or_ge m e
    (λ k. let q : e ≡ suc m = omega arith in rw q)
    (λ k. omega (arith, count_rest p e m k (λ j a b. h j a (omega arith)), ap bit (h m k (omega arith))))

-- ---- one entry more, one entry less
raised_none : (f : ℕ → ℕ) (l : List ℕ) → ((j : ℕ) → f j ≡ 0) → Raised f l l
raised_none f l z = record { long = refl; each = λ j. omega (arith, z j) }

raised_same : (f g : ℕ → ℕ) (a b : List ℕ) → ((j : ℕ) → g j ≡ f j) → Raised f a b → Raised g a b
raised_same f g a b s r = record { long = r.long; each = λ j. omega (arith, r.each j, s j) }

module _ (f g : ℕ → ℕ) (a b : List ℕ) (r : Raised f a b) (t : ℕ) (s : (j : ℕ) → g j ≡ f j + bit (eqb t j)) where
  raised_up : t < length b → Raised g a (set b t (at b t + 1))
  raised_up h =
      record {
        long = simp length-set r.long;
        each = λ j. grind (arith, common_steps, r.each j, s j);
      }

  raised_down : t < length a → 1 ≤ at a t → Raised g (set a t (at a t - 1)) b
  raised_down h p =
      record {
        long = simp length-set r.long;
        each = λ j. grind (arith, common_steps, r.each j, s j);
      }

-- ---- the loop of `waiting`, at edge e
module _ (targets : List ℕ) where
  to_more : (e t : ℕ) → t ≡ at targets e → (j : ℕ) → edges_to (e + 1) targets j ≡ edges_to e targets j + bit (eqb t j)
  unfolding edges_to
  to_more e t q j = rw (join_step, q)

  pub to_none : (l : List ℕ) → Raised (edges_to 0 targets) l l
  unfolding edges_to join_below
  to_none l = raised_none _ l (λ j. refl)

  module _ (m e t : ℕ) (l₀ l : List ℕ) (low : e < m) (r : Raised (edges_to e targets) l₀ l) (q : t ≡ at targets e) where
    to_longer : (j : ℕ) → edges_to (e + 1) targets j ≤ edges_to m targets j
    unfolding edges_to
    to_longer j = sum_longer (λ k. bit (eqb (at targets k) j)) (e + 1) m (omega arith)

    pub to_fits : ((j : ℕ) → at l₀ j + edges_to m targets j < 256) → at l t + 1 < 256
    to_fits room = omega (arith, r.each t, room t, to_more e t q t, ap bit (eq-eqb t t refl), to_longer t)

    pub to_next : t < length l → Raised (edges_to (e + 1) targets) l₀ (set l t (at l t + 1))
    to_next h = raised_up _ _ l₀ l r t (to_more e t q) h

-- ---- the loop of `release`, at edge e
module _ (sources targets : List ℕ) (i : ℕ) where
  between_more : (e t : ℕ) → t ≡ at targets e → at sources e ≡ i → (j : ℕ)
      → edges_between (e + 1) sources targets i j ≡ edges_between e sources targets i j + bit (eqb t j)
  unfolding edges_between
  between_more e t q p j = rw (join_step, q, eq-eqb (at sources e) i p)

  -- none before the first edge from i
  before_none : (e : ℕ) → Parts sources i e → (j : ℕ) → edges_between e sources targets i j ≡ 0
  unfolding edges_between
  before_none e w j =
      sum_zero _ e (λ k h. ap bit (ap (λ (b : Bool). b && eqb (at targets k) j) (ne_eqb (at sources k) i (λ q. omega (arith, w.below k h)))))

  pub released_none : (e : ℕ) → Parts sources i e → (l : List ℕ) → Released e sources targets i l l i
  released_none e w l =
      record { lowered = raised_none _ l (before_none e w); least = omega arith; clear = λ k h. before_none e w k }

  module _ (m e : ℕ) (l₀ l : List ℕ) (low : ℕ) (within : e ≤ m) (r : Released e sources targets i l₀ l low) where
    module _ (t from : ℕ) (h : e < m) (up : (k : ℕ) → e ≤ k → k < m → i ≤ at sources k) (ef : from ≡ at sources e) (no_more : from ≤ i)
        (q : t ≡ at targets e) (room : (j : ℕ) → edges_between m sources targets i j ≤ at l₀ j) where
      from_here : at sources e ≡ i
      from_here = omega (arith, up e (omega arith) h)

      between_longer : (j : ℕ) → edges_between (e + 1) sources targets i j ≤ edges_between m sources targets i j
      unfolding edges_between
      between_longer j = sum_longer (λ k. bit (eqb (at sources k) i && eqb (at targets k) j)) (e + 1) m (omega arith)

      pub released_some : 1 ≤ at l t
      released_some = omega (arith, r.lowered.each t, room t, between_more e t q from_here t, ap bit (eq-eqb t t refl), between_longer t)

      pub released_next : t < length l → (low' : ℕ) → low' ≡ min low t → Released (e + 1) sources targets i l₀ (set l t (at l t - 1)) low'
      released_next k low' x =
          record {
            lowered = raised_down _ _ l l₀ r.lowered t (between_more e t q from_here) k released_some;
            least = omega (arith, r.least);
            clear = λ j b. omega (arith, between_more e t q from_here j, r.clear j (omega arith), ap bit (ne_eqb t j (λ y. omega arith)));
          }

    -- none from e on
    rest_none : ((k : ℕ) → e ≤ k → k < m → i < at sources k) → (j : ℕ) → edges_between m sources targets i j ≡ edges_between e sources targets i j
    unfolding edges_between
    rest_none h j =
        count_rest _ e m within (λ k a b. ap (λ (x : Bool). x && eqb (at targets k) j) (ne_eqb (at sources k) i (λ q. omega (arith, h k a b))))

    pub released_end : ((k : ℕ) → e ≤ k → k < m → i < at sources k) → Released m sources targets i l₀ l low
    released_end h =
        record {
          lowered = raised_same _ _ l l₀ (rest_none h) r.lowered;
          least = r.least;
          clear = λ k b. rest_none h k ∙ r.clear k b;
        }

-- ---- the next task that is ready lies above those that were passed
pub passed_none : (n : ℕ) (left : List ℕ) → Passed n left 0
passed_none n left = record { within = omega arith; none = λ k h. absurd (omega arith) }

pub passed_next : (n m : ℕ) (sources targets left mid : List ℕ) (i low : ℕ) → i ≡ next_by n left → i < n
    → Released m sources targets i left mid low → Passed n (set mid i 0) low
unfolding next_by
passed_next n m sources targets left mid i low ei h r =
    record {
      within = omega (arith, r.least);
      none =
          λ k b.
          let same : at mid k ≡ at left k = omega (arith, r.lowered.each k, r.clear k b) in
          ap (λ (x : ℕ). eqb x 1) (get_or-set_other mid i k 0 0 (λ q. omega (arith, r.least)) ∙ same)
          ∙ (first (λ j. eqb (at left j) 1) n).before k (omega (arith, r.least, ei));
    }

-- ---- it is looked for among the front of what is kept
module _ (n : ℕ) (left : List ℕ) (long : n ≤ length left) where
  front_next : next_by (length (take n left)) (take n left) ≡ next_by n left
  unfolding next_by
  front_next =
      rw (length-take-le n left long)
      (first_same (λ i. eqb (at (take n left) i) 1) (λ i. eqb (at left i) 1) n
      (λ i h. ap (λ (x : ℕ). eqb x 1) (get_or-take n left i 0 h)))

  pub front_passed : (from : ℕ) → Passed n left from → Passed (length (take n left)) (take n left) from
  front_passed from p =
      record {
        within = omega (arith, length-take-le n left long, p.within);
        none = λ k h. ap (λ (x : ℕ). eqb x 1) (get_or-take n left k 0 (omega (arith, h, p.within))) ∙ p.none k h;
      }

  pub front_ready : {i : ℕ} → (i ≡ next_by (length (take n left)) (take n left)) × (i < length (take n left)) → (i ≡ next_by n left) × (i < n)
  front_ready q = (q.0 ∙ front_next, omega (arith, length-take-le n left long, q.1))

  pub front_stuck : next_by (length (take n left)) (take n left) ≡ length (take n left) → next_by n left ≡ n
  front_stuck e = omega (arith, length-take-le n left long, front_next, e)
