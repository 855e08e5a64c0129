-- The chain of the edges to a place: along it all edges to the place are met, and no other. Assumes nothing.
use mathlib.Core.Path.{◌≡◌, refl, sym, ap, ◌∙◌}
use mathlib.Core.List.{List}
use Prim.Native.Nat.{ℕ, zero, suc, ◌+◌, ◌*◌, ◌-◌, ◌≤◌, ◌<◌, max, zero-le}
use native.Mathlib.Omega.{arith}
use lib.ListN.{length}
use lib.Dec.{eqb}
use borrow.Author.Tests.{eqb-true, eq-eqb}
use Rattle.model.specs.Below.{at, join_below}
use Rattle.model.proofs.Tests.{either}
use Rattle.placing.specs.Candidates.{last_to, Chained}
use Rattle.placing.specs.Starts.{sent_by}

-- the last edge to a place
module _ (targets : List ℕ) (a : ℕ) where
  pub last_le : (m : ℕ) → last_to targets a m ≤ m
  unfolding last_to
  last_le zero = zero-le
  last_le (suc e) = either (eqb (at targets e) a) (λ t. rw t (omega arith)) (λ t. rw t (omega (arith, last_le e)))

  pub last_ends : (m : ℕ) → 0 < last_to targets a m → at targets (last_to targets a m - 1) ≡ a
  unfolding last_to
  last_ends zero h = absurd (omega arith)
  last_ends (suc e) h =
      either (eqb (at targets e) a)
      (λ t. let back : suc e - 1 ≡ e = omega arith in rw (t, back) (eqb-true (at targets e) a t))
      (λ t. rw t (last_ends e (rw t at h)))

-- the greatest F of the sources along the edges up to the last one is that along all
module _ (sources targets end : List ℕ) (a : ℕ) where
  abbrev sent : ℕ → ℕ
  sent m = sent_by sources targets end a m

  pub sent_more : (e : ℕ) → at targets e ≡ a → sent (suc e) ≡ max (sent e) (at end (2 * at sources e + 1))
  unfolding sent_by join_below
  sent_more e q = rw (eq-eqb (at targets e) a q)

  pub sent_last : (m : ℕ) → sent (last_to targets a m) ≡ sent m
  unfolding sent_by last_to join_below
  sent_last zero = refl
  sent_last (suc e) =
      either (eqb (at targets e) a)
      (λ t. rw t (sent_more e (eqb-true (at targets e) a t)))
      (λ t. rw t (omega (arith, sent_last e)))

  -- the loop along the chain, with `left` edges to go
  pub record Walked (from left : ℕ) : Type 0 where
    pub within : left ≤ length sources
    pub ends : 0 < left → at targets (left - 1) ≡ a
    pub rest : max from (sent left) ≡ sent (length sources)

module _ {sources targets links end : List ℕ} {places a : ℕ} (w : Chained sources targets links places) (h : a < places) where
  pub walk_start : {left : ℕ} → left ≡ at links a → Walked sources targets end a 0 left
  walk_start {left} q =
      let e : left ≡ last_to targets a (length sources) = q ∙ w.heads a h in
      record {
        within = omega (arith, e, last_le targets a (length sources));
        ends = λ k. rw e (last_ends targets a (length sources) (rw e at k));
        rest = rw e (omega (arith, sent_last sources targets end a (length sources)));
      }

  module _ {from left : ℕ} (k : Walked sources targets end a from left) (some : 0 < left) where
    abbrev e : ℕ
    e = left - 1

    pub walk_less : {next : ℕ} → next ≡ at links (64 + e) → next < left
    walk_less q = omega (arith, q, w.nexts e (omega (arith, k.within)), last_le targets (at targets e) e)

    pub walk_on : {from' next : ℕ} → from' ≡ max from (at end (2 * at sources e + 1)) → next ≡ at links (64 + e)
        → Walked sources targets end a from' next
    walk_on {from'} {next} p q =
        let sent : ℕ → ℕ = sent_by sources targets end a in
        let t = k.ends some in
        let is : next ≡ last_to targets a e = q ∙ w.nexts e (omega (arith, k.within)) ∙ ap (λ (x : ℕ). last_to targets x e) t in
        let up : suc e ≡ left = omega arith in
        let more : sent left ≡ max (sent e) (at end (2 * at sources e + 1)) = ap sent (sym up) ∙ sent_more sources targets end a e t in
        record {
          within = omega (arith, is, last_le targets a e, k.within);
          ends = λ l. rw is (last_ends targets a e (rw is at l));
          rest = rw is (omega (arith, p, sent_last sources targets end a e, more, k.rest));
        }

  pub walk_end : {from left : ℕ} → Walked sources targets end a from left → left ≤ 0 → from ≡ sent_by sources targets end a (length sources)
  unfolding sent_by join_below
  walk_end {from} {left} k none = let z : left ≡ 0 = omega arith in omega (arith, rw z at k.rest)
