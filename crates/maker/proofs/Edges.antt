-- The plan's edges by place: an edge's words within the first places, and the chains of edges. Assumes nothing.
use mathlib.Core.Path.{◌≡◌, refl, sym, ap, ◌∙◌}
use mathlib.Core.List.{List}
use Prim.Native.Nat.{ℕ, zero, suc, ◌+◌, ◌≤◌, ◌<◌}
use native.Mathlib.Numerals.{add-one}
use native.Mathlib.Omega.{arith}
use lib.ListN.{length, set, replicate, length-set, length-replicate}
use lib.Seq.{get_or-set_same, get_or-set_other}
use borrow.Author.Tests.{eq-eqb, ne_eqb}
use Rattle.model.specs.Below.{at}
use Rattle.model.proofs.Tests.{same_or_not, below_suc}
use Rattle.placing.specs.Candidates.{last_to}
use Rattle.maker.specs.Renumbering.{linked_by}

-- ---- the chains of edges
pub linked_length : (targets links : List ℕ) (m : ℕ) → length (linked_by targets links m) ≡ length links
unfolding linked_by
linked_length targets links zero = refl
linked_length targets links (suc e) = simp length-set (linked_length targets links e)

-- a loop over the edges: none yet, and one edge more
pub linked_none : (targets links : List ℕ) → links ≡ linked_by targets links 0
unfolding linked_by
linked_none targets links = refl

pub linked_more : (targets links l : List ℕ) (e : ℕ) → l ≡ linked_by targets links e
    → set (set l (64 + e) (at l (at targets e))) (at targets e) (e + 1) ≡ linked_by targets links (e + 1)
unfolding linked_by
linked_more targets links l e q = rw q (sym (ap (linked_by targets links) (add-one e)))

pub ruleset linking = (linked_none, linked_more)

at_zeros : (n x : ℕ) → at (replicate n 0) x ≡ 0
at_zeros zero x = refl
at_zeros (suc n) zero = refl
at_zeros (suc n) (suc x) = at_zeros n x

module _ (targets : List ℕ) (size : ℕ) where
  abbrev linked : ℕ → List ℕ
  linked m = linked_by targets (replicate size 0) m

  module _ (e : ℕ) (known : at targets e < 64) (room : 64 + e < size) where
    abbrev a : ℕ
    a = at targets e

    fits : 64 + e < length (linked e)
    fits = omega (arith, linked_length targets (replicate size 0) e, length-replicate {A = ℕ} size 0)

    linked_target : at (linked (suc e)) a ≡ e + 1
    unfolding linked_by
    linked_target = get_or-set_same (set (linked e) (64 + e) (at (linked e) a)) a (e + 1) 0 (simp length-set (omega (arith, fits)))

    linked_edge : at (linked (suc e)) (64 + e) ≡ at (linked e) a
    unfolding linked_by
    linked_edge =
        get_or-set_other (set (linked e) (64 + e) (at (linked e) a)) a (64 + e) (e + 1) 0 (λ q. omega arith)
        ∙ get_or-set_same (linked e) (64 + e) (at (linked e) a) 0 fits

    linked_other : (x : ℕ) → (x ≡ a → ⊥) → (x ≡ 64 + e → ⊥) → at (linked (suc e)) x ≡ at (linked e) x
    unfolding linked_by
    linked_other x n m =
        get_or-set_other (set (linked e) (64 + e) (at (linked e) a)) a x (e + 1) 0 n
        ∙ get_or-set_other (linked e) (64 + e) x (at (linked e) a) 0 m

  module _ (known : (e : ℕ) → 64 + e < size → at targets e < 64) where
    -- at each place the last edge to it
    pub linked_head : (m a : ℕ) → 64 + m ≤ size → a < 64 → at (linked m) a ≡ last_to targets a m
    unfolding linked_by last_to
    linked_head zero a l h = at_zeros size a
    linked_head (suc e) a l h =
        let k = known e (omega arith) in
        same_or_not a (at targets e)
        (λ q. rw (q, eq-eqb (at targets e) (at targets e) refl) (linked_target e k (omega arith) ∙ omega arith))
        (λ d.
        rw (ne_eqb (at targets e) a (λ q. d (sym q)))
        (linked_other e k (omega arith) a d (λ q. omega arith) ∙ linked_head e a (omega arith) h))

    -- and behind each edge the one before it to the same place
    pub linked_next : (m e : ℕ) → 64 + m ≤ size → e < m → at (linked m) (64 + e) ≡ last_to targets (at targets e) e
    linked_next zero e l h = absurd (omega arith)
    linked_next (suc m) e l h =
        let k = known m (omega arith) in
        below_suc e m h
        (λ j. linked_other m k (omega arith) (64 + e) (λ q. omega arith) (λ q. omega arith) ∙ linked_next m e (omega arith) j)
        (λ q.
        rw q (linked_edge m k (omega arith) ∙ linked_head m (at targets m) (omega arith) k))
