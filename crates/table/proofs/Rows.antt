-- The rows of a table, stored as numbers and as bytes. Assumes nothing.
use mathlib.Core.Path.{◌≡◌, refl, sym, ◌∙◌}
use mathlib.Core.List.{List, [], ◌∷◌, ◌++◌, append_assoc}
use Prim.Native.Nat.{ℕ, ◌+◌, ◌*◌, ◌/◌, ◌%◌, ◌≤◌, ◌<◌}
use Rattle.std.specs.Int.{w32, to_be_bytes}
use native.Mathlib.Omega.{arith}
use lib.ListN.{length, drop, length-append}
use borrow.Rule.Slice.PartMut.{put_mid}
use Rattle.model.specs.Below.{append_below, stored}
use Rattle.model.specs.Table.{Table, numbers_at, four_bytes, field_bytes, bytes_at}
use Rattle.model.proofs.Stores.{stored_join, part_stored, blocks_none, blocks_more, blocks_end}

four_long : (x : ℕ) → length (four_bytes x) ≡ 4
unfolding four_bytes
four_long x = refl

pub field_long : (t : Table) (i : ℕ) → length (bytes_at t i) ≡ 20
unfolding field_bytes four_bytes
field_long t i = refl

pub numbers_long : (t : Table) (i : ℕ) → length (numbers_at t i) ≡ 5
unfolding numbers_at
numbers_long t i = refl

-- a number's four bytes, as code stores them
pub four_stored : (l a : List ℕ) (i k x : ℕ) → x < 4294967296 → a ≡ to_be_bytes w32 x → k ≡ 4 → i + 4 ≤ length l → put_mid i k l a ≡ stored l i (four_bytes x)
unfolding four_bytes
four_stored l a i k x h e q m =
    let t : x / 16777216 % 256 ≡ x / 16777216 = omega arith in
    part_stored l a (four_bytes x) i k (e ∙ rw t) (sym q) (omega arith)

-- the blocks of a loop over tasks
module _ (t : Table) (l₀ : List ℕ) where
  pub numbers_none : l₀ ≡ stored l₀ 0 (append_below (numbers_at t) 0)
  numbers_none = blocks_none (numbers_at t) 5 (numbers_long t) l₀

  pub numbers_more : (l l' : List ℕ) (i : ℕ) → l ≡ stored l₀ 0 (append_below (numbers_at t) i) → l' ≡ stored l (5 * i) (numbers_at t i) → l' ≡ stored l₀ 0 (append_below (numbers_at t) (i + 1))
  numbers_more l l' i e q = blocks_more (numbers_at t) 5 (numbers_long t) l₀ l l' i (5 * i) refl e q

  pub numbers_end : (l : List ℕ) (n : ℕ) → 5 * n ≤ length l₀ → l ≡ stored l₀ 0 (append_below (numbers_at t) n) → l ≡ append_below (numbers_at t) n ++ drop (5 * n) l₀
  numbers_end l n h e = blocks_end (numbers_at t) 5 (numbers_long t) l₀ l n n (omega arith) (omega arith) h e

  pub bytes_none : l₀ ≡ stored l₀ 0 (append_below (bytes_at t) 0)
  bytes_none = blocks_none (bytes_at t) 20 (field_long t) l₀

  pub bytes_more : (l l' : List ℕ) (i : ℕ) → l ≡ stored l₀ 0 (append_below (bytes_at t) i) → l' ≡ stored l (20 * i) (bytes_at t i) → l' ≡ stored l₀ 0 (append_below (bytes_at t) (i + 1))
  bytes_more l l' i e q = blocks_more (bytes_at t) 20 (field_long t) l₀ l l' i (20 * i) refl e q

  pub bytes_end : (l : List ℕ) (n : ℕ) → 20 * n ≤ length l₀ → l ≡ stored l₀ 0 (append_below (bytes_at t) n) → l ≡ append_below (bytes_at t) n ++ drop (20 * n) l₀
  bytes_end l n h e = blocks_end (bytes_at t) 20 (field_long t) l₀ l n n (omega arith) (omega arith) h e

pub ruleset number_blocks = (numbers_none, numbers_more, numbers_end)

pub ruleset byte_blocks = (bytes_none, bytes_more, bytes_end)

-- five runs in a row: l₁ .. l₅ are what the calls left
pub field_stored : (l₀ l₁ l₂ l₃ l₄ l₅ : List ℕ) (k core r e w f : ℕ)
    → l₁ ≡ stored l₀ k (4 ∷ 0 ∷ 17 ∷ core ∷ []) → l₂ ≡ stored l₁ (k + 4) (four_bytes r) → l₃ ≡ stored l₂ (k + 8) (four_bytes e)
    → l₄ ≡ stored l₃ (k + 12) (four_bytes w) → l₅ ≡ stored l₄ (k + 16) (four_bytes f)
    → l₅ ≡ stored l₀ k (field_bytes core r e w f)
unfolding field_bytes
field_stored l₀ l₁ l₂ l₃ l₄ l₅ k core r e w f h₁ h₂ h₃ h₄ h₅ =
    let head : List ℕ = 4 ∷ 0 ∷ 17 ∷ core ∷ [] in
    h₅
    ∙ rw (h₄, h₃, h₂, h₁)
    (rw (
      stored_join l₀ head (four_bytes r) k (k + 4) (omega arith),
      stored_join l₀ (head ++ four_bytes r) (four_bytes e) k (k + 8) (rw length-append (omega (arith, four_long r))),
      stored_join l₀ ((head ++ four_bytes r) ++ four_bytes e) (four_bytes w) k (k + 12) (rw (length-append, length-append) (omega (arith, four_long r, four_long e))),
      stored_join l₀ (((head ++ four_bytes r) ++ four_bytes e) ++ four_bytes w) (four_bytes f) k (k + 16) (rw (length-append, length-append, length-append) (omega (arith, four_long r, four_long e, four_long w))),
    )
    (simp append_assoc))
