-- Windows that grow, all in turn, and by the delays of a column. Assumes nothing.
use mathlib.Core.Path.{◌≡◌, ap, ◌∙◌}
use mathlib.Core.Bool.{Bool, ◌||◌}
use mathlib.Core.List.{List, ◌++◌}
use Prim.Native.Nat.{ℕ, ◌+◌, ◌<◌, max}
use native.Mathlib.Nat.{le_refl}
use native.Mathlib.Omega.{arith}
use lib.ListN.{length, drop, set}
use lib.Dec.{ltb}
use Rattle.model.specs.Below.{at, any_below, list_below}
use Rattle.model.proofs.Below.{join_step, any_same, list_same, list_at, list_length, fill_step}
use Rattle.contention.proofs.Columns.{is_column}

-- ---- all windows in turn: those not passed are as they were
module _ (delays : ℕ → ℕ) (old new : List ℕ) (x : ℕ) (h : x < length old)
    (e : new ≡ list_below (λ y. max (at old y) (delays y)) x ++ drop x old) where
  here : at new x ≡ at old x
  here = (is_column (λ y. max (at old y) (delays y)) x old (omega arith) new e).rest x (le_refl x)

  pub grow_more : (v : ℕ) → v ≡ max (at new x) (delays x) → set new x v ≡ list_below (λ y. max (at old y) (delays y)) (x + 1) ++ drop (x + 1) old
  grow_more v q = fill_step (λ y. max (at old y) (delays y)) old new x v h e (q ∙ ap (λ (v : ℕ). max v (delays x)) here)

  pub grew_more : (b : Bool) → b ≡ any_below (λ y. ltb (at old y) (delays y)) x → (b || ltb (at new x) (delays x)) ≡ any_below (λ y. ltb (at old y) (delays y)) (x + 1)
  grew_more b q = rw (q, here, join_step)

-- ---- the delays are those of a column
module _ (delays : ℕ → ℕ) (n : ℕ) (old due : List ℕ) (e : due ≡ list_below delays n) where
  long : length due ≡ n
  long = ap length e ∙ list_length delays n

  due_at : (x : ℕ) → x < length due → at due x ≡ delays x
  due_at x h = rw e (list_at delays n x (omega (arith, long)))

  pub due_grew : any_below (λ y. ltb (at old y) (at due y)) (length due) ≡ any_below (λ y. ltb (at old y) (delays y)) n
  due_grew =
      any_same (λ y. ltb (at old y) (at due y)) (λ y. ltb (at old y) (delays y)) (length due) (λ y h. ap (ltb (at old y)) (due_at y h))
      ∙ ap (any_below (λ y. ltb (at old y) (delays y))) long

  pub due_grown : list_below (λ y. max (at old y) (at due y)) (length due) ++ drop (length due) old ≡ list_below (λ y. max (at old y) (delays y)) n ++ drop n old
  due_grown =
      ap (λ (l : List ℕ). l ++ drop (length due) old)
      (list_same (λ y. max (at old y) (at due y)) (λ y. max (at old y) (delays y)) (length due) (λ y h. ap (max (at old y)) (due_at y h)))
      ∙ ap (λ (m : ℕ). list_below (λ y. max (at old y) (delays y)) m ++ drop m old) long
