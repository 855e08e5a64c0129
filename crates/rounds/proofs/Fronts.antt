-- Lists at the front of a column. Assumes nothing.
use mathlib.Core.Path.{◌≡◌, ap, ◌∙◌}
use mathlib.Core.List.{List, ◌++◌}
use Prim.Native.Nat.{ℕ, ◌≤◌, ◌<◌}
use native.Mathlib.Omega.{arith}
use lib.ListN.{length, take, drop, length-append, get_or-append}
use lib.Seq.{take_at, drop_at}
use Rattle.model.specs.Below.{at}

-- a list l of m entries
module _ (l rest new : List ℕ) (m : ℕ) (long : length l ≡ m) (e : new ≡ l ++ rest) where
  pub front_at : (x : ℕ) → x < m → at new x ≡ at l x
  front_at x h = ap (λ (y : List ℕ). at y x) e ∙ get_or-append l rest 0 x (omega arith)

  pub front_room : m ≤ length new
  front_room = omega (arith, ap length e, length-append l rest)

  pub front_take : take m new ≡ l
  front_take = ap (take m) e ∙ take_at l rest m long

  pub front_drop : drop m new ≡ rest
  front_drop = ap (drop m) e ∙ drop_at l rest m long
