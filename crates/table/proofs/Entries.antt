-- What the numbers are that a writer is given, where its checks let them pass. Assumes nothing.
use mathlib.Core.Path.{◌≡◌}
use mathlib.Core.Bool.{not}
use mathlib.Core.List.{List}
use Prim.Native.Nat.{ℕ, ◌*◌, ◌≤◌, ◌<◌}
use native.Mathlib.Omega.{arith}
use lib.ListN.{length}
use borrow.Author.Tests.{eqb-true, not-false, leb-false}
use lib.Dec.{eqb, leb}
use Rattle.model.specs.Below.{at}
use Rattle.model.specs.Refusals.{refusal, refuse_if, first_bad, Check}
use Rattle.model.specs.Table.{of_numbers, non_falling, values_of, values_at, values_check}
use Rattle.model.specs.declared.Fault.TheVariants.{FieldCount, CoreUnknown, MarksFalling}
use Rattle.model.specs.declared.Side.TheVariants.{OfTable}
use Rattle.model.proofs.Refusals.{or_good, not_refused, first_each}
use Rattle.std.specs.Prelude.{Ok}

module _ (cs n : ℕ) (v : List ℕ) where
  -- what good numbers are
  other : Check
  other = refuse_if (not (eqb (length v) (5 * n))) (refusal FieldCount OfTable (20 * n))

  given_both : values_check cs n v ≡ Ok tt → (other ≡ Ok tt) × (first_bad (values_at cs (of_numbers v)) n ≡ Ok tt)
  unfolding values_check other
  given_both g = or_good (refuse_if (not (eqb (length v) (5 * n))) (refusal FieldCount OfTable (20 * n))) (first_bad (values_at cs (of_numbers v)) n) g

  pub given_length : values_check cs n v ≡ Ok tt → length v ≡ 5 * n
  unfolding other
  given_length g =
      let b = given_both g in
      eqb-true (length v) (5 * n) (not-false (eqb (length v) (5 * n)) (not_refused _ (refusal FieldCount OfTable (20 * n)) b.0))

  pub given_values : values_check cs n v ≡ Ok tt → first_bad (values_at cs (of_numbers v)) n ≡ Ok tt
  given_values g = (given_both g).1

  pub given_core : values_check cs n v ≡ Ok tt → (i : ℕ) → i < n → (of_numbers v).core i < cs
  unfolding values_of
  given_core g i h =
      let b = given_both g in
      let t = of_numbers v in
      let c = or_good (refuse_if (leb cs (t.core i)) (refusal CoreUnknown OfTable (20 * i))) (refuse_if (not (non_falling (t.R i) (t.E i) (t.W i) (t.F i))) (refusal MarksFalling OfTable (20 * i))) (first_each (values_at cs (of_numbers v)) n b.1 i h) in
      leb-false cs ((of_numbers v).core i) (not_refused (leb cs ((of_numbers v).core i)) (refusal CoreUnknown OfTable (20 * i)) c.0)

-- a bus has 8 cores at most
pub given_byte : (cs n : ℕ) (v : List ℕ) → values_check cs n v ≡ Ok tt → cs ≤ 8 → (i : ℕ) → i < n → at v (5 * i) < 256
given_byte cs n v g h i l = omega (arith, given_core cs n v g i l)
