-- What a step over a table's bytes says of a task's field. Assumes nothing.
use mathlib.Core.Path.{◌≡◌}
use mathlib.Core.List.{List}
use Prim.Native.Nat.{ℕ, ◌+◌, ◌*◌, ◌≤◌}
use native.Mathlib.Omega.{arith}
use lib.ListN.{length}
use Rattle.std.specs.Prelude.{Some, Ok}
use Rattle.model.specs.Field.{table_step}
use Rattle.model.specs.declared.Field.{Field}
use Rattle.model.specs.declared.Side.TheVariants.{OfTable}
use Rattle.model.proofs.FieldLaws.{whole, row_body}

-- what a table's step finds is a whole field of 20 bytes
pub row_whole : (s : List ℕ) (i : ℕ) {f : Field} → table_step s (20 * i) ≡ Ok (Some f) → 20 * i + 20 ≤ length s
row_whole s i {f} e =
    let w = whole OfTable s (20 * i) e in
    let b = row_body f.tag w.known in
    omega (arith, w.fits, w.sized, b.1)
