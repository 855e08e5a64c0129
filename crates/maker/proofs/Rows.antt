-- The table by task, from the columns by place. Assumes nothing.
use mathlib.Core.Path.{◌≡◌, sym, ap, ◌∙◌}
use mathlib.Core.List.{List, ◌++◌}
use Prim.Native.Nat.{ℕ, ◌+◌, ◌*◌, ◌≤◌, ◌<◌}
use native.Mathlib.Omega.{arith}
use lib.ListN.{length, take}
use lib.Seq.{take_at}
use Rattle.std.proofs.lemmas.List.{take_all}
use Rattle.model.specs.Graph.{place_of}
use Rattle.model.specs.Below.{join_below, append_below, stored}
use Rattle.model.specs.Table.{Table, of_numbers, numbers_at, bytes_at, bytes}
use Rattle.model.proofs.ReadBack.{bytes_same}
use Rattle.table.proofs.Rows.{numbers_long, field_long, bytes_more}
use Rattle.model.proofs.Stores.{part_stored}
use borrow.Rule.Slice.PartMut.{put_mid}
use Rattle.maker.specs.Renumbering.{rows_by}
use Rattle.maker.specs.Choosing.{by_task, Ordered, Placed}

-- ---- the numbers of one task, and its bytes
module _ (t : Table) (i : ℕ) (row : List ℕ) (e : row ≡ numbers_at t i) where
  pub row_long : length row ≡ 5
  row_long = ap length e ∙ numbers_long t i

  pub row_core : t.core i < 256 → (j : ℕ) → j < 1 → (of_numbers row).core j < 256
  unfolding numbers_at
  row_core h j l =
      let z : j ≡ 0 = omega arith in
      rw (z, e) h

  row_bytes : bytes (of_numbers row) 1 ≡ bytes_at t i
  unfolding numbers_at join_below
  row_bytes = rw e

  -- written behind those of the tasks before it
  pub rows_more :
      (first out rest part : List ℕ) (k : ℕ) → out ≡ stored first 0 (append_below (bytes_at t) i) → part ≡ bytes (of_numbers row) 1 ++ rest
      → length part ≤ 20 → k ≡ 20 → 20 * i + 20 ≤ length out → put_mid (20 * i) k out part ≡ stored first 0 (append_below (bytes_at t) (i + 1))
  rows_more first out rest part k s e long ek fits =
      let same : part ≡ bytes_at t i = sym (take_all 20 part long) ∙ ap (take 20) (rw row_bytes at e) ∙ take_at (bytes_at t i) rest 20 (field_long t i) in
      bytes_more t first out _ i s (part_stored out part (bytes_at t i) (20 * i) k same (field_long t i ∙ sym ek) (omega arith))

-- ---- the columns that a settled candidate leaves are its table
pub finished_bytes :
    (n : ℕ) (order cores start end : List ℕ) (t : Table) → Ordered n order → Placed n t cores start end
    → bytes (by_task order (rows_by cores start end)) n ≡ bytes (by_task order t) n
finished_bytes n order cores start end t o p =
    bytes_same n (by_task order (rows_by cores start end)) (by_task order t)
    (record {
      core = λ i h. p.core (place_of order i) (o.placed i h);
      R = λ i h. p.R (place_of order i) (o.placed i h);
      E = λ i h. p.E (place_of order i) (o.placed i h);
      W = λ i h. p.W (place_of order i) (o.placed i h);
      F = λ i h. p.F (place_of order i) (o.placed i h);
    })
