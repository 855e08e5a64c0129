-- The round trips, in the entry points' own answers, and that each promise settles its answer and its output.
-- Assumes nothing.
use mathlib.Core.Path.{◌≡◌, sym, ◌∙◌}
use mathlib.Core.List.{List, ◌++◌}
use Prim.Native.Nat.{ℕ, ◌*◌, ◌≤◌, ◌<◌}
use native.Mathlib.Omega.{arith}
use lib.ListN.{length, drop}
use borrow.Author.Tests.{le-ltb, eq-eqb}
use Rattle.model.specs.Below.{at}
use Rattle.model.specs.Refusals.{or_else, Check}
use Rattle.model.specs.Plan.{tasks, cores}
use Rattle.model.specs.Graph.{plan_of}
use Rattle.model.specs.Table.{of_numbers, of_bytes, numbers_at, numbers, bytes, rows_check, table_of, values_at, values_check}
use Rattle.model.specs.Answers.{room, decoding, decoded_of, decoded_output, writing, written_of, written_output}
use Rattle.model.proofs.Refusals.{passed, or_good, and_then_lem, first_all}
use Rattle.model.proofs.RoundTrip.{of_numbers_lem, in_range_same, values_good, written_reads, blocks_length}
use Rattle.model.proofs.ReadBack.{numbers_write, numbers_all, values_in_range, rows_in_range, rows_length}
use Rattle.model.proofs.Verdicts.{done_yes}
use Rattle.table.proofs.Rows.{numbers_long}
use Rattle.table.proofs.Entries.{given_length, given_values}
use Rattle.std.specs.Prelude.{Ok}

-- ---- "Read then write gives the same bytes"
pub read_write : (plan s out : List ℕ) → ((k : ℕ) → at s k < 256) → decoded_of plan s out ≡ Ok tt
    → (v : List ℕ) × (decoded_output plan s out ≡ v ++ drop (length v) out)
    × ((lent : List ℕ) → length s ≤ length lent → (written_of plan v lent ≡ Ok tt) × (written_output plan v lent ≡ s ++ drop (length s) lent))
unfolding decoded_of decoded_output decoding table_of writing written_of written_output room values_check
read_write plan s out small e =
    let g = done_yes (decoding plan s out) e in
    and_then_lem (plan_of plan) _ g.1 (λ p ep q.
    and_then_lem (table_of p s) _ q (λ w et x.
    let pr = passed (room (5 * tasks p) out) w x in
    let pt = passed (rows_check (cores p) (tasks p) s) (numbers (of_bytes s) (tasks p)) et in
    let v = numbers (of_bytes s) (tasks p) in
    let same : v ≡ g.0 = pt.1 ∙ pr.1 in
    let long = rows_length (cores p) (tasks p) s pt.0 in
    let range = in_range_same p (of_bytes s) (of_numbers v) (tasks p) (of_numbers_lem (tasks p) (of_bytes s)) (rows_in_range p s pt.0) in
    let five = eq-eqb (length v) (5 * tasks p) (blocks_length (numbers_at (of_bytes s)) 5 (numbers_long (of_bytes s)) (tasks p)) in
    let good = first_all (values_at (cores p) (of_numbers v)) (tasks p) (λ i h. values_good p (of_numbers v) (tasks p) i h range) in
    let back = numbers_write (cores p) (tasks p) s small pt.0 in (
      v,
      rw (g.1, ← same),
      λ lent h.
          let l = le-ltb (length lent) (20 * tasks p) (omega arith) in
          (rw (ep, five, good, l), rw (ep, five, good, l, back)),
    )))

-- ---- "valid values written read back the same"
pub write_read : (plan v out : List ℕ) → written_of plan v out ≡ Ok tt
    → (s : List ℕ) × (written_output plan v out ≡ s ++ drop (length s) out)
    × ((lent : List ℕ) → length v ≤ length lent → (decoded_of plan s lent ≡ Ok tt) × (decoded_output plan s lent ≡ v ++ drop (length v) lent))
unfolding decoded_of decoded_output decoding writing written_of written_output room
write_read plan v out e =
    let g = done_yes (writing plan v out) e in
    and_then_lem (plan_of plan) _ g.1 (λ p ep q.
    let pr = passed (or_else (values_check (cores p) (tasks p) v) (room (20 * tasks p) out)) (bytes (of_numbers v) (tasks p)) q in
    let ok = or_good (values_check (cores p) (tasks p) v) (room (20 * tasks p) out) pr.0 in
    let long = given_length (cores p) (tasks p) v ok.0 in
    let range = values_in_range p v (given_values (cores p) (tasks p) v ok.0) in
    let s = bytes (of_numbers v) (tasks p) in
    let reads = written_reads p (of_numbers v) range in
    let all = numbers_all v (tasks p) long in (
      s,
      rw (g.1, ← pr.1),
      λ lent h.
          let l = le-ltb (length lent) (5 * tasks p) (omega arith) in
          (rw (ep, reads, l), rw (ep, reads, l, all)),
    ))

-- ---- what the promises allow is one answer and one output
pub read_one : (plan s out : List ℕ) (r r' : Check) (o o' : List ℕ) → (r ≡ decoded_of plan s out) × (o ≡ decoded_output plan s out)
    → (r' ≡ decoded_of plan s out) × (o' ≡ decoded_output plan s out) → (r ≡ r') × (o ≡ o')
read_one plan s out r r' o o' a b = (a.0 ∙ sym b.0, a.1 ∙ sym b.1)

pub write_one : (plan v out : List ℕ) (r r' : Check) (o o' : List ℕ) → (r ≡ written_of plan v out) × (o ≡ written_output plan v out)
    → (r' ≡ written_of plan v out) × (o' ≡ written_output plan v out) → (r ≡ r') × (o ≡ o')
write_one plan v out r r' o o' a b = (a.0 ∙ sym b.0, a.1 ∙ sym b.1)
