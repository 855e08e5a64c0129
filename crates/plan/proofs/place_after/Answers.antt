-- `plan::place_after` meets its contract. A field ends within the bytes.
use Rattle.std.proofs.Common.{arith}
use Rattle.plan.proofs.Fields.{found_whole}
use Rattle.plan.proofs.place_after.Goals as goal

pub overflow_add-result : goal.overflow_add-result
overflow_add-result c = let w = found_whole _ _ _ _ _ c.field_at.ensures c.in-Ok-Some.is c.in-Ok-Some.field-0-is in omega (arith, w.here, w.fits)

pub overflow_add-result-in-Ok-Some : goal.overflow_add-result-in-Ok-Some
overflow_add-result-in-Ok-Some c = let w = found_whole _ _ _ _ _ c.field_at.ensures c.in-Ok-Some.is c.in-Ok-Some.field-0-is in omega (arith, w.here, w.fits)
