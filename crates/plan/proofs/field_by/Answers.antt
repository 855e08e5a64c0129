-- `plan::field_by` meets its contract. The field that the step found is whole.
use Rattle.std.proofs.Common.{arith}
use Rattle.plan.proofs.Fields.{found_whole}
use Rattle.plan.proofs.field_by.Goals as goal

pub by_tag-requires : goal.by_tag-requires
by_tag-requires c =
    let w = found_whole _ _ _ _ _ c.step_from.ensures c.in_ok-field.was c.in-Some.is in
    record { known = w.known; whole = omega (arith, w.fits, w.sized) }
