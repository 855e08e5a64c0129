-- `plan::Columns::parse` meets its contract. Each field carries the plan so far on (proofs/Fields.antt).
use Rattle.std.proofs.lemmas.Result.{err_from_is_err_and}
use Rattle.plan.proofs.Fields.{from_start, from_next, from_less, seen_room, columns_room, from_complete, from_refused}
use Rattle.plan.proofs.Columns.parse.Goals as goal

pub loop-taken-init : goal.loop-taken-init
loop-taken-init c = from_start _ _ c.requires

pub returns-in_err-taken : goal.returns-in_err-taken
returns-in_err-taken c =
    let p = err_from_is_err_and c.from_residual.result c.from_residual.ensures.1 in
    let e = from_refused _ _ _ c.loop-taken.invariant _ c.field_of.ensures c.in_err-taken.was in
    rw (p.1, p.2) (record { check = e.0; columns = e.1 })

pub keep-requires : goal.keep-requires
keep-requires c = columns_room _ _ _ c.loop-taken.invariant _ c.field_of.ensures _ (rw c.in-Some.is at c.in_ok-taken.was)

pub after-seen-requires : goal.after-seen-requires
after-seen-requires c = seen_room _ _ _ c.loop-taken.invariant _ c.field_of.ensures _ (rw c.in-Some.is at c.in_ok-taken.was)

pub loop-taken-smaller : goal.loop-taken-smaller
loop-taken-smaller c = from_less _ _ _ c.loop-taken.invariant _ c.field_of.ensures _ (rw c.in-Some.is at c.in_ok-taken.was) _ c.after-seen.ensures

pub loop-taken-preserved : goal.loop-taken-preserved
loop-taken-preserved c = from_next _ _ _ c.loop-taken.invariant _ c.field_of.ensures _ (rw c.in-Some.is at c.in_ok-taken.was) _ c.after-seen.ensures _ c.keep.ensures

pub returns : goal.returns
returns c = let e = from_complete _ _ _ c.loop-taken.invariant _ c.field_of.ensures (rw c.in_default.is at c.in_ok-taken.was) in record { check = e.0; columns = e.1 }
