-- `model::first_bad`: a check that refuses decides.
use Rattle.std.proofs.lemmas.Result.{err_from_is_err_and}
use Rattle.std.proofs.Common.{sym}
use Rattle.model.proofs.Refusals.{first_out}
use Rattle.model.proofs.first_bad.Goals as goal

pub returns-in_err-check : goal.returns-in_err-check
returns-in_err-check g c =
    let p = err_from_is_err_and c.from_residual.result c.from_residual.ensures.1 in
    λ f h.
    rw (p.1, p.2)
    (sym
    (first_out f c.args.count c.loop-i.i c.loop-i-test.true (c.loop-i.invariant f h)
    (sym (h c.loop-i.i _ c.loop-i-test.true c.in_err-check.ensures))))
