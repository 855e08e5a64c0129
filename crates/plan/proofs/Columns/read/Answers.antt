-- `plan::Columns::read` meets its contract. The fields, then the list order (proofs/Whole.antt).
use Rattle.std.proofs.lemmas.Result.{err_from_is_err_and}
use Rattle.std.proofs.Common.{refl}
use Rattle.plan.proofs.Whole.{plan_refused, read_bad, read_few, read_edges, read_good}
use Rattle.plan.proofs.Holding.{held}
use Rattle.plan.proofs.Columns.read.Goals as goal

pub returns-in_err-parse-clause-value : goal.returns-in_err-parse-clause-value
returns-in_err-parse-clause-value c =
    let p = err_from_is_err_and c.from_residual.result c.from_residual.ensures.1 in
    rw (p.1, p.2) (read_bad _ _ c.parse.ensures.columns c.in_err-parse.ensures.check)

pub returns-in_err-parse-clause-planned : goal.returns-in_err-parse-clause-planned
returns-in_err-parse-clause-planned c =
    let p = err_from_is_err_and c.from_residual.result c.from_residual.ensures.1 in
    rw (p.1, p.2) (plan_refused _ _ (read_bad _ _ c.parse.ensures.columns c.in_err-parse.ensures.check) refl)

pub list-requires-clause-few : goal.list-requires-clause-few
list-requires-clause-few c = read_few _ _ c.parse.ensures.columns c.in_ok-parse.ensures.check

pub list-requires-clause-edges : goal.list-requires-clause-edges
list-requires-clause-edges c = read_edges _ _ c.parse.ensures.columns c.in_ok-parse.ensures.check

pub returns-clause-value : goal.returns-clause-value
returns-clause-value c = read_good _ _ c.parse.ensures.columns c.in_ok-parse.ensures.check _ _ c.list.ensures.check c.list.ensures.order

pub returns-clause-planned : goal.returns-clause-planned
returns-clause-planned c =
    held _ _ _ (read_good _ _ c.parse.ensures.columns c.in_ok-parse.ensures.check _ _ c.list.ensures.check c.list.ensures.order)
