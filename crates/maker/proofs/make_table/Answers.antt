-- `maker::make_table` meets its contract. The plan by place, then its schedule.
use Rattle.maker.specs.Views.{plan_of_columns}
use Rattle.maker.proofs.Listing.{order_known, by_place, targets_known, tasks_same, ordered, listed_by, makespan_is, bytes_are}
use mathlib.Core.Path.{◌∙◌}
use native.Mathlib.Omega.{arith}
use Rattle.std.proofs.lemmas.Grind.{common_steps}
use Rattle.maker.proofs.make_table.Goals as goal

pub fill_costs-requires-clause-known : goal.fill_costs-requires-clause-known
fill_costs-requires-clause-known c = order_known (plan_of_columns c.args.columns.now) _ c.requires.planned

pub link-requires-clause-known : goal.link-requires-clause-known
link-requires-clause-known c =
    let k = c.requires.planned in
    let p = plan_of_columns c.args.columns.now in
    let e = by_place p _ k _ _ _ _ _ _ c.fill_costs.ensures.filled c.fill_places.ensures c.fill_places-2.ensures in
    (targets_known p _ k _ e).1

pub invariant_of-plan : goal.invariant_of-plan
invariant_of-plan c =
    let k = c.requires.planned in
    let p = plan_of_columns c.args.columns.now in
    let e = by_place p _ k _ _ _ _ _ _ c.fill_costs.ensures.filled c.fill_places.ensures c.fill_places-2.ensures in
    record {
      listed = listed_by p _ k c.fill_costs.ensures.small _ _ e c.link.ensures;
      ordered = rw (tasks_same p _ k _ e) (ordered p _ k);
    }

pub returns-clause-span : goal.returns-clause-span
returns-clause-span c =
    let k = c.requires.planned in
    let p = plan_of_columns c.args.columns.now in
    let e = by_place p _ k _ _ _ _ _ _ c.fill_costs.ensures.filled c.fill_places.ensures c.fill_places-2.ensures in
    c.schedule.ensures.span ∙ makespan_is p _ k _ e

pub returns-clause-table : goal.returns-clause-table
returns-clause-table c =
    let k = c.requires.planned in
    let p = plan_of_columns c.args.columns.now in
    let e = by_place p _ k _ _ _ _ _ _ c.fill_costs.ensures.filled c.fill_places.ensures c.fill_places-2.ensures in
    rw (bytes_are p _ k _ e, tasks_same p _ k _ e) at c.schedule.ensures.table ∙ grind (arith, common_steps)
