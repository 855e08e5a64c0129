-- `maker::Trial::finish` meets its contract. The winner settled, then written.
use mathlib.Core.List.{List, ◌++◌}
use Prim.Native.Nat.{ℕ, ◌*◌}
use lib.ListN.{length, drop}
use mathlib.Core.Path.{◌∙◌, ap}
use Rattle.model.specs.ListRule.{makespan_of}
use Rattle.maker.specs.Views.{plan_in}
use Rattle.maker.proofs.Choosing.{chosen_few}
use Rattle.maker.proofs.Candidates.{cores_small, winner_is}
use Rattle.maker.proofs.Rows.{finished_bytes}
use Rattle.maker.proofs.trial.Trial.finish.Goals as goal

pub settle-span-requires-clause-few_cores : goal.settle-span-requires-clause-few_cores
settle-span-requires-clause-few_cores c =
    let p = c.args.plan.now in
    rw c.requires.chosen (chosen_few (plan_in p) p.links.now _ p.listed)

pub put_table-requires-clause-few_cores : goal.put_table-requires-clause-few_cores
put_table-requires-clause-few_cores c =
    let p = c.args.plan.now in
    cores_small (plan_in p) p.links.now _ _ _ _ _ p.listed c.requires.chosen c.settle-span.ensures.placed

pub returns-clause-span : goal.returns-clause-span
returns-clause-span c = c.settle-span.ensures.span ∙ ap makespan_of (winner_is (plan_in c.args.plan.now) _ c.requires.chosen)

pub returns-clause-table : goal.returns-clause-table
returns-clause-table c =
    let p = c.args.plan.now in
    let placed = rw (winner_is (plan_in p) _ c.requires.chosen) at c.settle-span.ensures.placed in
    c.put_table.ensures
    ∙ ap (λ (l : List ℕ). l ++ drop (20 * length p.costs.now) c.args.out.now) (finished_bytes _ _ _ _ _ _ p.ordered placed)
