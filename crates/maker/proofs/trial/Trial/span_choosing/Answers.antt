-- `maker::Trial::span_choosing` meets its contract. The choice is stored, and the candidate settled.
use mathlib.Core.Path.{◌∙◌, ap}
use mathlib.Core.List.{List}
use Prim.Native.Nat.{ℕ}
use native.Mathlib.Omega.{arith}
use Rattle.model.specs.ListRule.{candidate, makespan_of}
use Rattle.maker.specs.Choosing.{span_choosing}
use Rattle.maker.specs.Views.{plan_in}
use Rattle.maker.proofs.Choosing.{stored_last, stored_few}
use Rattle.maker.proofs.trial.Trial.span_choosing.Goals as goal

pub settle-requires-clause-few_cores : goal.settle-requires-clause-few_cores
settle-requires-clause-few_cores c =
    let p = c.args.plan.now in
    stored_few (plan_in p) c.args.k c.args.self.now.choices (omega (arith, c.args.plan.now.listed.few_tasks)) c.requires.kept p.links.now c.args.choice p.listed c.requires.few_cores

pub returns-clause-span : goal.returns-clause-span
unfolding span_choosing
returns-clause-span c =
    let q = plan_in c.args.plan.now in
    c.settle.ensures.span ∙ ap (λ (l : List ℕ). makespan_of (candidate q l)) (stored_last q c.args.k c.args.self.now.choices (omega (arith, c.args.plan.now.listed.few_tasks)) c.requires.kept c.args.choice)
