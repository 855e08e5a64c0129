-- `maker::Trial::settle` meets its contract. The columns are the candidate.
use mathlib.Core.Path.{refl, ◌∙◌}
use native.Mathlib.Omega.{arith}
use lib.Seq.{length-take-le}
use Rattle.std.proofs.lemmas.Grind.{common_steps}
use Rattle.maker.specs.Views.{plan_in}
use Rattle.maker.proofs.Candidates.{ready, span_is, placed_is}
use Rattle.maker.proofs.trial.Trial.settle.Goals as goal

pub invariant_of-candidate : goal.invariant_of-candidate
invariant_of-candidate c =
    let p = c.args.plan.now in
    record {
      ready = ready (plan_in p) p.links.now p.listed c.args.n c.requires.places _ _ c.requires.within (grind (arith, common_steps));
      few_cores = λ a h. c.requires.few_cores a (omega (arith, h, length-take-le c.args.n p.costs.now c.requires.places));
    }

pub returns-clause-span : goal.returns-clause-span
returns-clause-span c =
    let p = c.args.plan.now in
    c.settle.ensures.span ∙ span_is (plan_in p) p.links.now p.listed c.args.n c.requires.places _ _ c.requires.within (grind (arith, common_steps))

pub returns-clause-placed : goal.returns-clause-placed
returns-clause-placed c =
    let p = c.args.plan.now in
    let s = c.settle.ensures in
    placed_is (plan_in p) p.links.now p.listed c.args.n c.requires.places _ _ c.requires.within (grind (arith, common_steps)) _ _ _ _ _ _ _ refl s.cores s.starts s.ends
