-- `maker::Trial::choose` meets its contract. The best of the choices tried.
use mathlib.Core.Path.{◌≡◌, ◌∙◌}
use Prim.Native.Nat.{◌*◌}
use native.Mathlib.Omega.{arith}
use Rattle.maker.specs.Views.{plan_in}
use Rattle.maker.proofs.Choosing.{leading_less, leading_more, chosen_next}
use Rattle.maker.proofs.trial.Trial.choose.Goals as goal
use Rattle.maker.proofs.trial.Trial.choose.Goals.{then-span-least, else-span-least}

pub loop-choice-preserved : goal.loop-choice-preserved
loop-choice-preserved c =
    let i = c.loop-choice.invariant in
    let s = c.span_choosing-span.ensures in
    record {
      within = cc;
      kept = s.kept ∙ i.kept;
      leading =
          elim c.if-span-least.branch [
            | then-span-least w ↦ rw (w.least-is, w.best-is) (leading_less _ _ _ _ _ i.leading s.span w.if-span-least.true)
            | else-span-least w ↦ rw (w.least-is, w.best-is) (leading_more _ _ _ _ _ i.leading s.span (omega arith) w.if-span-least.false)
          ];
    }

pub returns : goal.returns
returns c =
    let i = c.loop-choice.invariant in
    let e : c.loop-choice.choice ≡ 2 * c.args.plan.now.bus.cores = omega arith in
    chosen_next (plan_in c.args.plan.now) c.args.k c.loop-choice.self.choices (omega (arith, c.args.plan.now.listed.few_tasks)) i.kept _ (rw e at i.leading.first)
