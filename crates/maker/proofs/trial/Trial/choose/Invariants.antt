-- `maker::Trial::choose` meets its contract. The best of the choices tried.
use lib.ListN.{take}
use mathlib.Core.Path.{◌≡◌}
use Prim.Native.Nat.{◌+◌}
use Rattle.model.specs.ListRule.{chosen}
use Rattle.maker.specs.Choosing.{span_choosing}
use Rattle.maker.specs.Views.{plan_in, Within}
use Rattle.maker.proofs.Choosing.{Leading}
use Rattle.maker.proofs.trial.Trial.choose.Given as goal

abbrev pub invariant-loop-choice : goal.invariant-loop-choice
invariant-loop-choice l =
    record {
      within : Within l.plan (l.k + 1) l.self.within;
      kept : take l.k l.self.choices ≡ chosen (plan_in l.plan) l.k;
      leading : Leading (span_choosing (plan_in l.plan) l.k) l.choice l.best l.least;
    }
