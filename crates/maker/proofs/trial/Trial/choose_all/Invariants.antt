-- `maker::Trial::choose_all` meets its contract. The places passed have their choice.
use lib.ListN.{take}
use mathlib.Core.Path.{◌≡◌}
use Rattle.model.specs.ListRule.{chosen}
use Rattle.maker.specs.Views.{plan_in}
use Rattle.maker.proofs.trial.Trial.choose_all.Given as goal

abbrev pub invariant-loop-k : goal.invariant-loop-k
invariant-loop-k l = take l.k l.self.choices ≡ chosen (plan_in l.plan) l.k
