-- `bus::run::Run::open_answers` meets its contract. Two numbers more each turn.
use mathlib.Core.Path.{refl}
use Rattle.model.proofs.Stores.{blocks_none, blocks_more, blocks_end}
use Rattle.bus.specs.OneGrant.{opened}
use Rattle.bus.proofs.Filled.{two_stored}
use Rattle.bus.proofs.run.Run.open_answers.Goals as goal

pub loop-x-init : goal.loop-x-init
loop-x-init c = blocks_none _ 2 (λ _. refl) _

pub loop-x-preserved : goal.loop-x-preserved
loop-x-preserved c = blocks_more _ 2 (λ _. refl) _ _ _ _ _ refl c.loop-x.invariant (two_stored _ _ _ _)

pub returns : goal.returns
unfolding opened
returns c = blocks_end _ 2 (λ _. refl) _ _ _ _ c.loop-x.auto.x-end c.loop-x-test.false c.requires c.loop-x.invariant
