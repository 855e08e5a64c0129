-- `contention::phase_words` meets its contract. The words of the edges passed (proofs/Loads.antt).
use Rattle.contention.proofs.Loads.{loaded_none, loaded_most, loaded_more, loaded_all}
use Rattle.contention.proofs.phase_words.Goals as goal

pub loop-e-init : goal.loop-e-init
loop-e-init c = loaded_none c.requires.known _ _ c.requires.room (c.fill.ensures.after (λ y e. e))

pub add_edge-requires-clause-loads : goal.add_edge-requires-clause-loads
add_edge-requires-clause-loads c = loaded_most c.requires.known _ _ c.requires.room _ c.loop-e.invariant

pub loop-e-preserved : goal.loop-e-preserved
loop-e-preserved c = loaded_more c.requires.known _ _ c.requires.room _ c.loop-e.invariant c.loop-e-test.true c.add_edge.ensures

pub returns : goal.returns
returns c = loaded_all c.requires.known _ _ c.requires.room _ c.loop-e.invariant c.loop-e.auto.e-end c.loop-e-test.false
