-- `bus::play` meets its contract. The front of the cores has the phases.
use Rattle.bus.proofs.Fronts.{playable_front}
use Rattle.bus.proofs.play.Goals as goal

pub play_phases-requires-clause-playable : goal.play_phases-requires-clause-playable
play_phases-requires-clause-playable c = playable_front _ _ _ _ _ _ _ c.requires.sized c.requires.playable
