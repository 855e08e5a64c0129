-- `bus::run::Run::turn`: no core passed asks.
use Rattle.std.proofs.Common.{ℕ, ◌≡◌, ◌<◌, length, false}
use Rattle.bus.specs.Heads.{after_of}
use Rattle.bus.specs.Runs.{asks_in}
use Rattle.bus.proofs.run.Run.turn.Given as goal

abbrev pub invariant-loop-i : goal.invariant-loop-i
invariant-loop-i l = (k : ℕ) → k < l.i → asks_in l.self l.time (after_of (length l.self.head.now) l.last k) ≡ false
