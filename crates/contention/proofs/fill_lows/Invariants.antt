-- `contention::fill_lows` meets its contract. The least start of the phases passed from behind, and the lows passed are in place.
use lib.ListN.{length}
use Rattle.contention.proofs.Ranges.{Least, Lows}
use Rattle.contention.proofs.fill_lows.Given as goal

abbrev pub invariant-loop-y : goal.invariant-loop-y
invariant-loop-y l = Least l.start l.closes (length l.closes) l.y l.least × Lows l.start l.closes (length l.closes) l.y l.lows
