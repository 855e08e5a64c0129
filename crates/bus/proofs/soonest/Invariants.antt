-- `bus::soonest`: the best of the numbers passed.
use Rattle.bus.proofs.Heads.{Best}
use Rattle.bus.proofs.soonest.Given as goal

abbrev pub invariant-loop-i : goal.invariant-loop-i
invariant-loop-i g l = Best (goal.V-post g l.value) (goal.P-post g l.passes) l.count l.i l.best
