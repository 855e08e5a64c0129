-- `contention::reach::Reach::rivals` meets its contract. Nothing outside of the range looked at is a rival.
use Rattle.model.specs.Below.{at}
use Rattle.contention.proofs.Ranges.{back_le, rivals_between}
use native.Mathlib.Omega.{arith}
use Rattle.contention.proofs.reach.Reach.rivals.Goals as goal

pub near_between-n-requires-clause-ordered : goal.near_between-n-requires-clause-ordered
near_between-n-requires-clause-ordered c =
    let r = c.args.self.now in
    omega (arith, c.back_to-lo.ensures, c.ahead_to-hi.ensures.from, back_le r.tops.now (at r.phases.start.now c.args.x) c.args.x)

pub returns : goal.returns
returns c =
    let r = c.args.self.now in
    let n = rivals_between r.phases.core.now r.spread c.requires.phase c.requires.loaded c.back_to-lo.ensures (omega (arith, c.ahead_to-hi.ensures.within, r.lows_all)) (λ b. c.ahead_to-hi.ensures.here (omega (arith, b, r.lows_all))) c.near_between-n.ensures in
    omega (arith, n, c.min.ensures)
