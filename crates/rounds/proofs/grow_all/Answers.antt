-- `rounds::grow_all` meets its contract. The windows passed have grown; the others are as they were.
use Rattle.model.specs.Below.{at}
use Rattle.rounds.proofs.Growth.{grow_more, grew_more}
use lib.ListN.{length}
use Prim.Native.Nat.{◌<◌}
use native.Mathlib.Omega.{arith}
use Rattle.rounds.proofs.grow_all.Goals as goal

pub loop-x-preserved : goal.loop-x-preserved
loop-x-preserved c =
    let i = c.loop-x.invariant in
    let h : c.loop-x.x < length c.args.lengths.now = omega arith in
    record {
      grew = grew_more (at c.args.due.now) c.args.lengths.now _ _ h i.grown _ i.grew;
      grown = grow_more (at c.args.due.now) c.args.lengths.now _ _ h i.grown _ c.max.ensures;
    }
