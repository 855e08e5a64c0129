-- `placing::Earlier::exclusive_start` meets its contract. Every start that was passed clashes; the greatest end is not passed.
use lib.ListN.{length}
use Prim.Native.Nat.{◌≤◌, ◌-◌, max}
use Rattle.model.specs.Below.{at, max_below}
use Rattle.placing.proofs.Exclusive.{Passed}
use Rattle.placing.proofs.earlier.Earlier.exclusive_start.Given as goal

abbrev pub invariant-loop-r : goal.invariant-loop-r
invariant-loop-r l =
    let e = l.self in
    record {
      later : l.from ≤ l.r;
      within : l.r ≤ max l.from (max_below (at e.closes.now) (length e.core.now));
      passed : Passed e.core.now e.start.now e.closes.now e.closes.now (length e.core.now) l.task l.from l.r;
    }

abbrev pub decreases-loop-r : goal.decreases-loop-r
decreases-loop-r l = let e = l.self in max l.from (max_below (at e.closes.now) (length e.core.now)) - l.r
