-- `contention::fill_tops` meets its contract. The greatest close passed, and the tops passed are in place.
use lib.ListN.{drop}
use mathlib.Core.List.{◌++◌}
use mathlib.Core.Path.{◌≡◌}
use Rattle.model.specs.Below.{at, max_below, list_below}
use Rattle.contention.proofs.fill_tops.Given as goal

abbrev pub invariant-loop-y : goal.invariant-loop-y
invariant-loop-y l = (l.most ≡ max_below (at l.closes) l.y) × (l.tops ≡ list_below (max_below (at l.closes)) l.y ++ drop l.y l.initial.tops)
