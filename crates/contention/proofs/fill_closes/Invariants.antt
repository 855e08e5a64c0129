-- `contention::fill_closes` meets its contract. The closes passed are in place.
use lib.ListN.{drop}
use mathlib.Core.List.{◌++◌}
use mathlib.Core.Path.{◌≡◌}
use Rattle.model.specs.Below.{at, list_below}
use Rattle.contention.specs.Columns.{close_of}
use Rattle.contention.proofs.fill_closes.Given as goal

abbrev pub invariant-loop-y : goal.invariant-loop-y
invariant-loop-y l = l.closes ≡ list_below (λ z. close_of (at l.phases.words.now z) (at l.phases.end.now z)) l.y ++ drop l.y l.initial.closes
