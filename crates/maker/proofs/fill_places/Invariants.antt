-- `maker::fill_places` meets its contract. The edges passed have their place.
use lib.ListN.{drop}
use mathlib.Core.List.{◌++◌}
use mathlib.Core.Path.{◌≡◌}
use Rattle.model.specs.Below.{at, list_below}
use Rattle.model.specs.Graph.{place_of}
use Rattle.maker.proofs.fill_places.Given as goal

abbrev pub invariant-loop-e : goal.invariant-loop-e
invariant-loop-e l = l.column ≡ list_below (λ d. place_of l.order (at l.ends d)) l.e ++ drop l.e l.initial.column
