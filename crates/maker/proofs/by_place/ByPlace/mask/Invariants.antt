-- `maker::ByPlace::mask` meets its contract. The edges passed are in place.
use lib.ListN.{drop}
use mathlib.Core.List.{◌++◌}
use mathlib.Core.Path.{◌≡◌}
use Rattle.model.specs.Below.{list_below}
use Rattle.maker.specs.Renumbering.{masked_at}
use Rattle.maker.proofs.by_place.ByPlace.mask.Given as goal

abbrev pub invariant-loop-e : goal.invariant-loop-e
invariant-loop-e l = l.column ≡ list_below (masked_at l.self.edges.sources.now l.self.edges.targets.now l.self.edges.amounts.now l.k) l.e ++ drop l.e l.initial.column
