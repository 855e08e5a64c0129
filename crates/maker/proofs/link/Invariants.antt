-- `maker::link` meets its contract. The edges passed are in the chains.
use mathlib.Core.Path.{◌≡◌}
use Rattle.maker.specs.Renumbering.{linked_by}
use Rattle.maker.proofs.link.Given as goal

abbrev pub invariant-loop-e : goal.invariant-loop-e
invariant-loop-e l = l.links ≡ linked_by l.targets l.initial.links l.e
