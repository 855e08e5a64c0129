-- `maker::fill_costs` meets its contract. The places passed have their task's execute time.
use lib.ListN.{drop}
use mathlib.Core.List.{◌++◌}
use mathlib.Core.Path.{◌≡◌}
use Rattle.model.specs.Below.{at, list_below}
use Rattle.maker.proofs.fill_costs.Given as goal

abbrev pub invariant-loop-a : goal.invariant-loop-a
invariant-loop-a l = l.column ≡ list_below (λ b. at l.costs (at l.order b)) l.a ++ drop l.a l.initial.column
