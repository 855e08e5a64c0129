-- `contention::fill_delays` meets its contract. The delays passed are in place.
use lib.ListN.{drop}
use mathlib.Core.List.{◌++◌}
use mathlib.Core.Path.{◌≡◌}
use Rattle.model.specs.Below.{list_below}
use Rattle.model.specs.Rules.{delay_at}
use Rattle.contention.specs.Views.{as_phases}
use Rattle.contention.proofs.fill_delays.Given as goal

abbrev pub invariant-loop-x : goal.invariant-loop-x
invariant-loop-x l = l.delays ≡ list_below (delay_at l.bus (as_phases l.reach.phases)) l.x ++ drop l.x l.initial.delays
