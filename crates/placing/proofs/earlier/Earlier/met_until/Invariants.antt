-- `placing::Earlier::met_until` meets its contract. The greatest end met of the phases passed.
use mathlib.Core.Path.{◌≡◌}
use Rattle.model.specs.Below.{max_below}
use Rattle.placing.specs.Views.{end_met_in}
use Rattle.placing.proofs.earlier.Earlier.met_until.Given as goal

abbrev pub invariant-loop-y : goal.invariant-loop-y
invariant-loop-y l = l.until ≡ max_below (end_met_in l.self l.window) l.y
