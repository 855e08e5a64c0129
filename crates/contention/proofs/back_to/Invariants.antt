-- `contention::back_to` meets its contract. What is passed over is above `from`.
use mathlib.Core.Path.{◌≡◌}
use Rattle.contention.specs.Columns.{back_to}
use Rattle.contention.proofs.back_to.Given as goal

abbrev pub invariant-loop-y : goal.invariant-loop-y
invariant-loop-y l = back_to l.tops l.from l.y ≡ back_to l.tops l.from l.x
