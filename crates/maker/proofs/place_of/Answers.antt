-- `maker::place_of` meets its contract. The task stands here, and nowhere before.
use borrow.Author.Tests.{eq-eqb}
use mathlib.Core.Path.{sym, ◌∙◌}
use Rattle.model.specs.Graph.{place_of}
use Rattle.model.proofs.Below.{first_here}
use Rattle.maker.proofs.place_of.Goals as goal

pub returns-then-from-task : goal.returns-then-from-task
unfolding place_of
returns-then-from-task c = first_here _ _ _ c.loop-a-test.true c.loop-a.invariant (eq-eqb _ _ (sym c.from.ensures ∙ c.if-from-task.true))
