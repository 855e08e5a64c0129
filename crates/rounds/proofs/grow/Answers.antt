-- `rounds::grow` meets its contract. All windows, by their delays.
use Rattle.contention.proofs.Columns.{fill_take}
use Rattle.rounds.proofs.Growth.{due_grew, due_grown}
use mathlib.Core.Path.{◌∙◌}
use Rattle.rounds.proofs.grow.Goals as goal

pub returns-clause-grew : goal.returns-clause-grew
returns-clause-grew c = c.grow_all.ensures.grew ∙ due_grew _ _ c.args.lengths.now _ (fill_take _ _ _ _ c.delays_of_phases.ensures)

pub returns-clause-grown : goal.returns-clause-grown
returns-clause-grown c = c.grow_all.ensures.grown ∙ due_grown _ _ c.args.lengths.now _ (fill_take _ _ _ _ c.delays_of_phases.ensures)
