-- `verifier::windows` meets its contract: the phases in columns are the table's, with their delays.
use Rattle.std.proofs.Common.{◌∙◌}
use Rattle.verifier.proofs.Checks.{lasts_each}
use Rattle.verifier.proofs.Ruling.{shown_loads, shown_windows}
use Rattle.verifier.proofs.windows.Goals as goal

pub delays_of_phases-requires-clause-loads : goal.delays_of_phases-requires-clause-loads
delays_of_phases-requires-clause-loads c = shown_loads _ _ _ c.requires c.args.planned.now.valid

pub returns : goal.returns
returns c =
    c.each_window.ensures ∙ lasts_each _ _ _ _ _ _ _ _ c.args.phases.sized.few c.delays_of_phases.ensures
    ∙ shown_windows _ _ _ c.requires c.args.planned.now.bus
