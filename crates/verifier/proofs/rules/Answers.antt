-- `verifier::rules` meets its contract: the lent columns show the table's phases.
use Rattle.verifier.proofs.Ruling.{shown}
use Rattle.verifier.proofs.rules.Goals as goal

pub windows-requires : goal.windows-requires
windows-requires c =
    let w = c.fill_phases.ensures in
    shown _ _ _ _ _ c.args.planned.now.valid _ _ _ _ _ _ _ _ _ c.requires w.core w.start w.end w.words
