-- `bus::play_phases` meets its contract. The columns before the first grant (proofs/Opening.antt).
use Rattle.std.proofs.Common.{sym, arith, rules}
use Rattle.model.proofs.Below.{take_count}
use Rattle.bus.proofs.Opening.{opened_by}
use Rattle.bus.proofs.play_phases.Goals as goal

pub grants-requires-clause-opened : goal.grants-requires-clause-opened
grants-requires-clause-opened c =
    let f = c.fill_heads.ensures in
    rw (f.phases, f.left)
    (opened_by _ _ _ _ _ _ _ _ (search rules) f.heads (sym (take_count _ _ (omega arith))) c.open_answers.ensures)
