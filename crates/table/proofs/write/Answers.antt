-- `table::write` meets its contract: what its checks say of the numbers is what the rows need.
use Rattle.std.proofs.Common.{sym, ap, arith}
use Rattle.std.proofs.lemmas.Grind.{common_steps}
use Rattle.model.specs.declared.Bus.{Bus}
use Rattle.table.proofs.Entries.{given_length, given_byte}
use Rattle.table.proofs.write.Goals as goal

pub put_rows-requires : goal.put_rows-requires
put_rows-requires c =
    let h = c.in_ok-read.ensures.planned in
    let g = sym c.in_ok-numbers_check.ensures in
    let cores = ap (λ (b : Bus). b.cores) h.bus in (
      omega (arith, h.few_tasks),
      omega (arith, given_length _ _ _ g),
      grind (arith, common_steps),
      λ i l. given_byte _ _ _ g (omega (arith, h.valid.settings.cores_most, cores)) i (omega (arith, l)),
    )
