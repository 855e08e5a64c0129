-- `contention::delays_of_phases` meets its contract. The columns that bound where rivals lie.
use mathlib.Core.Path.{ap, ◌∙◌}
use lib.ListN.{length}
use Rattle.model.proofs.Below.{list_length}
use Rattle.contention.proofs.Ranges.{spread}
use Rattle.contention.proofs.delays_of_phases.Goals as goal

pub invariant_of-reach : goal.invariant_of-reach
invariant_of-reach c =
    let n = ap length c.fill_closes.ensures ∙ list_length _ _ in
    record {
      spread = spread c.fill_closes.ensures c.fill_tops.ensures c.fill_lows.ensures.under c.fill_lows.ensures.same;
      closes_all = n;
      tops_all = ap length c.fill_tops.ensures ∙ list_length _ _ ∙ n;
      lows_all = c.fill_lows.ensures.same ∙ n;
    }
