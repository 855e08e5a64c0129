-- `placing::start_at` meets its contract: an exclusive start is the least that is free. The other mode is found alone, by
-- `starts_overlapping`.
use Rattle.placing.proofs.Places.{first_sized, low_within, low_over, start_within, closes_fit, starts_alone}
use native.Mathlib.Omega.{arith}
use Rattle.placing.proofs.start_at.Goals as goal

pub invariant_of-earlier : goal.invariant_of-earlier
invariant_of-earlier c =
    record {
      sized = first_sized c.requires.room c.earliest_start-from.ensures c.requires.closed;
      low_in = low_within c.requires.room c.earliest_start-from.ensures c.requires.closed c.back_to.ensures;
    }

pub exclusive_start-requires : goal.exclusive_start-requires
exclusive_start-requires c =
    record {
      fits = start_within c.requires.room c.earliest_start-from.ensures c.requires.closed c.task_at.ensures;
      ends_fit = closes_fit c.requires.room c.earliest_start-from.ensures c.requires.closed c.task_at.ensures;
      passed = low_over c.requires.room c.earliest_start-from.ensures c.requires.closed c.back_to.ensures;
    }

pub returns : goal.returns
returns c = starts_alone c.requires.room c.earliest_start-from.ensures c.requires.closed c.task_at.ensures (omega arith) c.exclusive_start.ensures
