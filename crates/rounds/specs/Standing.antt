-- What the columns of a candidate hold between two rounds. Assumes nothing.
use Rattle.std.specs.Prelude.{ℕ, ◌*◌, ◌≡◌, List, ◌++◌, drop}
use Rattle.model.specs.Plan.{tasks}
use Rattle.model.specs.ListRule.{Candidate, placed}
use Rattle.contention.specs.Columns.{start_column, end_column}

-- lengths l, and the windows that step 2 gives with them; behind them what the old columns held
pub record Standing (c : Candidate) (l old-lengths old-start old-end lengths start end : List ℕ) : Type 0 where
  pub lasts : lengths ≡ l ++ drop (2 * tasks c.plan) old-lengths
  pub starts : start ≡ start_column (tasks c.plan) (placed c l) ++ drop (2 * tasks c.plan) old-start
  pub ends : end ≡ end_column (tasks c.plan) (placed c l) ++ drop (2 * tasks c.plan) old-end
