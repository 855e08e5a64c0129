-- Demand 3 for the numbers that the run writes: what they are, and what they keep to. The theorem: proofs/Obeying.antt,
-- `run_obeys`. Assumes nothing.
use Rattle.std.specs.Prelude.{ℕ, ◌+◌, ◌*◌, ◌≤◌, ◌<◌, ◌≡◌, List, Ok}
use Rattle.model.specs.Below.{at}
use Rattle.model.specs.Counts.{slots}
use Rattle.model.specs.Plan.{tasks}
use Rattle.model.specs.Table.{of_numbers}
use Rattle.model.specs.Contention.{phases_of, rivals}
use Rattle.model.specs.BusRule.{Use, run, finish, waits}
use Rattle.model.specs.Answers.{Judged, judged}
use Rattle.guarantee.specs.Kept.{Guaranteed}

-- `list` after a run of plan bytes p and table bytes s, with u's core served last and actual words: of each phase x the end
-- and the waits of the bus rule's run
pub record Obeys (p s : List ℕ) (u : Use) (list : List ℕ) : Type 0 where
  pub j : Judged
  pub accepted : judged p s ≡ Ok j
  pub ends :
      (x : ℕ) → x < 2 * tasks j.plan
      → at list (2 * x) ≡ finish j.plan.bus (phases_of j.plan (of_numbers j.table)) u (run j.plan.bus (phases_of j.plan (of_numbers j.table)) u) x
  pub waited :
      (x : ℕ) → x < 2 * tasks j.plan
      → at list (2 * x + 1) ≡ waits j.plan.bus (phases_of j.plan (of_numbers j.table)) u (run j.plan.bus (phases_of j.plan (of_numbers j.table)) u) x
  -- by the end of its window; at most its slots times its counted rivals; and all else that is guaranteed
  pub in_time : (x : ℕ) → x < 2 * tasks j.plan → at list (2 * x) ≤ (phases_of j.plan (of_numbers j.table)).end x
  pub bounded :
      (x : ℕ) → x < 2 * tasks j.plan
      → at list (2 * x + 1)
      ≤ slots j.plan.bus ((phases_of j.plan (of_numbers j.table)).words x) * rivals j.plan.bus (phases_of j.plan (of_numbers j.table)) x
  pub kept : Guaranteed j.plan.bus (phases_of j.plan (of_numbers j.table)) u
