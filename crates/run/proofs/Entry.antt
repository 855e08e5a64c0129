-- What `run` needs at each step, from what judging left: the judgement and the four columns. Assumes nothing.
use mathlib.Core.Path.{◌≡◌}
use mathlib.Core.List.{List, ◌++◌}
use Prim.Native.Nat.{ℕ, ◌*◌, ◌≤◌}
use native.Mathlib.Omega.{arith}
use lib.ListN.{length, take, drop}
use Rattle.model.specs.Plan.{tasks, cores}
use Rattle.model.specs.Table.{of_numbers}
use Rattle.model.specs.BusRule.{answers}
use Rattle.model.specs.Answers.{judged}
use Rattle.model.specs.declared.Bus.{Bus}
use Rattle.model.specs.declared.Refusal.{Refusal}
use Rattle.model.proofs.Below.{list_length}
use Rattle.contention.specs.Columns.{phases_by}
use Rattle.verifier.specs.Judging.{judgement_of, column_of, phase_cores, phase_starts, phase_ends, phase_loads}
use Rattle.bus.specs.Playing.{use_of, Playable}
use Rattle.run.specs.Checks.{run_by}
use Rattle.std.specs.Prelude.{Ok, Err}
use Rattle.model.specs.Refusals.{Check}
use Rattle.verifier.specs.declared.Obeyed.{Obeyed}
use Rattle.run.proofs.Ways.{Found, found, Ruled, ruled_is, front_cores, front_starts, front_ends, front_loads, playable, Answered, unplayed, served_good, words_long, words_within, room_good, played}

module _ (p s : List ℕ) {k : Obeyed} (e : judgement_of p s ≡ Ok k) where
  pub o : Found (judged p s) k
  o = found p s e

  abbrev bus : Bus
  bus = k.bus

  abbrev n : ℕ
  n = k.tasks

  rule : Ruled o.j
  rule = ruled_is p s o.j o.given

  pub few : n ≤ 64
  few = omega (arith, rule.valid.ranges.few_tasks, o.tasks_is)

  module _ (old0 old1 old2 old3 core start end most : List ℕ)
      (all : (core ≡ column_of phase_cores p s old0) × (start ≡ column_of phase_starts p s old1) × (end ≡ column_of phase_ends p s old2) × (most ≡ column_of phase_loads p s old3))
    where
      at_cores : take (2 * n) core ≡ phase_cores o.j.plan (of_numbers o.j.table)
      at_cores = front_cores p s o.j o.given old0 core n o.tasks_is all.0

      at_starts : take (2 * n) start ≡ phase_starts o.j.plan (of_numbers o.j.table)
      at_starts = front_starts p s o.j o.given old1 start n o.tasks_is all.1

      at_ends : take (2 * n) end ≡ phase_ends o.j.plan (of_numbers o.j.table)
      at_ends = front_ends p s o.j o.given old2 end n o.tasks_is all.2

      pub at_loads : take (2 * n) most ≡ phase_loads o.j.plan (of_numbers o.j.table)
      at_loads = front_loads p s o.j o.given old3 most n o.tasks_is all.3

      front_length : length (phase_cores o.j.plan (of_numbers o.j.table)) ≡ 2 * tasks o.j.plan
      front_length = list_length _ (2 * tasks o.j.plan)

      module _ (served : ℕ) (words out : List ℕ) (x : Check) (q : x ≡ run_by bus.cores served (take (2 * n) most) words (length out)) where
        ruled : x ≡ run_by (cores o.j.plan) served (phase_loads o.j.plan (of_numbers o.j.table)) words (length out)
        ruled = rw (o.bus_is, at_loads) at q

        pub unplayed_at : {r : Refusal} → x ≡ Err r → Answered p s served words out (Err r) out
        unplayed_at = unplayed p s served words out o.j o.given x ruled

        module _ (g : x ≡ Ok tt) where
          pub playable_at : Playable bus (phases_by (take (2 * n) core) (take (2 * n) start) (take (2 * n) end) (take (2 * n) most) (length (take (2 * n) core))) served words
          playable_at =
              rw (o.bus_is, at_cores, at_starts, at_ends, at_loads, front_length)
              (playable o.j rule served words
              (served_good p s served words out o.j o.given x ruled g)
              (words_long p s served words out o.j o.given x ruled g)
              (words_within p s served words out o.j o.given x ruled g))

          pub room_at : 2 * length words ≤ length out
          room_at =
              omega (
                arith,
                words_long p s served words out o.j o.given x ruled g,
                room_good p s served words out o.j o.given x ruled g,
              )

          pub played_at : (out' : List ℕ)
              → out' ≡ answers bus (phases_by (take (2 * n) core) (take (2 * n) start) (take (2 * n) end) (take (2 * n) most) (length (take (2 * n) core))) (use_of served words) ++ drop (2 * length words) out
              → Answered p s served words out (Ok tt) out'
          played_at out' now =
              played p s served words out o.j o.given x ruled g rule out' (rw (o.bus_is, at_cores, at_starts, at_ends, at_loads, front_length) at now)
