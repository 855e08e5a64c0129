-- The three demands hold (`demand_1`, `demand_2`, `demand_3`), by the theorems of the rooms. Assumes nothing.
use mathlib.Core.Path.{◌≡◌, refl, sym, ap, ◌∙◌}
use mathlib.Core.List.{List, ◌++◌}
use Prim.Native.Nat.{ℕ, ◌*◌, ◌≤◌}
use native.Mathlib.Omega.{arith}
use lib.ListN.{length, drop, length-append, length-drop}
use lib.Seq.{drop-append_seam}
use borrow.Author.Tests.{ltb-false}
use lib.Dec.{ltb}
use Rattle.model.specs.Below.{at}
use Rattle.model.specs.Refusals.{Outcome, or_else}
use Rattle.model.specs.Plan.{Plan, tasks, cores}
use Rattle.model.specs.Graph.{plan_of}
use Rattle.model.specs.Table.{of_numbers, of_bytes, numbers_at, numbers, bytes_at, bytes, table_of, table_check, values_check, four_bytes, field_bytes}
use Rattle.model.specs.Contention.{phases_of}
use Rattle.model.specs.Rules.{rules_check}
use Rattle.model.specs.BusRule.{Use, answers}
use Rattle.model.specs.ListRule.{made_bytes, made_makespan}
use Rattle.model.specs.Answers.{Judged, judged, verdict_by, verdict_of, room, making, made_by, made_of, made_output, writing, done_by, written_of, written_output, decoding, decoded_of, decoded_output, playing, played_of, played_output, served_check, words_check}
use Rattle.model.specs.declared.Refusal.{Refusal}
use Rattle.model.specs.declared.Time.{Time}
use Rattle.model.proofs.Refusals.{passed, and_then_lem, or_good, not_refused}
use Rattle.model.proofs.RoundTrip.{blocks_length}
use Rattle.model.proofs.Verdicts.{done_no, done_yes, accepts_facts, accepts_test}
use Rattle.model.proofs.Numbers.{rule_facts, rule_test}
use Rattle.model.proofs.MakeVerify.{verify_made}
use Rattle.table.proofs.Trip.{read_write, write_read}
use Rattle.guarantee.proofs.Verified.{verified}
use Rattle.run.proofs.Ways.{answers_length}
use Rattle.run.proofs.Obeying.{run_obeys}
use Rattle.demands.specs.Demands.{Front, Demand1, Demand2, Demand3}
use Rattle.demands.proofs.Numbers.{judged_has, reading_has, writing_has, making_has, playing_has}
use Rattle.std.specs.Prelude.{Ok, Err}

-- ---- a lent output: unchanged where nothing is given, and where a front is given that fits, changed there alone
front_is : (front out : List ℕ) (n : ℕ) → length front ≡ n → n ≤ length out → Front n out (front ++ drop (length front) out)
front_is front out n e k =
    record {
      fits = k;
      long = omega (arith, length-append front (drop (length front) out), length-drop (length front) out);
      rest = rw (← e) (drop-append_seam front (drop (length front) out));
    }

room_fits : (n : ℕ) (out : List ℕ) → room n out ≡ Ok tt → n ≤ length out
unfolding room
room_fits n out g = ltb-false (length out) n (not_refused (ltb (length out) n) _ g)

-- an outcome whose answer is a refusal refuses; one whose answer is not, gives
verdict_no : {r : Refusal} (o : Outcome Judged) → verdict_by o ≡ Err r → o ≡ Err r
verdict_no (Ok j) e = cc
verdict_no (Err r) e = cc

made_no : {r : Refusal} (o : Outcome Plan) → made_by o ≡ Err r → o ≡ Err r
made_no (Ok p) e = cc
made_no (Err r) e = cc

made_yes : (o : Outcome Plan) {m : Time} → made_by o ≡ Ok m → (p : Plan) × (o ≡ Ok p) × (m ≡ record { 0 = made_makespan p })
made_yes (Ok p) e = (p, refl, cc)
made_yes (Err r) e = let z : ◌≡◌ {A = ℕ} 0 1 = cc in absurd (omega arith)

-- ---- what each success gives
bytes_long : (p : Plan) (v : List ℕ) → length (bytes (of_numbers v) (tasks p)) ≡ 20 * tasks p
unfolding field_bytes four_bytes
bytes_long p v = blocks_length (bytes_at (of_numbers v)) 20 (λ i. refl) (tasks p)

made_long : (p : Plan) → length (made_bytes p) ≡ 20 * tasks p
unfolding made_bytes field_bytes four_bytes
made_long p = blocks_length (bytes_at _) 20 (λ i. refl) (tasks p)

read_gives : (p s out : List ℕ) → decoded_of p s out ≡ Ok tt
    → (plan : Plan) × (plan_of p ≡ Ok plan) × Front (5 * tasks plan) out (decoded_output p s out)
unfolding decoded_of decoded_output decoding table_of numbers_at
read_gives p s out e =
    let g = done_yes (decoding p s out) e in
    and_then_lem (plan_of p) _ g.1 (λ plan ep e2.
    and_then_lem (table_of plan s) _ e2 (λ v ev e3.
    let fits = room_fits (5 * tasks plan) out (passed (room (5 * tasks plan) out) v e3).0 in
    let long : length v ≡ 5 * tasks plan = ap length (sym (passed (table_check plan s) (numbers (of_bytes s) (tasks plan)) ev).1) ∙ blocks_length (numbers_at (of_bytes s)) 5 (λ i. refl) (tasks plan) in
    (plan, ep, rw (ep, ev, e3, ← (passed (room (5 * tasks plan) out) v e3).1) (front_is v out (5 * tasks plan) long fits))))

write_gives : (p v out : List ℕ) → written_of p v out ≡ Ok tt
    → (plan : Plan) × (plan_of p ≡ Ok plan) × Front (20 * tasks plan) out (written_output p v out)
unfolding written_of written_output writing
write_gives p v out e =
    let g = done_yes (writing p v out) e in
    and_then_lem (plan_of p) _ g.1 (λ plan ep e2.
    let checks = passed (or_else (values_check (cores plan) (tasks plan) v) (room (20 * tasks plan) out)) (bytes (of_numbers v) (tasks plan)) e2 in
    let fits = room_fits (20 * tasks plan) out (or_good (values_check (cores plan) (tasks plan) v) _ checks.0).1 in
    (plan, ep, rw (ep, checks.0) (front_is (bytes (of_numbers v) (tasks plan)) out (20 * tasks plan) (bytes_long plan v) fits)))

make_gives : (p out : List ℕ) (m : Time) → made_of p out ≡ Ok m
    → (plan : Plan) × (plan_of p ≡ Ok plan) × (making p out ≡ Ok plan) × (20 * tasks plan ≤ length out) × (m ≡ record { 0 = made_makespan plan })
unfolding made_of making
make_gives p out m e =
    let g = made_yes (making p out) e in
    and_then_lem (plan_of p) _ g.1 (λ plan ep e2.
    let checks = passed (room (20 * tasks plan) out) plan e2 in
    let fits = room_fits (20 * tasks plan) out checks.0 in
    (plan, ep, rw (ep, checks.0), fits, g.2 ∙ ap (λ (q : Plan). record { 0 = made_makespan q }) (sym checks.1)))

play_gives : (p s : List ℕ) (served : ℕ) (words out : List ℕ) → played_of p s served words out ≡ Ok tt
    → (j : Judged) × (judged p s ≡ Ok j) × (4 * tasks j.plan ≤ length out)
    × (playing p s served words out ≡ Ok (answers j.plan.bus (phases_of j.plan (of_numbers j.table)) (record { served = served; actual = at words })))
unfolding played_of playing
play_gives p s served words out e =
    let g = done_yes (playing p s served words out) e in
    and_then_lem (judged p s) _ g.1 (λ j ej e2.
    let all = passed _ _ e2 in
    let behind = (or_good (served_check j served) _ all.0).1 in
    let fits = room_fits (4 * tasks j.plan) out (or_good (words_check j words) _ behind).1 in
    (j, ej, fits, rw (ej, all.0)))

judged_plan : (p s : List ℕ) (j : Judged) → judged p s ≡ Ok j → plan_of p ≡ Ok j.plan
unfolding judged
judged_plan p s j e =
    and_then_lem (plan_of p) _ e (λ plan ep e2.
    and_then_lem (table_of plan s) _ e2 (λ v ev e3.
    let g = passed (rules_check plan (of_numbers v)) (record { plan = plan; table = v }) e3 in
    ep ∙ ap (λ (k : Judged). Ok k.plan) g.1))

-- ---- the demands
pub demand_1 : Demand1
unfolding verdict_of decoded_of decoded_output written_of written_output made_of made_output played_of played_output
demand_1 =
    record {
      verify_numbers = λ p s r e. rw (verdict_no (judged p s) e) at (judged_has p s);
      read_numbers = λ p s out r e. rw (done_no (decoding p s out) e) at (reading_has p s out);
      write_numbers = λ p v out r e. rw (done_no (writing p v out) e) at (writing_has p v out);
      make_numbers = λ p out r e. rw (made_no (making p out) e) at (making_has p out);
      run_numbers = λ p s served words out r e.
          rw (done_no (playing p s served words out) e) at (playing_has p s served words out);
      read_refused = λ p s out r e. rw (done_no (decoding p s out) e);
      write_refused = λ p v out r e. rw (done_no (writing p v out) e);
      make_refused = λ p out r e. rw (made_no (making p out) e);
      run_refused = λ p s served words out r e. rw (done_no (playing p s served words out) e);
      read_front = read_gives;
      write_front = write_gives;
      make_front = λ p out m e.
          let g = make_gives p out m e in
          (g.0, g.1, rw g.2 (front_is (made_bytes g.0) out (20 * tasks g.0) (made_long g.0) g.3));
      run_front = λ p s served words out e.
          let g = play_gives p s served words out e in
          let b = g.0.plan.bus in
          let h = phases_of g.0.plan (of_numbers g.0.table) in
          let u : Use = record { served = served; actual = at words } in
          let n = tasks g.0.plan in
          let long : length (answers b h u) ≡ 4 * n = omega (arith, answers_length b h u) in
          (g.0.plan, judged_plan p s g.0 g.1, rw g.3 (front_is (answers b h u) out (4 * n) long g.2));
    }

pub demand_2 : Demand2
unfolding made_output played_output
demand_2 =
    record {
      accepts = accepts_facts;
      accepted = accepts_test;
      breaks = rule_facts;
      broken = rule_test;
      makes = λ p out m e.
          let g = make_gives p out m e in
          (g.0, g.1, rw g.2, g.4, verify_made p g.1 ∙ ap Ok (sym g.4));
      reads_back = read_write;
      writes_back = write_read;
      plays = λ p s served words out e.
          let g = play_gives p s served words out e in
          let b = g.0.plan.bus in
          let h = phases_of g.0.plan (of_numbers g.0.table) in
          let u : Use = record { served = served; actual = at words } in
          let long : length (answers b h u) ≡ 4 * tasks g.0.plan = omega (arith, answers_length b h u) in
          (g.0, g.1, rw (g.3, long));
    }

pub demand_3 : Demand3
demand_3 = record { guarantees = verified; run_obeys = run_obeys }
