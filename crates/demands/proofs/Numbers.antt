-- The numbers and sides that each entry point refuses with: a law of each check, and how they compose. Assumes nothing.
use mathlib.Core.Path.{◌≡◌, refl}
use mathlib.Core.Bool.{Bool, true, false, not, ◌&&◌, ◌||◌}
use mathlib.Core.List.{List}
use mathlib.Core.Logic.{◌⊎◌, inl, inr}
use Prim.Native.Nat.{ℕ, zero, suc, ◌+◌, ◌*◌, ◌-◌}
use native.Mathlib.Omega.{arith}
use lib.ListN.{length}
use lib.Dec.{ltb, leb, eqb}
use Rattle.model.specs.Below.{at, join_below, first_below}
use Rattle.model.specs.Refusals.{refusal, refuse_if, or_else, first_bad, Outcome, passing, and_then, Check}
use Rattle.model.specs.Field.{two, body_of, step_in, plan_step, table_step, Step}
use Rattle.model.specs.Plan.{Plan, tasks, cores, key_of, settings_good, in_order, header_in, task_in, edge_in, field_by, field_of, seen, Next, on_with, with_bus, with_task, with_edge, fields_from, reading_from, reading_of, no_plan}
use Rattle.model.specs.Graph.{left_over, plan_of}
use Rattle.model.specs.Table.{Table, of_numbers, of_bytes, numbers, non_falling, values_of, values_at, row_by, row_at, rows_check, table_check, table_of, values_check}
use Rattle.model.specs.Rules.{rules_check, RuleBroken}
use Rattle.model.specs.Answers.{Judged, judged, room, making, writing, decoding, playing, declared, served_check, words_check}
use Rattle.model.specs.declared.Fault.{Fault}
use Rattle.model.specs.declared.Fault.TheVariants.{Cyclic, OutputShort, FieldCount, CoreUnknown, MarksFalling, ServedUnknown, WordsWrong}
use Rattle.model.specs.declared.Side.{Side}
use Rattle.model.specs.declared.Side.TheVariants.{OfNeither, OfPlan, OfTable}
use Rattle.model.specs.declared.Refusal.{Refusal}
use Rattle.model.specs.declared.Seen.{Seen}
use Rattle.model.specs.declared.Taken.{Taken}
use Rattle.model.specs.declared.Taken.TheVariants.{Header, Task, Edge}
use Rattle.model.proofs.Tests.{cond_is}
use Rattle.model.proofs.Verdicts.{rules_facts}
use Rattle.demands.specs.Demands.{Numbered, ByPlan, ByTable, ByVerifier}
use Rattle.std.specs.Prelude.{Some, None, Ok, Err}

-- ---- what is refused, if anything is, has P
module _ (P : Refusal → Type 0) where
  abbrev Came : {A : Type 0} → Outcome A → Type 0
  Came (Ok a) = Unit {0}
  Came (Err r) = P r

  if_has : (b : Bool) (f : Fault) (side : Side) (place : ℕ) → ((k : ℕ) → P (refusal f side k))
      → Came (refuse_if b (refusal f side place))
  if_has true f side place h = h place
  if_has false f side place h = tt

  or_has : (a b : Check) → Came a → Came b → Came (or_else a b)
  or_has (Ok tt) b h k = k
  or_has (Err r) b h k = h

  first_has : (f : ℕ → Check) → ((i : ℕ) → Came (f i)) → (n : ℕ) → Came (first_bad f n)
  unfolding join_below
  first_has f h zero = tt
  first_has f h (suc n) = or_has (first_bad f n) (f n) (first_has f h n) (h n)

  -- by facts of what the check refuses
  when_bad : (c : Check) → ((r : Refusal) → c ≡ Err r → P r) → Came c
  when_bad (Ok tt) f = tt
  when_bad (Err r) f = f r refl

  pass_has : {A : Type 0} (c : Check) (a : A) → Came c → Came (passing c a)
  pass_has (Ok tt) a h = tt
  pass_has (Err r) a h = h

-- ---- two steps in order: what the first refuses has P, what the second refuses has Q
module _ (P Q : Refusal → Type 0) where
  abbrev Either : Refusal → Type 0
  Either r = P r ⊎ Q r

  second_check : (b : Check) → Came Q b → Came Either b
  second_check (Ok tt) k = tt
  second_check (Err r) k = inr k

  both_check : (a b : Check) → Came P a → Came Q b → Came Either (or_else a b)
  both_check (Ok tt) b h k = second_check b k
  both_check (Err r) b h k = inl h

  second_came : {B : Type 0} (o : Outcome B) → Came Q o → Came Either o
  second_came (Ok b) k = tt
  second_came (Err r) k = inr k

  both_came : {A B : Type 0} (o : Outcome A) (next : A → Outcome B) → Came P o → ((a : A) → Came Q (next a))
      → Came Either (and_then o next)
  both_came (Ok a) next h k = second_came (next a) (k a)
  both_came (Err r) next h k = inl h

-- ---- a step: 1 to 3, of the side that is read
step_has : (side : Side) (s : List ℕ) (place : ℕ) → Came (Numbered side 1 3) (step_in side s place)
unfolding step_in
step_has side s place =
    let body = body_of side (at s place) in
    let S = Came (Numbered side 1 3) in
    cond_is S (leb (length s) place) (λ _. tt) (λ _.
    cond_is S (ltb (length s - place) 3) (λ _. (refl, omega arith, omega arith)) (λ _.
    cond_is S (eqb body 0) (λ _. (refl, omega arith, omega arith)) (λ _.
    cond_is S (not (eqb (two s (place + 1)) body)) (λ _. (refl, omega arith, omega arith)) (λ _.
    cond_is S (ltb (length s - place) (3 + body)) (λ _. (refl, omega arith, omega arith)) (λ _. tt)))))

-- ---- a plan: 1 to 6, then 7
field_has : (p : List ℕ) (s : Seen) → Came ByPlan (field_of p s)
unfolding field_of header_in task_in edge_in
field_has p s =
    cond_is (Came ByPlan) (leb (s.at + 3) (length p) && not (in_order s (at p s.at))) (λ _. (refl, omega arith, omega arith))
    (λ _. by (plan_step p s.at) (step_has OfPlan p s.at))
  where
    by : (x : Step) → Came (Numbered OfPlan 1 3) x → Came ByPlan (field_by p s x)
    by (Ok (Some f)) h =
        let from = at p (s.at + 3) in
        let to = at p (s.at + 4) in
        cond_is (Came ByPlan) (eqb f.tag 1)
        (λ _. cond_is (Came ByPlan) (settings_good from to (at p (s.at + 5))) (λ _. tt) (λ _. (refl, omega arith, omega arith)))
        (λ _. cond_is (Came ByPlan) (eqb f.tag 2)
        (λ _. cond_is (Came ByPlan) (leb 64 s.tasks) (λ _. (refl, omega arith, omega arith)) (λ _.
        cond_is (Came ByPlan) (eqb (two p (s.at + 3)) 0) (λ _. (refl, omega arith, omega arith)) (λ _. tt)))
        (λ _. cond_is (Came ByPlan) (leb 256 s.edges) (λ _. (refl, omega arith, omega arith)) (λ _.
        cond_is (Came ByPlan) (leb s.tasks from || leb s.tasks to || ltb 4095 (two p (s.at + 5)))
        (λ _. (refl, omega arith, omega arith)) (λ _.
        cond_is (Came ByPlan) (ltb (key_of from to) s.least) (λ _. (refl, omega arith, omega arith)) (λ _. tt)))))
    by (Ok None) h = cond_is (Came ByPlan) s.started (λ _. tt) (λ _. (refl, omega arith, omega arith))
    by (Err r) h = (h.0, h.1, omega (arith, h.2))

fields_have : (k : ℕ) (bytes : List ℕ) (place : ℕ) (p : Plan) → Came ByPlan (fields_from k bytes place p).check
unfolding fields_from
fields_have zero bytes place p = tt
fields_have (suc k) bytes place p = by (field_of bytes (seen place p)) (field_has bytes (seen place p)) (fields_have k bytes)
  where
    by : (x : Next) → Came ByPlan x → ((next : ℕ) (q : Plan) → Came ByPlan (fields_from k bytes next q).check)
        → Came ByPlan (on_with p x (fields_from k bytes)).check
    by (Ok (Some (Header b next))) h go = go next (with_bus p b)
    by (Ok (Some (Task c next))) h go = go next (with_task p c)
    by (Ok (Some (Edge from to words next))) h go = go next (with_edge p from to words)
    by (Ok None) h go = tt
    by (Err r) h go = h

plan_has : (bytes : List ℕ) → Came ByPlan (plan_of bytes)
unfolding plan_of reading_of reading_from
plan_has bytes =
    let r = reading_of bytes in
    let cyclic = refuse_if (left_over r.plan) (refusal Cyclic OfPlan (length bytes)) in
    pass_has ByPlan (or_else r.check cyclic) r.plan
    (or_has ByPlan r.check cyclic (fields_have (suc (length bytes)) bytes 0 no_plan)
    (if_has ByPlan (left_over r.plan) Cyclic OfPlan (length bytes) (λ _. (refl, omega arith, omega arith))))

-- ---- a table: 1 to 3, 9 to 11; given values: 9 to 11; the rules: 12 to 15
abbrev of_values : Refusal → Type 0
of_values = Numbered OfTable 9 11

row_values : (cs : ℕ) (t : Table) (i : ℕ) → Came of_values (values_at cs t i)
unfolding values_of
row_values cs t i =
    let falling = not (non_falling (t.R i) (t.E i) (t.W i) (t.F i)) in
    or_has of_values
    (refuse_if (leb cs (t.core i)) (refusal CoreUnknown OfTable (20 * i))) (refuse_if falling (refusal MarksFalling OfTable (20 * i)))
    (if_has of_values (leb cs (t.core i)) CoreUnknown OfTable (20 * i) (λ _. (refl, omega arith, omega arith)))
    (if_has of_values falling MarksFalling OfTable (20 * i) (λ _. (refl, omega arith, omega arith)))

values_have : (cs n : ℕ) (v : List ℕ) → Came of_values (values_check cs n v)
unfolding values_check
values_have cs n v =
    let other = not (eqb (length v) (5 * n)) in
    or_has of_values (refuse_if other (refusal FieldCount OfTable (20 * n))) (first_bad (values_at cs (of_numbers v)) n)
    (if_has of_values other FieldCount OfTable (20 * n) (λ _. (refl, omega arith, omega arith)))
    (first_has of_values (values_at cs (of_numbers v)) (row_values cs (of_numbers v)) n)

row_has : (cs : ℕ) (s : List ℕ) (i : ℕ) → Came ByTable (row_at cs s i)
unfolding row_at
row_has cs s i = by (table_step s (20 * i)) (step_has OfTable s (20 * i))
  where
    by : (x : Step) → Came (Numbered OfTable 1 3) x → Came ByTable (row_by cs s i x)
    by (Ok None) h = inr (refl, omega arith, omega arith)
    by (Err r) h = inl h
    by (Ok (Some f)) h = second_check (Numbered OfTable 1 3) of_values (values_at cs (of_bytes s) i) (row_values cs (of_bytes s) i)

table_has : (p : Plan) (s : List ℕ) → Came ByTable (table_of p s)
unfolding table_of rows_check
table_has p s =
    let n = tasks p in
    let more = ltb (20 * n) (length s) in
    pass_has ByTable (table_check p s) (numbers (of_bytes s) n)
    (or_has ByTable (first_bad (row_at (cores p) s) n) (refuse_if more (refusal FieldCount OfTable (20 * n)))
    (first_has ByTable (row_at (cores p) s) (row_has (cores p) s) n)
    (if_has ByTable more FieldCount OfTable (20 * n) (λ _. inr (refl, omega arith, omega arith))))

abbrev of_rules : Refusal → Type 0
of_rules = Numbered OfTable 12 15

rules_have : (p : Plan) (t : Table) → Came of_rules (rules_check p t)
rules_have p t = when_bad of_rules (rules_check p t) (λ r e. by r (rules_facts p t e))
  where
    by : (r : Refusal) → RuleBroken p t r → of_rules r
    by r (inl b) = rw b.named (refl, omega arith, omega arith)
    by r (inr (inl b)) = rw b.named (refl, omega arith, omega arith)
    by r (inr (inr (inl b))) = rw b.named (refl, omega arith, omega arith)
    by r (inr (inr (inr b))) = rw b.named (refl, omega arith, omega arith)

-- ---- 8; 16, 17
abbrev of_room : Refusal → Type 0
of_room = Numbered OfNeither 8 8

room_has : (n : ℕ) (out : List ℕ) → Came of_room (room n out)
unfolding room
room_has n out = if_has of_room (ltb (length out) n) OutputShort OfNeither 0 (λ _. (refl, omega arith, omega arith))

abbrev of_served : Refusal → Type 0
of_served = Numbered OfNeither 16 16

served_has : (j : Judged) (served : ℕ) → Came of_served (served_check j served)
unfolding served_check
served_has j served = if_has of_served (leb (cores j.plan) served) ServedUnknown OfNeither 0 (λ _. (refl, omega arith, omega arith))

abbrev of_words : Refusal → Type 0
of_words = Numbered OfNeither 17 17

words_have : (j : Judged) (words : List ℕ) → Came of_words (words_check j words)
unfolding words_check
words_have j words =
    let n = 2 * tasks j.plan in
    let most = declared j in
    let bad = first_below (λ x. ltb (at most x) (at words x)) n in
    let other = not (eqb (length words) n) in
    or_has of_words
    (refuse_if other (refusal WordsWrong OfNeither (length words))) (refuse_if (ltb bad n) (refusal WordsWrong OfNeither bad))
    (if_has of_words other WordsWrong OfNeither (length words) (λ _. (refl, omega arith, omega arith)))
    (if_has of_words (ltb bad n) WordsWrong OfNeither bad (λ _. (refl, omega arith, omega arith)))

-- ---- the entry points
pub judged_has : (p s : List ℕ) → Came ByVerifier (judged p s)
unfolding judged
judged_has p s =
    both_came ByPlan (Either ByTable of_rules) (plan_of p) _ (plan_has p) (λ plan.
    both_came ByTable of_rules (table_of plan s) _ (table_has plan s) (λ v.
    pass_has of_rules (rules_check plan (of_numbers v)) _ (rules_have plan (of_numbers v))))

pub reading_has : (p s out : List ℕ) → Came (Either ByPlan (Either ByTable of_room)) (decoding p s out)
unfolding decoding
reading_has p s out =
    both_came ByPlan (Either ByTable of_room) (plan_of p) _ (plan_has p) (λ plan.
    both_came ByTable of_room (table_of plan s) _ (table_has plan s) (λ v.
    pass_has of_room (room (5 * tasks plan) out) v (room_has (5 * tasks plan) out)))

pub writing_has : (p v out : List ℕ) → Came (Either ByPlan (Either of_values of_room)) (writing p v out)
unfolding writing
writing_has p v out =
    both_came ByPlan (Either of_values of_room) (plan_of p) _ (plan_has p) (λ plan.
    let values = values_check (cores plan) (tasks plan) v in
    let short = room (20 * tasks plan) out in
    pass_has (Either of_values of_room) (or_else values short) _
    (both_check of_values of_room values short (values_have (cores plan) (tasks plan) v) (room_has (20 * tasks plan) out)))

pub making_has : (p out : List ℕ) → Came (Either ByPlan of_room) (making p out)
unfolding making
making_has p out =
    both_came ByPlan of_room (plan_of p) _ (plan_has p) (λ plan.
    pass_has of_room (room (20 * tasks plan) out) plan (room_has (20 * tasks plan) out))

abbrev of_use : Refusal → Type 0
of_use = Either of_served (Either of_words of_room)

pub playing_has : (p s : List ℕ) (served : ℕ) (words out : List ℕ) → Came (Either ByVerifier of_use) (playing p s served words out)
unfolding playing
playing_has p s served words out =
    both_came ByVerifier of_use (judged p s) _ (judged_has p s) (λ j.
    let short = room (4 * tasks j.plan) out in
    let counts = words_check j words in
    pass_has of_use (or_else (served_check j served) (or_else counts short)) _
    (both_check of_served (Either of_words of_room) (served_check j served) (or_else counts short) (served_has j served)
    (both_check of_words of_room counts short (words_have j words) (room_has (4 * tasks j.plan) out))))
