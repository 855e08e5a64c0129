-- The customer's three demands, in the terms in which the entry points promise their results: `verdict_of`, `decoded_of`,
-- `written_of`, `made_of`, `played_of` are the answers on all inputs, `decoded_output` .. the lent memory after them.
-- Proved: proofs/Demands.antt, `demand_1`, `demand_2`, `demand_3`. Assumes nothing.
use Rattle.std.specs.Prelude.{ℕ, ◌*◌, ◌≤◌, ◌<◌, ◌≡◌, List, ◌++◌, ◌⊎◌, length, drop, Ok, Err}
use Rattle.model.specs.Below.{at}
use Rattle.model.specs.Refusals.{number_of}
use Rattle.model.specs.Plan.{Plan, tasks, cores}
use Rattle.model.specs.Graph.{plan_of}
use Rattle.model.specs.Table.{of_numbers}
use Rattle.model.specs.Contention.{phases_of}
use Rattle.model.specs.BusRule.{Use, answers}
use Rattle.model.specs.ListRule.{made_bytes, made_makespan}
use Rattle.model.specs.Answers.{Judged, judged, Accepts, Breaks, verdict_of, decoded_of, decoded_output, written_of, written_output, made_of, made_output, played_of, played_output}
use Rattle.model.specs.declared.Side.{Side}
use Rattle.model.specs.declared.Side.TheVariants.{OfNeither, OfPlan, OfTable}
use Rattle.model.specs.declared.Refusal.{Refusal}
use Rattle.model.specs.declared.Time.{Time}
use Rattle.guarantee.specs.Kept.{Guaranteed}
use Rattle.run.specs.Obeying.{Obeys}

-- lent memory of which only the first n elements changed
pub record Front (n : ℕ) (before after : List ℕ) : Type 0 where
  pub fits : n ≤ length before
  pub long : length after ≡ length before
  pub rest : drop n after ≡ drop n before

-- a refusal that names a side, with a number from .. to
abbrev pub Numbered : Side → ℕ → ℕ → Refusal → Type 0
Numbered side from to r = (r.side ≡ side) × (from ≤ number_of r.fault) × (number_of r.fault ≤ to)

-- the refusals of plan bytes, of table bytes and of the verifier, which has both and the rules. Document 01: "The side is plan
-- for 5 to 7, table for 9 to 15, neither for 8, 16 and 17; for 1 to 4 it is the input being read."
abbrev pub ByPlan : Refusal → Type 0
ByPlan r = Numbered OfPlan 1 7 r

abbrev pub ByTable : Refusal → Type 0
ByTable r = Numbered OfTable 1 3 r ⊎ Numbered OfTable 9 11 r

abbrev pub ByVerifier : Refusal → Type 0
ByVerifier r = ByPlan r ⊎ ByTable r ⊎ Numbered OfTable 12 15 r

-- 1. "The verifier, the schedule maker and the bus run take every byte string; each ends; bad input gets a refusal number, a
-- side and a place, and nothing lent changes." (That each takes every input and ends is part of what a promise without
-- `requires` says of a function.) "On success only the 20n bytes, or the 4n or 5n numbers, at the front change."
pub record Demand1 : Type 0 where
  -- the numbers that each can refuse with, in document 01's order
  pub verify_numbers : (p s : List ℕ) (r : Refusal) → verdict_of p s ≡ Err r → ByVerifier r
  pub read_numbers :
      (p s out : List ℕ) (r : Refusal) → decoded_of p s out ≡ Err r → ByPlan r ⊎ ByTable r ⊎ Numbered OfNeither 8 8 r
  pub write_numbers :
      (p v out : List ℕ) (r : Refusal) → written_of p v out ≡ Err r
      → ByPlan r ⊎ Numbered OfTable 9 11 r ⊎ Numbered OfNeither 8 8 r
  pub make_numbers : (p out : List ℕ) (r : Refusal) → made_of p out ≡ Err r → ByPlan r ⊎ Numbered OfNeither 8 8 r
  pub run_numbers :
      (p s : List ℕ) (served : ℕ) (words out : List ℕ) (r : Refusal) → played_of p s served words out ≡ Err r
      → ByVerifier r ⊎ Numbered OfNeither 16 16 r ⊎ Numbered OfNeither 17 17 r ⊎ Numbered OfNeither 8 8 r
  pub read_refused : (p s out : List ℕ) (r : Refusal) → decoded_of p s out ≡ Err r → decoded_output p s out ≡ out
  pub write_refused : (p v out : List ℕ) (r : Refusal) → written_of p v out ≡ Err r → written_output p v out ≡ out
  pub make_refused : (p out : List ℕ) (r : Refusal) → made_of p out ≡ Err r → made_output p out ≡ out
  pub run_refused :
      (p s : List ℕ) (served : ℕ) (words out : List ℕ) (r : Refusal)
      → played_of p s served words out ≡ Err r → played_output p s served words out ≡ out
  pub read_front :
      (p s out : List ℕ) → decoded_of p s out ≡ Ok tt
      → (plan : Plan) × (plan_of p ≡ Ok plan) × Front (5 * tasks plan) out (decoded_output p s out)
  pub write_front :
      (p v out : List ℕ) → written_of p v out ≡ Ok tt
      → (plan : Plan) × (plan_of p ≡ Ok plan) × Front (20 * tasks plan) out (written_output p v out)
  pub make_front :
      (p out : List ℕ) (m : Time) → made_of p out ≡ Ok m
      → (plan : Plan) × (plan_of p ≡ Ok plan) × Front (20 * tasks plan) out (made_output p out)
  pub run_front :
      (p s : List ℕ) (served : ℕ) (words out : List ℕ) → played_of p s served words out ≡ Ok tt
      → (plan : Plan) × (plan_of p ≡ Ok plan) × Front (4 * tasks plan) out (played_output p s served words out)

-- 2. "The verifier accepts a table exactly when it obeys every rule of the contention model and names its makespan. The maker
-- writes exactly the table of 01's list rule, which the verifier accepts. Read then write gives the same bytes; valid values
-- written read back the same. The bus run gives exactly the ends and waits of 01's bus rule."
pub record Demand2 : Type 0 where
  pub accepts : (p s : List ℕ) (m : ℕ) → verdict_of p s ≡ Ok (record { 0 = m }) → Accepts p s m
  pub accepted : (p s : List ℕ) (m : ℕ) → Accepts p s m → verdict_of p s ≡ Ok (record { 0 = m })
  -- 12 to 15 are given exactly where plan and table read, the earlier rules hold and this one is first broken at that place
  pub breaks : (p s : List ℕ) (r : Refusal) → verdict_of p s ≡ Err r → 12 ≤ number_of r.fault → Breaks p s r
  pub broken : (p s : List ℕ) (r : Refusal) → Breaks p s r → verdict_of p s ≡ Err r
  pub makes :
      (p out : List ℕ) (m : Time) → made_of p out ≡ Ok m
      → (plan : Plan) × (plan_of p ≡ Ok plan) × (made_output p out ≡ made_bytes plan ++ drop (length (made_bytes plan)) out)
      × (m ≡ record { 0 = made_makespan plan }) × (verdict_of p (made_bytes plan) ≡ Ok m)
  pub reads_back :
      (p s out : List ℕ) → ((k : ℕ) → at s k < 256) → decoded_of p s out ≡ Ok tt
      → (v : List ℕ) × (decoded_output p s out ≡ v ++ drop (length v) out)
      × ((lent : List ℕ) → length s ≤ length lent → (written_of p v lent ≡ Ok tt) × (written_output p v lent ≡ s ++ drop (length s) lent))
  pub writes_back :
      (p v out : List ℕ) → written_of p v out ≡ Ok tt
      → (s : List ℕ) × (written_output p v out ≡ s ++ drop (length s) out)
      × ((lent : List ℕ) → length v ≤ length lent → (decoded_of p s lent ≡ Ok tt) × (decoded_output p s lent ≡ v ++ drop (length v) lent))
  pub plays :
      (p s : List ℕ) (served : ℕ) (words out : List ℕ) → played_of p s served words out ≡ Ok tt
      → (j : Judged) × (judged p s ≡ Ok j)
      × (played_output p s served words out
      ≡ answers j.plan.bus (phases_of j.plan (of_numbers j.table)) (record { served = served; actual = at words }) ++ drop (4 * tasks j.plan) out)

-- 3. "For any accepted table, by any author, an idle bus at time zero, any core served last, no phase asking for more words than
-- declared: slot by slot, a phase sits through at most its slots times its counted rivals of foreign grants, and has sent its
-- last word by the end of its window." The second: the numbers that the run writes.
pub record Demand3 : Type 0 where
  pub guarantees :
      (p s : List ℕ) (m : ℕ) → verdict_of p s ≡ Ok (record { 0 = m })
      → (a : Accepts p s m)
      × ((u : Use) → u.served < cores a.plan
      → ((x : ℕ) → x < 2 * tasks a.plan → u.actual x ≤ (phases_of a.plan (of_numbers a.table)).words x)
      → Guaranteed a.plan.bus (phases_of a.plan (of_numbers a.table)) u)
  pub run_obeys :
      (p s : List ℕ) (served : ℕ) (words out : List ℕ) → played_of p s served words out ≡ Ok tt
      → Obeys p s (record { served = served; actual = at words }) (played_output p s served words out)
