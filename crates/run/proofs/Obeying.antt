-- Demand 3 for what `run` writes (`run_obeys`), and that its promise settles answer and list (`run_one`). Assumes nothing.
use mathlib.Core.Path.{◌≡◌, refl, sym, ap, ◌∙◌}
use mathlib.Core.List.{List, [], ◌∷◌, ◌++◌}
use Prim.Native.Nat.{ℕ, ◌+◌, ◌*◌, ◌<◌}
use native.Mathlib.Omega.{arith}
use lib.ListN.{length, drop, get_or-append}
use Rattle.model.specs.Below.{at}
use Rattle.model.specs.Refusals.{or_else, Check}
use Rattle.model.specs.Plan.{tasks}
use Rattle.model.specs.Table.{of_numbers}
use Rattle.model.specs.Contention.{Phases, phases_of}
use Rattle.model.specs.BusRule.{Use, run, finish, waits, answers}
use Rattle.model.specs.Answers.{Judged, judged, served_check, words_check, room, declared, playing, played_of, played_output}
use Rattle.model.specs.declared.Bus.{Bus}
use Rattle.model.proofs.Refusals.{passed, and_then_lem}
use Rattle.model.proofs.RoundTrip.{blocks_at}
use Rattle.guarantee.specs.Kept.{Guaranteed}
use Rattle.guarantee.proofs.Guarantee.{by_phases}
use Rattle.model.proofs.Verdicts.{done_yes}
use Rattle.run.specs.Obeying.{Obeys}
use Rattle.run.proofs.Ways.{ruled_is, check_is, answers_length, served_good, words_within}
use Rattle.std.specs.Prelude.{Ok}

-- number k of the answers, in front of the rest
module _ (b : Bus) (h : Phases) (u : Use) (rest : List ℕ) where
  abbrev two : ℕ → List ℕ
  two x = finish b h u (run b h u) x ∷ waits b h u (run b h u) x ∷ []

  number_at : (x k : ℕ) → x < h.count → k < 2 → at (answers b h u ++ rest) (2 * x + k) ≡ at (two x) k
  unfolding answers
  number_at x k l m =
      get_or-append (answers b h u) rest 0 (2 * x + k) (omega (arith, answers_length b h u))
      ∙ blocks_at two 2 (λ y. refl) h.count x k l m

module _ (p s : List ℕ) (served : ℕ) (words out : List ℕ) where
  abbrev u : Use
  u = record { served = served; actual = at words }

  module _ (j : Judged) (ej : judged p s ≡ Ok j) (good : or_else (served_check j served) (or_else (words_check j words) (room (4 * tasks j.plan) out)) ≡ Ok tt) where
    abbrev b : Bus
    b = j.plan.bus

    abbrev h : Phases
    h = phases_of j.plan (of_numbers j.table)

    abbrev list : List ℕ
    list = played_output p s served words out

    list_is : list ≡ answers b h u ++ drop (length (answers b h u)) out
    unfolding played_output playing
    list_is = rw (ej, good)

    keeps : Guaranteed b h u
    unfolding declared
    keeps =
        let g = check_is p s served words out j ej ∙ good in
        by_phases b h u
        (record {
          served_in = served_good p s served words out j ej _ refl g;
          declared = words_within p s served words out j ej _ refl g;
        })
        (ruled_is p s j ej).accepts

    number : (x k : ℕ) → x < h.count → k < 2 → at list (2 * x + k) ≡ at (two b h u out x) k
    number x k l m = rw list_is (number_at b h u (drop (length (answers b h u)) out) x k l m)

    end_is : (x : ℕ) → x < h.count → at list (2 * x) ≡ finish b h u (run b h u) x
    end_is x l = let z : 2 * x ≡ 2 * x + 0 = omega arith in ap (at list) z ∙ number x 0 l (omega arith)

    obeys : Obeys p s u list
    obeys =
        record {
          j = j;
          accepted = ej;
          ends = end_is;
          waited = λ x l. number x 1 l (omega arith);
          in_time = λ x l. omega (arith, end_is x l, (keeps.keeps x l).in_time);
          bounded = λ x l. omega (arith, number x 1 l (omega arith), (keeps.keeps x l).waited);
          kept = keeps;
        }

  pub run_obeys : played_of p s served words out ≡ Ok tt → Obeys p s u (played_output p s served words out)
  unfolding played_of playing
  run_obeys e =
      let f = done_yes (playing p s served words out) e in
      and_then_lem (judged p s) _ f.1 (λ j ej e2. obeys j ej (passed _ _ e2).0)

-- two results that the promise of `run` allows are one
pub run_one :
    (p s : List ℕ) (served : ℕ) (words out : List ℕ) (r r' : Check) (l l' : List ℕ)
    → r ≡ played_of p s served words out → r' ≡ played_of p s served words out
    → l ≡ played_output p s served words out → l' ≡ played_output p s served words out → (r ≡ r') × (l ≡ l')
run_one p s served words out r r' l l' a b c d = (a ∙ sym b, c ∙ sym d)
