-- The candidates of a plan in list order are those of its columns: of its first n places, with the words of the edges between
-- them. Assumes nothing.
use mathlib.Core.Path.{◌≡◌, refl, sym, ap, ◌∙◌}
use mathlib.Core.Bool.{Bool, true, false, cond, ◌&&◌}
use mathlib.Core.List.{List, ◌++◌}
use Prim.Native.Nat.{ℕ, ◌+◌, ◌*◌, ◌≤◌, ◌<◌, zero-le}
use native.Mathlib.Omega.{arith}
use lib.ListN.{length, take}
use lib.Seq.{length-take-le, get_or-take}
use lib.Dec.{ltb}
use borrow.Author.Tests.{ltb-true}
use Rattle.model.specs.Below.{at, list_below}
use Rattle.model.specs.Plan.{Plan, tasks, edges, source, target, amount}
use Rattle.model.specs.Contention.{of_phase}
use Rattle.model.specs.Table.{Table}
use Rattle.model.specs.ListRule.{Candidate as ListCandidate, core_in, added, candidate, placed, finished, makespan_of, chosen, winner}
use Rattle.model.proofs.Tests.{lt_or_ge, and_both, cond_le}
use Rattle.model.proofs.Below.{list_length, list_at}
use Rattle.model.proofs.Spans.{at_past}
use Rattle.model.proofs.Contention.{of_even, of_odd}
use Rattle.contention.specs.Columns.{Edges, start_column, end_column}
use Rattle.placing.specs.Candidates.{candidate_by, Ready, Chained}
use Rattle.rounds.proofs.Fronts.{front_at}
use Rattle.maker.specs.Renumbering.{masked_at, masked_by}
use Rattle.maker.specs.Choosing.{Listed, Placed}
use Rattle.maker.proofs.Choosing.{chosen_few}

-- an edge that carries words stands between the first places
carries : (b : Bool) (x : ℕ) → 0 < cond b x 0 → b ≡ true
carries true x h = refl
carries false x h = absurd (omega arith)

-- the chains of the first places
chain_less : (sources targets links : List ℕ) (n m : ℕ) → m ≤ n → Chained sources targets links n → Chained sources targets links m
chain_less sources targets links n m l w =
    record {
      links_all = w.links_all;
      heads = λ a h. w.heads a (omega arith);
      nexts = w.nexts;
      before = λ e h t. w.before e h (omega arith);
    }

-- the first n places, with the words of the edges between them, and a choice for each
module _ (q : Plan) (links : List ℕ) (w : Listed q links) (n : ℕ) (some : n ≤ tasks q) where
  pub first_long : length (take n q.costs) ≡ n
  first_long = length-take-le n q.costs some

  masked : (e : ℕ) → e < edges q → at (masked_by q.sources q.targets q.amounts n) e ≡ masked_at q.sources q.targets q.amounts n e
  masked e h = list_at (masked_at q.sources q.targets q.amounts n) (edges q) e h

  between : (e : ℕ) → e < edges q → 0 < at (masked_by q.sources q.targets q.amounts n) e → (source q e < n) × (target q e < n)
  between e l c =
      let b = and_both (ltb (source q e) n) (ltb (target q e) n) (carries (ltb (source q e) n && ltb (target q e) n) (amount q e) (rw (masked e l) at c)) in
      (omega (arith, ltb-true (source q e) n b.0), omega (arith, ltb-true (target q e) n b.1))

  edges_in : Edges n q.sources q.targets (masked_by q.sources q.targets q.amounts n)
  edges_in =
      record {
        few = w.few_edges;
        targets_all = w.targets_all;
        amounts_all = list_length _ (edges q);
        amounts_most =
            λ e.
            lt_or_ge e (edges q)
            (λ l. rw (masked e l) (cond_le (ltb (source q e) n && ltb (target q e) n) (w.amounts_most e) zero-le))
            (λ l. rw (at_past (masked_by q.sources q.targets q.amounts n) e (omega (arith, list_length (masked_at q.sources q.targets q.amounts n) (edges q)))) zero-le);
        sources_known = λ e l c. (between e l c).0;
        targets_known = λ e l c. (between e l c).1;
      }

  -- from columns as code has them
  module _ (words choices : List ℕ) (e : words ≡ masked_by q.sources q.targets q.amounts n) (long : length choices ≡ n) where
    pub ready : Ready q.bus (take n q.costs) q.sources q.targets words links choices
    ready =
        rw e
        (record {
          settings = w.settings;
          few = omega (arith, first_long, w.few_tasks);
          costs_most =
              λ a.
              lt_or_ge a n
              (λ l. rw (get_or-take n q.costs a 0 l) (w.costs_most a (omega arith)))
              (λ l. rw (at_past (take n q.costs) a (omega (arith, first_long))) zero-le);
          edges = rw first_long edges_in;
          choices_all = long ∙ sym first_long;
          chained = chain_less q.sources q.targets links (tasks q) (length (take n q.costs)) (omega (arith, first_long)) w.chained;
        })

    abbrev c : ListCandidate
    c = candidate_by q.bus (take n q.costs) q.sources q.targets words choices

    candidate_is : c ≡ candidate q choices
    unfolding candidate added
    candidate_is = rw (long, e)

    pub span_is : makespan_of c ≡ makespan_of (candidate q choices)
    span_is = ap makespan_of candidate_is

    -- what the rounds leave in the columns
    pub placed_is :
        (cores start end rest_cores rest_start rest_end : List ℕ) (k : ℕ) → k ≡ length (take n q.costs)
        → cores ≡ list_below (core_in choices) k ++ rest_cores → start ≡ start_column k (finished c) ++ rest_start
        → end ≡ end_column k (finished c) ++ rest_end → Placed n (finished (candidate q choices)) cores start end
    unfolding finished placed
    placed_is cores start end rest_cores rest_start rest_end k ek fc fs fe =
        let few : n ≤ k = omega (arith, first_long) in
        let t : Table = finished c in
        let r = front_at (start_column k t) rest_start start (2 * k) (list_length (of_phase t.R t.W) (2 * k)) fs in
        let f = front_at (end_column k t) rest_end end (2 * k) (list_length (of_phase t.E t.F) (2 * k)) fe in
        rw (← candidate_is)
        (record {
          core = λ a h. front_at _ rest_cores cores k (list_length (core_in choices) k) fc a (omega arith) ∙ list_at (core_in choices) k a (omega arith);
          R = λ a h. r (2 * a) (omega arith) ∙ list_at (of_phase t.R t.W) (2 * k) (2 * a) (omega arith) ∙ of_even t.R t.W a;
          E = λ a h. f (2 * a) (omega arith) ∙ list_at (of_phase t.E t.F) (2 * k) (2 * a) (omega arith) ∙ of_even t.E t.F a;
          W = λ a h. r (2 * a + 1) (omega arith) ∙ list_at (of_phase t.R t.W) (2 * k) (2 * a + 1) (omega arith) ∙ of_odd t.R t.W a;
          F = λ a h. f (2 * a + 1) (omega arith) ∙ list_at (of_phase t.E t.F) (2 * k) (2 * a + 1) (omega arith) ∙ of_odd t.E t.F a;
        })

pub winner_is : (q : Plan) (choices : List ℕ) → choices ≡ chosen q (tasks q) → candidate q choices ≡ winner q
unfolding winner
winner_is q choices e = ap (candidate q) e

-- the winner is on cores that a byte holds
pub cores_small :
    (q : Plan) (links choices cores start end : List ℕ) (n : ℕ) → Listed q links → choices ≡ chosen q n
    → Placed n (finished (candidate q choices)) cores start end → (a : ℕ) → a < n → at cores a < 256
unfolding finished placed candidate
cores_small q links choices cores start end n w e p a h =
    let few : core_in (chosen q n) a < 8 = chosen_few q links n w a h in
    omega (arith, p.core a h, ap (λ (l : List ℕ). core_in l a) e)
