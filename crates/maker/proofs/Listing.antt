-- A plan by list place, as its columns hold it, and the table that is made of it. Assumes nothing.
use mathlib.Core.Path.{◌≡◌, sym, ap, subst, ◌∙◌}
use mathlib.Core.List.{List, ◌++◌}
use Prim.Native.Nat.{ℕ, ◌+◌, ◌≤◌, ◌<◌}
use native.Mathlib.Omega.{arith}
use lib.ListN.{length, take, replicate, length-replicate}
use Rattle.model.specs.Below.{at}
use Rattle.model.specs.Plan.{Plan, Valid, tasks, edges, source, target}
use Rattle.model.specs.Graph.{place_of, list_order}
use Rattle.model.specs.Table.{bytes}
use Rattle.model.specs.ListRule.{plan_by_place, finished, makespan_of, winner, made, made_bytes, made_makespan}
use Rattle.model.proofs.Tests.{lt_or_ge}
use Rattle.model.proofs.Below.{list_length}
use Rattle.model.proofs.Spans.{at_past}
use Rattle.model.proofs.Graph.{order_length, order_place, order_task, order_taken, order_listing}
use Rattle.model.proofs.ByPlace.{by_place_tasks, by_place_edges, by_place_cost, by_place_source, by_place_target}
use Rattle.model.proofs.Accepts.{made_makespan_lem}
use Rattle.contention.proofs.Columns.{fill_take}
use Rattle.placing.specs.Candidates.{plan_by, Chained}
use Rattle.maker.specs.Renumbering.{costs_by, places_by, linked_by}
use Rattle.maker.specs.Choosing.{Listed, by_task, Ordered, Planned}
use Rattle.maker.proofs.Edges.{linked_length, linked_head, linked_next}

-- ---- the plan by place
module _ (p : Plan) (order : List ℕ) (k : Planned p order) where
  abbrev v : Valid p
  v = k.valid

  pub order_long : length order ≡ tasks p
  order_long = ap length k.listed ∙ order_length p k.full

  pub by_place :
      (times from to rest_times rest_from rest_to : List ℕ) → times ≡ costs_by p.costs order ++ rest_times → from ≡ places_by order p.sources ++ rest_from
      → to ≡ places_by order p.targets ++ rest_to
      → plan_by p.bus (take (length order) times) (take (length p.sources) from) (take (length p.targets) to) p.amounts ≡ plan_by_place p
  unfolding plan_by_place
  by_place times from to rest_times rest_from rest_to et ef eo =
      rw (fill_take _ _ _ _ et, fill_take _ _ _ _ ef, fill_take _ _ _ _ eo, order_long, k.listed, v.ranges.targets_all)

  pub ordered : Ordered (tasks p) order
  ordered = record { all = order_long; placed = λ i h. rw k.listed (order_place p k.full i h) }

  pub order_known : (a : ℕ) → a < length order → at order a < tasks p
  order_known a h = rw k.listed (order_task p k.full a (omega (arith, order_long)))

  known : (e : ℕ) → e < edges (plan_by_place p) → target (plan_by_place p) e < 64
  known e h =
      let l : e < edges p = omega (arith, by_place_edges p) in
      omega (arith, v.ranges.few_tasks, by_place_target p e l, order_place p k.full (target p e) (v.ranges.targets_known e l))

  targets_long : length (plan_by_place p).targets ≡ edges (plan_by_place p)
  unfolding plan_by_place
  targets_long = list_length (λ e. place_of (list_order p) (target p e)) (edges p) ∙ sym (by_place_edges p)

  -- an edge's source stands before its target
  before : (e : ℕ) → e < edges (plan_by_place p) → source (plan_by_place p) e < target (plan_by_place p) e
  before e h =
      let l : e < edges p = omega (arith, by_place_edges p) in
      omega (
        arith,
        by_place_source p e l,
        by_place_target p e l,
        (order_listing p).rises e l (order_taken p k.full (target p e) (v.ranges.targets_known e l)),
      )

  chains : Chained (plan_by_place p).sources (plan_by_place p).targets (linked_by (plan_by_place p).targets (replicate 320 0) (edges (plan_by_place p))) (tasks (plan_by_place p))
  chains =
      let m = by_place_edges p in
      let few : edges (plan_by_place p) ≤ 256 = omega (arith, v.ranges.few_edges) in
      let known' : (e : ℕ) → 64 + e < 320 → at (plan_by_place p).targets e < 64 =
      λ e h. lt_or_ge e (edges (plan_by_place p)) (λ l. known e l) (λ l. omega (arith, at_past (plan_by_place p).targets e (omega (arith, targets_long)))) in
      record {
        links_all = omega (arith, linked_length (plan_by_place p).targets (replicate 320 0) (edges (plan_by_place p)), length-replicate {A = ℕ} 320 0);
        heads = λ a h. linked_head (plan_by_place p).targets 320 known' (edges (plan_by_place p)) a (omega arith) (omega (arith, by_place_tasks p, v.ranges.few_tasks));
        nexts = λ e h. linked_next (plan_by_place p).targets 320 known' (edges (plan_by_place p)) e (omega arith) h;
        before = λ e h _. before e h;
      }

  pub targets_known : (q : Plan) → q ≡ plan_by_place p → (length q.targets ≤ 256) × ((e : ℕ) → e < length q.targets → target q e < 64)
  targets_known q e = rw e (omega (arith, targets_long, by_place_edges p, v.ranges.few_edges), λ x h. known x (omega (arith, targets_long)))

  pub tasks_same : (q : Plan) → q ≡ plan_by_place p → tasks q ≡ tasks p
  tasks_same q e = ap tasks e ∙ by_place_tasks p

  module _ (small : (a : ℕ) → at p.costs a < 65536) where
    listed_plan : (links : List ℕ) → links ≡ linked_by (plan_by_place p).targets (replicate 320 0) (edges (plan_by_place p)) → Listed (plan_by_place p) links
    unfolding plan_by_place
    listed_plan links e =
        let n = by_place_tasks p in
        let m = by_place_edges p in
        let few = v.ranges.few_tasks in
        record {
          settings = v.settings;
          few_tasks = omega arith;
          few_edges = omega (arith, v.ranges.few_edges);
          costs_most = λ a h. omega (arith, by_place_cost p a (omega arith), small (at (list_order p) a));
          targets_all = targets_long;
          amounts_all = v.ranges.amounts_all ∙ sym m;
          amounts_most = v.ranges.amounts_most;
          chained = rw e chains;
        }

    pub listed_by : (q : Plan) (links : List ℕ) → q ≡ plan_by_place p → links ≡ linked_by q.targets (replicate 320 0) (length q.targets) → Listed q links
    listed_by q links e = subst (λ (x : Plan). links ≡ linked_by x.targets (replicate 320 0) (length x.targets) → Listed x links) (sym e) (λ l. listed_plan links (l ∙ ap (linked_by (plan_by_place p).targets (replicate 320 0)) targets_long))

  -- the answer and the bytes are the list rule's
  pub makespan_is : (q : Plan) → q ≡ plan_by_place p → makespan_of (winner q) ≡ made_makespan p
  makespan_is q e = ap (λ (x : Plan). makespan_of (winner x)) e ∙ sym (made_makespan_lem p v k.full)

  pub bytes_are : (q : Plan) → q ≡ plan_by_place p → bytes (by_task order (finished (winner q))) (tasks q) ≡ made_bytes p
  unfolding made_bytes made
  bytes_are q e = rw (e, k.listed, by_place_tasks p)
