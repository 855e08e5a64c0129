-- From the fields and the list order to the plan that was read, and what its columns hold for the callers. Assumes nothing.
use mathlib.Core.Path.{◌≡◌, refl, sym, ap, subst, ◌∙◌}
use mathlib.Core.Bool.{false}
use mathlib.Core.List.{List}
use Prim.Native.Nat.{ℕ, ◌≤◌}
use native.Mathlib.Omega.{arith}
use lib.ListN.{length, drop, take, replicate, length-replicate}
use lib.Seq.{take-append_seam}
use Rattle.model.specs.Refusals.{refusal, refuse_if, Check}
use Rattle.model.specs.Field.{plan_step, Step}
use Rattle.model.specs.Plan.{Plan, tasks, edges, reading_of, tasks as tasks_of, edges as edges_of}
use Rattle.model.specs.Graph.{list_order, left_over, plan_of}
use Rattle.model.specs.declared.Fault.TheVariants.{Cyclic}
use Rattle.model.specs.declared.Side.TheVariants.{OfPlan}
use Rattle.model.specs.declared.Refusal.{Refusal}
use Rattle.model.proofs.Refusals.{or_good, not_refused}
use Rattle.model.proofs.Graph.{order_length}
use Rattle.model.proofs.Plan.{Read, plan_valid}
use Rattle.plan.specs.Order.{graph_of}
use Rattle.plan.specs.Planned.{filled, graph_in, EdgesIn, order_by, columns_of, plan_check, plan_read, Sized}
use Rattle.plan.specs.declared.Columns.{Columns}
use Rattle.plan.specs.declared.PlanRead.{PlanRead}
use Rattle.plan.proofs.Fields.{filled_front, filled_length}
use Rattle.plan.proofs.Waiting.{order_graph, left_graph}
use Rattle.std.specs.Prelude.{Ok, Err}

-- the entries at a column's front
pub filled_take : (front l : List ℕ) (n : ℕ) → n ≡ length front → length front ≤ length l → take n (filled front l) ≡ front
filled_take front l n e h = rw (e, filled_front front l h) (take-append_seam front (drop (length front) l))

-- the columns hold the fields that were read, and no list order yet
module _ (bytes : List ℕ) (c : Columns) (e : c ≡ columns_of (reading_of bytes).plan (replicate 64 0)) where
  abbrev p : Plan
  p = (reading_of bytes).plan

  -- a field was refused
  pub read_bad : {r : Refusal} → Err r ≡ (reading_of bytes).check → (record { check = Err r; columns = c }) ≡ plan_read bytes
  unfolding plan_read plan_check
  read_bad {r} b = rw (e, ← b)

  module _ (good : Ok tt ≡ (reading_of bytes).check) where
    facts : Read bytes p
    facts = plan_valid bytes (sym good)

    pub read_few : c.edges ≤ 256
    unfolding columns_of
    read_few = rw e facts.valid.ranges.few_edges

    sources_take : take c.edges c.sources ≡ p.sources
    unfolding columns_of
    sources_take = rw e (filled_take p.sources (replicate 256 0) (edges p) refl (omega (arith, facts.valid.ranges.few_edges)))

    targets_take : take c.edges c.targets ≡ p.targets
    unfolding columns_of
    targets_take =
        let all = facts.valid.ranges.targets_all in
        rw e (filled_take p.targets (replicate 256 0) (edges p) (sym all) (omega (arith, facts.valid.ranges.few_edges, all)))

    tasks_is : c.tasks ≡ tasks p
    unfolding columns_of
    tasks_is = ap (λ (z : Columns). z.tasks) e

    -- what the list order needs of the edges
    pub read_edges : EdgesIn c
    read_edges =
        let v = facts.valid.ranges in
        rw (tasks_is, sources_take, targets_take)
        (record {
          few_tasks = v.few_tasks;
          few_edges = v.few_edges;
          sources_low = v.sources_known;
          targets_low = v.targets_known;
          rising = v.rising;
        })

    graph_is : graph_in c ≡ graph_of (tasks p) p.sources p.targets
    graph_is = λ i. graph_of (tasks_is i) (sources_take i) (targets_take i)

    -- all fields are good, and the list order has decided
    checked : (check : Check) → check ≡ refuse_if (left_over (graph_in c)) (refusal Cyclic OfPlan (length bytes)) → check ≡ plan_check bytes
    unfolding plan_check
    checked check k = k ∙ rw (graph_is, ← left_graph p, ← good)

    listed : record c { order = filled (list_order (graph_in c)) c.order } ≡ columns_of p (order_by p (reading_of bytes).check)
    unfolding columns_of
    listed = rw (graph_is, ← order_graph p, ← good, e)

    pub read_good : (check : Check) (d : Columns)
        → check ≡ refuse_if (left_over (graph_in c)) (refusal Cyclic OfPlan (length bytes))
        → d ≡ record c { order = filled (list_order (graph_in c)) c.order }
        → (record { check = check; columns = d }) ≡ plan_read bytes
    unfolding plan_read
    read_good check d k q = rw (checked check k, q, listed)

-- ---- for the callers of `read_plan`
long : (front : List ℕ) (n : ℕ) → n ≡ length (filled front (replicate n 0))
long front n = sym (filled_length front (replicate n 0) ∙ length-replicate n 0)

ordered_long : (p : Plan) (c : Check) → 64 ≡ length (order_by p c)
ordered_long p (Ok tt) = long (list_order p) 64
ordered_long p (Err r) = refl

pub read_sized : (bytes : List ℕ) (r : PlanRead) → r ≡ plan_read bytes → Sized r.columns
unfolding plan_read columns_of
read_sized bytes r e =
    rw e
    (record {
      costs = long (reading_of bytes).plan.costs 64;
      order = ordered_long (reading_of bytes).plan (reading_of bytes).check;
      sources = long (reading_of bytes).plan.sources 256;
      targets = long (reading_of bytes).plan.targets 256;
      amounts = long (reading_of bytes).plan.amounts 256;
    })

-- the plan was refused
pub plan_refused : (bytes : List ℕ) (r : PlanRead) {q : Refusal} → r ≡ plan_read bytes → r.check ≡ Err q → plan_of bytes ≡ Err q
unfolding plan_read plan_check plan_of
plan_refused bytes r e b = rw (sym (ap (λ (x : PlanRead). x.check) e) ∙ b)

-- the plan that bytes are, and its columns
pub record Known (bytes : List ℕ) (c : Columns) (p : Plan) : Type 0 where
  pub is : plan_of bytes ≡ Ok p
  pub read : Read bytes p
  pub full : left_over p ≡ false
  pub bus : c.bus ≡ p.bus
  pub tasks : c.tasks ≡ tasks_of p
  pub edges : c.edges ≡ edges_of p
  pub costs : take c.tasks c.costs ≡ p.costs
  pub order : take c.tasks c.order ≡ list_order p
  pub sources : take c.edges c.sources ≡ p.sources
  pub targets : take c.edges c.targets ≡ p.targets
  pub amounts : take c.edges c.amounts ≡ p.amounts

known : (bytes : List ℕ) → plan_check bytes ≡ Ok tt → Known bytes (plan_read bytes).columns (reading_of bytes).plan
unfolding plan_read plan_check plan_of columns_of
known bytes g =
    let b = or_good (reading_of bytes).check _ g in
    let p = (reading_of bytes).plan in
    let w = plan_valid bytes b.0 in
    let v = w.valid.ranges in
    let f : left_over p ≡ false = not_refused (left_over p) (refusal Cyclic OfPlan (length bytes)) b.1 in
    let q : order_by p (reading_of bytes).check ≡ filled (list_order p) (replicate 64 0) = rw b.0 in
    record {
      is = rw g;
      read = w;
      full = f;
      bus = refl;
      tasks = refl;
      edges = refl;
      costs = filled_take p.costs (replicate 64 0) (tasks_of p) refl (omega (arith, v.few_tasks));
      order = rw q (filled_take (list_order p) (replicate 64 0) (tasks_of p) (sym (order_length p f)) (omega (arith, order_length p f, v.few_tasks)));
      sources = filled_take p.sources (replicate 256 0) (edges_of p) refl (omega (arith, v.few_edges));
      targets = filled_take p.targets (replicate 256 0) (edges_of p) (sym v.targets_all) (omega (arith, v.few_edges, v.targets_all));
      amounts = filled_take p.amounts (replicate 256 0) (edges_of p) (sym v.amounts_all) (omega (arith, v.few_edges, v.amounts_all));
    }

pub plan_known : (bytes : List ℕ) (r : PlanRead) → r ≡ plan_read bytes → r.check ≡ Ok tt → Known bytes r.columns (reading_of bytes).plan
unfolding plan_read
plan_known bytes r e g =
    subst (λ (x : PlanRead). Known bytes x.columns (reading_of bytes).plan) (sym e)
    (known bytes (sym (ap (λ (x : PlanRead). x.check) e) ∙ g))

-- its tasks and edges fit their columns, so each column's front can be lent
pub record Fronts (c : Columns) : Type 0 where
  pub costs : c.tasks ≤ length c.costs
  pub order : c.tasks ≤ length c.order
  pub sources : c.edges ≤ length c.sources
  pub targets : c.edges ≤ length c.targets
  pub amounts : c.edges ≤ length c.amounts

pub plan_fronts : (bytes : List ℕ) (r : PlanRead) → r ≡ plan_read bytes → r.check ≡ Ok tt → Fronts r.columns
plan_fronts bytes r e g =
    let s = read_sized bytes r e in
    let k = plan_known bytes r e g in
    let n : r.columns.tasks ≤ 64 = omega (arith, k.tasks, k.read.valid.ranges.few_tasks) in
    let m : r.columns.edges ≤ 256 = omega (arith, k.edges, k.read.valid.ranges.few_edges) in
    record {
      costs = omega (arith, s.costs);
      order = omega (arith, s.order);
      sources = omega (arith, s.sources);
      targets = omega (arith, s.targets);
      amounts = omega (arith, s.amounts);
    }

-- the fronts are the plan
pub fronts_plan : (bytes : List ℕ) (c : Columns) (p : Plan) → Known bytes c p
    → (record {
      bus = c.bus;
      costs = take c.tasks c.costs;
      sources = take c.edges c.sources;
      targets = take c.edges c.targets;
      amounts = take c.edges c.amounts;
    }) ≡ p
fronts_plan bytes c p k =
    λ i. record { bus = k.bus i; costs = k.costs i; sources = k.sources i; targets = k.targets i; amounts = k.amounts i }

-- ---- two results that the promises of `step_from` and `read_plan` allow are one
pub step_one : (bytes : List ℕ) (place : ℕ) (x y : Step) → x ≡ plan_step bytes place → y ≡ plan_step bytes place → x ≡ y
step_one bytes place x y a b = a ∙ sym b

pub plan_one : (bytes : List ℕ) (x y : PlanRead) → x ≡ plan_read bytes → y ≡ plan_read bytes → x ≡ y
plan_one bytes x y a b = a ∙ sym b
