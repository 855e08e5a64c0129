-- What reading says of the columns of a plan that is whole. Assumes nothing.
use mathlib.Core.Path.{◌≡◌, refl}
use mathlib.Core.List.{List}
use Prim.Native.Nat.{ℕ}
use native.Mathlib.Omega.{arith}
use Rattle.std.specs.Prelude.{Ok, Err, MatchResult}
use Rattle.model.specs.Refusals.{Check}
use Rattle.model.specs.Plan.{reading_of}
use Rattle.model.specs.Graph.{plan_of}
use Rattle.plan.specs.declared.Columns.{Columns}
use Rattle.plan.specs.declared.PlanRead.{PlanRead}
use Rattle.plan.specs.Planned.{plan_read, Holds}
use Rattle.plan.proofs.Whole.{plan_known, plan_refused}

holds : (bytes : List ℕ) (r : PlanRead) → r ≡ plan_read bytes → r.check ≡ Ok tt → Holds bytes r.columns (reading_of bytes).plan
holds bytes r e g =
    let k = plan_known bytes r e g in
    record {
      is = k.is;
      valid = k.read.valid;
      full = k.full;
      few_tasks = omega (arith, k.tasks, k.read.valid.ranges.few_tasks);
      few_edges = omega (arith, k.edges, k.read.valid.ranges.few_edges);
      bus = k.bus;
      tasks = k.tasks;
      edges = k.edges;
      costs = k.costs;
      order = k.order;
      sources = k.sources;
      targets = k.targets;
      amounts = k.amounts;
    }

pub held : (bytes : List ℕ) (check : Check) (c : Columns) → record { check = check; columns = c } ≡ plan_read bytes
    → MatchResult check (λ _. Holds bytes c (reading_of bytes).plan) (λ r. plan_of bytes ≡ Err r)
held bytes (Ok tt) c e = holds bytes _ e refl
held bytes (Err r) c e = plan_refused bytes _ e refl
