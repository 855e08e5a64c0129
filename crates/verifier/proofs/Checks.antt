-- The pairs of a task and all higher tasks, and windows by their delays. Assumes nothing.
use mathlib.Core.Path.{◌≡◌}
use mathlib.Core.List.{List, ◌++◌}
use Prim.Native.Nat.{ℕ, ◌+◌, ◌*◌, ◌≤◌, ◌<◌}
use native.Mathlib.Omega.{arith}
use lib.ListN.{length, drop}
use borrow.Author.Tests.{lt-ltb}
use Rattle.std.specs.Prelude.{Ok}
use Rattle.model.specs.Below.{list_below}
use Rattle.model.specs.Refusals.{refusal, refuse_if, or_else, first_bad}
use Rattle.model.specs.Table.{Table}
use Rattle.model.specs.Rules.{delay_at, crossing, cross_at, window_at}
use Rattle.model.specs.declared.Bus.{Bus}
use Rattle.model.specs.declared.Fault.TheVariants.{SpansCross}
use Rattle.model.specs.declared.Side.TheVariants.{OfTable}
use Rattle.contention.specs.Columns.{phases_by}
use Rattle.contention.proofs.Columns.{is_column}
use Rattle.model.proofs.Below.{join_cong}
use Rattle.model.proofs.Refusals.{first_all, first_more, first_out}
use Rattle.model.proofs.Rules.{apart_good}
use Rattle.verifier.specs.Columns.{lasts_at}

-- there are none up to task i itself
pub pairs_none : (t : Table) (i : ℕ) → first_bad (cross_at t i) (i + 1) ≡ Ok tt
pairs_none t i = first_all (cross_at t i) (i + 1) (λ j l. apart_good t i j (λ k. absurd (omega arith)))

-- the pair of task i and a higher task
pub pair_is : (t : Table) (i j : ℕ) → i < j → cross_at t i j ≡ refuse_if (crossing (t.core i) (t.R i) (t.F i) (t.core j) (t.R j) (t.F j)) (refusal SpansCross OfTable (20 * j))
unfolding cross_at
pair_is t i j l = rw (lt-ltb i j l)

pub ruleset pairs = (pairs_none, pair_is, first_more, first_out)

-- with the delays of the phases a window lasts as the rule asks
pub lasts_each : (b : Bus) (core start end words delays rest : List ℕ) (n : ℕ) → n ≤ length rest
    → delays ≡ list_below (delay_at b (phases_by core start end words n)) n ++ drop n rest
    → first_bad (lasts_at start end delays) n ≡ first_bad (window_at b (phases_by core start end words n)) n
unfolding lasts_at window_at
lasts_each b core start end words delays rest n l e =
    let due = is_column (delay_at b (phases_by core start end words n)) n rest l delays e in
    join_cong or_else (Ok tt) _ _ n (λ x k. rw (due.each x k))
