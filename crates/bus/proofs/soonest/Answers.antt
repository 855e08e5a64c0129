-- `bus::soonest` meets its contract. The first that passes, and the ways of one number more.
use Rattle.std.proofs.Common.{rules, true, false, Some, None, refl, arith}
use Rattle.std.proofs.lemmas.Iterator.{serves_from_Range, IsFirst-from_position, YieldsList-from_range}
use Rattle.bus.proofs.Heads.{best_none, best_first, best_no, best_less, best_not}
use Rattle.bus.proofs.soonest.Goals as goal
use Rattle.bus.proofs.soonest.Goals.{then-passes+then-value, else-passes, else-passes-via-then-passes+else-value, else-passes-via-else-passes}

pub position-requires-clause-callable : goal.position-requires-clause-callable
position-requires-clause-callable g c = serves_from_Range (λ x q r. search rules) (λ x a b. c.requires.asks x b)

pub returns-in_err-best : goal.returns-in_err-best
returns-in_err-best g c =
    rw c.from_residual.ensures
    (best_none _ _ _
    (IsFirst-from_position _ _ None (λ i. goal.P-post g c.args.passes i true) (λ i. goal.P-post g c.args.passes i false) c.in_err-best.ensures.ran
    (YieldsList-from_range 0 c.args.count c.args.count refl (omega arith)) (λ x q k. search rules) (λ x q k. search rules)))

pub loop-i-init : goal.loop-i-init
loop-i-init g c =
    best_first _ _ _
    (IsFirst-from_position _ _ (Some c.in_ok-best.best) (λ i. goal.P-post g c.args.passes i true) (λ i. goal.P-post g c.args.passes i false) c.in_ok-best.ensures.ran
    (YieldsList-from_range 0 c.args.count c.args.count refl (omega arith)) (λ x q k. search rules) (λ x q k. search rules))

pub loop-i-preserved : goal.loop-i-preserved
loop-i-preserved g c =
    let l = c.loop-i-test.true in
    let s = c.loop-i.invariant in
    elim c.if-passes.branch [
      | then-passes+then-value w ↦ rw w.best-is (best_less _ _ _ l s w.if-passes.ensures w.value.ensures w.value-then-passes.ensures w.if-value.true)
      | else-passes w ↦ elim w.else-passes.branch [
        | else-passes-via-then-passes+else-value w' ↦ rw w.best-is (best_not _ _ _ l s w'.if-passes.ensures w'.value.ensures w'.value-then-passes.ensures w'.if-value.false)
        | else-passes-via-else-passes w' ↦ rw w.best-is (best_no _ _ _ l s w'.if-passes.ensures)
      ]
    ]
