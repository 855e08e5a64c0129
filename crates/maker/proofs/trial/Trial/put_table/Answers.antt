-- `maker::Trial::put_table` meets its contract. One row more each turn.
use native.Mathlib.Omega.{arith}
use Rattle.std.proofs.lemmas.Grind.{common_steps}
use Rattle.maker.proofs.Rows.{row_long, row_core, rows_more}
use Rattle.maker.proofs.trial.Trial.put_table.Goals as goal

pub put_rows-requires : goal.put_rows-requires
put_rows-requires c =
    let p = c.args.plan.now in (
      omega arith,
      omega (arith, row_long _ _ _ c.row-row.ensures),
      grind (arith, common_steps),
      λ j h. row_core _ _ _ c.row-row.ensures (c.requires.few_cores _ (p.ordered.placed _ c.loop-i-test.true)) j (omega arith),
    )

pub loop-i-preserved : goal.loop-i-preserved
loop-i-preserved c =
    rows_more _ _ _ c.row-row.ensures c.args.out.now _ _ _ _ c.loop-i.invariant c.put_rows.ensures (grind (arith, common_steps)) (omega arith) (omega arith)
