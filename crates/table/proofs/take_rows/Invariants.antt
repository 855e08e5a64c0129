-- `table::take_rows` meets its contract. One row more each turn.
use Rattle.model.specs.Table.{of_bytes, numbers_at}
use Rattle.model.specs.Below.{append_below, stored}
use mathlib.Core.Path.{◌≡◌}
use Rattle.table.proofs.take_rows.Given as goal

abbrev pub invariant-loop-i : goal.invariant-loop-i
invariant-loop-i l = l.out ≡ stored l.initial.out 0 (append_below (numbers_at (of_bytes l.s)) l.i)
