-- `table::put_rows` meets its contract. One row more each turn.
use Rattle.model.specs.Table.{of_numbers, bytes_at}
use Rattle.model.specs.Below.{append_below, stored}
use mathlib.Core.Path.{◌≡◌}
use Rattle.table.proofs.put_rows.Given as goal

abbrev pub invariant-loop-i : goal.invariant-loop-i
invariant-loop-i l = l.out ≡ stored l.initial.out 0 (append_below (bytes_at (of_numbers l.table)) l.i)
