-- `maker::Trial::put_table` meets its contract. The rows of the tasks passed are in place.
use mathlib.Core.Path.{◌≡◌}
use Rattle.model.specs.Below.{append_below, stored}
use Rattle.model.specs.Table.{bytes_at}
use Rattle.maker.specs.Views.{table_by}
use Rattle.maker.proofs.trial.Trial.put_table.Given as goal

abbrev pub invariant-loop-i : goal.invariant-loop-i
invariant-loop-i l = l.out ≡ stored l.initial.out 0 (append_below (bytes_at (table_by l.self l.plan)) l.i)
