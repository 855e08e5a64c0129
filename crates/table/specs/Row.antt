-- One task's numbers, as code hands them on. Assumes nothing.
use Rattle.std.specs.Prelude.{ℕ}
use Rattle.model.specs.Table.{Table}
use Rattle.table.specs.declared.Row.{Row}

-- core and marks of task i
abbrev pub row_of : Table → ℕ → Row
row_of t i = record { core = t.core i; r = t.R i; e = t.E i; w = t.W i; f = t.F i }
