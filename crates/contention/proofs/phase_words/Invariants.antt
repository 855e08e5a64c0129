-- `contention::phase_words` meets its contract. The words of the edges passed (proofs/Loads.antt).
use lib.ListN.{length}
use Prim.Native.Nat.{◌*◌}
use Rattle.model.specs.Below.{at}
use Rattle.contention.specs.Views.{as_plan}
use Rattle.contention.proofs.Columns.{Column}
use Rattle.contention.proofs.Loads.{part}
use Rattle.contention.proofs.phase_words.Given as goal

abbrev pub invariant-loop-e : goal.invariant-loop-e
invariant-loop-e l = Column (part (as_plan 0 l.edges) (at l.cores) l.e) (2 * length l.cores) l.fn.words l.words
