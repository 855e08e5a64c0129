-- `placing::place_phases` meets its contract. The windows of the places passed stand in the columns.
use Rattle.placing.specs.Starts.{Freed, Closed}
use Rattle.placing.specs.Views.{placed_in}
use Rattle.placing.proofs.Places.{Done}
use Rattle.placing.proofs.place_phases.Given as goal

abbrev pub invariant-loop-a : goal.invariant-loop-a
invariant-loop-a l =
    record {
      done : Done (placed_in l.candidate l.phases.lengths.now) l.initial.start l.initial.end l.start l.end l.a;
      freed : Freed l.phases.core.now l.end l.board.free l.a;
      closed : Closed l.phases.words.now l.end l.board.closes l.board.tops l.a;
    }
