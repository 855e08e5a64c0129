-- `rounds::run_rounds` meets its contract. After n rounds the columns hold the lengths of n rounds and their windows.
use Rattle.model.specs.ListRule.{rounds}
use Rattle.placing.specs.Views.{as_candidate}
use Rattle.rounds.specs.Standing.{Standing}
use Rattle.rounds.proofs.run_rounds.Given as goal

abbrev pub invariant-loop-n : goal.invariant-loop-n
invariant-loop-n l = Standing (as_candidate l.candidate) (rounds (as_candidate l.candidate) l.n) l.initial.lengths l.initial.start l.initial.end l.lengths l.start l.end
