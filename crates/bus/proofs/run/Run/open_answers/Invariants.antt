-- `bus::run::Run::open_answers`: the answers of the phases passed.
use Rattle.std.proofs.Common.{◌≡◌, [], ◌∷◌}
use Rattle.model.specs.Below.{at, append_below, stored}
use Rattle.bus.proofs.run.Run.open_answers.Given as goal

abbrev pub invariant-loop-x : goal.invariant-loop-x
invariant-loop-x l = l.out ≡ stored l.initial.out 0 (append_below (λ y. at l.self.phases.start.now y ∷ 0 ∷ []) l.x)
