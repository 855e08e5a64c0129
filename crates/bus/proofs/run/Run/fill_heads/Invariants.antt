-- `bus::run::Run::fill_heads`: the heads of the cores passed.
use Rattle.std.proofs.Common.{◌≡◌, ◌++◌, drop}
use Rattle.model.specs.Below.{list_below}
use Rattle.bus.specs.Runs.{head_in}
use Rattle.bus.proofs.run.Run.fill_heads.Given as goal

abbrev pub invariant-loop-c : goal.invariant-loop-c
invariant-loop-c l =
    (l.self.phases ≡ l.initial.self.phases)
    × (l.self.left.now ≡ l.initial.self.left.now)
    × (l.self.head.now ≡ list_below (head_in l.initial.self) l.c ++ drop l.c l.initial.self.head.now)
