-- `bus::run::Run::add_waits`: the waits of the heads of the cores passed.
use Rattle.std.proofs.Common.{◌≡◌, length}
use Rattle.bus.specs.OneGrant.{with_waits}
use Rattle.bus.proofs.run.Run.add_waits.Given as goal

abbrev pub invariant-loop-d : goal.invariant-loop-d
invariant-loop-d l = l.out ≡ with_waits l.self.phases.start.now l.self.head.now (length l.self.left.now) l.c l.ends l.d l.initial.out
