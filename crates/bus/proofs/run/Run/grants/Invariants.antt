-- `bus::run::Run::grants`: the columns follow the log, grant by grant (proofs/Rounds.antt).
use Rattle.std.proofs.Common.{◌≡◌}
use Rattle.bus.specs.Runs.{lead_in}
use Rattle.bus.proofs.Granting.{unsent}
use Rattle.bus.proofs.Rounds.{Going}
use Rattle.bus.proofs.run.Run.grants.Given as goal

abbrev pub invariant-loop-next : goal.invariant-loop-next
invariant-loop-next l =
    (l.self.phases ≡ l.initial.self.phases)
    × Going l.bus l.self.phases l.served l.initial.self.left.now l.initial.out l.free l.last l.self.left.now l.self.head.now l.out
    × (l.next ≡ lead_in l.self)

abbrev pub decreases-loop-next : goal.decreases-loop-next
decreases-loop-next l = unsent l.self.left.now
