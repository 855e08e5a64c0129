-- `bus::run::Run::grants` meets its contract. The columns follow the log, grant by grant (proofs/Rounds.antt).
use Rattle.bus.proofs.Rounds.{opening, lead_headed, lead_head, last_headed, fits, less, again, done}
use Rattle.std.proofs.Common.{refl, sym, rules, ◌∙◌}
use Rattle.bus.proofs.run.Run.grants.Goals as goal

pub loop-next-init : goal.loop-next-init
loop-next-init c = (refl, opening _ _ _ _ _ _ c.requires.playable c.requires.room c.requires.opened, c.lead-next.ensures)

pub head_start-requires-clause-known : goal.head_start-requires-clause-known
head_start-requires-clause-known c = lead_headed c.loop-next.invariant.1 (sym c.in-Some.is ∙ c.loop-next.invariant.2)

pub head_start-requires-clause-headed : goal.head_start-requires-clause-headed
head_start-requires-clause-headed c = lead_head c.loop-next.invariant.1 (sym c.in-Some.is ∙ c.loop-next.invariant.2)

pub turn-c-requires : goal.turn-c-requires
turn-c-requires c = last_headed c.loop-next.invariant.1

pub grant-free-requires : goal.grant-free-requires
grant-free-requires c = fits c.loop-next.invariant.1 (sym c.in-Some.is ∙ c.loop-next.invariant.2) (search rules) c.turn-c.ensures c.loop-next.self.ends

pub loop-next-smaller : goal.loop-next-smaller
loop-next-smaller c = less c.loop-next.invariant.1 (sym c.in-Some.is ∙ c.loop-next.invariant.2) (search rules) c.turn-c.ensures c.grant-free.ensures.granted

pub loop-next-preserved : goal.loop-next-preserved
loop-next-preserved c =
    let e = c.grant-free.ensures.phases in
    (e ∙ c.loop-next.invariant.0, rw e (again c.loop-next.invariant.1 (sym c.in-Some.is ∙ c.loop-next.invariant.2) (search rules) c.turn-c.ensures c.grant-free.ensures.granted), c.lead-next-in-Some.ensures)

pub returns : goal.returns
returns c = rw c.loop-next.invariant.0 at (done c.loop-next.invariant.1 (sym c.in_default.is ∙ c.loop-next.invariant.2))
