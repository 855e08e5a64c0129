-- `rounds::run_rounds` meets its contract. After n rounds the columns hold the lengths of n rounds and their windows.
use mathlib.Core.Path.{◌∙◌}
use Rattle.rounds.proofs.Turns.{loads_fit, stop_early, prepared_next, go_on}
use Rattle.rounds.proofs.run_rounds.Goals as goal

pub grow-requires-clause-loads : goal.grow-requires-clause-loads
grow-requires-clause-loads c = loads_fit c.args.candidate _ _ _ c.requires.prepared

pub returns-then-not-grow : goal.returns-then-not-grow
returns-then-not-grow c =
    let g = c.grow.ensures in
    stop_early c.args.candidate _ _ _ c.requires.prepared _ _ _ _ _ _ _ c.loop-n.invariant _ _ g.grew g.grown c.if-not-grow.true

pub place_phases-requires-clause-prepared : goal.place_phases-requires-clause-prepared
place_phases-requires-clause-prepared c =
    let g = c.grow.ensures in
    prepared_next c.args.candidate _ _ _ c.requires.prepared _ _ _ _ _ _ _ c.loop-n.invariant _ _ g.grew g.grown (c.grow.auto.lengths ∙ c.loop-n.auto.lengths)

pub loop-n-preserved : goal.loop-n-preserved
loop-n-preserved c =
    let g = c.grow.ensures in
    go_on c.args.candidate _ _ _ c.requires.prepared _ _ _ _ _ _ _ c.loop-n.invariant _ _ g.grew g.grown _ _ c.place_phases.ensures.starts c.place_phases.ensures.ends
