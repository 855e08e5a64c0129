-- `run::run` meets its contract: by what judging and the checks found, and what is played.
use Rattle.std.proofs.Common.{sym, arith}
use Rattle.std.proofs.lemmas.Grind.{common_steps}
use Rattle.run.proofs.Ways.{unjudged}
use Rattle.run.proofs.Entry.{unplayed_at, playable_at, room_at, played_at}
use Rattle.run.proofs.run.Goals as goal

pub returns-in_err-obeyed-clause-answer : goal.returns-in_err-obeyed-clause-answer
returns-in_err-obeyed-clause-answer c =
    let a = c.args in
    let both = unjudged a.plan.now a.table.now a.served a.words.now a.out.now (sym c.in_err-obeyed.ensures.answer) in
    grind (arith, common_steps, both.0)

pub returns-in_err-obeyed-clause-output : goal.returns-in_err-obeyed-clause-output
returns-in_err-obeyed-clause-output c =
    (unjudged c.args.plan.now c.args.table.now c.args.served _ _ (sym c.in_err-obeyed.ensures.answer)).1

pub returns-in_err-run_check-clause-answer : goal.returns-in_err-run_check-clause-answer
returns-in_err-run_check-clause-answer c =
    let both = unplayed_at _ _ (sym c.in_ok-obeyed.ensures.answer) _ _ _ _ _ _ _ _ c.judge.ensures.phases c.args.served _ c.args.out.now _ c.run_check.ensures c.in_err-run_check.was in
    grind (arith, common_steps, both.0)

pub returns-in_err-run_check-clause-output : goal.returns-in_err-run_check-clause-output
returns-in_err-run_check-clause-output c =
    (unplayed_at _ _ (sym c.in_ok-obeyed.ensures.answer) _ _ _ _ _ _ _ _ c.judge.ensures.phases c.args.served _ _ _ c.run_check.ensures c.in_err-run_check.was).1

pub play_phases-requires-clause-playable : goal.play_phases-requires-clause-playable
play_phases-requires-clause-playable c =
    playable_at _ _ (sym c.in_ok-obeyed.ensures.answer) _ _ _ _ _ _ _ _ c.judge.ensures.phases c.args.served _ c.args.out.now _ c.run_check.ensures c.in_ok-run_check.was

pub play_phases-requires-clause-room : goal.play_phases-requires-clause-room
play_phases-requires-clause-room c =
    room_at _ _ (sym c.in_ok-obeyed.ensures.answer) _ _ _ _ _ _ _ _ c.judge.ensures.phases c.args.served _ c.args.out.now _ c.run_check.ensures c.in_ok-run_check.was

pub returns-clause-answer : goal.returns-clause-answer
returns-clause-answer c =
    (played_at _ _ (sym c.in_ok-obeyed.ensures.answer) _ _ _ _ _ _ _ _ c.judge.ensures.phases c.args.served _ _ _ c.run_check.ensures c.in_ok-run_check.was _ c.play_phases.ensures).0

pub returns-clause-output : goal.returns-clause-output
returns-clause-output c =
    (played_at _ _ (sym c.in_ok-obeyed.ensures.answer) _ _ _ _ _ _ _ _ c.judge.ensures.phases c.args.served _ _ _ c.run_check.ensures c.in_ok-run_check.was _ c.play_phases.ensures).1
