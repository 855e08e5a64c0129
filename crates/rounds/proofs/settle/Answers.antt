-- `rounds::settle` meets its contract. The answer is the greatest F of the last windows.
use mathlib.Core.Path.{◌∙◌}
use Rattle.rounds.proofs.Settling.{greatest}
use Rattle.rounds.proofs.Turns.{prepared_front}
use Rattle.rounds.proofs.settle.Goals as goal

pub returns-clause-span : goal.returns-clause-span
returns-clause-span c = c.greatest_end.ensures ∙ greatest c.args.candidate _ _ c.run_rounds.ensures.ends

pub place_phases-requires-clause-prepared : goal.place_phases-requires-clause-prepared
place_phases-requires-clause-prepared c = prepared_front c.args.candidate _ _ _ c.prepare.ensures.prepared
