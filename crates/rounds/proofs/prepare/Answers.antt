-- `rounds::prepare` meets its contract. The words by the cores filled, and the lengths by the words.
use Rattle.rounds.proofs.Settling.{words_are, words_fit, lengths_are, prepared_first}
use Rattle.rounds.proofs.prepare.Goals as goal

pub returns-clause-words : goal.returns-clause-words
returns-clause-words c = words_are c.args.candidate _ _ _ _ c.fill_cores.ensures c.phase_words.ensures

pub first_lengths-requires-clause-loads : goal.first_lengths-requires-clause-loads
first_lengths-requires-clause-loads c =
    words_fit c.args.candidate _ _ (words_are c.args.candidate _ _ c.args.words.now _ c.fill_cores.ensures c.phase_words.ensures)

pub returns-clause-lengths : goal.returns-clause-lengths
returns-clause-lengths c =
    lengths_are c.args.candidate _ _ (words_are c.args.candidate _ _ c.args.words.now _ c.fill_cores.ensures c.phase_words.ensures) _ _ c.first_lengths.ensures

pub returns-clause-prepared : goal.returns-clause-prepared
returns-clause-prepared c =
    let w = words_are c.args.candidate _ _ c.args.words.now _ c.fill_cores.ensures c.phase_words.ensures in
    prepared_first c.args.candidate _ _ w _ _ _ _ c.fill_phases.ensures (lengths_are c.args.candidate _ _ w _ _ c.first_lengths.ensures)
