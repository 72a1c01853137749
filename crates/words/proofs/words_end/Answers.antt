-- `words::words_end` meets its contract. The loop's invariant: the words that are left end where all of them do.
-- Assumes nothing.
use mathlib.Core.Path.{◌∙◌}
use Rattle.words.proofs.Turns.{ends_turn, ends_over}
use Rattle.words.proofs.words_end.Goals as goal

pub loop-preserved : goal.loop-preserved
loop-preserved c =
    let l = c.loop in
    rw c.word_end-end.ensures (ends_turn c.args.line.now c.args.count l.counter l.end c.loop-test.true ∙ l.invariant)

pub returns : goal.returns
returns c =
    let l = c.loop in
    ends_over c.args.line.now c.args.count l.counter l.end c.loop-test.false ∙ l.invariant
