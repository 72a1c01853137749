-- `words::one_word` meets its contract, by what decoding the word leaves.
-- Assumes nothing.
use mathlib.Core.Path.{ap, ◌∙◌}
use Rattle.words.specs.Lines.{LastLeft, said_last}
use Rattle.words.proofs.Turns.{hex_read}
use Rattle.words.proofs.one_word.Goals as goal

pub returns-clause-said : goal.returns-clause-said
returns-clause-said c =
    c.then_some.ensures ∙ ap (λ (l : LastLeft). said_last l.last) (hex_read c.args.word.now c.args.content.now c.hex_to_bytes.ensures c.unwrap_or-count.ensures c.is_bytes.ensures)

pub returns-clause-content_after : goal.returns-clause-content_after
returns-clause-content_after c =
    ap (λ (l : LastLeft). l.content) (hex_read c.args.word.now c.args.content.now c.hex_to_bytes.ensures c.unwrap_or-count.ensures c.is_bytes.ensures)
