-- `payload::draft::Draft::string` meets its contract: head, length, text and a 0, each right behind the last.
-- Assumes nothing.
use mathlib.Core.Path.{◌∙◌}
use mathlib.Core.List.{append_assoc}
use Rattle.payload.specs.Reply.{string_element}
use Rattle.payload.proofs.draft.Draft.string.Goals as goal

pub returns-clause-value : goal.returns-clause-value
unfolding string_element
returns-clause-value c = c.byte.ensures.value ∙ rw (c.bytes.ensures.value, c.number.ensures.value, c.head.ensures.value) (simp append_assoc)
