-- `payload::draft::Draft::head` meets its contract: the type, the key and a 0, each right behind the last.
-- Assumes nothing.
use mathlib.Core.Path.{◌∙◌}
use mathlib.Core.List.{append_assoc}
use Rattle.payload.specs.Reply.{element_head}
use Rattle.payload.proofs.draft.Draft.head.Goals as goal

pub returns-clause-value : goal.returns-clause-value
unfolding element_head
returns-clause-value c = c.byte-2.ensures.value ∙ rw (c.bytes.ensures.value, c.byte.ensures.value, c.number.ensures) (simp append_assoc)
