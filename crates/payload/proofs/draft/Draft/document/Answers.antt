-- `payload::draft::Draft::document` meets its contract: its length, its elements and a 0, each right behind the last.
-- Assumes nothing.
use mathlib.Core.Path.{◌∙◌}
use mathlib.Core.List.{append_assoc}
use Rattle.payload.specs.Reply.{document}
use Rattle.payload.proofs.draft.Draft.document.Goals as goal

pub returns-clause-value : goal.returns-clause-value
unfolding document
returns-clause-value c = c.byte.ensures.value ∙ rw (c.bytes.ensures.value, c.number.ensures.value) (simp append_assoc)
