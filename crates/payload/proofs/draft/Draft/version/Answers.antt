-- `payload::draft::Draft::version` meets its contract: three parts and two dots, each right behind the last.
-- Assumes nothing.
use mathlib.Core.Path.{◌∙◌}
use mathlib.Core.List.{append_assoc}
use Rattle.payload.specs.Version.{version_text}
use Rattle.payload.proofs.draft.Draft.version.Goals as goal

pub returns-clause-value : goal.returns-clause-value
unfolding version_text
returns-clause-value c = c.decimal-3.ensures.value ∙ rw (c.byte-2.ensures.value, c.decimal-2.ensures.value, c.byte.ensures.value, c.decimal.ensures.value) (simp append_assoc)
