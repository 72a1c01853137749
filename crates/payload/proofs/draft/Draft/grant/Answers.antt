-- `payload::draft::Draft::grant` meets its contract: the numbers' bytes take the places of the zeros, by computation.
-- Assumes nothing.
use mathlib.Core.Path.{◌∙◌, refl}
use Rattle.numbers.specs.Bytes.{fits_in, put_at}
use Rattle.numbers.specs.Numbers.{bytes_le}
use Rattle.payload.specs.Reply.{element_head, int32_element, int64_element, grant_elements}
use Rattle.payload.proofs.draft.Draft.grant.Goals as goal

pub returns-clause-value : goal.returns-clause-value
unfolding fits_in put_at bytes_le element_head int32_element int64_element grant_elements
returns-clause-value c = c.of.ensures.value ∙ rw (c.put_le-3.ensures, c.put_le-2.ensures, c.put_le.ensures) refl
