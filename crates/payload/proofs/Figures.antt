-- Document 01's marked payloads, and those for each refusal and limit, by computation. Assumes nothing.
use mathlib.Core.Path.{refl}
use Rattle.lines.specs.Place.{index_of}
use Rattle.numbers.specs.Numbers.{value_le}
use Rattle.payload.specs.Tags.{tag_of}
use Rattle.payload.specs.Walk.{fixed_of, boolean_of, string_of, plain_of, head_of, element_of, elements, document_of, payload_of}
use Rattle.payload.specs.Figures.{figures, AllRight, SizesRight}

pub figures_right : AllRight figures
unfolding figures index_of value_le tag_of fixed_of boolean_of string_of plain_of head_of element_of elements document_of payload_of
figures_right = refl

pub sizes_right : SizesRight
sizes_right = refl
