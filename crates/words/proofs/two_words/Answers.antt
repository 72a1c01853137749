-- `words::two_words` meets its contract: the bytes of a word have room in the buffer, and those of the second in what the first left of it.
-- Assumes nothing.
use mathlib.Core.Path.{refl, ap, ◌∙◌}
use native.Mathlib.Omega.{arith}
use Rattle.words.specs.Lines.{LastLeft, said_last}
use Rattle.words.proofs.Turns.{hex_read, within, two_are}
use Rattle.words.proofs.two_words.Goals as goal

-- the first word's bytes are inside the buffer, as it is left
pub slice_bounds-hex_to_bytes-count : goal.slice_bounds-hex_to_bytes-count
slice_bounds-hex_to_bytes-count c =
    omega (arith, within _ _ (hex_read _ _ c.hex_to_bytes.ensures c.unwrap_or-first.ensures refl), c.hex_to_bytes.auto.out)

pub slice_bounds-hex_to_bytes-start : goal.slice_bounds-hex_to_bytes-start
slice_bounds-hex_to_bytes-start c =
    omega (arith, within _ _ (hex_read _ _ c.hex_to_bytes.ensures c.unwrap_or-first.ensures refl), c.hex_to_bytes.auto.out)

-- both together have room
pub overflow_add-count : goal.overflow_add-count
overflow_add-count c =
    omega (
      arith,
      within _ _ (hex_read _ _ c.hex_to_bytes.ensures c.unwrap_or-first.ensures refl),
      c.hex_to_bytes.auto.out,
      within _ _ (hex_read _ _ c.hex_to_bytes-2.ensures c.unwrap_or-second.ensures refl),
    )

pub returns-clause-said : goal.returns-clause-said
returns-clause-said c =
    let a = c.args in
    let first = hex_read _ a.content.now c.hex_to_bytes.ensures c.unwrap_or-first.ensures c.is_bytes.ensures in
    let second = hex_read _ _ c.hex_to_bytes-2.ensures c.unwrap_or-second.ensures c.is_bytes-2.ensures in
    c.then_some.ensures
    ∙ ap (λ (l : LastLeft). said_last l.last)
    (two_are a.line.now a.content.now a.end c.word_end-middle.ensures c.between-near.ensures c.between-far.ensures first second refl)

pub returns-clause-content_after : goal.returns-clause-content_after
returns-clause-content_after c =
    let a = c.args in
    let first = hex_read _ a.content.now c.hex_to_bytes.ensures c.unwrap_or-first.ensures c.is_bytes.ensures in
    let second = hex_read _ _ c.hex_to_bytes-2.ensures c.unwrap_or-second.ensures c.is_bytes-2.ensures in
    ap (λ (l : LastLeft). l.content)
    (two_are a.line.now a.content.now a.end c.word_end-middle.ensures c.between-near.ensures c.between-far.ensures first second refl)
