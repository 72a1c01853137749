-- `headunit::note` meets its contract.
-- Assumes nothing.
use mathlib.Core.Path.{ap, ◌∙◌, sym}
use Rattle.numbers.proofs.Laws.{known_bytes}
use Rattle.session.specs.declared.Row.{Row}
use Rattle.session.specs.Decide.{row_after}
use Rattle.headunit.specs.Steps.{changes}
use Rattle.headunit.proofs.Parts.{noted, not_noted}
use Rattle.headunit.proofs.note.Goals as goal

pub returns-then-is_change : goal.returns-then-is_change
returns-then-is_change c = let a = c.args in
    let s = a.link.now in
    noted s a.i.number a.header a.hash a.act.now (c.told-link, known_bytes s c.fits-link) a.i.below c.place_of.result c.row_after.result _ _ c.place_of.ensures.0
    (c.row_after.ensures ∙ ap (λ (x : Row). row_after x a.header a.hash a.act.now) c.row_at-row.ensures) c.put_row.ensures.0 c.note_owners.ensures

pub returns-else-is_change : goal.returns-else-is_change
returns-else-is_change c = let a = c.args in
    let s = a.link.now in
    not_noted s a.i.number a.header a.hash a.act.now (c.told-link, known_bytes s c.fits-link) a.i.below
    (ap (λ (x : Row). changes x.version a.act.now) (sym c.row_at-row.ensures) ∙ sym c.is_change.ensures ∙ c.if-is_change.false)
