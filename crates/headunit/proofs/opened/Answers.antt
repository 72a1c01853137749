-- `headunit::opened` meets its contract.
-- Assumes nothing.
use Prim.Native.Nat.{ℕ}
use mathlib.Core.Path.{◌∙◌, ap}
use Rattle.numbers.proofs.Laws.{known_bytes}
use Rattle.state.specs.Layout.{link_of}
use Rattle.headunit.specs.Unit.{version_for}
use Rattle.headunit.proofs.Laws.{session_opened}
use Rattle.headunit.proofs.Parts.{row_left}
use Rattle.headunit.proofs.opened.Goals as goal

pub returns : goal.returns
returns c = let a = c.args in
    let s = a.link.now in
    let pre = c.requires in
    λ p. row_left s (c.told-link, known_bytes s c.fits-link) a.i.number a.i.below c.opened-row.result _ _ p _ c.put_row.ensures.0
    (session_opened (link_of s) a.i.number a.consumed a.grant a.wish c.version_for-version.result a.id c.opened-row.result _ a.out.now _ p pre.0 pre.1.0
    (c.version_for-version.ensures ∙ ap (λ (n : ℕ). version_for n a.wish) c.major.ensures) c.opened-row.ensures c.put_ack-size.ensures)
