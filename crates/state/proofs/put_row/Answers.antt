-- `state::put_row` meets its contract.
-- Assumes nothing.
use mathlib.Core.Path.{ap, ◌∙◌}
use Rattle.state.specs.Layout.{link_of}
use Rattle.state.proofs.Rows.{row_put, lent_sound, link_put}
use Rattle.state.proofs.put_row.Goals as goal

pub returns : goal.returns
returns c = let a = c.args in
    let s = a.state.now in
    let i = a.i.number in
    let bytes = row_put s i a.row c.told-state a.i.below c.write_row.new.bytes c.write_row.ensures.0 in
    (bytes, ap link_of bytes ∙ link_put s i a.row c.told-state a.i.below (lent_sound s i a.row c.told-state a.i.below c.write_row.ensures.1))
