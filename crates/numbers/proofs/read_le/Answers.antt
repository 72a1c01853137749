-- `numbers::read_le` meets its contract: where all bytes are there, they are the part.
-- Assumes nothing.
use mathlib.Core.Path.{◌∙◌, sym}
use native.Mathlib.Omega.{arith}
use Rattle.numbers.proofs.Turns.{fits_room, part_fits}
use Rattle.numbers.proofs.read_le.Goals as goal

pub overflow_add-end : goal.overflow_add-end
overflow_add-end c = record { fits = omega (arith, fits_room _ _ _ (sym c.fits.ensures ∙ c.if-fits.true)) }

pub slice_bounds-sum_le-end : goal.slice_bounds-sum_le-end
slice_bounds-sum_le-end c = fits_room _ _ _ (sym c.fits.ensures ∙ c.if-fits.true)

pub returns : goal.returns
returns c = part_fits c.args.s.now c.args.at c.args.w _ (rw c.there.ensures at c.sum_le-2.ensures)
