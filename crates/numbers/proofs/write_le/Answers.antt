-- `numbers::write_le` meets its contract: what does not fit changes nothing, in the definition as in the code.
-- Assumes nothing.
use mathlib.Core.Path.{◌∙◌, sym}
use native.Mathlib.Omega.{arith}
use Rattle.numbers.specs.Bytes.{put_at}
use Rattle.numbers.proofs.Turns.{fits_room, part_written}
use Rattle.numbers.proofs.write_le.Goals as goal

pub overflow_add-end : goal.overflow_add-end
overflow_add-end c = record { fits = omega (arith, fits_room _ _ _ (sym c.fits.ensures ∙ c.if-fits.true)) }

pub slice_bounds-store_le-end : goal.slice_bounds-store_le-end
slice_bounds-store_le-end c = fits_room _ _ _ (sym c.fits.ensures ∙ c.if-fits.true)

pub returns-then-fits : goal.returns-then-fits
returns-then-fits c =
    let a = c.args in
    part_written a.out.now a.at a.w a.x c.store_le.new.out (fits_room _ _ _ (sym c.fits.ensures ∙ c.if-fits.true)) c.store_le.ensures

pub returns-else-fits : goal.returns-else-fits
unfolding put_at
returns-else-fits c = rw (sym c.fits.ensures ∙ c.if-fits.false)
