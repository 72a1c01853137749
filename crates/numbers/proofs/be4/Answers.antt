-- `numbers::be4` meets its contract: four bytes in the other order, turned; and fewer bytes are a number below 2 ^ 32 too.
-- Assumes nothing.
use mathlib.Core.Path.{◌∙◌, sym}
use native.Mathlib.Omega.{arith}
use Rattle.numbers.proofs.Laws.{known_bytes}
use Rattle.numbers.proofs.Turns.{fits_room, part_turned}
use Rattle.numbers.proofs.be4.Goals as goal

pub returns-then-fits : goal.returns-then-fits
returns-then-fits c =
    let a = c.args in
    part_turned a.s.now a.at _ _ (known_bytes _ (λ i. (c.type_inv.s i).fits)) (fits_room _ _ _ (sym c.fits.ensures ∙ c.if-fits.true)) (omega arith) c.le.ensures
    c.swap_bytes.ensures
