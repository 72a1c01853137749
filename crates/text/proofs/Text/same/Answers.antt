-- `text::Text::same` meets its contract: an end cut at the room ends the same text.
-- Assumes nothing.
use mathlib.Core.Path.{◌≡◌, refl}
use native.Mathlib.Omega.{arith}
use lib.ListN.{length}
use Rattle.text.proofs.Texts.{front_ends, same_said}
use Rattle.text.proofs.Text.same.Goals as goal

pub returns : goal.returns
returns c =
    let t = c.args.self in
    let l : length t.chars ≡ 4096 = omega arith in
    record {
      says = same_said t.chars l t.end c.min.ensures;
      within = omega (arith, c.min.ensures);
      ends = front_ends _ (omega (arith, c.min.ensures, l));
      cut = refl;
      size = refl;
    }
