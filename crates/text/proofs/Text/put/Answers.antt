-- `text::Text::put` meets its contract: the text is put into the characters as far as it fits.
-- Assumes nothing.
use Prim.Native.Nat.{ℕ, min}
use mathlib.Core.Path.{◌≡◌, refl, ap, ◌∙◌}
use native.Mathlib.Omega.{arith}
use lib.ListN.{length, take}
use Rattle.text.proofs.Texts.{front_ends, put_said}
use Rattle.text.proofs.Text.put.Goals as goal

pub returns : goal.returns
returns c =
    let t = c.args.self in
    let s = c.args.text.now in
    let l : length t.chars ≡ 4096 = omega arith in
    let q = c.put-end.ensures in
    let e = c.min.ensures ∙ ap (λ (n : ℕ). min n 4096) q.value in
    record {
      says = ap (take c.min.result) q.buffer_after ∙ put_said t.chars l t.end s e;
      within = omega (arith, c.min.ensures);
      ends = front_ends _ (omega (arith, c.min.ensures, q.upper_bound));
      cut = refl;
      size = refl;
    }
