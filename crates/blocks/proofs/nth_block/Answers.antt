-- `blocks::nth_block` meets its contract: it is the same block among those from the group reached on.
-- Assumes nothing.
use mathlib.Core.Path.{◌≡◌, ap, ◌∙◌}
use Prim.Native.Nat.{ℕ}
use native.Mathlib.Omega.{arith}
use Rattle.blocks.specs.Map.{nth_block, nth_from, nth_number, found_at}
use Rattle.blocks.proofs.nth_block.Goals as goal

pub returns : goal.returns
unfolding nth_block
returns c =
    let a = c.args in
    let same : nth_from a.owner.0 c.skip-near.result.from.0 c.skip-near.result.left a.map.now ≡ nth_number a.owner.0 a.n a.map.now = omega arith in
    c.scan.ensures ∙ ap (λ (k : ℕ). found_at k a.map.now) same
