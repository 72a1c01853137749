-- `state::release` meets its contract.
-- Assumes nothing.
use mathlib.Core.Path.{◌∙◌}
use native.Mathlib.Omega.{arith}
use Rattle.blocks.proofs.Counts.{release_length}
use Rattle.numbers.specs.Bytes.{part}
use Rattle.state.proofs.Packed.{lent_over, part_length}
use Rattle.state.proofs.release.Goals as goal

pub returns : goal.returns
returns c =
    let s = c.args.state.now in
    lent_over s 544 256 _ _ (release_length c.args.low.0 c.args.high.0 (part s 544 256) ∙ part_length s 544 256 (omega (arith, c.told-state))) (omega (arith, c.told-state)) c.release.ensures
