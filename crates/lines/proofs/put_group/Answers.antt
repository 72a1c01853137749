-- `lines::put_group` meets its contract: what is lent of the array are the text's pairs, and their bytes are the text's.
-- Assumes nothing.
use mathlib.Core.Path.{◌∙◌}
use native.Mathlib.Omega.{arith}
use Rattle.lines.proofs.Pairs.{length_pairs, pairs_digits, group_pairs}
use Rattle.lines.proofs.put_group.Goals as goal

pub put_pairs-requires : goal.put_pairs-requires
put_pairs-requires c =
    let t = c.args.text.now in
    rw (group_pairs t _ _ c.join_pairs.ensures) ((pairs_digits t c.requires.0).0, omega (arith, length_pairs t))

pub returns : goal.returns
returns c =
    let t = c.args.text.now in
    let joined = group_pairs t _ _ c.join_pairs.ensures in
    c.put_pairs.ensures ∙ rw (joined, (pairs_digits t c.requires.0).1)
