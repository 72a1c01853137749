-- `lines::join_pairs` meets its contract. The loop's invariant: the first i pairs of the text lie over the front of the array.
-- Assumes nothing.
use mathlib.Core.Path.{◌∙◌}
use native.Mathlib.Omega.{arith}
use Rattle.lines.specs.Hex.{pairs_of}
use Rattle.lines.proofs.Turns.{front_at, front_end}
use Rattle.lines.proofs.Pairs.{length_pairs, pair_at}
use Rattle.lines.proofs.join_pairs.Goals as goal

pub loop-i-preserved : goal.loop-i-preserved
loop-i-preserved c =
    let t = c.args.text.now in
    let l = c.loop-i in
    let b = pair_at t l.i (omega arith) in
    let f = front_at (pairs_of t) c.args.pairs.now l.i (omega (arith, length_pairs t)) (omega arith) in
    cc

pub returns : goal.returns
returns c =
    let t = c.args.text.now in
    let l = c.loop-i in
    l.invariant ∙ front_end (pairs_of t) c.args.pairs.now l.i (omega (arith, length_pairs t))
