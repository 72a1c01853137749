-- `lines::put_pairs` meets its contract. The loop's invariant: the bytes of the first i pairs lie over the front of the buffer.
-- Assumes nothing.
use mathlib.Core.Path.{◌∙◌}
use mathlib.Core.List.{map}
use native.Mathlib.Omega.{arith}
use lib.ListN.{length-map}
use Rattle.lines.specs.Hex.{is_pair, pair_byte}
use Rattle.lines.proofs.Turns.{every_says, front_at, front_end}
use Rattle.lines.proofs.Pairs.{byte_at}
use Rattle.lines.proofs.put_pairs.Goals as goal

pub pair_byte-requires : goal.pair_byte-requires
pair_byte-requires c = every_says is_pair c.args.pairs.now c.loop-i.i c.requires.0 (omega arith)

pub loop-i-preserved : goal.loop-i-preserved
loop-i-preserved c =
    let p = c.args.pairs.now in
    let l = c.loop-i in
    let b = byte_at p l.i (omega arith) in
    let f = front_at (map pair_byte p) c.args.out.now l.i (omega (arith, length-map p pair_byte)) (omega arith) in
    cc

pub returns : goal.returns
returns c =
    let p = c.args.pairs.now in
    let l = c.loop-i in
    l.invariant ∙ front_end (map pair_byte p) c.args.out.now l.i (omega (arith, length-map p pair_byte))
