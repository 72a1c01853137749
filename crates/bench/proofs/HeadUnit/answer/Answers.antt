-- There is room for the longest text, so the line has one, and it lies within its buffer.
use Rattle.std.proofs.Common.{◌≤◌, ◌-◌, length, take, drop, ap, arith, length-take, length-drop}
use Rattle.benchline.specs.Line.{most_text}
use Rattle.bench.specs.Pieces.{size_of}
use Rattle.bench.proofs.Pieces.{turn_says, text_within}
use Rattle.bench.proofs.HeadUnit.answer.Goals as goal

pub unwrap-requires : goal.unwrap-requires
unwrap-requires c =
    let k = c.args.self.now in
    let w = k.waiting in
    let room : most_text k.out ≤ length (take (300000 - w) (drop w k.texts)) = omega (arith, length-take (300000 - w) (drop w k.texts), length-drop w k.texts) in
    turn_says k.lines c.args.line.now k.state k.pool k.out (take (300000 - w) (drop w k.texts)) room c.line-turn.ensures

pub overflow_add-self : goal.overflow_add-self
overflow_add-self c =
    let k = c.args.self.now in
    let rest = take (300000 - k.waiting) (drop k.waiting k.texts) in
    let within = text_within k.lines c.args.line.now k.state k.pool k.out rest c.line-turn.ensures in
    let size = ap size_of c.unwrap.ensures in
    omega (arith, c.line-turn.auto.text, length-take (300000 - k.waiting) (drop k.waiting k.texts), length-drop k.waiting k.texts)
