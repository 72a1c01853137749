-- No bytes leave what is kept.
use Rattle.std.proofs.Common.{◌≤◌, length, sym, ◌∙◌, arith, length-take, eqb-true}
use Rattle.bench.specs.Pieces.{most_kept, kept_in}
use Rattle.bench.proofs.Pieces.{none_read}
use Rattle.bench.proofs.Bench.take_read.Goals as goal

pub returns-then-is_empty-clause-line_after : goal.returns-then-is_empty-clause-line_after
returns-then-is_empty-clause-line_after g c =
    let k = c.args.self.now.kept in
    let room : length (kept_in k) ≤ most_kept = omega (arith, length-take k.filled k.chars) in
    let none = eqb-true (length c.args.piece.now) 0 (sym c.is_empty.ensures ∙ c.if-is_empty.true) in
    none_read (kept_in k) c.args.piece.now room none
