-- Each turn answers a line, behind what was kept, and passes its newline; then no line ends in what is left.
use Rattle.std.proofs.Common.{ℕ, take, sym, ap, ◌∙◌}
use Rattle.bench.specs.Pieces.{most_kept, run_in, kept_in}
use Rattle.bench.proofs.Pieces.{line_passed, kept-passed, lines-over, kept_none}
use Rattle.bench.proofs.Bench.take_piece.Goals as goal

pub loop-line-preserved : goal.loop-line-preserved
loop-line-preserved g c =
    let l = c.loop-line in
    let kept = kept_in l.self.kept in
    let s = l.rest.now in
    let r = run_in l.self.unit in
    let first = c.in-Some.ensures.some in
    let e = c.answer_line.ensures in
    let none = ap (λ (n : ℕ). take n c.answer_line.new.self.kept.chars) e.kept_after in
    record {
      lines = line_passed s kept r first.0 first.1.0 first.1.1 none e.run_after ∙ l.invariant.lines;
      kept = kept-passed s kept r first.0 first.1.0 first.1.1 none ∙ l.invariant.kept;
    }

pub returns-clause-run_after : goal.returns-clause-run_after
returns-clause-run_after g c =
    let l = c.loop-line in
    sym (lines-over l.rest.now (kept_in l.self.kept) (run_in l.self.unit) c.in_default.ensures.none) ∙ l.invariant.lines

pub returns-clause-line_after : goal.returns-clause-line_after
returns-clause-line_after g c =
    let l = c.loop-line in
    let whole = sym (kept_none (kept_in l.self.kept) l.rest.now c.in_default.ensures.none) ∙ l.invariant.kept in
    c.add.ensures ∙ ap (take most_kept) whole
