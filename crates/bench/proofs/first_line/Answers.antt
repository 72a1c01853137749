-- The first end of a line, from the text's beginning.
use Rattle.std.proofs.Common.{ℕ, ◌+◌, ◌-◌, ◌≤◌, length, take, drop, ap, ◌∙◌, arith, take_all, length-drop}
use Rattle.bench.proofs.Pieces.{end_is}
use Rattle.bench.proofs.first_line.Goals as goal

pub returns-then-end-text-clause-none : goal.returns-then-end-text-clause-none
returns-then-end-text-clause-none c = omega (arith, end_is c.args.text.now c.line_end-end.ensures.value)

pub returns-clause-some : goal.returns-clause-some
returns-clause-some c =
    let s = c.args.text.now in
    let e = end_is s c.line_end-end.ensures.value in
    let end = c.line_end-end.result in
    let all : length (drop (end + 1) s) ≤ length s - (end + 1) = omega (arith, length-drop (end + 1) s) in (
      omega (arith, e, c.line_end-end.ensures.lower_bound.1),
      (
        ap (λ (n : ℕ). take n s) e,
        take_all (length s - (end + 1)) (drop (end + 1) s) all ∙ ap (λ (n : ℕ). drop (n + 1) s) e,
      ),
    )
