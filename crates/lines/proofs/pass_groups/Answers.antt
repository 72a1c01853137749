-- `lines::pass_groups` meets its contract. The loop's invariant: the line ends where it did, seen from the place that is reached.
-- Assumes nothing.
use mathlib.Core.Path.{refl, ◌∙◌, sym}
use native.Mathlib.Omega.{arith}
use Rattle.lines.specs.Newline.{is_in_line}
use Rattle.lines.proofs.LineEnds.{group_passed}
use Rattle.lines.proofs.pass_groups.Goals as goal

pub loop-at-init : goal.loop-at-init
loop-at-init c = (omega arith, (omega arith, refl))

pub loop-at-preserved : goal.loop-at-preserved
loop-at-preserved c =
    let l = c.loop-at in
    let a = c.args in
    let passed = group_passed a.text.now l.at a.group (omega arith) (sym (c.every.ensures is_in_line (λ b r l e. e)) ∙ c.if-every.true) in
    (omega arith, (omega arith, passed ∙ l.invariant.1.1))
