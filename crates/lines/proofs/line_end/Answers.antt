-- `lines::line_end` meets its contract: both searches by groups keep the line's end, and the one by characters finds it.
-- Assumes nothing.
use mathlib.Core.Path.{◌∙◌}
use native.Mathlib.Omega.{arith}
use Rattle.lines.proofs.LineEnds.{line_is, last_within, line_found}
use Rattle.lines.proofs.line_end.Goals as goal

pub overflow_add-result : goal.overflow_add-result
overflow_add-result c =
    let t = c.args.text.now in
    omega (arith, last_within _ t c.pass_groups-near.result c.index_of.result (omega arith) c.index_of.ensures)

pub returns : goal.returns
returns c =
    let a = c.args in
    let t = a.text.now in
    let far = c.pass_groups-far in
    let near = c.pass_groups-near in
    let last = c.index_of in
    let found = last.ensures ∙ line_is _ in
    let most = last_within _ t near.result last.result (omega arith) last.ensures in
    record {
      value = line_found t a.from c.min-start.result far.result near.result last.result c.min-start.ensures far.ensures.1.1 near.ensures.1.1 found;
      lower_bound = (omega arith, omega arith);
    }
