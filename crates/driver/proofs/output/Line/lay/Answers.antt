-- `driver::output::Line::lay` meets its contract: three pieces, one behind the other, for which the buffer has room.
-- Assumes nothing.
use Rattle.std.proofs.Common.{◌≡◌, length, arith, ℕ, take, ap, ◌∙◌}
use Rattle.driver.proofs.Laying.{first_put, line_laid}
use Rattle.driver.proofs.output.Line.lay.Goals as goal

pub returns : goal.returns
returns c =
    let out = c.args.out.now in
    let line = c.self.inside.chars in
    let ended = c.byte-ended.ensures in
    let room : length line ≡ 304104 = omega arith in
    let all = c.front-said.ensures in
    let cut = c.front.ensures in
    let first = first_put ended out line room all cut c.put-before.ensures.value c.put-before.ensures.buffer_after in
    let spelled = c.front-2.ensures ∙ ap (λ (n : ℕ). take n out) c.min-count.ensures in
    line_laid ended out line room all cut spelled c.put-before.auto.buffer first
    c.lay_digits-digits.auto.line c.lay_digits-digits.ensures c.part.ensures c.put-self-inside.ensures.value c.put-self-inside.ensures.buffer_after
