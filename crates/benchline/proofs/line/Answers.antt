-- `benchline::line` meets its contract: the three outcomes, by the test for room and by what reading the line answers.
-- Assumes nothing.
use Rattle.std.proofs.Common.{◌/◌, length, sym, ◌∙◌, leb-true}
use Rattle.benchline.specs.Line.{is_taken, line_of}
use Rattle.benchline.proofs.Lines.{frame_told, none_told, line_answered, line_refused}
use Rattle.benchline.proofs.line.Goals as goal

pub returns-then-not-has_room : goal.returns-then-not-has_room
unfolding line_of
returns-then-not-has_room c = rw (sym c.has_room.ensures ∙ c.if-not-has_room.true)

pub returns-in-Some : goal.returns-in-Some
returns-in-Some c =
    let a = c.args in
    let d = a.digits.now in
    let room = leb-true _ _ (sym c.has_room.ensures ∙ c.if-not-has_room.false) in
    let t = frame_told (is_taken d) _ (length d / 2) c.in-Some.is c.read_line.ensures.value in
    c.answered.ensures
    ∙ line_answered a.lines d a.link.now a.pool.now a.out.now a.text.now room t.0
    (c.front.ensures ∙ rw t.1 (c.read_line.ensures.bytes_after t.0))

pub returns-in-None : goal.returns-in-None
returns-in-None c =
    let a = c.args in
    let d = a.digits.now in
    let room = leb-true _ _ (sym c.has_room.ensures ∙ c.if-not-has_room.false) in
    let t = none_told (is_taken d) (length d / 2) c.in-None.is c.read_line.ensures.value in
    c.refused.ensures a.link.now a.pool.now a.out.now
    ∙ line_refused a.lines d a.link.now a.pool.now a.out.now a.text.now room t
