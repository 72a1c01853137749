-- What was gathered and the part are the line, cut behind 3,001 characters at the most.
use Rattle.std.proofs.Common.{◌++◌, ◌∙◌, ap}
use Rattle.bench.specs.Pieces.{Run, run_in, kept_in, answered_at}
use Rattle.bench.proofs.Pieces.{line_gathered}
use Rattle.bench.proofs.Bench.answer_line.Goals as goal

pub returns-clause-run_after : goal.returns-clause-run_after
returns-clause-run_after g c =
    let s = c.args.self.now in
    let line = kept_in s.kept ++ c.args.part.now in
    let r = c.make_room.new.self in
    c.answer-2.ensures.run_after
    ∙ line_gathered r.waiting (run_in r) line (c.chars.ensures ∙ c.add.ensures)
    ∙ ap (λ (k : Run). answered_at k.waiting k line) c.make_room.ensures.run_after
