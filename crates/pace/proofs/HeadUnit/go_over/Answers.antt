-- The calls that are left lead to the same end.
use Rattle.std.proofs.Common.{length, ◌∙◌, arith}
use Rattle.pace.specs.Pace.{left_in}
use Rattle.numbers.proofs.Slices.{rest_lent}
use Rattle.pace.proofs.Laws.{next_within, call_taken, run_turn, run_over}
use Rattle.pace.proofs.HeadUnit.go_over.Goals as goal

pub loop-preserved : goal.loop-preserved
loop-preserved c =
    let places = c.args.places.now in
    let size = c.args.size in
    let l = c.loop in
    let e = c.next-at.ensures in
    let before = left_in l.self in
    record {
      within = omega (arith, e, next_within l.at size (length places));
      same = run_turn places size l.at before (omega arith) e (call_taken places l.at before c.call.ensures (rest_lent places l.at)) ∙ l.invariant.same;
    }

pub returns : goal.returns
returns c =
    let l = c.loop in
    run_over c.args.places.now c.args.size l.at (left_in l.self) (omega arith) ∙ l.invariant.same
