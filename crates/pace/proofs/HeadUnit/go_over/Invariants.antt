-- The calls that are left, from the place that is next, lead to the same end.
use Rattle.std.proofs.Common.{◌≡◌, ◌-◌, ◌≤◌, length}
use Rattle.pace.specs.Pace.{left_in, run_from}
use Rattle.pace.proofs.HeadUnit.go_over.Given as goal

abbrev pub invariant-loop : goal.invariant-loop
invariant-loop l =
    record {
      within : l.at ≤ length l.places;
      same : run_from (l.calls - l.counter) l.places l.size l.at (left_in l.self) ≡ run_from l.calls l.places l.size 0 (left_in l.initial.self);
    }
