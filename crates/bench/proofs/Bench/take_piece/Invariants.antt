-- Each turn answers a line, behind what was kept, and passes its newline: what is left leads to the same end.
use Rattle.std.proofs.Common.{◌≡◌, length}
use Rattle.bench.specs.Pieces.{run_in, kept_in, after_lines, lines_in, kept_after}
use Rattle.bench.proofs.Bench.take_piece.Given as goal

abbrev pub invariant-loop-line : goal.invariant-loop-line
invariant-loop-line g l =
    record {
      lines : after_lines (run_in l.self.unit) (lines_in (kept_in l.self.kept) l.rest)
          ≡ after_lines (run_in l.initial.self.unit) (lines_in (kept_in l.initial.self.kept) l.initial.rest);
      kept : kept_after (kept_in l.self.kept) l.rest ≡ kept_after (kept_in l.initial.self.kept) l.initial.rest;
    }

abbrev pub decreases-loop-line : goal.decreases-loop-line
decreases-loop-line g l = length l.rest
