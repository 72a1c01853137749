-- `tilambok::frames::tilambok_write_frame` meets its contract: what `frame::write` ensures has room in the result.
-- Assumes nothing.
use mathlib.Core.Path.{sym, subst}
use Rattle.frame.specs.Write.{Wrote}
use Rattle.tilambok.specs.Status.{WrittenFits}
use Rattle.tilambok.proofs.FrameResults.{frame_fits}
use Rattle.tilambok.proofs.frames.tilambok_write_frame.Goals as goal

pub written-requires : goal.written-requires
written-requires c =
    subst (λ (w : Wrote). WrittenFits w.answer) (sym c.write.ensures)
    (frame_fits c.header_from-header.result c.args.payload.now c.args.out.now)
