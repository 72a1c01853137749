-- `tilambok::frames::tilambok_read_frame` meets its contract. What `frame::read` ensures has room, and is what is heard.
-- Assumes nothing.
use mathlib.Core.Path.{◌≡◌, sym, subst, ◌∙◌}
use native.Mathlib.Omega.{arith}
use mathlib.Core.List.{List}
use Prim.Native.Nat.{ℕ}
use Rattle.frame.specs.declared.Header.{Header}
use Rattle.frame.specs.declared.Extent.{Extent}
use Rattle.frame.specs.declared.Reading.{Reading}
use Rattle.frame.specs.declared.Reading.TheVariants.{Frame}
use Rattle.frame.specs.Read.{read_of}
use Rattle.frame.proofs.Answers.{is_frame_lem}
use Rattle.tilambok.specs.Frames.{ReadingFits}
use Rattle.tilambok.proofs.FrameFields.{header_there}
use Rattle.tilambok.proofs.FrameResults.{reading_fits}
use Rattle.tilambok.proofs.frames.tilambok_read_frame.Goals as goal

frame_fits : (bytes : List ℕ) (x : Reading) (h : Header) (e : Extent) → x ≡ read_of bytes → x ≡ Frame h e → ReadingFits (Frame h e)
frame_fits bytes x h e p q = subst ReadingFits (sym p ∙ q) (reading_fits bytes)

pub overflow_cast-extent : goal.overflow_cast-extent
overflow_cast-extent c = omega (arith, frame_fits c.args.bytes.now c.read-reading.result _ _ c.read-reading.ensures c.in-Frame.is)

pub overflow_cast-extent-2 : goal.overflow_cast-extent-2
overflow_cast-extent-2 c = omega (arith, frame_fits c.args.bytes.now c.read-reading.result _ _ c.read-reading.ensures c.in-Frame.is)

pub reading_status-requires : goal.reading_status-requires
reading_status-requires c = subst ReadingFits (sym c.read-reading.ensures) (reading_fits c.args.bytes.now)

pub put_fields-requires : goal.put_fields-requires
put_fields-requires c =
    let p = sym c.read-reading.ensures ∙ c.in-Frame.is in
    ((is_frame_lem _ _ _ p).long, (omega arith, header_there _ _ _ p))
