-- `benchline::read_line` meets its contract: by the decoder's answers, and by the reader's for what was decoded.
-- A line of at most 3,000 digits has room in the buffer.
-- Assumes nothing.
use Rattle.std.proofs.Common.{◌∙◌, sym, refl, arith}
use Rattle.benchline.proofs.Lines.{decode_says, front_bytes, too_long, frame_line, reads_none, reads_bytes}
use Rattle.benchline.proofs.read_line.Goals as goal

pub returns-then-digits-gt-MOST_DIGITS : goal.returns-then-digits-gt-MOST_DIGITS
returns-then-digits-gt-MOST_DIGITS c =
    let d = c.args.digits.now in
    let r = reads_none d c.args.bytes.now (too_long d (omega arith)) refl in
    record { value = r.0; bytes_after = r.1 }

pub returns-in_err-count : goal.returns-in_err-count
returns-in_err-count c =
    let d = c.args.digits.now in
    let none = decode_says d c.args.bytes.now (omega arith) c.hex_to_bytes.ensures c.in_err-count.ensures.value in
    let r = reads_none d c.hex_to_bytes.new.out none c.from_residual.ensures in
    record { value = r.0; bytes_after = r.1 }

pub returns : goal.returns
returns c =
    let d = c.args.digits.now in
    let o = c.args.bytes.now in
    let s = decode_says d o (omega arith) c.hex_to_bytes.ensures c.in_ok-count.ensures.value in
    let f = front_bytes d o c.front.ensures s.1.1.0 s.1.1.1 in
    let r = reads_bytes d _ (frame_line d (omega arith) s.0 s.1.0 f c.is_frame.ensures) s.1.1.0 (sym c.front.ensures ∙ f) c.then_some.ensures in
    record { value = r.0; bytes_after = r.1 }
