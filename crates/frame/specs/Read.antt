-- The reader: what the front of some bytes is. Document 01, "Frame layout".
-- Assumes nothing.
use Rattle.std.specs.Prelude.{ℕ, ◌+◌, ◌/◌, ◌%◌, List, eqb, leb, length, get_or}
use Rattle.numbers.specs.Bytes.{part, pick, unless}
use Rattle.numbers.specs.Numbers.{value_be}
use Rattle.frame.specs.Rules.{fault_of, header_size}
use Rattle.frame.specs.declared.Header.{Header}
use Rattle.frame.specs.declared.MessageId.{MessageId}
use Rattle.frame.specs.declared.Extent.{Extent}
use Rattle.frame.specs.declared.Reading.{Reading}
use Rattle.frame.specs.declared.Reading.TheVariants.{Frame, Refused, Short}

-- "Byte 1: version (4 high bits), flag (1), frame type (3 low bits). Then service type, frame info, session id, data size (4 bytes)." An info "is kept".
unfoldable pub front_of : List ℕ → Header
front_of s = record {
  version = get_or s 0 0 / 16;
  flag = leb 8 (get_or s 0 0 % 16);
  kind = get_or s 0 0 % 8;
  service = record { 0 = get_or s 1 0 };
  info = get_or s 2 0;
  session = record { 0 = get_or s 3 0 };
  size = value_be (part s 4 4);
  message = record { 0 = 0 };
}

-- "Versions 2 to 5 add a message id (4 bytes)"; in version 1 "its message id reads as 0"
unfoldable pub message_of : List ℕ → ℕ → MessageId
message_of s v = pick (eqb v 1) (record { 0 = 0 }) (record { 0 = value_be (part s 8 4) })

-- the header with the message id, which `front_of` does not read
abbrev pub with_message : Header → MessageId → Header
with_message h m = record { version = h.version; flag = h.flag; kind = h.kind; service = h.service; info = h.info; session = h.session; size = h.size; message = m }

-- "header plus data size"
abbrev pub frame_size : Header → ℕ
frame_size h = header_size h.version + h.size

-- "a frame (header, payload part, bytes consumed)": the payload part is what follows the header, and the frame is all that is consumed
abbrev pub extent_of : Header → Extent
extent_of h = record { start = header_size h.version; end = frame_size h; consumed = frame_size h }

-- a header without fault: the frame, or "Short with the bytes needed in all"
abbrev pub whole_of : List ℕ → Header → Reading
whole_of s h = unless (leb (frame_size h) (length s)) (Short (frame_size h)) (Frame (with_message h (message_of s h.version)) (extent_of h))

-- "The reader looks at the front of the lent bytes": Short is "8 if fewer than 8 are there, else header plus data size. Refusals 1 to 6 need 8 bytes and
-- come before the second Short."
unfoldable pub read_of : List ℕ → Reading
read_of s = unless (leb 8 (length s)) (Short 8) (unless (eqb (fault_of (front_of s)) 0) (Refused (fault_of (front_of s))) (whole_of s (front_of s)))
