-- The writers: a header, or a header and its payload, to the front of a buffer. Document 01, "Frame layout".
-- Assumes nothing.
use Rattle.std.specs.Prelude.{ℕ, ◌+◌, ◌*◌, List, [], ◌∷◌, ◌++◌, Result, Ok, Err, eqb, leb, length}
use Rattle.numbers.specs.Bytes.{pick, unless, laid}
use Rattle.numbers.specs.Numbers.{bytes_be}
use Rattle.frame.specs.Rules.{fault_of}
use Rattle.frame.specs.declared.Header.{Header}

-- "Byte 1: version (4 high bits), flag (1), frame type (3 low bits)."
abbrev pub first_byte : Header → ℕ
first_byte h = h.version * 16 + pick h.flag 8 0 + h.kind

-- "In version 1 it writes no message id."
unfoldable pub message_bytes : Header → List ℕ
message_bytes h = pick (eqb h.version 1) [] (bytes_be 4 h.message.0)

-- "Then service type, frame info, session id, data size (4 bytes)."
abbrev pub header_bytes : Header → List ℕ
header_bytes h = first_byte h ∷ h.service.0 ∷ h.info ∷ h.session.0 ∷ (bytes_be 4 h.size ++ message_bytes h)

-- a frame's bytes
abbrev pub frame_bytes : Header → List ℕ → List ℕ
frame_bytes h p = header_bytes h ++ p

-- what a writer leaves: its answer, the bytes written or a refusal, and the buffer
pub record Wrote : Type 0 where
  pub answer : Result ℕ ℕ
  pub out : List ℕ

abbrev pub wrote : Result ℕ ℕ → List ℕ → Wrote
wrote a o = record { answer = a; out = o }

-- "then 11 if the out buffer is too small"
abbrev pub put_of : List ℕ → List ℕ → Wrote
put_of bytes out = unless (leb (length bytes) (length out)) (wrote (Err 11) out) (wrote (Ok (length bytes)) (laid bytes out))

-- the "header writer" of the C side, which has no payload to compare with: 1 to 6, then 11
unfoldable pub write_header_of : Header → List ℕ → Wrote
write_header_of h out = unless (eqb (fault_of h) 0) (wrote (Err (fault_of h)) out) (put_of (header_bytes h) out)

-- "The writer takes a header and payload, applies 1 to 6 to them, refuses a data size unlike the payload's length with 6, then 11"
unfoldable pub write_of : Header → List ℕ → List ℕ → Wrote
write_of h p out =
    unless (eqb (fault_of h) 0) (wrote (Err (fault_of h)) out)
    (unless (eqb h.size (length p)) (wrote (Err 6) out)
    (put_of (frame_bytes h p) out))
