-- What is written is read back, and what was read is written again: a statement for each pair of writer and reader. The user's second demand: "What you
-- write is read back the same, save version 1's missing message id." Proved in proofs/ThereAndBack.
-- Assumes nothing.
use Rattle.std.specs.Prelude.{ℕ, ◌-◌, ◌^◌, ◌≤◌, ◌<◌, ◌≡◌, List, ◌++◌, Ok, eqb, length, take}
use Rattle.numbers.specs.Bytes.{part, pick, AreBytes, laid}
use Rattle.frame.specs.declared.Header.{Header}
use Rattle.frame.specs.declared.Extent.{Extent}
use Rattle.frame.specs.declared.Reading.TheVariants.{Frame}
use Rattle.frame.specs.Read.{with_message, extent_of, read_of}
use Rattle.frame.specs.Write.{wrote, write_header_of, write_of}

-- "save version 1's missing message id": "In version 1 it writes no message id", and there "its message id reads as 0"
abbrev pub as_read : Header → Header
as_read h = with_message h (pick (eqb h.version 1) (record { 0 = 0 }) h.message)

-- the payload part of a frame's bytes
abbrev pub payload_part : List ℕ → Extent → List ℕ
payload_part s e = part s e.start (e.end - e.start)

-- some bytes are read as this header and payload, whatever follows them, and each of them is consumed
pub record ReadsAs (bytes : List ℕ) (h : Header) (payload : List ℕ) : Type 0 where
  pub read : (behind : List ℕ) → read_of (bytes ++ behind) ≡ Frame h (extent_of h)
  pub consumed : (extent_of h).consumed ≡ length bytes
  pub carried : (behind : List ℕ) → payload_part (bytes ++ behind) (extent_of h) ≡ payload

-- `frame::write`: the bytes that it left at the front of out. A message id has 32 bits
abbrev pub FrameReadBack : Type 0
FrameReadBack =
    (h : Header) (payload out left : List ℕ) (n : ℕ) → h.message.0 < 2 ^ 32 → write_of h payload out ≡ wrote (Ok n) left
    → ReadsAs (take n left) (as_read h) payload

-- `frame::write_header`: the bytes that it left, followed by a payload of the data size
abbrev pub HeaderReadBack : Type 0
HeaderReadBack =
    (h : Header) (payload out left : List ℕ) (n : ℕ) → h.message.0 < 2 ^ 32 → write_header_of h out ≡ wrote (Ok n) left → length payload ≡ h.size
    → ReadsAs (take n left ++ payload) (as_read h) payload

-- the other way round: a frame that `frame::read` found, written where there is room, is the bytes that it consumed
abbrev pub WrittenAgain : Type 0
WrittenAgain =
    (s : List ℕ) (h : Header) (e : Extent) (out : List ℕ) → AreBytes s → read_of s ≡ Frame h e → e.consumed ≤ length out
    → write_of h (payload_part s e) out ≡ wrote (Ok e.consumed) (laid (take e.consumed s) out)
