-- What a C caller writes is read back by a C caller: header writer, frame writer, sender and frame reader. The user's second demand: "What you write is
-- read back the same, save version 1's missing message id." Proved in proofs/ReadBack.
-- Assumes nothing.
use Rattle.std.specs.Prelude.{ℕ, ◌^◌, ◌≤◌, ◌<◌, ◌≡◌, List, ◌++◌, length, take}
use Rattle.frame.specs.declared.Header.{Header}
use Rattle.frame.specs.ReadBack.{as_read}
use Rattle.sender.specs.declared.Outgoing.{Outgoing}
use Rattle.sender.specs.Sender.{frame_at}
use Rattle.tilambok.specs.Status.{Left}
use Rattle.tilambok.specs.Frames.{header_in, tilambok_read_frame, tilambok_write_header, tilambok_write_frame}
use Rattle.tilambok.specs.Sending.{tilambok_send}

-- the n bytes that a call left at the front of its buffer, n being the value of its result
abbrev pub left_bytes : Left → List ℕ
left_bytes w = take w.result.value w.lent

-- bytes are read through C as this header, whatever follows them: done, each of them consumed, and the fields tell the header
pub record FieldsSay (bytes : List ℕ) (h : Header) : Type 0 where
  pub status : (behind fields : List ℕ) (value : ℕ) → 16 ≤ length fields → (tilambok_read_frame (bytes ++ behind) fields value).result.status ≡ 0
  pub value : (behind fields : List ℕ) (value : ℕ) → 16 ≤ length fields → (tilambok_read_frame (bytes ++ behind) fields value).result.value ≡ length bytes
  pub header : (behind fields : List ℕ) (value : ℕ) → 16 ≤ length fields → header_in (tilambok_read_frame (bytes ++ behind) fields value).lent ≡ h

-- `tilambok_write_header`, where it is done, followed by a payload of the data size
abbrev pub HeaderThroughC : Type 0
HeaderThroughC =
    (h : Header) (payload out : List ℕ) (value : ℕ) → h.message.0 < 2 ^ 32 → (tilambok_write_header h out value).result.status ≡ 0
    → length payload ≡ h.size
    → FieldsSay (left_bytes (tilambok_write_header h out value) ++ payload) (as_read h)

-- `tilambok_write_frame`, where it is done
abbrev pub FrameThroughC : Type 0
FrameThroughC =
    (h : Header) (payload out : List ℕ) (value : ℕ) → h.message.0 < 2 ^ 32 → (tilambok_write_frame h payload out value).result.status ≡ 0
    → FieldsSay (left_bytes (tilambok_write_frame h payload out value)) (as_read h)

-- `tilambok_send`, where it is done: the k-th frame of the message
abbrev pub SentThroughC : Type 0
SentThroughC =
    (o : Outgoing) (k : ℕ) (message out : List ℕ) (value : ℕ) → o.message.0 < 2 ^ 32 → (tilambok_send o k message out value).result.status ≡ 0
    → FieldsSay (left_bytes (tilambok_send o k message out value)) (as_read (frame_at o message k).header)
