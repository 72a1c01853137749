-- What our sender cuts is read back: the statement about the frames 0 to the last of a message that it accepts. The user's second demand: "What you write is
-- read back the same, save version 1's missing message id." That the link hands the message over whole is link/specs/Arrival. Proved in proofs/ReadBack.
-- Assumes nothing.
use Rattle.std.specs.Prelude.{ℕ, ◌+◌, ◌-◌, ◌%◌, ◌^◌, ◌≤◌, ◌<◌, true, false, List, ◌≡◌, Ok, length, take, drop}
use Rattle.numbers.specs.Numbers.{value_be}
use Rattle.numbers.specs.Bytes.{laid}
use Rattle.frame.specs.Write.{wrote}
use Rattle.frame.specs.ReadBack.{as_read, ReadsAs}
use Rattle.sender.specs.declared.Outgoing.{Outgoing}
use Rattle.sender.specs.Sender.{fits_one, count_of, frame_at, last_place, bytes_of, joined, send_of, Accepted}

-- the frame at a place is sent where there is room, and read back as what it was meant to be, whatever follows it
pub record SentFrame (o : Outgoing) (m : List ℕ) (k : ℕ) : Type 0 where
  pub sent : (out : List ℕ) → length (bytes_of (frame_at o m k)) ≤ length out
      → send_of o k m out ≡ wrote (Ok (length (bytes_of (frame_at o m k)))) (laid (bytes_of (frame_at o m k)) out)
  pub back : ReadsAs (bytes_of (frame_at o m k)) (as_read (frame_at o m k).header) (frame_at o m k).payload

-- a message of more than one chunk
pub record InPieces (o : Outgoing) (m : List ℕ) : Type 0 where
  -- the First Frame carries the total and the count
  pub first : (frame_at o m 0).header.kind ≡ 2
  pub total : value_be (take 4 (frame_at o m 0).payload) ≡ length m
  pub count : value_be (drop 4 (frame_at o m 0).payload) ≡ count_of o m
  -- frames 1 to count are consecutive, and their payloads, joined, are the message
  pub next : (k : ℕ) → 1 ≤ k → k ≤ count_of o m → (frame_at o m k).header.kind ≡ 3
  pub whole : joined (λ (k : ℕ). (frame_at o m k).payload) (count_of o m) ≡ m
  -- each but the last is a whole chunk; A2: "the k-th non-last frame carries 1 plus the remainder of k minus 1 by 255, the last 0"
  pub chunks : (k : ℕ) → 1 ≤ k → k < count_of o m → length (frame_at o m k).payload ≡ o.chunk
  pub numbers : (k : ℕ) → 1 ≤ k → k < count_of o m → (frame_at o m k).header.info ≡ 1 + (k - 1) % 255
  pub last : (frame_at o m (count_of o m)).header.info ≡ 0

-- one frame, or pieces
pub record SentMessage (o : Outgoing) (m : List ℕ) : Type 0 where
  pub each : (k : ℕ) → k ≤ last_place o m → SentFrame o m k
  pub single : fits_one o m ≡ true → ((frame_at o m 0).header.kind ≡ 1) × ((frame_at o m 0).payload ≡ m)
  pub pieces : fits_one o m ≡ false → InPieces o m

-- `sender::send` and `frame::read`, for every message that 1, 3, 10 and 18 let pass; a message id has 32 bits
abbrev pub SentReadBack : Type 0
SentReadBack = (o : Outgoing) (m : List ℕ) → Accepted o m → o.message.0 < 2 ^ 32 → SentMessage o m
