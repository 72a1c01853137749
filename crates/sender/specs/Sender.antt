-- The sender: the k-th frame of a message. Document 01, "Sender", and the answers 1, 3, 10, 18, 26, 11 in this order.
-- Assumes nothing.
use Rattle.std.specs.Prelude.{ℕ, zero, suc, ◌+◌, ◌-◌, ◌*◌, ◌/◌, Bool, true, false, ◌&&◌, ◌||◌, List, [], ◌++◌, ◌≡◌, Err, eqb, leb, length}
use Rattle.numbers.specs.Bytes.{part, pick, unless}
use Rattle.numbers.specs.Numbers.{bytes_be}
use Rattle.frame.specs.declared.Header.{Header}
use Rattle.frame.specs.Rules.{known_version, listed_service, largest}
use Rattle.frame.specs.Message.{frame_number, totals_fit}
use Rattle.frame.specs.Write.{frame_bytes, Wrote, wrote, put_of}
use Rattle.sender.specs.declared.Outgoing.{Outgoing}

-- 10: "chunk (0 or above largest) out of range"
unfoldable pub chunk_fits : ℕ → ℕ → Bool
chunk_fits v chunk = leb 1 chunk && leb chunk (largest v)

-- "if the message fits one chunk"
unfoldable pub fits_one : Outgoing → List ℕ → Bool
fits_one o m = leb (length m) o.chunk

-- "count = length over chunk, rounded up"
unfoldable pub count_of : Outgoing → List ℕ → ℕ
count_of o m = (length m + (o.chunk - 1)) / o.chunk

-- a frame before it is bytes
pub record Planned : Type 0 where
  pub header : Header
  pub payload : List ℕ

-- a header of our sender, which sets no flag: encrypted content is "left to others"
abbrev pub header_for : Outgoing → ℕ → ℕ → ℕ → Header
header_for o kind info size = record {
  version = o.version;
  flag = false;
  kind = kind;
  service = o.service;
  info = info;
  session = o.session;
  size = size;
  message = o.message;
}

-- a frame of so large a data size as its payload has bytes
abbrev pub plan : Outgoing → ℕ → ℕ → List ℕ → Planned
plan o kind info payload = record { header = header_for o kind info (length payload); payload = payload }

-- "a single frame"; of its info, "our sender writes 0"
abbrev pub single_plan : Outgoing → List ℕ → Planned
single_plan o m = plan o 1 0 m

-- "A First Frame (total, then count)"; of its info, "our sender writes 0"
abbrev pub first_plan : Outgoing → List ℕ → Planned
first_plan o m = plan o 2 0 (bytes_be 4 (length m) ++ bytes_be 4 (count_of o m))

-- the k-th chunk of the message, counted from 1; the last may be shorter
unfoldable pub chunk_of : Outgoing → List ℕ → ℕ → List ℕ
chunk_of o m k = part m ((k - 1) * o.chunk) o.chunk

-- a consecutive frame: its number from its place and the count
abbrev pub next_plan : Outgoing → List ℕ → ℕ → Planned
next_plan o m k = plan o 3 (frame_number k (count_of o m)) (chunk_of o m k)

-- "a single frame at k = 0 if the message fits one chunk, else a First Frame at 0 and count .. frames after it"
unfoldable pub frame_at : Outgoing → List ℕ → ℕ → Planned
frame_at o m k = pick (fits_one o m) (single_plan o m) (pick (eqb k 0) (first_plan o m) (next_plan o m k))

-- the last k that has a frame
unfoldable pub last_place : Outgoing → List ℕ → ℕ
last_place o m = pick (fits_one o m) 0 (count_of o m)

abbrev pub bytes_of : Planned → List ℕ
bytes_of f = frame_bytes f.header f.payload

abbrev pub refused : ℕ → List ℕ → Wrote
refused n out = wrote (Err n) out

-- the first of 1, 3 and 10 that what all frames share earns, or 0
abbrev pub unready : Outgoing → ℕ
unready o = unless (known_version o.version) 1 (unless (listed_service o.service) 3 (unless (chunk_fits o.version o.chunk) 10 0))

-- 1, 3, 10, then 18 "if more than one chunk", 26 "k past the last frame", 11
unfoldable pub send_of : Outgoing → ℕ → List ℕ → List ℕ → Wrote
send_of o k m out =
    unless (known_version o.version) (refused 1 out)
    (unless (listed_service o.service) (refused 3 out)
    (unless (chunk_fits o.version o.chunk) (refused 10 out)
    (unless (fits_one o m || totals_fit (length m) (count_of o m)) (refused 18 out)
    (unless (leb k (last_place o m)) (refused 26 out)
    (put_of (bytes_of (frame_at o m k)) out)))))

-- what 1, 3 and 10 leave
pub record Ready (o : Outgoing) : Type 0 where
  pub version : known_version o.version ≡ true
  pub service : listed_service o.service ≡ true
  pub chunk : chunk_fits o.version o.chunk ≡ true

-- what 18 leaves besides: a message that our sender sends
pub record Accepted (o : Outgoing) (m : List ℕ) : Type 0 where
  pub ready : Ready o
  pub totals : fits_one o m || totals_fit (length m) (count_of o m) ≡ true

-- pieces 1 to n, one behind the other
abbrev pub joined : (ℕ → List ℕ) → ℕ → List ℕ
joined piece zero = []
joined piece (suc n) = joined piece n ++ piece (suc n)
