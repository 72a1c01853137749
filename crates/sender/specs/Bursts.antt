-- Document 02's A2: "Refusal 18 loses its bound 256 on the count, in link and sender." What 18 still refuses, past 1, 3 and 10, goes by the message's length
-- alone. Proved in proofs/Bursts.
-- Assumes nothing.
use Rattle.std.specs.Prelude.{ℕ, ◌≤◌, ◌<◌, false, List, ◌≡◌, length}
use Rattle.sender.specs.declared.Outgoing.{Outgoing}
use Rattle.sender.specs.Sender.{fits_one, count_of, refused, send_of, Ready, Accepted}

pub record AnyCount (o : Outgoing) (m : List ℕ) : Type 0 where
  -- up to 65,536 bytes are sent, in however many frames
  pub taken : length m ≤ 65536 → Accepted o m
  -- more are refused, unless they fit one chunk
  pub too_long : 65536 < length m → fits_one o m ≡ false → (k : ℕ) (out : List ℕ) → send_of o k m out ≡ refused 18 out
  -- in chunks of one byte there are as many frames as bytes
  pub one_byte_each : o.chunk ≡ 1 → count_of o m ≡ length m

abbrev pub AnyCounts : Type 0
AnyCounts = (o : Outgoing) (m : List ℕ) → Ready o → AnyCount o m
