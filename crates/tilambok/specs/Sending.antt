-- What the C side gets for the answer of the message sender: a status and a value, and what is left in the out buffer.
-- Document 01: "Message, chunk size, version, ids and k give the k-th frame". Assumes nothing.
use Rattle.std.specs.Prelude.{ℕ, List}
use Rattle.sender.specs.Sender.{send_of}
use Rattle.sender.specs.declared.Outgoing.{Outgoing}
use Rattle.tilambok.specs.Status.{Left, answered}

-- what all frames of a caller's message share
abbrev pub outgoing_from : ℕ → ℕ → ℕ → ℕ → ℕ → Outgoing
outgoing_from version service session message chunk = record {
  version = version;
  service = record { 0 = service };
  session = record { 0 = session };
  message = record { 0 = message };
  chunk = chunk;
}

-- what tilambok_send leaves, its result and the out buffer
abbrev pub tilambok_send : Outgoing → ℕ → List ℕ → List ℕ → ℕ → Left
tilambok_send o k message out value = answered value (send_of o k message out)
