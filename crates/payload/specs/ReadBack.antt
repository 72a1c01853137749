-- What this crate's writers write, its readers read: "What you write is read back the same, save version 1's missing message id." A payload has no
-- message id, so here all is read back. Each statement starts from the writer's own answer: whatever buffer it was lent, if it answers `Ok n`, then the
-- first n bytes of the buffer are read as what was meant. Numbers are bounded by their types alone. Proved in proofs/ReadBack. Assumes nothing.
use Rattle.std.specs.Prelude.{ℕ, ◌^◌, ◌≤◌, ◌<◌, ◌≡◌, List, [], length, take, Some, Result, Ok, Err}
use Rattle.numbers.specs.Bytes.{laid}
use Rattle.payload.specs.Append.{Wrote, wrote, put_of}
use Rattle.payload.specs.Tags.{bytes_in, rejected_in}
use Rattle.payload.specs.Walk.{payload_of}
use Rattle.payload.specs.Version.{version_of, write_version_of}
use Rattle.payload.specs.Reply.{array_of, name_in, service_ack_payload, nak_payload, name_of, write_ack_of, grant_tags, version_span, ack_tags, nak_tags}
use Rattle.payload.specs.declared.Tags.{Tags}
use Rattle.payload.specs.declared.version.Version.{Version}
use Rattle.payload.specs.declared.reply.Parameter.{Parameter}

-- what holds of the bytes that a writer wrote, if by its answer it wrote any
abbrev pub IfWritten : Wrote → (List ℕ → Type 0) → Type 0
IfWritten w P = (n : ℕ) (q : List ℕ) → w ≡ wrote (Ok n) q → P (take n q)

-- the parts of a version are u8, a hash is a u32 and an mtu a u64
pub record AreU8 (v : Version) : Type 0 where
  pub major : v.major < 256
  pub minor : v.minor < 256
  pub patch : v.patch < 256

pub record AreGrant (h m : ℕ) : Type 0 where
  pub hash : h < 2 ^ 32
  pub mtu : m < 2 ^ 64

-- `version::write`, then `version::read`: the same version. No major is excluded: one of 0 is not written
abbrev pub VersionBack : Type 0
VersionBack = (v : Version) (out : List ℕ) → AreU8 v → IfWritten (write_version_of v out) (λ s. version_of s ≡ Some v)

-- and the other way: a text that `version::read` reads is what `version::write` writes of its version, in any buffer that is long enough
abbrev pub TextBack : Type 0
TextBack = (s : List ℕ) (v : Version) (out : List ℕ) → version_of s ≡ Some v → length s ≤ length out → write_version_of v out ≡ wrote (Ok (length s)) (laid s out)

-- the payload of an opening's ACK: exactly its hash, mtu and a string, which reads as its version
pub record SaysAck (h m : ℕ) (v : Version) (s : List ℕ) : Type 0 where
  pub tags : payload_of s ≡ Ok (ack_tags h m v)
  pub version : version_of (bytes_in s (version_span v)) ≡ Some v

-- `reply::write_ack`, then `read`
abbrev pub AckBack : Type 0
AckBack = (h m : ℕ) (v : Version) (out : List ℕ) → AreGrant h m → AreU8 v → IfWritten (write_ack_of h m v out) (SaysAck h m v)

-- `reply::write_service_ack`, then `read`: exactly its hash and mtu
abbrev pub ServiceAckBack : Type 0
ServiceAckBack = (h m : ℕ) (out : List ℕ) → AreGrant h m → IfWritten (put_of (service_ack_payload h m) out) (λ s. payload_of s ≡ Ok (grant_tags h m))

-- the payload of a NAK: exactly one array, that is the array of this one name, and the name stands in it
pub record SaysNak (name s : List ℕ) : Type 0 where
  pub tags : payload_of s ≡ Ok (nak_tags name)
  pub array : rejected_in s (nak_tags name) ≡ array_of name
  pub named : name_in (rejected_in s (nak_tags name)) ≡ name

-- `reply::write_nak`, then `read`
abbrev pub NakBack : Type 0
NakBack = (p : Parameter) (out : List ℕ) → IfWritten (put_of (nak_payload (name_of p)) out) (SaysNak (name_of p))

-- what a caller gets of rejectedParams: `read`, then `rejected_params`
abbrev pub rejected_of : List ℕ → Result Tags ℕ → List ℕ
rejected_of s (Ok t) = rejected_in s t
rejected_of s (Err k) = []

-- two NAKs of which a caller gets the same name one parameter: what two different ones write reads back differently
abbrev pub NaksApart : Type 0
NaksApart =
    (a b : Parameter) (out out' : List ℕ)
    → IfWritten (put_of (nak_payload (name_of a)) out) (λ s. IfWritten (put_of (nak_payload (name_of b)) out') (λ t. rejected_of s (payload_of s) ≡ rejected_of t (payload_of t) → a ≡ b))
