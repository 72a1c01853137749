-- The call on a frame of a session in three steps, as the code takes them: the decision (`decision_of`, link/specs/Call), what is told in pool and out, and
-- what becomes of row and block map. `applied` (link/specs/Call) is these together (`applied_parts`, proofs/Parts).
-- Assumes nothing.
use Rattle.std.specs.Prelude.{ℕ, ◌-◌, ◌≤◌, ◌≡◌, min, Bool, true, false, List, [], eqb, length, take, get_or}
use Rattle.numbers.specs.Bytes.{pick, laid}
use Rattle.frame.specs.declared.Header.{Header}
use Rattle.frame.specs.declared.MessageId.{MessageId}
use Rattle.frame.specs.declared.ServiceType.{ServiceType}
use Rattle.frame.specs.declared.SessionId.{SessionId}
use Rattle.frame.specs.Rules.{listed_service}
use Rattle.payload.specs.Tags.{hash_id}
use Rattle.payload.specs.Reply.{nak_payload}
use Rattle.blocks.specs.Map.{claimed, released}
use Rattle.blocks.specs.Pool.{block_bytes, appended}
use Rattle.session.specs.declared.Reassembly.{Reassembly}
use Rattle.session.specs.declared.Row.{Row}
use Rattle.session.specs.declared.Act.{Act}
use Rattle.session.specs.declared.Act.TheVariants.{Refuse, Drop, Accept, Beat, Start, NoStart, Stop, Close, NoEnd, Claim, Append, Deliver, Single}
use Rattle.session.specs.Rows.{no_message_id, no_row, message_at}
use Rattle.session.specs.Rules.{reply_version}
use Rattle.session.specs.Decide.{place_of, need_of, row_after}
use Rattle.link.specs.declared.Answer.{Answer}
use Rattle.link.specs.declared.Answer.TheVariants as answer
use Rattle.link.specs.declared.Link.{Link}
use Rattle.link.specs.State.{owner_of, with_row, with_owners}
use Rattle.link.specs.Reply.{rpc, reply_bytes, start_ack, start_nak, end_ack, end_nak, beat_ack, granted_payload}
use Rattle.headunit.specs.declared.replies.From.{From}

-- the block map after a decision about row i's message at a place
abbrev pub owners_after : ℕ → ℕ → List ℕ → Act → List ℕ
owners_after i place os (Refuse n) = os
owners_after i place os (Drop n) = released (owner_of i place) (owner_of i place) os
owners_after i place os Accept = os
owners_after i place os Beat = os
owners_after i place os Start = os
owners_after i place os NoStart = os
owners_after i place os Stop = released (owner_of i place) (owner_of i place) os
owners_after i place os Close = released (owner_of i 0) (owner_of i 4) os
owners_after i place os (NoEnd named) = os
owners_after i place os (Claim total count) = claimed (owner_of i place) (need_of total) os
owners_after i place os Append = os
owners_after i place os Deliver = released (owner_of i place) (owner_of i place) os
owners_after i place os Single = os

-- whether it changes that map or its session's row, which has this version: a Single Frame does while that is unsettled
abbrev pub changes : ℕ → Act → Bool
changes version (Refuse n) = false
changes version (Drop n) = true
changes version Accept = false
changes version Beat = false
changes version Start = true
changes version NoStart = false
changes version Stop = true
changes version Close = true
changes version (NoEnd named) = false
changes version (Claim total count) = true
changes version Append = true
changes version Deliver = true
changes version Single = eqb version 0

-- the link after a decision about a frame of row i; hash is the offer's
abbrev pub link_after : Link → ℕ → Header → ℕ → Act → Link
link_after l i h hash act =
    with_owners (with_row l i (row_after (get_or l.rows i no_row) h hash act)) (owners_after i (place_of h.service.0) l.owners act)

-- whom a reply comes from
pub record Origin : Type 0 where
  pub version : ℕ
  pub service : ServiceType
  pub session : SessionId

-- in code
abbrev pub origin_of : From → Origin
origin_of f = record { version = f.version; service = f.service; session = f.session }

-- "header version min(M, 4), session 0" of an opening's NAK; its old ACK has the new id
abbrev pub from_opening : ℕ → SessionId → Origin
from_opening major id = record { version = min major 4; service = rpc; session = id }

-- "Replies carry its id and version"
abbrev pub from_row : ℕ → Row → ServiceType → Origin
from_row major r service = record { version = reply_version major r; service = service; session = r.id }

-- what a decision is carried out with
pub record Case : Type 0 where
  -- whom a reply comes from
  pub from : Origin
  -- the session's row
  pub row : Row
  -- the message on the frame's service, and its blocks' owner
  pub message : Reassembly
  pub mine : ℕ
  pub mtu : ℕ
  -- the offer's hash
  pub hash : ℕ
  -- the frame's bytes
  pub consumed : ℕ

-- of a frame of row i on a service
abbrev pub case_of : Link → ℕ → ServiceType → ℕ → ℕ → Case
case_of l i service hash consumed =
    let r = get_or l.rows i no_row in
    record {
      from = from_row l.version.major r service;
      row = r;
      message = message_at r (place_of service.0);
      mine = owner_of i (place_of service.0);
      mtu = l.mtu;
      hash = hash;
      consumed = consumed;
    }

-- an answer, and pool and out after it
pub record Told : Type 0 where
  pub answer : Answer
  pub pool : List ℕ
  pub out : List ℕ

abbrev pub told : Answer → List ℕ → List ℕ → Told
told a p o = record { answer = a; pool = p; out = o }

-- what is told of a decision: os the block map, payload the frame's, p and o pool and out
module _ (k : Case) (os payload p o : List ℕ) where
  -- the pool with the payload behind the bytes that are there
  abbrev fed_pool : List ℕ
  fed_pool = appended k.mine (k.message.total - k.message.missing) payload os p

  abbrev reply : ℕ → MessageId → List ℕ → List ℕ
  reply info message bytes = reply_bytes k.from.version k.from.service info k.from.session message bytes

  abbrev replied : (ℕ → ℕ → Answer) → List ℕ → Told
  replied kind bytes = told (kind k.consumed (length bytes)) p (laid bytes o)

  abbrev pub told_of : Act → Told
  told_of (Refuse n) = told (answer.Refused n) p o
  told_of (Drop n) = told (answer.Refused n) p o
  told_of Accept = told (answer.Accepted k.consumed) p o
  told_of Beat = replied answer.Beat (reply beat_ack no_message_id [])
  told_of Start = replied answer.Acked (reply start_ack k.row.next (granted_payload k.row.version k.hash k.mtu))
  told_of NoStart = replied answer.Nacked (reply start_nak no_message_id [])
  told_of Stop = replied answer.Acked (reply end_ack k.row.next [])
  told_of Close = replied answer.Acked (reply end_ack k.row.next [])
  told_of (NoEnd named) = replied answer.Nacked (reply end_nak no_message_id (pick named (nak_payload hash_id) []))
  told_of (Claim total count) = told (answer.Accepted k.consumed) p o
  told_of Append = told (answer.Accepted k.consumed) fed_pool o
  told_of Deliver =
      told (answer.Delivered k.consumed k.from.service k.message.total) fed_pool (laid (take k.message.total (block_bytes k.mine os fed_pool)) o)
  told_of Single = told (answer.Delivered k.consumed k.from.service (length payload)) p (laid payload o)

-- what a reply needs: room, and a version and a service that a frame may have
abbrev pub Repliable : Origin → List ℕ → Type 0
Repliable f out = (128 ≤ length out) × ((1 ≤ f.version) × ((f.version ≤ 5) × (listed_service f.service ≡ true)))

-- out has room for what a decision delivers: `payload` bytes of a Single Frame, `total` bytes of a message
abbrev pub Roomy : ℕ → ℕ → ℕ → Act → Type 0
Roomy room payload total (Refuse n) = Unit {0}
Roomy room payload total (Drop n) = Unit {0}
Roomy room payload total Accept = Unit {0}
Roomy room payload total Beat = Unit {0}
Roomy room payload total Start = Unit {0}
Roomy room payload total NoStart = Unit {0}
Roomy room payload total Stop = Unit {0}
Roomy room payload total Close = Unit {0}
Roomy room payload total (NoEnd named) = Unit {0}
Roomy room payload total (Claim bytes frames) = Unit {0}
Roomy room payload total Append = Unit {0}
Roomy room payload total Deliver = total ≤ room
Roomy room payload total Single = payload ≤ room
