-- Small definitions of the inner functions. The call is `call_in` and creation `create_in` (state/specs/Calls).
-- Assumes nothing.
use Rattle.std.specs.Prelude.{ℕ, ◌≤◌, ◌≡◌, true, List, [], length, get_or, Option, Some, None, Result, Ok, Err, is_some}
use Rattle.numbers.specs.Bytes.{laid}
use Rattle.frame.specs.declared.Header.{Header}
use Rattle.frame.specs.declared.SessionId.{SessionId}
use Rattle.frame.specs.Rules.{listed_service}
use Rattle.payload.specs.declared.version.Version.{Version}
use Rattle.payload.specs.declared.reply.Parameter.{Parameter}
use Rattle.payload.specs.declared.reply.Parameter.TheVariants.{ProtocolVersion}
use Rattle.payload.specs.Version.{lesser_of}
use Rattle.payload.specs.Reply.{nak_payload, name_of}
use Rattle.session.specs.Rows.{no_row}
use Rattle.session.specs.Rules.{reply_version}
use Rattle.link.specs.declared.Link.{Link}
use Rattle.link.specs.declared.Grant.{Grant}
use Rattle.link.specs.declared.Answer.{Answer}
use Rattle.link.specs.State.{index_of}
use Rattle.link.specs.Reply.{old_ack, new_ack}
use Rattle.link.specs.Call.{After, Wish, old, new, bad, admits, old_version}
use Rattle.state.specs.declared.RowNumber.{RowNumber}

-- bytes written to the front of a buffer, and how many
pub record Sent : Type 0 where
  pub count : ℕ
  pub out : List ℕ

abbrev pub sent : ℕ → List ℕ → Sent
sent n o = record { count = n; out = o }

abbrev pub sent_of : List ℕ → List ℕ → Sent
sent_of bytes o = sent (length bytes) (laid bytes o)

-- a NAK's payload: "of data size 0", or the parameter that it rejects
abbrev pub rejection : Option Parameter → List ℕ
rejection None = []
rejection (Some p) = nak_payload (name_of p)

-- the code's word for what an opening wishes: none for an old version, and what cannot be read is rejected by its name
abbrev pub wished : Wish → Result (Option Version) Parameter
wished old = Ok None
wished (new v) = Ok (Some v)
wished bad = Err ProtocolVersion

-- the version and the ACK of the session that such a wish opens
abbrev pub version_for : ℕ → Option Version → ℕ
version_for major None = old_version major
version_for major (Some v) = 5

abbrev pub ack_for : Link → SessionId → ℕ → Option Version → List ℕ
ack_for l id hash None = old_ack l.version.major id hash
ack_for l id hash (Some v) = new_ack id hash l.mtu (lesser_of l.version v)

-- the row of a new session: the first free one, where it is admitted
pub record FreeRow (l : Link) (g : Grant) (found : Option RowNumber) : Type 0 where
  pub admitted : is_some found ≡ admits l.rows g
  pub first : (i : RowNumber) → found ≡ Some i → i.number ≡ index_of 0 l.rows

-- a reply as all that a call leaves
abbrev pub replied_with : (ℕ → ℕ → Answer) → ℕ → Link → List ℕ → Sent → After
replied_with kind consumed l pool w = record { answer = kind consumed w.count; link = l; pool = pool; out = w.out }

-- what a reply in row i needs: room, and a version and a service that a frame may have
abbrev pub Serves : Link → ℕ → Header → List ℕ → Type 0
Serves l i h out =
    (128 ≤ length out)
    × ((1 ≤ reply_version l.version.major (get_or l.rows i no_row))
    × ((reply_version l.version.major (get_or l.rows i no_row) ≤ 5)
    × (listed_service h.service ≡ true)))
