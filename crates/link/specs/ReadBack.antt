-- What is written is read back, through the link: every reply of a call. And each pair of writer and reader by name, in one place. The user's second demand:
-- "What you write is read back the same, save version 1's missing message id." Proved in proofs/ReadBack.
-- Assumes nothing.
use Rattle.std.specs.Prelude.{ℕ, ◌^◌, ◌≤◌, ◌<◌, min, ◌≡◌, List, [], eqb, length, get_or, take, Ok}
use Rattle.std.proofs.Math.Option.{Option, none, some}
use Rattle.lines.specs.Hex.{decoded, decode_of, hex_of}
use Rattle.lines.specs.Decimal.{number_of, decimal_of}
use Rattle.numbers.specs.Bytes.{pick, unless, laid, AreBytes}
use Rattle.numbers.specs.Numbers.{value_le, bytes_le, value_be, bytes_be}
use Rattle.frame.specs.declared.Header.{Header}
use Rattle.frame.specs.declared.ServiceType.{ServiceType}
use Rattle.frame.specs.declared.SessionId.{SessionId}
use Rattle.frame.specs.declared.MessageId.{MessageId}
use Rattle.frame.specs.declared.Reading.{Reading}
use Rattle.frame.specs.declared.Reading.TheVariants as reading
use Rattle.frame.specs.Read.{read_of}
use Rattle.frame.specs.ReadBack.{as_read, payload_part, ReadsAs, FrameReadBack, HeaderReadBack, WrittenAgain}
use Rattle.sender.specs.ReadBack.{SentReadBack}
use Rattle.payload.specs.declared.version.Version.{Version}
use Rattle.payload.specs.Tags.{protocol_version, hash_id}
use Rattle.payload.specs.Walk.{payload_of}
use Rattle.payload.specs.Version.{lesser_of}
use Rattle.payload.specs.Reply.{grant_tags}
use Rattle.payload.specs.ReadBack.{SaysAck, SaysNak, VersionBack, TextBack, AckBack, ServiceAckBack, NakBack, NaksApart}
use Rattle.session.specs.declared.Row.{Row}
use Rattle.session.specs.declared.Act.{Act}
use Rattle.session.specs.declared.Act.TheVariants.{Refuse, Drop, Accept, Beat, Start, NoStart, Stop, Close, NoEnd, Claim, Append, Deliver, Single}
use Rattle.session.specs.Rows.{no_row, no_session_id, no_message_id}
use Rattle.session.specs.Rules.{reply_version}
use Rattle.link.specs.declared.Link.{Link}
use Rattle.link.specs.declared.Grant.{Grant}
use Rattle.link.specs.State.{index_of, new_id}
use Rattle.link.specs.Reply.{reply_header, start_ack, start_nak, end_ack, end_nak, beat_ack, rpc, first_message_id}
use Rattle.link.specs.Values.{Kind, short, refused, reply, silent, delivery, Values, values_of}
use Rattle.link.specs.Call.{After, Wish, old, new, bad, wish_of, opens, admits, decision_of, call_of}

-- ---- what a reply is to say

-- what stands behind its header: nothing, a hash, the tags of a service's ACK or of an opening's with its version, or the name of what a NAK rejects
pub data Carried : Type 0 where
  empty : Carried
  hash : ℕ → Carried
  granted : ℕ → ℕ → Carried
  settled : ℕ → ℕ → Version → Carried
  rejecting : List ℕ → Carried

-- a payload says that: "of data size 0"; "the hash as 4 raw bytes, most significant first"; a document that `payload_of` reads as just these tags, with the version
-- or the name that was meant
abbrev pub Says : Carried → List ℕ → Type 0
Says empty p = p ≡ []
Says (hash n) p = (length p ≡ 4) × (value_be p ≡ n)
Says (granted n mtu) p = payload_of p ≡ Ok (grant_tags n mtu)
Says (settled n mtu v) p = SaysAck n mtu v p
Says (rejecting name) p = SaysNak name p

-- a reply that is meant: its header but for the data size, and what it carries
pub record Meant : Type 0 where
  pub version : ℕ
  pub service : ServiceType
  pub info : ℕ
  pub session : SessionId
  pub message : MessageId
  pub carried : Carried

abbrev meant : ℕ → ServiceType → ℕ → SessionId → MessageId → Carried → Meant
meant v s i session message c = record { version = v; service = s; info = i; session = session; message = message; carried = c }

-- NAKs of opening: "header version min(M, 4), session 0, message id 0"
abbrev pub nak_meant : Link → Carried → Meant
nak_meant l c = meant (min l.version.major 4) rpc start_nak no_session_id no_message_id c

-- the opening's reply, by what the phone wishes. Its ACK is the session's first, and carries the new id
abbrev pub meant_by : Link → Grant → Wish → Meant
meant_by l g bad = nak_meant l (rejecting protocol_version)
meant_by l g old = unless (admits l.rows g) (nak_meant l empty) (meant (min l.version.major 4) rpc start_ack (new_id l.rows) first_message_id (hash g.hash))
meant_by l g (new v) =
    unless (admits l.rows g) (nak_meant l empty) (meant 5 rpc start_ack (new_id l.rows) first_message_id (settled g.hash l.mtu (lesser_of l.version v)))

-- a reply in a session: "Replies carry its id and version (unsettled: min(M, 4)). NAKs, and Heartbeat ACKs (size 0, not counted), have message id 0."
module _ (l : Link) (r : Row) (h : Header) (g : Grant) where
  abbrev replying : ℕ → MessageId → Carried → Option Meant
  replying info message c = some (meant (reply_version l.version.major r) h.service info r.id message c)

  -- "(version 5: hashId, mtu; below: raw hash)"; "with rejectedParams ["hashId"]; otherwise .. of size 0"
  abbrev pub meant_in : Act → Option Meant
  meant_in (Refuse n) = none
  meant_in (Drop n) = none
  meant_in Accept = none
  meant_in Beat = replying beat_ack no_message_id empty
  meant_in Start = replying start_ack r.next (pick (eqb r.version 5) (granted g.hash l.mtu) (hash g.hash))
  meant_in NoStart = replying start_nak no_message_id empty
  meant_in Stop = replying end_ack r.next empty
  meant_in Close = replying end_ack r.next empty
  meant_in (NoEnd named) = replying end_nak no_message_id (pick named (rejecting hash_id) empty)
  meant_in (Claim total count) = none
  meant_in Append = none
  meant_in Deliver = none
  meant_in Single = none

-- the reply that a call means, by the frame at the front of its input; `room` is out's length
abbrev pub meant_of : Link → List ℕ → ℕ → Grant → Reading → Option Meant
meant_of l s room g (reading.Short n) = none
meant_of l s room g (reading.Refused n) = none
meant_of l s room g (reading.Frame h e) =
    let i = index_of h.session.0 l.rows in
    pick (opens h) (some (meant_by l g (wish_of l.version.major (payload_part s e))))
    (meant_in l (get_or l.rows i no_row) h g (decision_of l i h (payload_part s e) room))

-- ---- and is read back

-- some bytes are read as that reply: by `read_of` its header, every byte consumed, and what it carries behind it
pub record SaidBack (m : Meant) (bytes : List ℕ) : Type 0 where
  pub payload : List ℕ
  pub back : ReadsAs bytes (as_read (reply_header m.version m.service m.info m.session (length payload) m.message)) payload
  pub says : Says m.carried payload

abbrev pub SaidBackIf : Option Meant → List ℕ → Type 0
SaidBackIf none bytes = ⊥
SaidBackIf (some m) bytes = SaidBack m bytes

-- what holds of an answer that is a reply
abbrev pub IfReply : Kind → Type 0 → Type 0
IfReply short P = Unit {0}
IfReply refused P = Unit {0}
IfReply (reply r) P = P
IfReply silent P = Unit {0}
IfReply delivery P = Unit {0}

-- numbers of link and offer have as many bits as their types; nothing else is asked of a call
pub record Typed (l : Link) (g : Grant) : Type 0 where
  pub minor : l.version.minor < 256
  pub patch : l.version.patch < 256
  pub next : (i : ℕ) → (get_or l.rows i no_row).next.0 < 2 ^ 32
  pub hash : g.hash < 2 ^ 32

-- "replies": for every call that answers with a reply, the bytes at the front of out
abbrev pub ReplyReadBack : Type 0
ReplyReadBack =
    (l : Link) (p s o : List ℕ) (g : Grant) → Typed l g
    → let w : After = call_of l p s o g in
    let v : Values = values_of w.answer in
    IfReply v.kind (SaidBackIf (meant_of l s (length o) g (read_of s)) (take v.written w.out))

-- ---- each pair of writer and reader

-- numbers in w bytes, in both orders: "The number layouts share one fact over the width."
abbrev pub NumberReadBack : Type 0
NumberReadBack = (w n : ℕ) → n < 256 ^ w → (value_le (bytes_le w n) ≡ n) × (value_be (bytes_be w n) ≡ n)

abbrev pub NumberWrittenAgain : Type 0
NumberWrittenAgain = (bs : List ℕ) → AreBytes bs → (bytes_le (length bs) (value_le bs) ≡ bs) × (bytes_be (length bs) (value_be bs) ≡ bs)

-- bytes as hexadecimal text, and a number of 64 bits as decimal text
abbrev pub HexReadBack : Type 0
HexReadBack = (bytes out : List ℕ) → AreBytes bytes → length bytes ≤ length out → decode_of (hex_of bytes) out ≡ decoded (Ok (length bytes)) (laid bytes out)

abbrev pub DecimalReadBack : Type 0
DecimalReadBack = (n : ℕ) → n < 2 ^ 64 → number_of (decimal_of n) ≡ Ok n

-- all of them; the C functions are in tilambok/specs/ReadBack
pub record ReadBack : Type 0 where
  pub number : NumberReadBack
  pub number_again : NumberWrittenAgain
  pub hexadecimal : HexReadBack
  pub decimal : DecimalReadBack
  -- `payload::version::write` and `read`
  pub version : VersionBack
  pub version_again : TextBack
  -- `payload::reply::write_ack`, `write_service_ack`, `write_nak` and `payload::read`
  pub ack : AckBack
  pub service_ack : ServiceAckBack
  pub nak : NakBack
  pub naks_apart : NaksApart
  -- `frame::write`, `write_header` and `read`
  pub frame : FrameReadBack
  pub header : HeaderReadBack
  pub frame_again : WrittenAgain
  -- `sender::send` and `frame::read`
  pub message : SentReadBack
  -- `headunit::call` and both readers
  pub reply : ReplyReadBack
