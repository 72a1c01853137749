-- One call of the link: the answer, the state after it, and every byte of pool and out. Document 01, "The link" to "Messages", and the
-- order of the answer numbers: "10, the reader's Short or 1 to 6, 11 (under 128), 12 to 17, then 18 to 21 or 22 to 25, then 11".
-- The user's first demand: "Any bytes, settings or buffers may come. Every public call ends and answers by the table in document 01, refusals given exactly
-- when it says." And the second: "Frames, control payloads, negotiation, replies and joined messages are those of the SmartDeviceLink protocol as document
-- 01 fixes it."
-- Assumes nothing.
use Rattle.std.specs.Prelude.{ℕ, ◌+◌, ◌-◌, Bool, true, false, ◌&&◌, not, List, [], eqb, ltb, leb, length, get_or, take, Option, Some, None, Result, Ok, Err}
use Rattle.numbers.specs.Bytes.{pick, unless, part, laid}
use Rattle.numbers.specs.Numbers.{value_be}
use Rattle.frame.specs.declared.Header.{Header}
use Rattle.frame.specs.declared.MessageId.{MessageId}
use Rattle.frame.specs.declared.Extent.{Extent}
use Rattle.frame.specs.declared.Reading.{Reading}
use Rattle.frame.specs.declared.Reading.TheVariants as reading
use Rattle.frame.specs.Read.{read_of}
use Rattle.payload.specs.declared.Span.{Span}
use Rattle.payload.specs.declared.Tags.{Tags}
use Rattle.payload.specs.declared.version.Version.{Version}
use Rattle.payload.specs.Tags.{hash_id, protocol_version, bytes_in}
use Rattle.payload.specs.Walk.{payload_of}
use Rattle.payload.specs.Version.{version_of, lesser_of}
use Rattle.payload.specs.Reply.{nak_payload}
use Rattle.blocks.specs.Map.{claimed, released}
use Rattle.blocks.specs.Pool.{block_bytes, appended}
use Rattle.session.specs.declared.Row.{Row}
use Rattle.session.specs.declared.Said.{Said}
use Rattle.session.specs.declared.Act.{Act}
use Rattle.session.specs.declared.Act.TheVariants.{Refuse, Drop, Accept, Beat, Start, NoStart, Stop, Close, NoEnd, Claim, Append, Deliver, Single}
use Rattle.session.specs.Rows.{no_message_id, no_row, opened_row, message_at}
use Rattle.session.specs.Rules.{reply_version, barred_by}
use Rattle.session.specs.Decide.{place_of, need_of, share_of, control_of, content_of, row_after}
use Rattle.link.specs.declared.Link.{Link}
use Rattle.link.specs.declared.Grant.{Grant}
use Rattle.link.specs.declared.Answer.{Answer}
use Rattle.link.specs.declared.Answer.TheVariants as answer
use Rattle.link.specs.State.{index_of, owner_of, shares_in, guard_of, with_owners, with_row, new_id}
use Rattle.link.specs.Reply.{reply_bytes, start_ack, start_nak, end_ack, end_nak, beat_ack, old_ack, new_ack, opening_nak, granted_payload}

-- what a call leaves
pub record After : Type 0 where
  pub answer : Answer
  pub link : Link
  pub pool : List ℕ
  pub out : List ℕ

abbrev pub after : Answer → Link → List ℕ → List ℕ → After
after a l p o = record { answer = a; link = l; pool = p; out = o }

-- ---- opening

-- what a phone that opens a session wishes: an old version, one from 5.0.0 on, or it cannot be read
pub data Wish : Type 0 where
  old : Wish
  new : Version → Wish
  bad : Wish

-- "or one below 5.0.0"; "bad version string"
abbrev pub wish_of_text : Option Version → Wish
wish_of_text (Some v) = pick (ltb v.major 5) old (new v)
wish_of_text None = bad

-- "or no protocolVersion"; "an unreadable payload": "On service frames 30 to 34 lead to the NAKs above."
abbrev pub wish_of_tag : List ℕ → Option Span → Wish
wish_of_tag p None = old
wish_of_tag p (Some at) = wish_of_text (version_of (bytes_in p at))

abbrev pub wish_of_payload : List ℕ → Result Tags ℕ → Wish
wish_of_payload p (Ok t) = wish_of_tag p t.version
wish_of_payload p (Err n) = bad

-- "If M is below 5, or there is no payload, or no protocolVersion, or one below 5.0.0"
unfoldable pub wish_of : ℕ → List ℕ → Wish
wish_of major p = unless (eqb major 5) old (wish_of_payload p (payload_of p))

-- "A version 1 Start Service, service 07, session 0"
unfoldable pub opens : Header → Bool
opens h = eqb h.version 1 && (eqb h.kind 0 && (eqb h.service.0 0x07 && (eqb h.info 0x01 && eqb h.session.0 0)))

-- "no free row, or a state rule broken by G": a new row's share is G
unfoldable pub admits : List Row → Grant → Bool
admits rs g = ltb (index_of 0 rs) (length rs) && leb (shares_in rs + g.guarantee) 256

-- the version of a session that wished an old one: "unsettled (settled at 1 if M is 1)"
unfoldable pub old_version : ℕ → ℕ
old_version major = pick (eqb major 1) 1 0

module _ (l : Link) (p o : List ℕ) (consumed : ℕ) (g : Grant) where
  -- a NAK changes nothing
  abbrev pub not_opened : List ℕ → After
  not_opened payload = let bytes = opening_nak l.version.major payload in after (answer.Nacked consumed (length bytes)) l p (laid bytes o)

  -- the session's row in the first free place, and the ACK
  abbrev pub opened : ℕ → List ℕ → After
  opened version bytes =
      after (answer.Acked consumed (length bytes))
      (with_row l (index_of 0 l.rows) (opened_row (new_id l.rows) g.guarantee g.cap version g.hash))
      p (laid bytes o)

  -- bad: "a NAK with rejectedParams ["protocolVersion"]"; "then, with any M, no free row, or a state rule broken by G, gets a NAK of data size 0"; old: "reply
  -- ACK with header version min(M, 4)"; new: "Otherwise settle on the lesser of both versions"
  abbrev pub opening_by : Wish → After
  opening_by bad = not_opened (nak_payload protocol_version)
  opening_by old = unless (admits l.rows g) (not_opened []) (opened (old_version l.version.major) (old_ack l.version.major (new_id l.rows) g.hash))
  opening_by (new v) = unless (admits l.rows g) (not_opened []) (opened 5 (new_ack (new_id l.rows) g.hash l.mtu (lesser_of l.version v)))

-- ---- in a session

-- what a control frame's payload says of a hash: "(version 5: hashId; below: exactly 4 raw bytes)". Below 5 any payload is readable
abbrev pub said_by : Result Tags ℕ → Said
said_by (Ok t) = record { readable = true; hash = t.hash }
said_by (Err n) = record { readable = false; hash = None }

unfoldable pub said_of : Row → List ℕ → Said
said_of r p = pick (eqb r.version 5) (said_by (payload_of p)) (record { readable = true; hash = unless (eqb (length p) 4) None (Some (value_be (part p 0 4))) })

-- the decision on a frame of row i: 13 to 17, then a control frame or content; of a First Frame's payload "total, then count"
unfoldable pub decision_of : Link → ℕ → Header → List ℕ → ℕ → Act
decision_of l i h payload room =
    let r = get_or l.rows i no_row in
    unless (eqb (barred_by l.version.major l.mtu r h) 0) (Refuse (barred_by l.version.major l.mtu r h))
    (pick (eqb h.kind 0)
    (control_of r h (said_of r payload))
    (content_of r (shares_in l.rows - share_of r) room h (value_be (part payload 0 4)) (value_be (part payload 4 4))))

-- what is done about a frame of row i: h its header, payload its payload
module _ (l : Link) (i : ℕ) (p o : List ℕ) (h : Header) (consumed : ℕ) (payload : List ℕ) (g : Grant) where
  abbrev row : Row
  row = get_or l.rows i no_row

  abbrev owner : ℕ
  owner = owner_of i (place_of h.service.0)

  -- the link with the row after the decision
  abbrev link_after : Act → Link
  link_after act = with_row l i (row_after row h g.hash act)

  -- the same, with the message's blocks freed
  abbrev freed_after : Act → Link
  freed_after act = with_owners (link_after act) (released owner owner l.owners)

  -- "Its payload goes to the message's blocks, right behind the bytes already there"
  abbrev pool_after : List ℕ
  pool_after =
      let m = message_at row (place_of h.service.0) in
      appended owner (m.total - m.missing) payload l.owners p

  -- "Replies carry its id and version (unsettled: min(M, 4))."
  abbrev reply : ℕ → MessageId → List ℕ → List ℕ
  reply info message bytes = reply_bytes (reply_version l.version.major row) h.service info row.id message bytes

  abbrev replied : (ℕ → ℕ → Answer) → Link → List ℕ → After
  replied kind after-link bytes = after (kind consumed (length bytes)) after-link p (laid bytes o)

  -- what a decision leaves. "NAKs, and Heartbeat ACKs (size 0, not counted), have message id 0."; an ACK has its session's next number. A First Frame
  -- "takes the lowest free blocks in rising order and writes nothing". "The last frame writes the message to the front of out .. and frees them. A single
  -- frame delivers its payload likewise. Bytes of out past those written stay." All refusals "leave everything unchanged but 24, 25"
  abbrev pub applied : Act → After
  applied (Refuse n) = after (answer.Refused n) l p o
  applied (Drop n) = after (answer.Refused n) (freed_after (Drop n)) p o
  applied Accept = after (answer.Accepted consumed) l p o
  applied Beat = replied answer.Beat l (reply beat_ack no_message_id [])
  applied Start = replied answer.Acked (link_after Start) (reply start_ack row.next (granted_payload row.version g.hash l.mtu))
  applied NoStart = replied answer.Nacked l (reply start_nak no_message_id [])
  applied Stop = replied answer.Acked (freed_after Stop) (reply end_ack row.next [])
  applied Close = replied answer.Acked (with_owners (link_after Close) (released (owner_of i 0) (owner_of i 4) l.owners)) (reply end_ack row.next [])
  applied (NoEnd named) = replied answer.Nacked l (reply end_nak no_message_id (pick named (nak_payload hash_id) []))
  applied (Claim total count) = after (answer.Accepted consumed) (with_owners (link_after (Claim total count)) (claimed owner (need_of total) l.owners)) p o
  applied Append = after (answer.Accepted consumed) (link_after Append) pool_after o
  applied Deliver =
      let m = message_at row (place_of h.service.0) in
      let bytes = take m.total (block_bytes owner l.owners pool_after) in
      after (answer.Delivered consumed h.service m.total) (freed_after Deliver) pool_after (laid bytes o)
  applied Single = after (answer.Delivered consumed h.service (length payload)) (link_after Single) p (laid payload o)

-- ---- the call

-- a frame: 11 "out under 128 bytes", the opening, which "skips 12 to 17", 12 "session not open (0 never is; opening excepted)", then its session's row
unfoldable pub frame_of : Link → List ℕ → List ℕ → List ℕ → Header → Extent → Grant → After
frame_of l p s o h e g =
    let payload = part s e.start (e.end - e.start) in
    unless (leb 128 (length o)) (after (answer.Refused 11) l p o)
    (pick (opens h) (opening_by l p o e.consumed g (wish_of l.version.major payload))
    (unless (not (eqb h.session.0 0) && ltb (index_of h.session.0 l.rows) (length l.rows)) (after (answer.Refused 12) l p o)
    (applied l (index_of h.session.0 l.rows) p o h e.consumed payload g
    (decision_of l (index_of h.session.0 l.rows) h payload (length o)))))

-- "The link takes the one frame at the front, .. and ignores what follows."
abbrev pub reading_of : Link → List ℕ → List ℕ → List ℕ → Grant → Reading → After
reading_of l p s o g (reading.Short n) = after (answer.Short n) l p o
reading_of l p s o g (reading.Refused n) = after (answer.Refused n) l p o
reading_of l p s o g (reading.Frame h e) = frame_of l p s o h e g

-- "Each call brings the link state, the pool .., the input, an out buffer, and an offer"
unfoldable pub call_of : Link → List ℕ → List ℕ → List ℕ → Grant → After
call_of l p s o g = unless (guard_of l (length p) g) (after (answer.Refused 10) l p o) (reading_of l p s o g (read_of s))
