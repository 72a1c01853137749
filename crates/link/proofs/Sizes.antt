-- The numbers of every answer are small. By the cases of an opening and of a decision: the frame reader bounds a frame, the state rules bound a message.
-- Assumes nothing.
use Prim.Native.Nat.{ℕ, ◌+◌, ◌-◌, ◌≤◌, ◌<◌, min, max}
use mathlib.Core.Path.{◌≡◌, refl, sym, ◌∙◌}
use mathlib.Core.Logic.{inl, inr}
use mathlib.Core.Bool.{Bool, true, false, ◌&&◌, ◌||◌, not}
use mathlib.Core.List.{List, []}
use native.Mathlib.Omega.{arith}
use lib.Dec.{eqb, ltb, leb}
use lib.ListN.{length, get_or}
use borrow.Author.Tests.{eqb-false}
use Rattle.numbers.specs.Bytes.{pick, part}
use Rattle.numbers.specs.Numbers.{value_be, bytes_be}
use Rattle.numbers.proofs.Laws.{length_be}
use Rattle.numbers.proofs.Choices.{either, unless_elim}
use Rattle.frame.specs.declared.Header.{Header}
use Rattle.frame.specs.declared.Extent.{Extent}
use Rattle.frame.specs.declared.ServiceType.{ServiceType}
use Rattle.frame.specs.declared.SessionId.{SessionId}
use Rattle.frame.specs.declared.MessageId.{MessageId}
use Rattle.frame.specs.declared.Reading.{Reading}
use Rattle.frame.specs.declared.Reading.TheVariants as reading
use Rattle.frame.specs.Message.{totals_fit}
use Rattle.frame.specs.Read.{front_of, read_of}
use Rattle.frame.proofs.Laws.{header_range, frame_length, fault_most, frame_most}
use Rattle.frame.proofs.Answers.{is_refused, is_short, frame_sound, consumed_is, size_bound}
use Rattle.frame.proofs.Message.{totals_range}
use Rattle.frame.proofs.ThereAndBack.{payload_length}
use Rattle.payload.specs.declared.version.Version.{Version}
use Rattle.payload.specs.Tags.{protocol_version, hash_id}
use Rattle.payload.specs.Version.{lesser_of}
use Rattle.payload.specs.Reply.{ack_payload, service_ack_payload, nak_payload}
use Rattle.payload.proofs.Replies.{ack_most, length_service_ack, length_nak}
use Rattle.session.specs.declared.Reassembly.{Reassembly}
use Rattle.session.specs.declared.Row.{Row}
use Rattle.session.specs.declared.Said.{Said}
use Rattle.session.specs.declared.Act.{Act}
use Rattle.session.specs.declared.Act.TheVariants.{Refuse, Drop, Accept, Beat, Start, NoStart, Stop, Close, NoEnd, Claim, Append, Deliver, Single}
use Rattle.session.specs.Rows.{no_session_id, no_message_id, no_row, message_at}
use Rattle.session.specs.Rules.{reply_version, barred_by}
use Rattle.session.specs.Decide.{is_hash, place_of, need_of, held_of, share_of, first_of, due_number, sized, next_for, single_of, startable, starting_of, endable, hash_of, ending_of, control_of, content_of}
use Rattle.link.specs.declared.Link.{Link}
use Rattle.link.specs.declared.Grant.{Grant}
use Rattle.link.specs.State.{index_of, shares_in, guard_of, new_id}
use Rattle.link.specs.Reply.{reply_header, reply_bytes, start_ack, start_nak, end_ack, end_nak, beat_ack, rpc, first_message_id, old_ack, opening_nak, granted_payload}
use Rattle.link.specs.Call.{After, Wish, old, new, bad, wish_of, opens, admits, opening_by, said_of, decision_of, applied, frame_of, reading_of, call_of}
use Rattle.link.specs.Book.{Ask}
use Rattle.link.specs.Claim.{State, is_open}
use Rattle.link.specs.Search.{Shaped}
use Rattle.link.specs.Sizes.{Small, AnswersSmall}
use Rattle.link.proofs.Decisions.{Decided, refuses, accepts, beats, starts, starts-not, stops, closes, ends_not, hands-over, claims, drops, appends, delivers, decided}
use Rattle.link.proofs.Guards.{guard_settings}
use Rattle.link.proofs.Wishes.{wish_bounded, lesser_bounded}
use Rattle.link.proofs.Shown.{is_open_lem}
use Rattle.link.proofs.RowFacts.{place_below, open_facts}
use Rattle.link.proofs.Search.{guard_sane}

-- ---- a decision that refuses has a number

abbrev Numbered : Act → Type 0
Numbered (Refuse n) = 1 ≤ n
Numbered (Drop n) = Unit {0}
Numbered Accept = Unit {0}
Numbered Beat = Unit {0}
Numbered Start = Unit {0}
Numbered NoStart = Unit {0}
Numbered Stop = Unit {0}
Numbered Close = Unit {0}
Numbered (NoEnd named) = Unit {0}
Numbered (Claim total count) = Unit {0}
Numbered Append = Unit {0}
Numbered Deliver = Unit {0}
Numbered Single = Unit {0}

control_numbered : (r : Row) (h : Header) (said : Said) → Numbered (control_of r h said)
unfolding control_of starting_of ending_of
control_numbered r h said =
    either Numbered (eqb h.info 0x01) _ _
    (λ _. unless_elim Numbered (startable r h.service.0 && (not (eqb r.version 5) || said.readable)) NoStart Start (λ _. tt) (λ _. tt)) λ _.
    either Numbered (eqb h.info 0x04) _ _
    (λ _.
    unless_elim Numbered (endable r h.service.0) (NoEnd false) _ (λ _. tt) λ _.
    unless_elim Numbered (is_hash said.hash (hash_of r h.service.0)) (NoEnd (eqb r.version 5)) _ (λ _. tt) λ _.
    either Numbered (eqb h.service.0 0x07) Close Stop (λ _. tt) (λ _. tt)) λ _.
    either Numbered (eqb h.info 0x00) Beat Accept (λ _. tt) (λ _. tt)

first_numbered : (r : Row) (others : ℕ) (h : Header) (total count : ℕ) → Numbered (first_of r others h total count)
unfolding first_of
first_numbered r others h total count =
    unless_elim Numbered (totals_fit total count) (Refuse 18) _ (λ _. omega arith) λ _.
    unless_elim Numbered (not (message_at r (place_of h.service.0)).live) (Refuse 19) _ (λ _. omega arith) λ _.
    unless_elim Numbered (leb (held_of r + need_of total) r.cap) (Refuse 20) _ (λ _. omega arith) λ _.
    unless_elim Numbered (leb (others + max (held_of r + need_of total) r.guarantee) 256) (Refuse 21) (Claim total count) (λ _. omega arith) (λ _. tt)

next_numbered : (m : Reassembly) (room : ℕ) (h : Header) → Numbered (next_for m room h)
unfolding next_for
next_numbered m room h =
    unless_elim Numbered m.live (Refuse 22) _ (λ _. omega arith) λ _.
    unless_elim Numbered (eqb h.message.0 m.id.0) (Refuse 23) _ (λ _. omega arith) λ _.
    unless_elim Numbered (eqb h.info (due_number m)) (Drop 24) _ (λ _. tt) λ _.
    unless_elim Numbered (sized m h.size) (Drop 25) _ (λ _. tt) λ _.
    unless_elim Numbered (eqb m.frames 1) Append _ (λ _. tt) λ _.
    unless_elim Numbered (leb m.total room) (Refuse 11) Deliver (λ _. omega arith) (λ _. tt)

decision_numbered : (l : Link) (i : ℕ) (h : Header) (payload : List ℕ) (room : ℕ) → Numbered (decision_of l i h payload room)
unfolding decision_of content_of single_of
decision_numbered l i h payload room =
    let r : Row = get_or l.rows i no_row in
    let b : ℕ = barred_by l.version.major l.mtu r h in
    unless_elim Numbered (eqb b 0) (Refuse b) _ (λ t. omega (arith, eqb-false b 0 t)) λ _.
    either Numbered (eqb h.kind 0) _ _ (λ _. control_numbered r h (said_of r payload)) λ _.
    either Numbered (eqb h.kind 1) _ _ (λ _. unless_elim Numbered (leb h.size room) (Refuse 11) Single (λ _. omega arith) (λ _. tt)) λ _.
    either Numbered (eqb h.kind 2) _ _
    (λ _. first_numbered r (shares_in l.rows - share_of r) h (value_be (part payload 0 4)) (value_be (part payload 4 4)))
    (λ _. next_numbered (message_at r (place_of h.service.0)) room h)

-- ---- replies

reply_small : (v : ℕ) (service : ServiceType) (info : ℕ) (session : SessionId) (message : MessageId) (payload : List ℕ) → length payload ≤ 116
    → length (reply_bytes v service info session message payload) ≤ 128
reply_small v service info session message payload short =
    omega (arith, frame_length (reply_header v service info session (length payload) message) payload, header_range v)

granted_small : (version hash mtu : ℕ) → length (granted_payload version hash mtu) ≤ 116
unfolding granted_payload
granted_small version hash mtu =
    either (λ (x : List ℕ). length x ≤ 116) (eqb version 5) (service_ack_payload hash mtu) (bytes_be 4 hash)
    (λ _. omega (arith, length_service_ack hash mtu)) (λ _. omega (arith, length_be 4 hash))

named_small : (named : Bool) → length (pick named (nak_payload hash_id) []) ≤ 116
named_small true = omega (arith, length_nak hash_id)
named_small false = omega arith

-- ---- the calls

abbrev SmallAfter : After → Type 0
SmallAfter w = Small w.answer

module _ (l : Link) (shape : Shaped l) (minor : l.version.minor < 256) (patch : l.version.patch < 256) (p s o : List ℕ) (g : Grant)
    (guard : guard_of l (length p) g ≡ true) where
  nak_small : (payload : List ℕ) → length payload ≤ 116 → length (opening_nak l.version.major payload) ≤ 128
  nak_small payload short = reply_small (min l.version.major 4) rpc start_nak no_session_id no_message_id payload short

  old_small : length (old_ack l.version.major (new_id l.rows) g.hash) ≤ 128
  old_small =
      reply_small (min l.version.major 4) rpc start_ack (new_id l.rows) first_message_id (bytes_be 4 g.hash) (omega (arith, length_be 4 g.hash))

  opening_small : (c : ℕ) → c ≤ 131084 → (payload : List ℕ) (w : Wish) → wish_of l.version.major payload ≡ w → SmallAfter (opening_by l p o c g w)
  opening_small c b payload bad e = (b, nak_small (nak_payload protocol_version) (omega (arith, length_nak protocol_version)))
  opening_small c b payload old e =
      unless_elim SmallAfter (admits l.rows g) _ _ (λ _. (b, nak_small [] (omega arith)))
      (λ _. (b, old_small))
  opening_small c b payload (new v) e =
      let range = guard_settings l (length p) g guard in
      let x : Version = lesser_of l.version v in
      let small = lesser_bounded l.version v (record { least = range.0; major = omega (arith, range.1.0); minor = minor; patch = patch })
      (wish_bounded l.version.major payload v e) in
      unless_elim SmallAfter (admits l.rows g) _ _ (λ _. (b, nak_small [] (omega arith)))
      (λ _. (
        b,
        reply_small 5 rpc start_ack (new_id l.rows) first_message_id (ack_payload g.hash l.mtu x)
            (omega (arith, ack_most g.hash l.mtu x small.major small.minor small.patch)),
      ))

  abbrev state : State
  state = record { link = l; pool = p }

  -- a frame of an open session
  module _ (h : Header) (e : Extent) (f : read_of s ≡ reading.Frame h e) (opened : is_open state h.session.0 ≡ true) where
    abbrev i : ℕ
    i = index_of h.session.0 l.rows

    abbrev payload : List ℕ
    payload = part s e.start (e.end - e.start)

    abbrev r : Row
    r = get_or l.rows i no_row

    -- a reply of the session
    sent : (info : ℕ) (message : MessageId) (bytes : List ℕ) → length bytes ≤ 116
        → length (reply_bytes (reply_version l.version.major r) h.service info r.id message bytes) ≤ 128
    sent info message bytes short = reply_small (reply_version l.version.major r) h.service info r.id message bytes short

    consumed : e.consumed ≤ 131084
    consumed = omega (arith, consumed_is s h e f, frame_most h (frame_sound s h e f))

    -- 18 bounds an open message
    total : ((message_at r (place_of h.service.0)).live ≡ true) → (message_at r (place_of h.service.0)).total ≤ 131072
    total live =
        let facts = open_facts state h.session.0 (guard_sane l p g shape guard) opened in
        omega (arith, (totals_range _ _ ((facts.fits (place_of h.service.0) (place_below h.service.0)).1 live).totals).most_bytes)

    applied-small : {ask : Ask} {act : Act} → Decided l i h payload ask act → Numbered act → SmallAfter (applied l i p o h e.consumed payload g act)
    applied-small (refuses b) n = (n, omega arith)
    applied-small accepts n = consumed
    applied-small beats n = (consumed, sent beat_ack no_message_id [] (omega arith))
    applied-small starts n =
        (consumed, sent start_ack r.next (granted_payload r.version g.hash l.mtu) (granted_small r.version g.hash l.mtu))
    applied-small starts-not n = (consumed, sent start_nak no_message_id [] (omega arith))
    applied-small (stops d) n = (consumed, sent end_ack r.next [] (omega arith))
    applied-small (closes d) n = (consumed, sent end_ack r.next [] (omega arith))
    applied-small (ends_not {named = named}) n = (consumed, sent end_nak no_message_id (pick named (nak_payload hash_id) []) (named_small named))
    applied-small (hands-over q) n = (consumed, omega (arith, payload_length s h e f, size_bound s h e f))
    applied-small (claims q a b c d u) n = consumed
    applied-small (drops (inl d) c) n = (omega arith, omega arith)
    applied-small (drops (inr d) c) n = (omega arith, omega arith)
    applied-small (appends c a b) n = consumed
    applied-small (delivers c a b) n = (consumed, total c.live)

  reading_small : (x : Reading) → read_of s ≡ x → SmallAfter (reading_of l p s o g x)
  unfolding frame_of
  reading_small (reading.Short n) f = omega (arith, (is_short s n f).most)
  reading_small (reading.Refused n) f =
      let r = is_refused s n f in
      let some : n ≡ 0 → ⊥ = λ z. r.some (sym r.fault ∙ z) in
      (omega arith, omega (arith, r.fault, fault_most (front_of s)))
  reading_small (reading.Frame h e) f =
      let at : ℕ = index_of h.session.0 l.rows in
      let bytes : List ℕ = part s e.start (e.end - e.start) in
      let most : e.consumed ≤ 131084 = omega (arith, consumed_is s h e f, frame_most h (frame_sound s h e f)) in
      unless_elim SmallAfter (leb 128 (length o)) _ _ (λ _. (omega arith, omega arith)) λ _.
      either SmallAfter (opens h) _ _ (λ _. opening_small e.consumed most bytes (wish_of l.version.major bytes) refl) λ _.
      unless_elim SmallAfter (not (eqb h.session.0 0) && ltb at (length l.rows)) _ _ (λ _. (omega arith, omega arith)) λ a.
      applied-small h e f (is_open_lem state h.session.0 a) (decided l at h bytes (length o)) (decision_numbered l at h bytes (length o))

pub answers_small : AnswersSmall
unfolding call_of
answers_small l shape minor patch p s o g =
    unless_elim SmallAfter (guard_of l (length p) g) _ _ (λ _. (omega arith, omega arith))
    (λ t. reading_small l shape minor patch p s o g t (read_of s) refl)
