-- What the inner functions' proofs share: a reply that is written has room and no fault.
-- Assumes nothing.
use Rattle.std.specs.Prelude.{Option, Some, None, Result, Ok, Err}
use Prim.Native.Nat.{ℕ, ◌+◌, ◌-◌, ◌≤◌, ◌<◌, max}
use mathlib.Core.Path.{◌≡◌, refl, ap, ◌∙◌, sym, subst}
use mathlib.Core.Bool.{Bool, true, false, ◌&&◌, ◌||◌, not}
use lib.Dec.{eqb, leb}
use mathlib.Core.List.{List, [], ◌++◌, append-nil}
use native.Mathlib.Omega.{arith}
use lib.ListN.{length, get_or, take, drop, drop_of_length-le}
use lib.Seq.{take_at}
use borrow.Author.Tests.{le-leb, lt-leb, le-ltb, leb-true, lt-ltb, eq-eqb, ne_eqb}
use borrow.Rule.Slice.PartMut.{put_mid}
use Rattle.numbers.specs.Bytes.{unless, part, laid, put_at}
use Rattle.numbers.specs.Numbers.{bytes_be}
use Rattle.numbers.proofs.Laws.{put_fits}
use Rattle.numbers.proofs.Choices.{either, unless_elim}
use Rattle.frame.specs.declared.ServiceType.{ServiceType}
use Rattle.frame.specs.declared.SessionId.{SessionId}
use Rattle.frame.specs.declared.MessageId.{MessageId}
use Rattle.frame.specs.declared.Header.{Header}
use Rattle.frame.specs.Rules.{listed_service, info_fits}
use Rattle.frame.specs.Write.{frame_bytes, Wrote, wrote, put_of, write_of}
use Rattle.frame.specs.Message.{totals_fit}
use Rattle.frame.specs.declared.Extent.{Extent}
use Rattle.frame.specs.declared.Reading.TheVariants as reading
use Rattle.frame.specs.Read.{read_of}
use Rattle.frame.proofs.Answers.{frame_sound}
use Rattle.frame.proofs.Laws.{fault_none, write_puts, frame_length, header_range}
use Rattle.frame.proofs.Buffers.{pasted, payload_put}
use Rattle.payload.specs.Append as payloads
use Rattle.payload.specs.declared.Tags.{Tags}
use Rattle.payload.specs.declared.Span.{Span}
use Rattle.payload.specs.Walk.{payload_of}
use Rattle.payload.proofs.TopLevel.{AcceptedHolds, VersionInside, version_inside}
use Rattle.payload.specs.declared.reply.Parameter.{Parameter}
use Rattle.payload.specs.declared.reply.Parameter.TheVariants as parameter
use Rattle.payload.specs.Tags.{protocol_version, hash_id}
use Rattle.payload.specs.declared.version.Version.{Version}
use Rattle.payload.specs.Version.{saying_of}
use Rattle.payload.specs.Reply.{service_ack_payload, nak_payload, name_of}
use Rattle.payload.proofs.Replies.{length_nak}
use Rattle.payload.proofs.Appends.{in_range_put}
use Rattle.session.specs.declared.Reassembly.{Reassembly}
use Rattle.session.specs.declared.Row.{Row}
use Rattle.session.specs.declared.Said.{Said}
use Rattle.session.specs.declared.Act.{Act}
use Rattle.session.specs.declared.Act.TheVariants.{Refuse, Drop, Accept, Beat, Start, NoStart, Stop, Close, NoEnd, Claim, Append, Deliver, Single}
use Rattle.session.specs.Rules.{barred_by}
use Rattle.session.specs.Rows.{no_row, opened_row, message_at}
use Rattle.session.specs.Decide.{is_hash, place_of, need_of, held_of, first_of, due_number, sized, next_for, single_of, startable, starting_of, endable, hash_of, ending_of, control_of, content_of}
use Rattle.link.specs.declared.Link.{Link}
use Rattle.link.specs.declared.Grant.{Grant}
use Rattle.link.specs.declared.Answer.TheVariants as answer
use Rattle.link.specs.State.{index_of, new_id, guard_of, with_row}
use Rattle.link.specs.Call.{After, after, Wish, old, new, bad, wish_of, opens, admits, not_opened, opened, opening_by, said_of, decision_of, applied, frame_of, call_of}
use Rattle.link.proofs.Guards.{guard_version}
use Rattle.link.proofs.Wishes.{wish_bounded}
use Rattle.link.proofs.Table.{index_row}
use Rattle.link.specs.Reply.{reply_header, reply_bytes, granted_payload}
use Rattle.link.proofs.Replies.{reply_sound}
use Rattle.headunit.specs.Unit.{Sent, sent, sent_of, rejection, wished, version_for, ack_for, replied_with, Serves}
use Rattle.headunit.specs.Steps.{Roomy}

-- what a writer leaves of bytes that fit
pub put_done : {r : Result ℕ ℕ} {q : List ℕ} (bytes o : List ℕ) → length bytes ≤ length o → wrote r q ≡ put_of bytes o → (r ≡ Ok (length bytes)) × (q ≡ laid bytes o)
put_done {r = r} {q = q} bytes o h e =
    let g : wrote r q ≡ wrote (Ok (length bytes)) (laid bytes o)
    = e ∙ ap (λ (b : Bool). unless b (wrote (Err 11) o) (wrote (Ok (length bytes)) (laid bytes o))) (le-leb (length bytes) (length o) h) in
    (ap (λ (x : Wrote). x.answer) g, ap (λ (x : Wrote). x.out) g)

-- the count that is taken out of such an answer
pub count_is : {r : Result ℕ ℕ} {n m : ℕ} → r ≡ Ok n → r ≡ Ok m → n ≡ m
count_is e f = let g : ◌≡◌ {A = Result ℕ ℕ} (Ok _) (Ok _) = sym e ∙ f in cc

-- a reply with room is written whole
pub reply_done : {r : Result ℕ ℕ} {q : List ℕ} (v : ℕ) (service : ServiceType) (info : ℕ) (session : SessionId) (message : MessageId) (p o : List ℕ) → 128 ≤ length o → 1 ≤ v
    → v ≤ 5 → listed_service service ≡ true → info_fits 0 info ≡ true → length p ≤ 116
    → wrote r q ≡ write_of (reply_header v service info session (length p) message) p o
    → (let bytes : List ℕ = reply_bytes v service info session message p in (r ≡ Ok (length bytes)) × (q ≡ laid bytes o))
reply_done v service info session message p o room least most listed fits short e =
    let h : Header = reply_header v service info session (length p) message in
    put_done (frame_bytes h p) o (omega (arith, frame_length h p, header_range v))
    (e ∙ write_puts h p o (reply_sound v service info session p least most listed fits (omega arith) message) refl)

-- the front of a buffer that was written to
pub front_is : {n : ℕ} {q : List ℕ} (bytes o : List ℕ) → n ≡ length bytes → q ≡ laid bytes o → take (n - 0) (drop 0 q) ≡ bytes
front_is {n = n} bytes o e f =
    let z : n - 0 ≡ length bytes = omega arith in
    rw (z, f) (take_at bytes (drop (length bytes) o) (length bytes) refl)

-- what a payload's writer leaves of bytes that fit
pub payload_done : {r : Result ℕ ℕ} {q : List ℕ} (bytes o : List ℕ) → length bytes ≤ length o → payloads.wrote r q ≡ payloads.put_of bytes o
    → (r ≡ Ok (length bytes)) × (q ≡ laid bytes o)
payload_done {r = r} {q = q} bytes o h e =
    let g : payloads.wrote r q ≡ payloads.wrote (Ok (length bytes)) (laid bytes o)
    = e ∙ ap (λ (b : Bool). unless b (payloads.wrote (Err 11) o) (payloads.wrote (Ok (length bytes)) (laid bytes o))) (le-leb (length bytes) (length o) h) in
    (ap (λ (x : payloads.Wrote). x.answer) g, ap (λ (x : payloads.Wrote). x.out) g)

-- and of ones that say a version that can be read
pub said_done : {r : Result ℕ ℕ} {q : List ℕ} (v : Version) (bytes o : List ℕ) → 1 ≤ v.major → length bytes ≤ length o → payloads.wrote r q ≡ saying_of v bytes o
    → (r ≡ Ok (length bytes)) × (q ≡ laid bytes o)
said_done v bytes o one h e = payload_done bytes o h (e ∙ sym (in_range_put v bytes o one))

-- four bytes put into four
pub raw_put : {q : List ℕ} (z b : List ℕ) → length z ≡ 4 → length b ≡ 4 → q ≡ put_at z 0 4 b → q ≡ b
raw_put z b e f g =
    g ∙ put_fits z 0 4 b (omega arith) ∙ pasted z b 0 4 f ∙ ap (λ (x : List ℕ). b ++ x) (drop_of_length-le z {i = 4} (omega arith)) ∙ append-nil b

-- the longer of the two names has 15 bytes
pub nak_short : (p : Parameter) → length (nak_payload (name_of p)) ≤ 49
nak_short parameter.ProtocolVersion = omega (arith, length_nak protocol_version)
nak_short parameter.HashId = omega (arith, length_nak hash_id)

-- bytes copied to the front of a buffer
pub front_put : (b o q r : List ℕ) → length b ≤ length o → r ≡ take (length b) b ++ drop (length b) (part o 0 (length b - 0)) → q ≡ put_mid 0 (length b - 0) o r → q ≡ laid b o
front_put b o q r h f g =
    let z : 0 + length b ≡ length b = omega arith in
    subst (λ (n : ℕ). r ≡ take (length b) b ++ drop (length b) (part o 0 (n - 0)) → q ≡ put_mid 0 (n - 0) o r → q ≡ laid b o) z
    (λ e d. payload_put [] b o o q r 0 refl (omega arith) refl e d) f g

-- a service's ACK by the session's version
pub granted_new : (v hash mtu : ℕ) → v ≡ 5 → service_ack_payload hash mtu ≡ granted_payload v hash mtu
unfolding granted_payload
granted_new v hash mtu e = rw (eq-eqb v 5 e)

pub granted_old : (v hash mtu : ℕ) → (v ≡ 5 → ⊥) → bytes_be 4 hash ≡ granted_payload v hash mtu
unfolding granted_payload
granted_old v hash mtu e = rw (ne_eqb v 5 e)

-- ---- what the call's parts need of each other

-- out has room for what is decided
module _ (room size total : ℕ) where
  abbrev P : Act → Type 0
  P act = Roomy room size total act

  control_roomy : (r : Row) (h : Header) (said : Said) → P (control_of r h said)
  unfolding control_of starting_of ending_of
  control_roomy r h said =
      either P (eqb h.info 0x01) _ _ (λ _. unless_elim P (startable r h.service.0 && (not (eqb r.version 5) || said.readable)) NoStart Start (λ _. tt) (λ _. tt)) λ _.
      either P (eqb h.info 0x04) _ _
      (λ _.
      unless_elim P (endable r h.service.0) (NoEnd false) _ (λ _. tt) λ _.
      unless_elim P (is_hash said.hash (hash_of r h.service.0)) (NoEnd (eqb r.version 5)) _ (λ _. tt) λ _.
      either P (eqb h.service.0 0x07) Close Stop (λ _. tt) (λ _. tt)) λ _.
      either P (eqb h.info 0x00) Beat Accept (λ _. tt) (λ _. tt)

  first_roomy : (r : Row) (others : ℕ) (h : Header) (bytes frames : ℕ) → P (first_of r others h bytes frames)
  unfolding first_of
  first_roomy r others h bytes frames =
      unless_elim P (totals_fit bytes frames) (Refuse 18) _ (λ _. tt) λ _.
      unless_elim P (not (message_at r (place_of h.service.0)).live) (Refuse 19) _ (λ _. tt) λ _.
      unless_elim P (leb (held_of r + need_of bytes) r.cap) (Refuse 20) _ (λ _. tt) λ _.
      unless_elim P (leb (others + max (held_of r + need_of bytes) r.guarantee) 256) (Refuse 21) (Claim bytes frames) (λ _. tt) (λ _. tt)

  next_roomy : (m : Reassembly) (h : Header) → total ≡ m.total → P (next_for m room h)
  unfolding next_for
  next_roomy m h e =
      unless_elim P m.live (Refuse 22) _ (λ _. tt) λ _.
      unless_elim P (eqb h.message.0 m.id.0) (Refuse 23) _ (λ _. tt) λ _.
      unless_elim P (eqb h.info (due_number m)) (Drop 24) _ (λ _. tt) λ _.
      unless_elim P (sized m h.size) (Drop 25) _ (λ _. tt) λ _.
      unless_elim P (eqb m.frames 1) Append _ (λ _. tt) λ _.
      unless_elim P (leb m.total room) (Refuse 11) Deliver (λ _. tt) (λ t. omega (arith, leb-true m.total room t))

  single_roomy : (h : Header) → size ≡ h.size → P (single_of room h)
  unfolding single_of
  single_roomy h e = unless_elim P (leb h.size room) (Refuse 11) Single (λ _. tt) (λ t. omega (arith, leb-true h.size room t))

pub decision_roomy : (l : Link) (i : ℕ) (h : Header) (payload : List ℕ) (room : ℕ) → length payload ≡ h.size
    → Roomy room (length payload) (message_at (get_or l.rows i no_row) (place_of h.service.0)).total (decision_of l i h payload room)
unfolding decision_of content_of
decision_roomy l i h payload room e =
    let r : Row = get_or l.rows i no_row in
    let total : ℕ = (message_at r (place_of h.service.0)).total in
    let Q : Act → Type 0 = Roomy room (length payload) total in
    let b : ℕ = barred_by l.version.major l.mtu r h in
    unless_elim Q (eqb b 0) (Refuse b) _ (λ _. tt) λ _.
    either Q (eqb h.kind 0) _ _ (λ _. control_roomy room (length payload) total r h (said_of r payload)) λ _.
    either Q (eqb h.kind 1) _ _ (λ _. single_roomy room (length payload) total h e) λ _.
    either Q (eqb h.kind 2) _ _ (λ _. first_roomy room (length payload) total r _ h _ _)
    (λ _. next_roomy room (length payload) total (message_at r (place_of h.service.0)) h refl)

-- the link with a session opened
pub opened_link : (l : Link) (i : ℕ) (id : SessionId) (r : Row) (q : Link) (g : Grant) (v w : ℕ) → i ≡ index_of 0 l.rows → id ≡ new_id l.rows → v ≡ w
    → r ≡ opened_row id g.guarantee g.cap v g.hash → q ≡ with_row l i r
    → q ≡ with_row l (index_of 0 l.rows) (opened_row (new_id l.rows) g.guarantee g.cap w g.hash)
opened_link l i id r q g v w e f k m n =
    n
    ∙ ap (λ (x : Row). with_row l i x) (m ∙ ap (λ (x : ℕ). opened_row id g.guarantee g.cap x g.hash) k ∙ ap (λ (x : SessionId). opened_row x g.guarantee g.cap w g.hash) f)
    ∙ ap (λ (x : ℕ). with_row l x (opened_row (new_id l.rows) g.guarantee g.cap w g.hash)) e

-- the same with its ACK: n bytes of out are written, o' is out after it
pub session_opened : (l : Link) (i consumed : ℕ) (g : Grant) (wish : Option Version) (v : ℕ) (id : SessionId) (r : Row) (n : ℕ) (o o' p : List ℕ) → i ≡ index_of 0 l.rows
    → id ≡ new_id l.rows → v ≡ version_for l.version.major wish → r ≡ opened_row id g.guarantee g.cap v g.hash
    → sent n o' ≡ sent_of (ack_for l id g.hash wish) o
    → replied_with answer.Acked consumed (with_row l i r) p (sent n o')
    ≡ opened l p o consumed g (version_for l.version.major wish) (ack_for l (new_id l.rows) g.hash wish)
session_opened l i consumed g wish v id r n o o' p at lowest version row written =
    let ack : SessionId → Sent = λ k. sent_of (ack_for l k g.hash wish) o in
    ap (replied_with answer.Acked consumed (with_row l i r) p) (written ∙ ap ack lowest)
    ∙ ap (λ (x : Link). replied_with answer.Acked consumed x p (ack (new_id l.rows)))
    (opened_link l i id r (with_row l i r) g v (version_for l.version.major wish) at lowest version row refl)

-- an opening that wishes a version which can be read
pub opening_is : (l : Link) (p o : List ℕ) (consumed : ℕ) (g : Grant) (w : Wish) (wish : Option Version) → wished w ≡ Ok wish
    → opening_by l p o consumed g w
    ≡ unless (admits l.rows g) (not_opened l p o consumed g []) (opened l p o consumed g (version_for l.version.major wish) (ack_for l (new_id l.rows) g.hash wish))
opening_is l p o consumed g old wish e = let f : ◌≡◌ {A = Option Version} None wish = cc in rw (← f)
opening_is l p o consumed g (new v) wish e = let f : ◌≡◌ {A = Option Version} (Some v) wish = cc in rw (← f)
opening_is l p o consumed g bad wish e = absurd (cc)

pub opening_refused : (l : Link) (p o : List ℕ) (consumed : ℕ) (g : Grant) (w : Wish) (wish : Option Version) → wished w ≡ Ok wish → admits l.rows g ≡ false
    → opening_by l p o consumed g w ≡ not_opened l p o consumed g []
opening_refused l p o consumed g w wish e full = opening_is l p o consumed g w wish e ∙ rw full

pub opening_granted : (l : Link) (p o : List ℕ) (consumed : ℕ) (g : Grant) (w : Wish) (wish : Option Version) → wished w ≡ Ok wish → admits l.rows g ≡ true
    → opening_by l p o consumed g w ≡ opened l p o consumed g (version_for l.version.major wish) (ack_for l (new_id l.rows) g.hash wish)
opening_granted l p o consumed g w wish e fits = opening_is l p o consumed g w wish e ∙ rw fits

-- one that cannot be read
pub opening_rejected : (l : Link) (p o : List ℕ) (consumed : ℕ) (g : Grant) (w : Wish) (x : Parameter) → wished w ≡ Err x
    → opening_by l p o consumed g w ≡ not_opened l p o consumed g (rejection (Some x))
opening_rejected l p o consumed g old x e = absurd (cc)
opening_rejected l p o consumed g (new v) x e = absurd (cc)
opening_rejected l p o consumed g bad x e = let f : ◌≡◌ {A = Parameter} parameter.ProtocolVersion x = cc in ap (λ (y : Parameter). not_opened l p o consumed g (rejection (Some y))) f

-- a version that is wished is one from 5.0.0 on, and has a major from 1 on
pub wished_least : (major : ℕ) (payload : List ℕ) (w : Wish) (wish : Option Version) → wish_of major payload ≡ w → wished w ≡ Ok wish → (v : Version) → wish ≡ Some v → 1 ≤ v.major
wished_least major payload old wish d e v f = let g : ◌≡◌ {A = Option Version} None (Some v) = cc in absurd (cc)
wished_least major payload (new u) wish d e v f = let g : u ≡ v = cc in (wish_bounded major payload v (d ∙ ap new g)).least
wished_least major payload bad wish d e v f = absurd (cc)

-- Short tells what the reader needs
pub short_is : (l : Link) (p s o : List ℕ) (g : Grant) (needed : ℕ) → guard_of l (length p) g ≡ true → read_of s ≡ reading.Short needed
    → after (answer.Short needed) l p o ≡ call_of l p s o g
unfolding call_of
short_is l p s o g needed guard read = rw (guard, read)

-- 10, what the reader refuses, and a frame
pub out_of_range : (l : Link) (p s o : List ℕ) (g : Grant) → guard_of l (length p) g ≡ false → after (answer.Refused 10) l p o ≡ call_of l p s o g
unfolding call_of
out_of_range l p s o g guard = rw guard

pub read_refused : (l : Link) (p s o : List ℕ) (g : Grant) (number : ℕ) → guard_of l (length p) g ≡ true → read_of s ≡ reading.Refused number
    → after (answer.Refused number) l p o ≡ call_of l p s o g
unfolding call_of
read_refused l p s o g number guard read = rw (guard, read)

pub read_frame : (l : Link) (p s o : List ℕ) (g : Grant) (h : Header) (e : Extent) → guard_of l (length p) g ≡ true → read_of s ≡ reading.Frame h e
    → frame_of l p s o h e g ≡ call_of l p s o g
unfolding call_of
read_frame l p s o g h e guard read = rw (guard, read)

-- an accepted payload's version string lies inside it
pub inside : (s : List ℕ) (t : Tags) (a : Span) → payload_of s ≡ Ok t → t.version ≡ Some a → a.at + a.length ≤ length s
inside s t a e f = let h : VersionInside s t = subst (AcceptedHolds (VersionInside s)) e (version_inside s) in let g = rw f at h in omega (arith, g.0)

-- what a frame of an open session in a link within the rules has
pub serves : (l : Link) (n : ℕ) (g : Grant) (i : ℕ) (s : List ℕ) (h : Header) (e : Extent) (out : List ℕ) → guard_of l n g ≡ true → read_of s ≡ reading.Frame h e
    → i ≡ index_of h.session.0 l.rows → length l.rows ≡ 8 → i < 8 → (h.session.0 ≡ 0 → ⊥) → 128 ≤ length out → Serves l i h out
serves l n g i s h e out guard read at eight below z room =
    let there : index_of h.session.0 l.rows < length l.rows = omega arith in
    let id : (get_or l.rows i no_row).id.0 ≡ h.session.0 = ap (λ (x : ℕ). (get_or l.rows x no_row).id.0) at ∙ index_row h.session.0 l.rows there in
    let v = guard_version l n g i guard (omega arith) (λ x. z (sym id ∙ x)) in
    (room, (v.0, (v.1, (fault_none h (frame_sound s h e read)).service)))

-- a frame with too little room in out
pub frame_small : (l : Link) (p s o : List ℕ) (h : Header) (e : Extent) (g : Grant) → length o < 128 → after (answer.Refused 11) l p o ≡ frame_of l p s o h e g
unfolding frame_of
frame_small l p s o h e g room = rw (lt-leb 128 (length o) room)

-- a frame with room in out: an opening, one of the session in row i, or one of no session
module _ (l : Link) (p s o : List ℕ) (h : Header) (e : Extent) (g : Grant) (payload : List ℕ) (room : 128 ≤ length o) (is : payload ≡ part s e.start (e.end - e.start)) where
  pub frame_opens : {x : After} → opens h ≡ true → x ≡ opening_by l p o e.consumed g (wish_of l.version.major payload) → x ≡ frame_of l p s o h e g
  unfolding frame_of
  frame_opens opening q = q ∙ rw (le-leb 128 (length o) room, opening, is)

  pub frame_within : (i : ℕ) {x : After} → opens h ≡ false → (h.session.0 ≡ 0 → ⊥) → i ≡ index_of h.session.0 l.rows → length l.rows ≡ 8 → i < 8
      → x ≡ applied l i p o h e.consumed payload g (decision_of l i h payload (length o)) → x ≡ frame_of l p s o h e g
  unfolding frame_of
  frame_within i other z at eight below q = q ∙ rw (le-leb 128 (length o) room, other, ne_eqb h.session.0 0 z, ← at, eight, lt-ltb i 8 below, is)

  pub frame_nobody : opens h ≡ false → h.session.0 ≡ 0 → after (answer.Refused 12) l p o ≡ frame_of l p s o h e g
  unfolding frame_of
  frame_nobody other z = rw (le-leb 128 (length o) room, other, eq-eqb h.session.0 0 z)

  pub frame_unknown : (i : ℕ) → opens h ≡ false → (h.session.0 ≡ 0 → ⊥) → i ≡ index_of h.session.0 l.rows → length l.rows ≡ 8 → 8 ≤ i
      → after (answer.Refused 12) l p o ≡ frame_of l p s o h e g
  unfolding frame_of
  frame_unknown i other z at eight above = rw (le-leb 128 (length o) room, other, ne_eqb h.session.0 0 z, ← at, eight, le-ltb i 8 above)
