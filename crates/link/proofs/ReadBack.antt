-- Every reply of a call is read back: by the frame reader as the header that was meant, with all its bytes consumed, and its payload as what it was to
-- carry. By the cases of an opening and of a decision; what the replies need of version, service and numbers is what 10 and the frame reader leave.
-- Assumes nothing.
use Prim.Native.Nat.{ℕ, ◌^◌, ◌≤◌, ◌<◌}
use mathlib.Core.Path.{◌≡◌, refl, ◌∙◌, sym, subst}
use mathlib.Core.Bool.{Bool, true, false, ◌&&◌, not}
use mathlib.Core.Option.{Option, some}
use mathlib.Core.List.{List, []}
use native.Mathlib.Omega.{arith}
use lib.Dec.{eqb, ltb, leb}
use lib.ListN.{length, get_or, take, drop}
use lib.Seq.{take_at}
use borrow.Author.Tests.{eqb-false, ltb-true, not-true}
use Rattle.numbers.specs.Bytes.{pick, laid}
use Rattle.numbers.specs.Numbers.{bytes_be}
use Rattle.numbers.proofs.Laws.{length_be, read_written_le, read_written_be, written_read_le, written_read_be}
use Rattle.numbers.proofs.Choices.{and_both, unless_elim}
use Rattle.frame.specs.declared.Header.{Header}
use Rattle.frame.specs.declared.Extent.{Extent}
use Rattle.frame.specs.declared.Reading.{Reading}
use Rattle.frame.specs.declared.Reading.TheVariants as reading
use Rattle.frame.specs.Rules.{listed_service, info_fits}
use Rattle.frame.specs.Read.{read_of}
use Rattle.frame.specs.ReadBack.{payload_part}
use Rattle.frame.proofs.Laws.{fault_none}
use Rattle.frame.proofs.Answers.{frame_sound}
use Rattle.frame.proofs.ThereAndBack.{frame_read_back, header_read_back, again_written}
use Rattle.sender.proofs.ReadBack.{sent_read_back}
use Rattle.lines.proofs.Laws.{decode_encoded, number_decimal}
use Rattle.payload.specs.declared.version.Version.{Version}
use Rattle.payload.specs.declared.reply.Parameter.TheVariants as parameter
use Rattle.payload.specs.Tags.{protocol_version, hash_id}
use Rattle.payload.specs.Version.{lesser_of}
use Rattle.payload.specs.Reply.{ack_payload, nak_payload}
use Rattle.payload.proofs.Replies.{ack_most, length_service_ack, length_nak}
use Rattle.payload.proofs.ReadBack.{ack_read, ack_version, service_ack_read, nak_says, version_back, text_written, ack_back, service_ack_back, nak_back, naks_apart}
use Rattle.session.specs.declared.Row.{Row}
use Rattle.session.specs.declared.Act.{Act}
use Rattle.session.specs.declared.Act.TheVariants.{Refuse, Drop, Accept, Beat, Start, NoStart, Stop, Close, NoEnd, Claim, Append, Deliver, Single}
use Rattle.session.specs.Rows.{no_row}
use Rattle.session.specs.Rules.{reply_version}
use Rattle.link.specs.declared.Link.{Link}
use Rattle.link.specs.declared.Grant.{Grant}
use Rattle.link.specs.State.{index_of, guard_of}
use Rattle.link.specs.Reply.{reply_bytes, granted_payload}
use Rattle.link.specs.Call.{After, Wish, old, new, bad, wish_of, opens, admits, not_opened, opening_by, decision_of, applied, frame_of, reading_of, call_of}
use Rattle.link.specs.Values.{values_of}
use Rattle.link.specs.ReadBack.{Carried, empty, hash, granted, rejecting, Says, Meant, nak_meant, meant_by, meant_in, meant_of, SaidBack, SaidBackIf, IfReply, Typed, ReplyReadBack, ReadBack}
use Rattle.link.proofs.Table.{index_row}
use Rattle.link.proofs.Decisions.{both_by}
use Rattle.link.proofs.Calls.{two_unless}
use Rattle.link.proofs.Guards.{guard_settings, guard_version}
use Rattle.link.proofs.Wishes.{wish_bounded, lesser_bounded}
use Rattle.link.proofs.Replies.{reply_infos, rpc_listed, reply_back}

-- ---- one reply at the front of out

said_back : (m : Meant) (payload o : List ℕ) → 1 ≤ m.version → m.version ≤ 5 → listed_service m.service ≡ true → info_fits 0 m.info ≡ true → length payload ≤ 1488
    → m.message.0 < 2 ^ 32 → Says m.carried payload
    → (let bytes : List ℕ = reply_bytes m.version m.service m.info m.session m.message payload in SaidBack m (take (length bytes) (laid bytes o)))
said_back m payload o least most listed fits short small says =
    let bytes : List ℕ = reply_bytes m.version m.service m.info m.session m.message payload in
    subst (SaidBack m) (sym (take_at bytes (drop (length bytes) o) (length bytes) refl)) (record {
      payload = payload;
      back = reply_back m.version m.service m.info m.session payload least most listed fits short m.message small;
      says = says;
    })

hash_said : (n : ℕ) → n < 2 ^ 32 → Says (hash n) (bytes_be 4 n)
hash_said n small = (length_be 4 n, read_written_be 4 n (omega arith))

-- ---- the calls

module _ (l : Link) (p s o : List ℕ) (g : Grant) (t : Typed l g) where
  abbrev Holds : After → Option Meant → Type 0
  Holds w m = IfReply (values_of w.answer).kind (SaidBackIf m (take (values_of w.answer).written w.out))

  module _ (guard : guard_of l (length p) g ≡ true) where
    in_range : (1 ≤ l.version.major) × ((l.version.major ≤ 5) × (l.mtu ≤ 131084))
    in_range = guard_settings l (length p) g guard

    nak-said : (c : ℕ) (payload : List ℕ) (k : Carried) → length payload ≤ 1488 → Says k payload → Holds (not_opened l p o c g payload) (some (nak_meant l k))
    nak-said c payload k short says = said_back (nak_meant l k) payload o (omega (arith, in_range.0)) (omega arith) rpc_listed reply_infos.1 short (omega arith) says

    opening-said : (c : ℕ) (payload : List ℕ) (w : Wish) → wish_of l.version.major payload ≡ w → Holds (opening_by l p o c g w) (some (meant_by l g w))
    opening-said c payload bad e = nak-said c (nak_payload protocol_version) (rejecting protocol_version) (omega (arith, length_nak protocol_version)) (nak_says parameter.ProtocolVersion)
    opening-said c payload old e =
        two_unless (λ (w : After) (m : Meant). Holds w (some m)) (admits l.rows g) _ _ _ _ (λ _. nak-said c [] empty (omega arith) refl)
        (λ _. said_back _ (bytes_be 4 g.hash) o (omega (arith, in_range.0)) (omega arith) rpc_listed reply_infos.0 (omega (arith, length_be 4 g.hash)) (omega arith)
        (hash_said g.hash t.hash))
    opening-said c payload (new v) e =
        let b = lesser_bounded l.version v (record { least = in_range.0; major = omega (arith, in_range.1.0); minor = t.minor; patch = t.patch })
        (wish_bounded l.version.major payload v e) in
        let x : Version = lesser_of l.version v in
        two_unless (λ (w : After) (m : Meant). Holds w (some m)) (admits l.rows g) _ _ _ _ (λ _. nak-said c [] empty (omega arith) refl)
        (λ _. said_back _ (ack_payload g.hash l.mtu x) o (omega arith) (omega arith) rpc_listed reply_infos.0
        (omega (arith, ack_most g.hash l.mtu x b.major b.minor b.patch)) (omega arith)
        (record {
          tags = ack_read g.hash l.mtu x t.hash (omega (arith, in_range.1.1)) b.major b.minor b.patch;
          version = ack_version g.hash l.mtu x t.hash (omega (arith, in_range.1.1)) b.major b.minor b.patch b.least;
        }))

    -- a frame of an open session
    module _ (i : ℕ) (h : Header) (c : ℕ) (payload : List ℕ) (listed : listed_service h.service ≡ true)
        (range : (1 ≤ reply_version l.version.major (get_or l.rows i no_row)) × (reply_version l.version.major (get_or l.rows i no_row) ≤ 5)) where
      abbrev r : Row
      r = get_or l.rows i no_row

      granted-said : (length (granted_payload r.version g.hash l.mtu) ≤ 1488)
          × Says (pick (eqb r.version 5) (granted g.hash l.mtu) (hash g.hash)) (granted_payload r.version g.hash l.mtu)
      unfolding granted_payload
      granted-said =
          both_by (λ (x : List ℕ) (k : Carried). (length x ≤ 1488) × Says k x) (eqb r.version 5) _ _ _ _
          (λ _. (omega (arith, length_service_ack g.hash l.mtu), service_ack_read g.hash l.mtu t.hash (omega (arith, in_range.1.1))))
          (λ _. (omega (arith, length_be 4 g.hash), hash_said g.hash t.hash))

      named-said : (named : Bool) → (length (pick named (nak_payload hash_id) []) ≤ 1488) × Says (pick named (rejecting hash_id) empty) (pick named (nak_payload hash_id) [])
      named-said true = (omega (arith, length_nak hash_id), nak_says parameter.HashId)
      named-said false = (omega arith, refl)

      act-said : (act : Act) → Holds (applied l i p o h c payload g act) (meant_in l r h g act)
      act-said (Refuse n) = tt
      act-said (Drop n) = tt
      act-said Accept = tt
      act-said Beat = said_back _ [] o range.0 range.1 listed reply_infos.4 (omega arith) (omega arith) refl
      act-said Start =
          let ok = granted-said in
          said_back _ (granted_payload r.version g.hash l.mtu) o range.0 range.1 listed reply_infos.0 ok.0 (t.next i) ok.1
      act-said NoStart = said_back _ [] o range.0 range.1 listed reply_infos.1 (omega arith) (omega arith) refl
      act-said Stop = said_back _ [] o range.0 range.1 listed reply_infos.2 (omega arith) (t.next i) refl
      act-said Close = said_back _ [] o range.0 range.1 listed reply_infos.2 (omega arith) (t.next i) refl
      act-said (NoEnd named) =
          let ok = named-said named in
          said_back _ (pick named (nak_payload hash_id) []) o range.0 range.1 listed reply_infos.3 ok.0 (omega arith) ok.1
      act-said (Claim total count) = tt
      act-said Append = tt
      act-said Deliver = tt
      act-said Single = tt

    frame-said : (h : Header) (e : Extent) → read_of s ≡ reading.Frame h e → Holds (frame_of l p s o h e g) (meant_of l s (length o) g (reading.Frame h e))
    unfolding frame_of
    frame-said h e f =
        let i : ℕ = index_of h.session.0 l.rows in
        let wish : Wish = wish_of l.version.major (payload_part s e) in
        let act : Act = decision_of l i h (payload_part s e) (length o) in
        let in_row : Option Meant = meant_in l (get_or l.rows i no_row) h g act in
        unless_elim (λ (w : After). Holds w (pick (opens h) (some (meant_by l g wish)) in_row)) (leb 128 (length o)) _ _ (λ _. tt) λ _.
        both_by Holds (opens h) _ _ (some (meant_by l g wish)) in_row (λ _. opening-said e.consumed (payload_part s e) wish refl) λ _.
        unless_elim (λ (w : After). Holds w in_row) (not (eqb h.session.0 0) && ltb i (length l.rows)) _ _ (λ _. tt) λ a.
        let b = and_both (not (eqb h.session.0 0)) (ltb i (length l.rows)) a in
        let there : i < length l.rows = ltb-true i (length l.rows) b.1 in
        let some_id : (get_or l.rows i no_row).id.0 ≡ 0 → ⊥ = λ z. eqb-false h.session.0 0 (not-true (eqb h.session.0 0) b.0) (sym (index_row h.session.0 l.rows there) ∙ z) in
        act-said i h e.consumed (payload_part s e) (fault_none h (frame_sound s h e f)).service (guard_version l (length p) g i guard there some_id) act

    reading-said : (x : Reading) → read_of s ≡ x → Holds (reading_of l p s o g x) (meant_of l s (length o) g x)
    reading-said (reading.Short n) f = tt
    reading-said (reading.Refused n) f = tt
    reading-said (reading.Frame h e) f = frame-said h e f

pub reply_read_back : ReplyReadBack
unfolding call_of
reply_read_back l p s o g t =
    unless_elim (λ (w : After). Holds l p s o g t w (meant_of l s (length o) g (read_of s))) (guard_of l (length p) g) _ _ (λ _. tt)
    (λ guard. reading-said l p s o g t guard (read_of s) refl)

-- each pair of writer and reader
pub all_read_back : ReadBack
all_read_back = record {
  number = λ w n h. (read_written_le w n h, read_written_be w n h);
  number_again = λ bs h. (written_read_le bs h, written_read_be bs h);
  hexadecimal = decode_encoded;
  decimal = λ n h. number_decimal n h;
  version = version_back;
  version_again = text_written;
  ack = ack_back;
  service_ack = service_ack_back;
  nak = nak_back;
  naks_apart = naks_apart;
  frame = frame_read_back;
  header = header_read_back;
  frame_again = again_written;
  message = sent_read_back;
  reply = reply_read_back;
}
