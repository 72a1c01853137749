-- What is written is read back by the reader, as exactly those tags: the statements of specs/ReadBack, at the end. By laws about one element between any
-- bytes before and after it; each payload is then its elements one after another. Assumes nothing.
use Prim.Native.Nat.{ℕ, suc, ◌+◌, ◌-◌, ◌^◌, ◌≤◌, ◌<◌}
use mathlib.Core.Path.{◌≡◌, refl, ap, ◌∙◌, sym, subst}
use mathlib.Core.Bool.{Bool, true, false, not, ◌&&◌}
use mathlib.Core.List.{List, [], ◌∷◌, ◌++◌, append_assoc, append-nil}
use native.Mathlib.Omega.{arith}
use lib.Dec.{eqb, leb}
use lib.ListN.{length, take, drop, get_or, length-append}
use lib.Seq.{take_at, drop_at, drop-drop, get_or_at, get_or-drop, take-append-add, append_snoc}
use borrow.Author.Tests.{le-leb, leb-true, lt-ltb, eq-eqb, ne_eqb, not-true}
use Rattle.std.specs.Prelude.{Some, Ok, Err}
use Rattle.lines.specs.Place.{index_of}
use Rattle.lines.proofs.Turns.{both}
use Rattle.numbers.specs.Bytes.{part, laid}
use Rattle.numbers.specs.Numbers.{value_le, bytes_le}
use Rattle.numbers.proofs.Choices.{split}
use Rattle.numbers.proofs.Laws.{length_le, read_written_le}
use Rattle.payload.specs.Append.{Wrote, wrote, put_of}
use Rattle.payload.specs.Tags.{protocol_version, hash_id, mtu, tag_of, clashes, no_tags, with_tag, rejected_in}
use Rattle.payload.specs.Walk.{read_type, nests, fixed_of, boolean_of, string_of, plain_of, key_stop, head_of, Nested, element_of, elements, document_of, answer, payload_of}
use Rattle.payload.specs.Version.{version_of, version_text, saying_of}
use Rattle.payload.specs.Reply.{first_key, element_head, document, int32_element, int64_element, string_element, array_element, grant_elements, rejected_element, array_of, name_in, name_of, ack_payload, service_ack_payload, nak_payload, grant_tags, ack_tags, nak_tags}
use Rattle.payload.specs.ReadBack.{IfWritten, VersionBack, TextBack, SaysAck, AckBack, ServiceAckBack, SaysNak, NakBack, rejected_of, NaksApart}
use Rattle.payload.specs.declared.Tags.{Tags}
use Rattle.payload.specs.declared.Tag.TheVariants.{ProtocolVersion, HashId, Mtu}
use Rattle.payload.specs.declared.version.Version.{Version}
use Rattle.payload.specs.declared.reply.Parameter.{Parameter}
use Rattle.payload.specs.declared.reply.Parameter.TheVariants as parameter
use Rattle.payload.proofs.Replies.{length_head, length_document, length_int32, length_string, length_grant}
use Rattle.payload.proofs.Outcomes.{payload-walked}
use Rattle.payload.proofs.Rest.{document-elements}
use Rattle.payload.proofs.Versions.{version_most}
use Rattle.payload.proofs.VersionLaws.{written_read, read_range, read_written}
use Rattle.payload.proofs.Appends.{in_range_put}

-- no byte of a key is 0
abbrev no_zero : List ℕ → Bool
no_zero [] = true
no_zero (b ∷ key) = not (eqb b 0) && no_zero key

key_end : (key after : List ℕ) → no_zero key ≡ true → index_of 0 (key ++ 0 ∷ after) ≡ length key
unfolding index_of
key_end [] after e = refl
key_end (b ∷ key) after e =
    let z = both (not (eqb b 0)) (no_zero key) e in
    rw (not-true (eqb b 0) z.0, key_end key after z.1)

-- an element at its place, between any bytes, in a document that ends n bytes past its head
record Stands (before key after s : List ℕ) (kind at n end : ℕ) : Type 0 where
  is : s ≡ before ++ (element_head kind key ++ after)
  here : length before ≡ at
  within : end ≡ at + 1 + length key + 1 + n
  free : no_zero key ≡ true

module _ {before key after s : List ℕ} {kind at n end : ℕ} (w : Stands before key after s kind at n end) where
  abbrev v : ℕ
  v = at + 1 + length key + 1

  type_is : get_or s at 0 ≡ kind
  unfolding element_head
  type_is = rw w.is (get_or_at before kind ((key ++ 0 ∷ []) ++ after) 0 at w.here)

  past_type : (r : List ℕ) → drop (at + 1) (before ++ (element_head kind key ++ r)) ≡ key ++ 0 ∷ r
  unfolding element_head
  past_type r =
      let l : length (before ++ kind ∷ []) ≡ at + 1 = length-append before (kind ∷ []) ∙ omega (arith, w.here) in
      rw (append_snoc key 0 r, ← append_snoc before kind (key ++ 0 ∷ r)) (drop_at (before ++ kind ∷ []) (key ++ 0 ∷ r) (at + 1) l)

  past_head : length (before ++ element_head kind key) ≡ v
  past_head = length-append before (element_head kind key) ∙ omega (arith, w.here, length_head kind key)

  value_is : drop v s ≡ after
  value_is = rw (w.is, ← append_assoc before (element_head kind key) after) (drop_at (before ++ element_head kind key) after v past_head)

  taken : take end s ≡ before ++ (element_head kind key ++ take n after)
  taken =
      let l : end ≡ length (before ++ element_head kind key) + n = omega (arith, w.within, past_head) in
      rw (w.is, l, ← append_assoc before (element_head kind key) after, take-append-add (before ++ element_head kind key) after n, append_assoc)

  stop_here : key_stop s at end ≡ at + 1 + length key
  stop_here = rw (taken, past_type (take n after), key_end key (take n after) w.free)

  key_is : part s (at + 1) (at + 1 + length key - (at + 1)) ≡ key
  key_is =
      let z : at + 1 + length key - (at + 1) ≡ length key = omega arith in
      rw (w.is, past_type after, z) (take_at key (0 ∷ after) (length key) refl)

  -- of a type that is read and holds no document
  plain_top : (nested : Nested) (t : Tags) {next : ℕ} → read_type kind ≡ true → clashes t (tag_of key) kind ≡ false → nests kind ≡ false → plain_of s v end kind ≡ Some next
      → element_of nested true s at end t ≡ Ok (next, with_tag s t (tag_of key) v)
  unfolding head_of element_of
  plain_top nested t r c p e = rw (stop_here, type_is, key_is, r, lt-ltb (at + 1 + length key) end (omega (arith, w.within)), c, p, e)

-- a number behind any bytes reads back
number_first : (w x : ℕ) (after : List ℕ) → x < 256 ^ w → value_le (take w (bytes_le w x ++ after)) ≡ x
number_first w x after h = rw (take_at (bytes_le w x) after w (length_le w x)) (read_written_le w x h)

-- an element at the top: where the reader goes on, and the value that it finds; first of a number of w bytes, whose type is known
module _ (nested : Nested) (t : Tags) {before key s : List ℕ} {at end : ℕ} where
  number_read : (w x : ℕ) (after : List ℕ) (n : ℕ) {kind : ℕ} → Stands before key (bytes_le w x ++ after) s kind at (w + n) end → x < 256 ^ w → read_type kind ≡ true
      → clashes t (tag_of key) kind ≡ false → nests kind ≡ false → ((v : ℕ) → w ≤ end - v → plain_of s v end kind ≡ Some (v + w))
      → (element_of nested true s at end t ≡ Ok (at + 1 + length key + 1 + w, with_tag s t (tag_of key) (at + 1 + length key + 1)))
      × (get_or s at 0 ≡ kind) × (value_le (part s (at + 1 + length key + 1) w) ≡ x)
  number_read w x after n e h r c p g = (
    plain_top e nested t r c p (g (at + 1 + length key + 1) (omega (arith, e.within))),
    type_is e,
    rw (value_is e) (number_first w x after h),
  )

  string_read : (text after : List ℕ) (n : ℕ) → Stands before key (bytes_le 4 (length text + 1) ++ (text ++ 0 ∷ after)) s 0x02 at (5 + length text + n) end → length text < 2 ^ 31
      → clashes t (tag_of key) 0x02 ≡ false
      → (element_of nested true s at end t ≡ Ok (at + 1 + length key + 1 + 4 + (length text + 1), with_tag s t (tag_of key) (at + 1 + length key + 1)))
      × (get_or s at 0 ≡ 0x02) × (value_le (part s (at + 1 + length key + 1) 4) ≡ length text + 1) × (part s (at + 1 + length key + 1 + 4) (length text) ≡ text)
  unfolding plain_of string_of
  string_read text after n e h c =
      let v = at + 1 + length key + 1 in
      let b = bytes_le 4 (length text + 1) in
      let lb : length b ≡ 4 = length_le 4 (length text + 1) in
      let x : value_le (part s v 4) ≡ length text + 1 = rw (value_is e) (number_first 4 (length text + 1) (text ++ 0 ∷ after) (omega arith)) in
      let near : drop (v + 4) s ≡ text ++ 0 ∷ after = sym (drop-drop 4 v s) ∙ rw (value_is e) (drop_at b (text ++ 0 ∷ after) 4 lb) in
      let k : v + 4 + length text ≡ v + 3 + (length text + 1) = omega arith in
      let z : get_or s (v + 3 + (length text + 1)) 0 ≡ 0 = rw (← k, ← get_or-drop) (rw near (get_or_at text 0 after 0 (length text) refl)) in
      let fits : plain_of s v end 0x02 ≡ Some (v + 4 + (length text + 1)) = rw (x, le-leb 4 (end - v) (omega (arith, e.within)), le-leb 1 (length text + 1) (omega arith), le-leb (length text + 1) (end - v - 4) (omega (arith, e.within)), z) in
      (plain_top e nested t refl c refl fits, type_is e, x, rw near (take_at text (0 ∷ after) (length text) refl))

-- the elements one after another, up to the document's last byte
module _ (nested : Nested) (s : List ℕ) (end bound : ℕ) where
  one_more : (at next kind : ℕ) (t u : Tags) → at < end → (kind ≡ 0 → ⊥) → get_or s at 0 ≡ kind → element_of nested true s at end t ≡ Ok (next, u)
      → elements (suc bound) nested true s at end t ≡ elements bound nested true s next end u
  unfolding elements
  one_more at next kind t u h z g e = rw (lt-ltb at end h, g, ne_eqb kind 0 z, e)

  no_more : (at : ℕ) (t : Tags) → at + 1 ≡ end → get_or s at 0 ≡ 0 → elements (suc bound) nested true s at end t ≡ Ok (end, t)
  unfolding elements
  no_more at t h g = rw (lt-ltb at end (omega arith), g, eq-eqb (at + 1) end h)

-- a payload is its elements, from its fifth byte on; its last byte is 0
module _ (e : List ℕ) (small : length e + 5 ≤ 1024) where
  abbrev inner : Nested
  inner v end t = document_of 7 false (document e) v end t

  size_here : value_le (part (document e) 0 4) ≡ 5 + length e
  unfolding document
  size_here = number_first 4 (5 + length e) (e ++ 0 ∷ []) (omega arith)

  pub document_read : (bound : ℕ) → 5 + length e ≡ bound → payload_of (document e) ≡ answer (elements bound inner true (document e) 4 (5 + length e) no_tags)
  document_read bound z =
      let s = document e in
      let l : length s ≡ 5 + length e = omega (arith, length_document e) in
      let k : 0 + (5 + length e) ≡ 5 + length e = omega arith in
      let w = document-elements true s 0 (length s) no_tags (5 + length e) (sym size_here) 8 (λ k. omega arith) (omega arith) (omega arith) (omega arith) in
      sym (payload-walked s (5 + length e) (sym size_here) (λ k. omega arith) (omega arith) (omega arith) (omega arith) _ 8 no_tags w refl refl) ∙ rw (k, z)

  last_byte : (at : ℕ) → at ≡ 4 + length e → get_or (document e) at 0 ≡ 0
  unfolding document
  last_byte at h =
      let b = bytes_le 4 (5 + length e) in
      let lb : length b ≡ 4 = length_le 4 (5 + length e) in
      let l : length (b ++ e) ≡ at = length-append b e ∙ omega arith in
      rw (← append_assoc b e (0 ∷ [])) (get_or_at (b ++ e) 0 [] 0 at l)

  -- an element that follows others in the document
  stands : (a key value c : List ℕ) (kind at n : ℕ) → e ≡ a ++ ((element_head kind key ++ value) ++ c) → 4 + length a ≡ at → 5 + length e ≡ at + 1 + length key + 1 + n → no_zero key ≡ true
      → Stands (bytes_le 4 (5 + length e) ++ a) key (value ++ (c ++ 0 ∷ [])) (document e) kind at n (5 + length e)
  unfolding document
  stands a key value c kind at n h k w f = record {
    is = ap (λ (l : List ℕ). bytes_le 4 (5 + length e) ++ (l ++ 0 ∷ [])) h ∙ simp append_assoc;
    here = length-append (bytes_le 4 (5 + length e)) a ∙ omega (arith, length_le 4 (5 + length e));
    within = w;
    free = f;
  }

-- what the ACKs share: hashId and mtu, and then any elements
module _ (h m : ℕ) (rest : List ℕ) (hash32 : h < 2 ^ 32) (mtu64 : m < 2 ^ 64) (small : length (grant_elements h m ++ rest) + 5 ≤ 1024) where
  abbrev all : List ℕ
  all = grant_elements h m ++ rest

  length_all : length all ≡ 25 + length rest
  length_all = length-append (grant_elements h m) rest ∙ omega (arith, length_grant h m)

  grant_read : (bound : ℕ) → elements (suc (suc bound)) (inner all small) true (document all) 4 (5 + length all) no_tags
      ≡ elements bound (inner all small) true (document all) 29 (5 + length all) (grant_tags h m)
  unfolding grant_elements int32_element int64_element tag_of plain_of fixed_of
  grant_read bound =
      let s = document all in
      let end : ℕ = 5 + length all in
      let a = int32_element hash_id h in
      let b = int64_element mtu m in
      let u = with_tag s no_tags HashId 12 in
      let y = number_read (inner all small) no_tags 4 h ((b ++ rest) ++ 0 ∷ []) (14 + length rest)
      (stands all small [] hash_id (bytes_le 4 h) (b ++ rest) 0x10 4 (4 + (14 + length rest)) (append_assoc a b rest) refl (omega (arith, length_all)) refl)
      hash32 refl refl refl (λ v k. rw (le-leb 4 (end - v) k)) in
      let z = number_read (inner all small) u 8 m (rest ++ 0 ∷ []) (1 + length rest)
      (stands all small a mtu (bytes_le 8 m) rest 0x12 16 (8 + (1 + length rest)) (append_assoc a b rest) (omega (arith, length_int32 hash_id h)) (omega (arith, length_all)) refl)
      mtu64 refl refl refl (λ v k. rw (le-leb 8 (end - v) k)) in
      one_more (inner all small) s end (suc bound) 4 16 0x10 no_tags u (omega (arith, length_all)) (λ k. omega arith) y.1 y.0
      ∙ one_more (inner all small) s end bound 16 29 0x12 u (with_tag s u Mtu 21) (omega (arith, length_all)) (λ k. omega arith) z.1 z.0
      ∙ ap (λ (t : Tags). elements bound (inner all small) true s 29 end t) (tags y.2 z.2)
    where
      tags : value_le (part (document all) 12 4) ≡ h → value_le (part (document all) 21 8) ≡ m
          → with_tag (document all) (with_tag (document all) no_tags HashId 12) Mtu 21 ≡ grant_tags h m
      tags p q = rw (p, q)

-- a service's ACK says its hash and mtu, and nothing else
module _ (h m : ℕ) (hash32 : h < 2 ^ 32) (mtu64 : m < 2 ^ 64) where
  service_document : payload_of (document (grant_elements h m ++ [])) ≡ Ok (grant_tags h m)
  service_document =
      let e = grant_elements h m ++ [] in
      let size : length e ≡ 25 = length-append (grant_elements h m) [] ∙ omega (arith, length_grant h m) in
      let small : length e + 5 ≤ 1024 = omega arith in
      document_read e small 30 (omega arith)
      ∙ ap answer (grant_read h m [] hash32 mtu64 small 28 ∙ no_more (inner e small) (document e) (5 + length e) 27 29 (grant_tags h m) (omega arith) (last_byte e small 29 (omega arith)))

  pub service_ack_read : payload_of (service_ack_payload h m) ≡ Ok (grant_tags h m)
  unfolding service_ack_payload
  service_ack_read = rw append-nil at service_document

-- the opening's ACK says its hash, mtu and version
module _ (h m : ℕ) (v : Version) (hash32 : h < 2 ^ 32) (mtu64 : m < 2 ^ 64) (major8 : v.major < 256) (minor8 : v.minor < 256) (patch8 : v.patch < 256) where
  abbrev text : List ℕ
  text = version_text v

  abbrev string : List ℕ
  string = string_element protocol_version text

  abbrev e : List ℕ
  e = grant_elements h m ++ string

  size : length e ≡ 47 + length text
  size = length-append (grant_elements h m) string ∙ omega (arith, length_grant h m, length_string protocol_version text)

  small : length e + 5 ≤ 1024
  small = omega (arith, size, version_most v major8 minor8 patch8)

  string_here : (element_of (inner e small) true (document e) 29 (5 + length e) (grant_tags h m) ≡ Ok (50 + (length text + 1), with_tag (document e) (grant_tags h m) ProtocolVersion 46))
      × (get_or (document e) 29 0 ≡ 0x02) × (value_le (part (document e) 46 4) ≡ length text + 1) × (part (document e) 50 (length text) ≡ text)
  unfolding tag_of string_element
  string_here =
      string_read (inner e small) (grant_tags h m) text (0 ∷ []) 1
      (rw (append_assoc, append_assoc) at (stands e small (grant_elements h m) protocol_version (bytes_le 4 (length text + 1) ++ (text ++ 0 ∷ [])) [] 0x02 29 (5 + length text + 1)
      (ap (λ (l : List ℕ). grant_elements h m ++ l) (sym (append-nil string))) (omega (arith, length_grant h m)) (omega (arith, size)) refl))
      (omega (arith, version_most v major8 minor8 patch8)) refl

  tags_here : value_le (part (document e) 46 4) ≡ length text + 1 → with_tag (document e) (grant_tags h m) ProtocolVersion 46 ≡ ack_tags h m v
  tags_here p =
      let z : length text + 1 - 1 ≡ length text = omega arith in
      rw (p, z)

  pub ack_read : payload_of (ack_payload h m v) ≡ Ok (ack_tags h m v)
  unfolding ack_payload
  ack_read =
      let s = document e in
      let end : ℕ = 5 + length e in
      let n = inner e small in
      let k : 5 + length e ≡ suc (suc (suc (suc (suc (length e))))) = omega arith in
      let w = string_here in
      document_read e small (suc (suc (suc (suc (suc (length e)))))) k
      ∙ ap answer
      (grant_read h m string hash32 mtu64 small (suc (suc (suc (length e))))
      ∙ one_more n s end (suc (suc (length e))) 29 (50 + (length text + 1)) 0x02 (grant_tags h m) (with_tag s (grant_tags h m) ProtocolVersion 46) (omega (arith, size)) (λ k. omega arith) w.1 w.0
      ∙ no_more n s end (suc (length e)) (50 + (length text + 1)) (with_tag s (grant_tags h m) ProtocolVersion 46) (omega (arith, size)) (last_byte e small (50 + (length text + 1)) (omega (arith, size)))
      ∙ ap (λ (t : Tags). Ok (end, t)) (tags_here w.2))

  -- the string that the reader points at is the version's
  pub ack_text : part (ack_payload h m v) 50 (length (version_text v)) ≡ version_text v
  unfolding ack_payload
  ack_text = string_here.3

  pub ack_version : 1 ≤ v.major → version_of (part (ack_payload h m v) 50 (length (version_text v))) ≡ Some v
  ack_version one = ap version_of ack_text ∙ written_read v one major8 minor8 patch8

-- a NAK says where rejectedParams stands, and nothing else; there stands the array of its name
pub nak_read : (p : Parameter) → payload_of (nak_payload (name_of p)) ≡ Ok (nak_tags (name_of p))
unfolding tag_of index_of value_le bytes_le element_head document string_element array_element rejected_element nak_payload fixed_of boolean_of string_of plain_of head_of element_of elements document_of payload_of
nak_read parameter.ProtocolVersion = refl
nak_read parameter.HashId = refl

pub nak_array : (p : Parameter) → rejected_in (nak_payload (name_of p)) (nak_tags (name_of p)) ≡ array_of (name_of p)
unfolding bytes_le element_head document string_element array_element rejected_element nak_payload
nak_array parameter.ProtocolVersion = refl
nak_array parameter.HashId = refl

-- an array of one string has its name behind eleven bytes and before two
pub name_in_lem : (name : List ℕ) → name_in (array_of name) ≡ name
unfolding document string_element element_head
name_in_lem name =
    let n = bytes_le 4 (5 + length (string_element first_key name)) in
    let m = bytes_le 4 (length name + 1) in
    let front : List ℕ = n ++ (0x02 ∷ 48 ∷ 0 ∷ m) in
    let l : length front ≡ 11 = length-append n (0x02 ∷ 48 ∷ 0 ∷ m) ∙ omega (arith, length_le 4 (5 + length (string_element first_key name)), length_le 4 (length name + 1)) in
    let is : array_of name ≡ front ++ (name ++ (0 ∷ 0 ∷ [])) = simp append_assoc in
    let past : drop 11 (array_of name) ≡ name ++ (0 ∷ 0 ∷ []) = rw is (drop_at front (name ++ (0 ∷ 0 ∷ [])) 11 l) in
    let z : length (array_of name) - 13 ≡ length name = omega (arith, length_document (string_element first_key name), length_string first_key name) in
    ap (λ (k : ℕ). part (array_of name) 11 k) z ∙ rw past (take_at name (0 ∷ 0 ∷ []) (length name) refl)

-- so two names have two arrays
pub one_array_one_name : (a b : List ℕ) → array_of a ≡ array_of b → a ≡ b
one_array_one_name a b e = sym (name_in_lem a) ∙ ap name_in e ∙ name_in_lem b

one_name_one_parameter : (a b : Parameter) → name_of a ≡ name_of b → a ≡ b
one_name_one_parameter parameter.ProtocolVersion parameter.ProtocolVersion e = refl
one_name_one_parameter parameter.ProtocolVersion parameter.HashId e = absurd (omega (arith, ap length e))
one_name_one_parameter parameter.HashId parameter.ProtocolVersion e = absurd (omega (arith, ap length e))
one_name_one_parameter parameter.HashId parameter.HashId e = refl

-- ---- the statements of specs/ReadBack

-- a refusal wrote nothing
never : {X : Type 0} {k n : ℕ} {o q : List ℕ} → wrote (Err k) o ≡ wrote (Ok n) q → X
never {k = k} {n = n} g = let a : Err k ≡ Ok n = ap (λ (w : Wrote). w.answer) g in absurd (let z : ◌≡◌ {A = ℕ} 0 1 = cc in omega arith)

-- what a writer wrote, from its answer
wrote_bytes : (b o : List ℕ) → IfWritten (put_of b o) (λ s. s ≡ b)
wrote_bytes b o n q e =
    split (leb (length b) (length o))
    (λ t.
    let g : wrote (Ok (length b)) (laid b o) ≡ wrote (Ok n) q = rw t at e in
    let a : Ok (length b) ≡ Ok n = ap (λ (w : Wrote). w.answer) g in
    let k : length b ≡ n = cc in
    let f : laid b o ≡ q = ap (λ (w : Wrote). w.out) g in
    rw (← k, ← f) (take_at b (drop (length b) o) (length b) refl))
    (λ t. never (rw t at e))

-- and if its bytes say a version, the version's major is at least 1
said_bytes : (v : Version) (b o : List ℕ) → IfWritten (saying_of v b o) (λ s. (1 ≤ v.major) × (s ≡ b))
said_bytes v b o n q e =
    split (leb 1 v.major) (λ t. (leb-true 1 v.major t, wrote_bytes b o n q (rw t at e)))
    (λ t. never (rw t at e))

pub version_back : VersionBack
version_back v o u n q e =
    let w = said_bytes v (version_text v) o n q e in
    ap version_of w.1 ∙ written_read v w.0 u.major u.minor u.patch

pub text_written : TextBack
text_written s v o e room =
    let t : version_text v ≡ s = read_written s v e in
    sym (in_range_put v (version_text v) o (read_range s v e).one) ∙ rw (t, le-leb (length s) (length o) room)

pub ack_back : AckBack
ack_back h m v o g u n q e =
    let w = said_bytes v (ack_payload h m v) o n q e in
    subst (SaysAck h m v) (sym w.1) (record {
      tags = ack_read h m v g.hash g.mtu u.major u.minor u.patch;
      version = ack_version h m v g.hash g.mtu u.major u.minor u.patch w.0;
    })

pub service_ack_back : ServiceAckBack
service_ack_back h m o g n q e = ap payload_of (wrote_bytes (service_ack_payload h m) o n q e) ∙ service_ack_read h m g.hash g.mtu

pub nak_says : (p : Parameter) → SaysNak (name_of p) (nak_payload (name_of p))
nak_says p = record { tags = nak_read p; array = nak_array p; named = ap name_in (nak_array p) ∙ name_in_lem (name_of p) }

pub nak_back : NakBack
nak_back p o n q e = subst (SaysNak (name_of p)) (sym (wrote_bytes (nak_payload (name_of p)) o n q e)) (nak_says p)

-- what a caller gets of a NAK that says a name is that name's array
says_array : (name s : List ℕ) → SaysNak name s → rejected_of s (payload_of s) ≡ array_of name
says_array name s w = ap (rejected_of s) w.tags ∙ w.array

pub naks_apart : NaksApart
naks_apart a b o o' n q e n' q' e' same =
    one_name_one_parameter a b
    (one_array_one_name (name_of a) (name_of b) (sym (says_array (name_of a) (take n q) (nak_back a o n q e)) ∙ same ∙ says_array (name_of b) (take n' q') (nak_back b o' n' q' e')))
