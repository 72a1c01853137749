-- Each element and payload that is written: how many bytes it has. First document 01's marked payloads, by computation. Assumes nothing.
use Prim.Native.Nat.{ℕ, ◌+◌, ◌≤◌, ◌<◌}
use mathlib.Core.Path.{◌≡◌, refl, ◌∙◌}
use mathlib.Core.List.{List, [], ◌∷◌, ◌++◌, append_assoc}
use native.Mathlib.Omega.{arith}
use lib.ListN.{length, length-append}
use Rattle.numbers.specs.Numbers.{bytes_le}
use Rattle.numbers.proofs.Laws.{length_le}
use Rattle.payload.specs.Tags.{protocol_version, hash_id, mtu, rejected_params}
use Rattle.lines.specs.Decimal.{digits_by, decimal_of}
use Rattle.payload.specs.Version.{version, version_text}
use Rattle.payload.specs.Reply.{first_key, element_head, document, int32_element, int64_element, string_element, array_element, grant_elements, rejected_element, ack_payload, service_ack_payload, nak_payload}
use Rattle.payload.specs.declared.version.Version.{Version}
use Rattle.payload.proofs.Versions.{version_most}

-- "Payload for "5.4.1": `20 00 00 00 02`, "protocolVersion" and 0, `06 00 00 00`, "5.4.1", two zeros: 32 bytes."; the ACK's payload with it, for
-- the bench's hash 39,027 and mtu 131,084; the two payloads of a NAK
payloads :
    document (string_element protocol_version (version_text (version 5 4 1)))
    ∷ ack_payload 39027 131084 (version 5 4 1)
    ∷ nak_payload protocol_version ∷ nak_payload hash_id ∷ []
    ≡ (0x20 ∷ 0 ∷ 0 ∷ 0 ∷ 0x02 ∷ 0x70 ∷ 0x72 ∷ 0x6F ∷ 0x74 ∷ 0x6F ∷ 0x63 ∷ 0x6F ∷ 0x6C ∷ 0x56 ∷ 0x65 ∷ 0x72 ∷ 0x73 ∷ 0x69 ∷ 0x6F ∷ 0x6E ∷ 0
    ∷ 0x06 ∷ 0 ∷ 0 ∷ 0 ∷ 0x35 ∷ 0x2E ∷ 0x34 ∷ 0x2E ∷ 0x31 ∷ 0 ∷ 0 ∷ [])
    ∷ (0x39 ∷ 0 ∷ 0 ∷ 0 ∷ 0x10 ∷ 0x68 ∷ 0x61 ∷ 0x73 ∷ 0x68 ∷ 0x49 ∷ 0x64 ∷ 0 ∷ 0x73 ∷ 0x98 ∷ 0 ∷ 0
    ∷ 0x12 ∷ 0x6D ∷ 0x74 ∷ 0x75 ∷ 0 ∷ 0x0C ∷ 0 ∷ 0x02 ∷ 0 ∷ 0 ∷ 0 ∷ 0 ∷ 0
    ∷ 0x02 ∷ 0x70 ∷ 0x72 ∷ 0x6F ∷ 0x74 ∷ 0x6F ∷ 0x63 ∷ 0x6F ∷ 0x6C ∷ 0x56 ∷ 0x65 ∷ 0x72 ∷ 0x73 ∷ 0x69 ∷ 0x6F ∷ 0x6E ∷ 0
    ∷ 0x06 ∷ 0 ∷ 0 ∷ 0 ∷ 0x35 ∷ 0x2E ∷ 0x34 ∷ 0x2E ∷ 0x31 ∷ 0 ∷ 0 ∷ [])
    ∷ (0x31 ∷ 0 ∷ 0 ∷ 0 ∷ 0x04 ∷ 0x72 ∷ 0x65 ∷ 0x6A ∷ 0x65 ∷ 0x63 ∷ 0x74 ∷ 0x65 ∷ 0x64 ∷ 0x50 ∷ 0x61 ∷ 0x72 ∷ 0x61 ∷ 0x6D ∷ 0x73 ∷ 0
    ∷ 0x1C ∷ 0 ∷ 0 ∷ 0 ∷ 0x02 ∷ 0x30 ∷ 0 ∷ 0x10 ∷ 0 ∷ 0 ∷ 0
    ∷ 0x70 ∷ 0x72 ∷ 0x6F ∷ 0x74 ∷ 0x6F ∷ 0x63 ∷ 0x6F ∷ 0x6C ∷ 0x56 ∷ 0x65 ∷ 0x72 ∷ 0x73 ∷ 0x69 ∷ 0x6F ∷ 0x6E ∷ 0 ∷ 0 ∷ 0 ∷ [])
    ∷ (0x28 ∷ 0 ∷ 0 ∷ 0 ∷ 0x04 ∷ 0x72 ∷ 0x65 ∷ 0x6A ∷ 0x65 ∷ 0x63 ∷ 0x74 ∷ 0x65 ∷ 0x64 ∷ 0x50 ∷ 0x61 ∷ 0x72 ∷ 0x61 ∷ 0x6D ∷ 0x73 ∷ 0
    ∷ 0x13 ∷ 0 ∷ 0 ∷ 0 ∷ 0x02 ∷ 0x30 ∷ 0 ∷ 0x07 ∷ 0 ∷ 0 ∷ 0 ∷ 0x68 ∷ 0x61 ∷ 0x73 ∷ 0x68 ∷ 0x49 ∷ 0x64 ∷ 0 ∷ 0 ∷ 0 ∷ []) ∷ []
unfolding digits_by decimal_of bytes_le version_text element_head document int32_element int64_element string_element array_element grant_elements rejected_element ack_payload nak_payload
payloads = refl

-- an element's type and key
module _ (kind : ℕ) (key : List ℕ) where
  pub length_head : length (element_head kind key) ≡ length key + 2
  unfolding element_head
  length_head = omega (arith, length-append key (0 ∷ []))

-- a document around its elements
module _ (elements : List ℕ) where
  pub length_document : length (document elements) ≡ length elements + 5
  unfolding document
  length_document = simp (length-append, length_le) (omega arith)

  -- its length, which is known before, its elements and a 0, each behind what was drafted
  pub drafted : (n : ℕ) {front whole : List ℕ} → n ≡ 5 + length elements → front ≡ bytes_le 4 n ++ elements → whole ≡ front ++ 0 ∷ [] → whole ≡ document elements
  unfolding document
  drafted n z f e = e ∙ rw (f, z) (append_assoc (bytes_le 4 (5 + length elements)) elements (0 ∷ []))

module _ (key : List ℕ) (x : ℕ) where
  pub length_int32 : length (int32_element key x) ≡ length key + 6
  unfolding int32_element
  length_int32 = length-append (element_head 0x10 key) (bytes_le 4 x) ∙ omega (arith, length_head 0x10 key, length_le 4 x)

  pub length_int64 : length (int64_element key x) ≡ length key + 10
  unfolding int64_element
  length_int64 = length-append (element_head 0x12 key) (bytes_le 8 x) ∙ omega (arith, length_head 0x12 key, length_le 8 x)

module _ (key text : List ℕ) where
  pub length_string : length (string_element key text) ≡ length key + length text + 7
  unfolding string_element
  length_string = simp (length-append, length_le) (omega (arith, length_head 0x02 key))

  -- head, length, text and a 0, each behind what was drafted
  pub string_drafted : (n : ℕ) (o : List ℕ) {q : List ℕ} → n ≡ length text + 1 → q ≡ o ++ element_head 0x02 key ++ bytes_le 4 n ++ text ++ 0 ∷ [] → q ≡ o ++ string_element key text
  unfolding string_element
  string_drafted n o z e = e ∙ rw z (simp append_assoc)

-- hashId and mtu
module _ (h m : ℕ) where
  pub length_grant : length (grant_elements h m) ≡ 25
  unfolding grant_elements
  length_grant = length-append (int32_element hash_id h) (int64_element mtu m) ∙ omega (arith, length_int32 hash_id h, length_int64 mtu m)

  pub length_service_ack : length (service_ack_payload h m) ≡ 30
  unfolding service_ack_payload
  length_service_ack = omega (arith, length_document (grant_elements h m), length_grant)

-- the opening's ACK
module _ (h m : ℕ) (v : Version) where
  abbrev pub tags : List ℕ
  tags = grant_elements h m ++ string_element protocol_version (version_text v)

  pub length_tags : length tags ≡ 47 + length (version_text v)
  length_tags = length-append (grant_elements h m) (string_element protocol_version (version_text v)) ∙ omega (arith, length_grant h m, length_string protocol_version (version_text v))

  pub length_ack : length (ack_payload h m v) ≡ 52 + length (version_text v)
  unfolding ack_payload
  length_ack = omega (arith, length_document tags, length_tags)

  pub ack_most : v.major < 256 → v.minor < 256 → v.patch < 256 → length (ack_payload h m v) ≤ 63
  ack_most a b c = omega (arith, length_ack, version_most v a b c)

-- a NAK
module _ (name : List ℕ) where
  pub length_rejected : length (rejected_element name) ≡ length name + 29
  unfolding rejected_element array_element
  length_rejected =
      length-append (element_head 0x04 rejected_params) (document (string_element first_key name))
      ∙ omega (arith, length_head 0x04 rejected_params, length_document (string_element first_key name), length_string first_key name)

  pub length_nak : length (nak_payload name) ≡ 34 + length name
  unfolding nak_payload
  length_nak = omega (arith, length_document (rejected_element name), length_rejected)

-- "The ACK payload with it has 57; the NAK's 49", for every hash and mtu; the NAK of hashId has 40, a service's ACK 30
sizes : (h m : ℕ) → length (ack_payload h m (version 5 4 1)) ∷ length (nak_payload protocol_version) ∷ length (nak_payload hash_id) ∷ length (service_ack_payload h m) ∷ [] ≡ 57 ∷ 49 ∷ 40 ∷ 30 ∷ []
unfolding digits_by decimal_of version_text
sizes h m = rw (length_ack h m (version 5 4 1), length_nak protocol_version, length_nak hash_id, length_service_ack h m)
