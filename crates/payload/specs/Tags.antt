-- The known tags of a control payload, and what is found of them. Document 01, "Control payloads": "Known tags, in every
-- payload: protocolVersion (02), hashId (10), mtu (12), rejectedParams (04). Others, height included, are unknown and are skipped".
-- Assumes nothing.
use Rattle.std.specs.Prelude.{ℕ, ◌+◌, ◌-◌, Bool, true, false, not, ◌||◌, List, [], ◌∷◌, eqb, Some, None, is_some, bytes_eq}
use Rattle.std.specs.Option.{option_map_or}
use Rattle.numbers.specs.Bytes.{part, pick}
use Rattle.numbers.specs.Numbers.{value_le}
use Rattle.payload.specs.declared.Span.{Span}
use Rattle.payload.specs.declared.Tags.{Tags}
use Rattle.payload.specs.declared.Tag.{Tag}
use Rattle.payload.specs.declared.Tag.TheVariants.{Unknown, ProtocolVersion, HashId, Mtu, RejectedParams}

-- whether two lists hold the same bytes
abbrev pub same_bytes : List ℕ → List ℕ → Bool
same_bytes a b = bytes_eq a b

-- "protocolVersion", in ASCII
abbrev pub protocol_version : List ℕ
protocol_version = 0x70 ∷ 0x72 ∷ 0x6F ∷ 0x74 ∷ 0x6F ∷ 0x63 ∷ 0x6F ∷ 0x6C ∷ 0x56 ∷ 0x65 ∷ 0x72 ∷ 0x73 ∷ 0x69 ∷ 0x6F ∷ 0x6E ∷ []

-- "hashId"
abbrev pub hash_id : List ℕ
hash_id = 0x68 ∷ 0x61 ∷ 0x73 ∷ 0x68 ∷ 0x49 ∷ 0x64 ∷ []

-- "mtu"
abbrev pub mtu : List ℕ
mtu = 0x6D ∷ 0x74 ∷ 0x75 ∷ []

-- "rejectedParams"
abbrev pub rejected_params : List ℕ
rejected_params = 0x72 ∷ 0x65 ∷ 0x6A ∷ 0x65 ∷ 0x63 ∷ 0x74 ∷ 0x65 ∷ 0x64 ∷ 0x50 ∷ 0x61 ∷ 0x72 ∷ 0x61 ∷ 0x6D ∷ 0x73 ∷ []

-- the tag that a key names; "Others, height included, are unknown"
unfoldable pub tag_of : List ℕ → Tag
tag_of key =
    pick (same_bytes key protocol_version) ProtocolVersion
    (pick (same_bytes key hash_id) HashId
    (pick (same_bytes key mtu) Mtu
    (pick (same_bytes key rejected_params) RejectedParams
    Unknown)))

-- "protocolVersion (02), hashId (10), mtu (12), rejectedParams (04)": whether a tag may have this type; an unknown one may have any
abbrev pub typed : Tag → ℕ → Bool
typed Unknown kind = true
typed ProtocolVersion kind = eqb kind 0x02
typed HashId kind = eqb kind 0x10
typed Mtu kind = eqb kind 0x12
typed RejectedParams kind = eqb kind 0x04

-- whether a known tag was found before
abbrev pub found : Tags → Tag → Bool
found t Unknown = false
found t ProtocolVersion = is_some t.version
found t HashId = is_some t.hash
found t Mtu = is_some t.mtu
found t RejectedParams = is_some t.rejected

-- 34: "known tag twice or of another type"
abbrev pub clashes : Tags → Tag → ℕ → Bool
clashes t tag kind = found t tag || not (typed tag kind)

-- the payload of no bytes: "no tags"
abbrev pub no_tags : Tags
no_tags = record { version = None; hash = None; mtu = None; rejected = None }

-- a string, whose value starts at v: behind its length of four bytes, and without the 0 byte that the length counts
abbrev pub string_at : List ℕ → ℕ → Span
string_at s v = record { at = v + 4; length = value_le (part s v 4) - 1 }

-- "BSON numbers least significant first": a hash id as its 32 bits ("An int32 hashId is the hash's same 32 bits."), an mtu as its 64 bits
abbrev pub hash_at : List ℕ → ℕ → ℕ
hash_at s v = value_le (part s v 4)

abbrev pub mtu_at : List ℕ → ℕ → ℕ
mtu_at s v = value_le (part s v 8)

-- an array, whose value starts at v: document ::= int32 e_list 0, and the int32 is the "total number of bytes comprising the document"
abbrev pub array_at : List ℕ → ℕ → Span
array_at s v = record { at = v; length = value_le (part s v 4) }

-- the tags with one more, whose value starts at v; unknown ones "are skipped"
abbrev pub with_tag : List ℕ → Tags → Tag → ℕ → Tags
with_tag s t Unknown v = t
with_tag s t ProtocolVersion v = record { version = Some (string_at s v); hash = t.hash; mtu = t.mtu; rejected = t.rejected }
with_tag s t HashId v = record { version = t.version; hash = Some (hash_at s v); mtu = t.mtu; rejected = t.rejected }
with_tag s t Mtu v = record { version = t.version; hash = t.hash; mtu = Some (mtu_at s v); rejected = t.rejected }
with_tag s t RejectedParams v = record { version = t.version; hash = t.hash; mtu = t.mtu; rejected = Some (array_at s v) }

-- the bytes of a place
abbrev pub bytes_in : List ℕ → Span → List ℕ
bytes_in s a = part s a.at a.length

-- the array of rejectedParams in the bytes that were read: its whole document; nothing where it was not found
abbrev pub rejected_in : List ℕ → Tags → List ℕ
rejected_in s t = option_map_or (bytes_in s) t.rejected []
