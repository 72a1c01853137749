-- The control payloads that the module writes, in bsonspec.org's grammar; BSON's numbers are least significant first. Document 01: "We write only
-- the reply payloads above." Assumes nothing.
use Rattle.std.specs.Prelude.{ℕ, ◌+◌, ◌-◌, List, [], ◌∷◌, ◌++◌, length, Some}
use Rattle.numbers.specs.Bytes.{part}
use Rattle.numbers.specs.Numbers.{bytes_le}
use Rattle.payload.specs.declared.Tags.{Tags}
use Rattle.payload.specs.declared.Span.{Span}
use Rattle.payload.specs.declared.version.Version.{Version}
use Rattle.payload.specs.declared.reply.Parameter.{Parameter}
use Rattle.payload.specs.declared.reply.Parameter.TheVariants.{ProtocolVersion, HashId}
use Rattle.payload.specs.Tags.{protocol_version, hash_id, mtu, rejected_params, no_tags}
use Rattle.payload.specs.Append.{Wrote}
use Rattle.payload.specs.Version.{version_text, saying_of}

-- the first key of an array: "(written 0, 1, ...)"
abbrev pub first_key : List ℕ
first_key = 48 ∷ []

-- an element's type and key: "e_name ::= cstring"
unfoldable pub element_head : ℕ → List ℕ → List ℕ
element_head kind key = kind ∷ (key ++ 0 ∷ [])

-- document ::= int32 e_list "\x00": "total number of bytes comprising the document", then its elements and a 0
unfoldable pub document : List ℕ → List ℕ
document elements = bytes_le 4 (5 + length elements) ++ (elements ++ 0 ∷ [])

-- "\x10" e_name int32
unfoldable pub int32_element : List ℕ → ℕ → List ℕ
int32_element key x = element_head 0x10 key ++ bytes_le 4 x

-- "\x12" e_name int64
unfoldable pub int64_element : List ℕ → ℕ → List ℕ
int64_element key x = element_head 0x12 key ++ bytes_le 8 x

-- "\x02" e_name string, and string ::= int32 (byte*) "\x00": the length counts the last 0
unfoldable pub string_element : List ℕ → List ℕ → List ℕ
string_element key text = element_head 0x02 key ++ (bytes_le 4 (length text + 1) ++ (text ++ 0 ∷ []))

-- "\x04" e_name document
unfoldable pub array_element : List ℕ → List ℕ → List ℕ
array_element key elements = element_head 0x04 key ++ document elements

-- what an ACK grants: "hashId (int32), mtu (int64)"
unfoldable pub grant_elements : ℕ → ℕ → List ℕ
grant_elements h m = int32_element hash_id h ++ int64_element mtu m

-- "rejectedParams" with the one name
unfoldable pub rejected_element : List ℕ → List ℕ
rejected_element name = array_element rejected_params (string_element first_key name)

-- the array in it, which the reader hands out: a document of one string
abbrev pub array_of : List ℕ → List ℕ
array_of name = document (string_element first_key name)

-- the name in such an array: behind the array's length, the string's type, key and length, 11 bytes, and before the string's last 0 and the array's
abbrev pub name_in : List ℕ → List ℕ
name_in array = part array 11 (length array - 13)

-- "a payload of hashId (int32), mtu (int64), protocolVersion (string), in this order"
unfoldable pub ack_payload : ℕ → ℕ → Version → List ℕ
ack_payload h m v = document (grant_elements h m ++ string_element protocol_version (version_text v))

-- a service's ACK: "version 5: hashId, mtu"
unfoldable pub service_ack_payload : ℕ → ℕ → List ℕ
service_ack_payload h m = document (grant_elements h m)

-- a NAK "with rejectedParams" and the name given
unfoldable pub nak_payload : List ℕ → List ℕ
nak_payload name = document (rejected_element name)

-- the ACK's payload to the front of the buffer: 10 where no string says the version, then 11
abbrev pub write_ack_of : ℕ → ℕ → Version → List ℕ → Wrote
write_ack_of h m v out = saying_of v (ack_payload h m v) out

-- the names: ["protocolVersion"] and ["hashId"]
abbrev pub name_of : Parameter → List ℕ
name_of ProtocolVersion = protocol_version
name_of HashId = hash_id

-- what the reader finds in each of them; the string's place is the one behind hashId, mtu and its own head, the array's the one behind its head
abbrev pub grant_tags : ℕ → ℕ → Tags
grant_tags h m = record { version = no_tags.version; hash = Some h; mtu = Some m; rejected = no_tags.rejected }

abbrev pub version_span : Version → Span
version_span v = record { at = 50; length = length (version_text v) }

abbrev pub ack_tags : ℕ → ℕ → Version → Tags
ack_tags h m v = record { version = Some (version_span v); hash = Some h; mtu = Some m; rejected = no_tags.rejected }

abbrev pub nak_tags : List ℕ → Tags
nak_tags name = record { version = no_tags.version; hash = no_tags.hash; mtu = no_tags.mtu; rejected = Some (record { at = 20; length = length (array_of name) }) }
