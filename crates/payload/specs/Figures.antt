-- Control payloads and what they say: document 01's marked ones, and one or more for each refusal and each side of a limit.
-- Proved in proofs/Figures, by computation. Assumes nothing.
use Rattle.std.specs.Prelude.{ℕ, ◌+◌, List, [], ◌∷◌, ◌++◌, map, ◌≡◌, length, Some, Result, Ok, Err}
use Rattle.payload.specs.Tags.{protocol_version, hash_id, mtu, rejected_params, no_tags}
use Rattle.payload.specs.Walk.{payload_of}
use Rattle.payload.specs.declared.Tags.{Tags}

pub record Figure : Type 0 where
  pub bytes : List ℕ
  pub says : Result Tags ℕ

abbrev figure : List ℕ → Result Tags ℕ → Figure
figure bytes says = record { bytes = bytes; says = says }

-- "5.4.1"
abbrev text : List ℕ
text = 0x35 ∷ 0x2E ∷ 0x34 ∷ 0x2E ∷ 0x31 ∷ []

-- the elements of the replies: hashId 39,027, mtu 131,084, protocolVersion "5.4.1"
abbrev hash_element : List ℕ
hash_element = 0x10 ∷ (hash_id ++ (0 ∷ 0x73 ∷ 0x98 ∷ 0 ∷ 0 ∷ []))

abbrev mtu_element : List ℕ
mtu_element = 0x12 ∷ (mtu ++ (0 ∷ 0x0C ∷ 0 ∷ 0x02 ∷ 0 ∷ 0 ∷ 0 ∷ 0 ∷ 0 ∷ []))

abbrev version_element : List ℕ
version_element = 0x02 ∷ (protocol_version ++ (0 ∷ 0x06 ∷ 0 ∷ 0 ∷ 0 ∷ (text ++ (0 ∷ []))))

-- "Payload for "5.4.1": `20 00 00 00 02`, "protocolVersion" and 0, `06 00 00 00`, "5.4.1", two zeros: 32 bytes."
abbrev pub marked : List ℕ
marked = 0x20 ∷ 0 ∷ 0 ∷ 0 ∷ 0x02 ∷ (protocol_version ++ (0 ∷ 0x06 ∷ 0 ∷ 0 ∷ 0 ∷ (text ++ (0 ∷ 0 ∷ []))))

-- "The ACK payload with it has 57"
abbrev pub ack : List ℕ
ack = 0x39 ∷ 0 ∷ 0 ∷ 0 ∷ (hash_element ++ (mtu_element ++ (version_element ++ (0 ∷ []))))

-- "the NAK's 49": rejectedParams, an array of one string, "protocolVersion"
abbrev pub nak : List ℕ
nak = 0x31 ∷ 0 ∷ 0 ∷ 0 ∷ 0x04 ∷ (rejected_params ++ (0 ∷ 0x1C ∷ 0 ∷ 0 ∷ 0 ∷ 0x02 ∷ 0x30 ∷ 0 ∷ 0x10 ∷ 0 ∷ 0 ∷ 0 ∷ (protocol_version ++ (0 ∷ 0 ∷ 0 ∷ []))))

-- the document of these elements, at most 250 bytes of them
abbrev document : List ℕ → List ℕ
document elements = (length elements + 5) ∷ 0 ∷ 0 ∷ 0 ∷ (elements ++ (0 ∷ []))

-- the element of type 03 and key "a" whose value is this document
abbrev inside : List ℕ → List ℕ
inside nested = 0x03 ∷ 0x61 ∷ 0 ∷ nested

-- seven documents inside each other, around this one
abbrev around : List ℕ → List ℕ
around nested = document (inside (document (inside (document (inside (document (inside (document (inside (document (inside (document (inside nested)))))))))))))

abbrev nothing : Result Tags ℕ
nothing = Ok no_tags

abbrev only_version : Tags
only_version = record { version = Some (record { at = 25; length = 5 }); hash = no_tags.hash; mtu = no_tags.mtu; rejected = no_tags.rejected }

abbrev ack_tags : Tags
ack_tags = record { version = Some (record { at = 50; length = 5 }); hash = Some 39027; mtu = Some 131084; rejected = no_tags.rejected }

-- its array begins behind the payload's length, its own type and its key of 14 bytes with a 0
abbrev only_rejected : Tags
only_rejected = record { version = no_tags.version; hash = no_tags.hash; mtu = no_tags.mtu; rejected = Some (record { at = 20; length = 28 }) }

-- document 01's marked payloads; "data size 0 means no tags"; the smallest document
abbrev accepted : List Figure
accepted =
    figure marked (Ok only_version)
    ∷ figure ack (Ok ack_tags)
    ∷ figure nak (Ok only_rejected)
    ∷ figure [] nothing
    ∷ figure (5 ∷ 0 ∷ 0 ∷ 0 ∷ 0 ∷ []) nothing
    ∷ []

-- 30: under 5 bytes, a length of one too many, of one too few, and in its high byte
abbrev lengths : List Figure
lengths =
    figure (4 ∷ 0 ∷ 0 ∷ 0 ∷ []) (Err 30)
    ∷ figure (6 ∷ 0 ∷ 0 ∷ 0 ∷ 0 ∷ []) (Err 30)
    ∷ figure (5 ∷ 0 ∷ 0 ∷ 0 ∷ 0 ∷ 0 ∷ []) (Err 30)
    ∷ figure (5 ∷ 0 ∷ 0 ∷ 0x80 ∷ 0 ∷ []) (Err 30)
    ∷ []

-- types: 05 is not read; in a document's last byte an unread one is 31, a read one 32, since its key runs past
abbrev types : List Figure
types =
    figure (document (0x05 ∷ 0x78 ∷ 0 ∷ [])) (Err 31)
    ∷ figure (5 ∷ 0 ∷ 0 ∷ 0 ∷ 0x05 ∷ []) (Err 31)
    ∷ figure (5 ∷ 0 ∷ 0 ∷ 0 ∷ 0x0A ∷ []) (Err 32)
    ∷ figure (document (0x0A ∷ 0x78 ∷ 0 ∷ [])) nothing
    ∷ figure (document (0x01 ∷ 0x78 ∷ 0 ∷ 1 ∷ 2 ∷ 3 ∷ 4 ∷ 5 ∷ 6 ∷ 7 ∷ 8 ∷ [])) nothing
    ∷ []

-- 32: a key without its 0 byte; a key that ends where its document ends, its value missing; a 0 before the last byte; no 0 at the end;
-- booleans 1 and 2; strings of length 0, with another last byte, of length 1; nested lengths 4, one too many, and 5
abbrev malformed : List Figure
malformed =
    figure (7 ∷ 0 ∷ 0 ∷ 0 ∷ 0x0A ∷ 0x78 ∷ 0x78 ∷ []) (Err 32)
    ∷ figure (7 ∷ 0 ∷ 0 ∷ 0 ∷ 0x08 ∷ 0x78 ∷ 0 ∷ []) (Err 32)
    ∷ figure (document (0 ∷ [])) (Err 32)
    ∷ figure (7 ∷ 0 ∷ 0 ∷ 0 ∷ 0x0A ∷ 0x78 ∷ 0 ∷ []) (Err 32)
    ∷ figure (document (0x08 ∷ 0x78 ∷ 0 ∷ 1 ∷ [])) nothing
    ∷ figure (document (0x08 ∷ 0x78 ∷ 0 ∷ 2 ∷ [])) (Err 32)
    ∷ figure (document (0x02 ∷ 0x78 ∷ 0 ∷ 0 ∷ 0 ∷ 0 ∷ 0 ∷ [])) (Err 32)
    ∷ figure (document (0x02 ∷ 0x78 ∷ 0 ∷ 1 ∷ 0 ∷ 0 ∷ 0 ∷ 0x78 ∷ [])) (Err 32)
    ∷ figure (document (0x02 ∷ 0x78 ∷ 0 ∷ 1 ∷ 0 ∷ 0 ∷ 0 ∷ 0 ∷ [])) nothing
    ∷ figure (document (inside (4 ∷ 0 ∷ 0 ∷ 0 ∷ 0 ∷ []))) (Err 32)
    ∷ figure (document (inside (7 ∷ 0 ∷ 0 ∷ 0 ∷ 0 ∷ []))) (Err 32)
    ∷ figure (document (inside (5 ∷ 0 ∷ 0 ∷ 0 ∷ 0 ∷ []))) nothing
    ∷ []

-- depth 8; depth 9; depth 9 before its length, here 0; a length past the parent before the fault inside
abbrev depths : List Figure
depths =
    figure (around (document [])) nothing
    ∷ figure (around (document (inside (document [])))) (Err 33)
    ∷ figure (around (document (inside (0 ∷ 0 ∷ 0 ∷ 0 ∷ [])))) (Err 33)
    ∷ figure (document (inside (9 ∷ 0 ∷ 0 ∷ 0 ∷ 0x05 ∷ 0 ∷ 0 ∷ []))) (Err 32)
    ∷ []

-- 34: another type; twice; before its value's fault; at the document's end, where no value is; a 31 that comes before it, and one that
-- comes behind it; known names below the top level are no tags
abbrev tags : List Figure
tags =
    figure (document (0x10 ∷ (mtu ++ (0 ∷ 1 ∷ 0 ∷ 0 ∷ 0 ∷ [])))) (Err 34)
    ∷ figure (document (hash_element ++ hash_element)) (Err 34)
    ∷ figure (document (0x08 ∷ (mtu ++ (0 ∷ 2 ∷ [])))) (Err 34)
    ∷ figure (9 ∷ 0 ∷ 0 ∷ 0 ∷ 0x10 ∷ (mtu ++ (0 ∷ []))) (Err 34)
    ∷ figure (document (0x05 ∷ 0x78 ∷ 0 ∷ (hash_element ++ hash_element))) (Err 31)
    ∷ figure (document (hash_element ++ (hash_element ++ (0x05 ∷ 0x78 ∷ 0 ∷ [])))) (Err 34)
    ∷ figure (document (inside (document (hash_element ++ (hash_element ++ (0x10 ∷ (mtu ++ (0 ∷ 1 ∷ 0 ∷ 0 ∷ 0 ∷ [])))))))) nothing
    ∷ []

unfoldable pub figures : List Figure
figures = accepted ++ (lengths ++ (types ++ (malformed ++ (depths ++ tags))))

abbrev pub AllRight : List Figure → Type 0
AllRight fs = map (λ (f : Figure). payload_of f.bytes) fs ≡ map (λ (f : Figure). f.says) fs

-- "32 bytes. The ACK payload with it has 57; the NAK's 49."
abbrev pub SizesRight : Type 0
SizesRight = map length (marked ∷ ack ∷ nak ∷ []) ≡ 32 ∷ 57 ∷ 49 ∷ []
