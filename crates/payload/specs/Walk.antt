-- What a control payload says: one BSON document, walked in byte order. Document 01, "Control payloads" and answers 30 to 34;
-- beside each definition stands its line of bsonspec.org's grammar. The nesting of the definitions is the order of the refusals: "30 comes
-- first, then the first fault in byte order; an element is judged by type, key, 34, then value." Places count from the payload's first
-- byte; a document's end is the place past its last byte.
-- Assumes nothing.
use Rattle.std.specs.Prelude.{ℕ, zero, suc, ◌+◌, ◌-◌, Bool, true, false, ◌&&◌, ◌||◌, List, leb, ltb, eqb, length, get_or, Option, Some, None, Result, Ok, Err}
use Rattle.std.proofs.Math.Seq.{slice}
use Rattle.lines.specs.Place.{index_of}
use Rattle.numbers.specs.Bytes.{part, pick, unless}
use Rattle.numbers.specs.Numbers.{value_le}
use Rattle.payload.specs.Tags.{tag_of, clashes, with_tag, no_tags}
use Rattle.payload.specs.declared.Tags.{Tags}
use Rattle.payload.specs.declared.Tag.{Tag}
use Rattle.payload.specs.declared.Tag.TheVariants.{Unknown}

-- what stands before an element's value: its type, its tag and the value's place; or a refusal
abbrev pub Head : Type 0
Head = Result (ℕ × Tag × ℕ) ℕ

-- what an element or a document comes to: the place past it with the tags so far; or the first fault
abbrev pub Walk : Type 0
Walk = Result (ℕ × Tags) ℕ

-- "Read types: 01, 02, 03, 04, 08 (0 or 1), 0A, 10, 12 (hex)"
abbrev pub read_type : ℕ → Bool
read_type kind =
    eqb kind 0x01 || (eqb kind 0x02 || (eqb kind 0x03 || (eqb kind 0x04 || (eqb kind 0x08 || (eqb kind 0x0A || (eqb kind 0x10 || eqb kind 0x12))))))

-- a type's number, if it is read; 31 "type not read"
abbrev pub kind_of : ℕ → Result ℕ ℕ
kind_of number = unless (read_type number) (Err 31) (Ok number)

-- the types whose value is a document: 03, and 04, an array; "documents and arrays nested inside each other"
abbrev pub nests : ℕ → Bool
nests kind = eqb kind 0x03 || eqb kind 0x04

-- a value of w bytes, which starts at v, in a document that ends at end: the place past it. 32: "value .. runs past its document"
unfoldable pub fixed_of : ℕ → ℕ → ℕ → Option ℕ
fixed_of w v end = pick (leb w (end - v)) (Some (v + w)) None

-- 08, one byte. 32: "boolean not 0 or 1"
unfoldable pub boolean_of : List ℕ → ℕ → ℕ → Option ℕ
boolean_of s v end = pick (ltb v end && ltb (get_or s v 0) 2) (Some (v + 1)) None

-- string ::= int32 (byte*) 0: "The int32 is the number of bytes in the (byte*) plus one for the trailing null byte."
-- 32: "value .. runs past its document; string length 0 or its last byte not 0"
abbrev pub string_fits : List ℕ → ℕ → ℕ → ℕ → Bool
string_fits s v end n = leb 4 (end - v) && (leb 1 n && (leb n (end - v - 4) && eqb (get_or s (v + 3 + n) 0) 0))

unfoldable pub string_of : List ℕ → ℕ → ℕ → Option ℕ
string_of s v end = pick (string_fits s v end (value_le (part s v 4))) (Some (v + 4 + value_le (part s v 4))) None

-- a value that holds no document: 02 string, 08 boolean, 0A null, 10 int32, 01 double, 12 int64
unfoldable pub plain_of : List ℕ → ℕ → ℕ → ℕ → Option ℕ
plain_of s v end kind =
    pick (eqb kind 0x02) (string_of s v end)
    (pick (eqb kind 0x08) (boolean_of s v end)
    (pick (eqb kind 0x0A) (fixed_of 0 v end)
    (pick (eqb kind 0x10) (fixed_of 4 v end)
    (pick (eqb kind 0x01) (fixed_of 8 v end)
    (pick (eqb kind 0x12) (fixed_of 8 v end)
    None)))))

-- the tag of the key from key up to its 0 byte at stop: "Only top-level tags count."
abbrev pub tag_at : Bool → List ℕ → ℕ → ℕ → Tag
tag_at true s key stop = tag_of (part s key (stop - key))
tag_at false s key stop = Unknown

-- element ::= type e_name value; e_name ::= (byte*) 0: the place of the key's 0 byte, or the document's end where none is before it
abbrev pub key_stop : List ℕ → ℕ → ℕ → ℕ
key_stop s at end = at + 1 + index_of 0 (slice (at + 1) end s)

-- what stands before an element's value: its type, its tag and the value's place. "an element is judged by type, key, 34, then value": 31 "type not read",
-- 32 "key .. runs past its document", 34
unfoldable pub head_of : Bool → List ℕ → ℕ → ℕ → Tags → Head
head_of top s at end t =
    unless (read_type (get_or s at 0)) (Err 31)
    (unless (ltb (key_stop s at end) end) (Err 32)
    (pick (clashes t (tag_at top s (at + 1) (key_stop s at end)) (get_or s at 0)) (Err 34)
    (Ok (get_or s at 0, tag_at top s (at + 1) (key_stop s at end), key_stop s at end + 1))))

-- past an element whose value holds no document: 32 where "value .. runs past its document", or is none of its type
abbrev pub past_plain : List ℕ → Option ℕ → Tags → Tag → ℕ → Walk
past_plain s (Some n) t tag v = Ok (n, with_tag s t tag v)
past_plain s None t tag v = Err 32

-- past an element whose value is a document, which was walked
abbrev pub past_nested : List ℕ → Walk → Tag → ℕ → Walk
past_nested s (Ok (n, t)) tag v = Ok (n, with_tag s t tag v)
past_nested s (Err k) tag v = Err k

-- the walk of a document inside another one: the document's place, the end of the one around it, and the tags so far
abbrev pub Nested : Type 0
Nested = ℕ → ℕ → Tags → Walk

-- an element, given what stands before its value
abbrev pub value_of : Nested → List ℕ → ℕ → Tags → Head → Walk
value_of nested s end t (Err k) = Err k
value_of nested s end t (Ok (kind, tag, v)) = pick (nests kind) (past_nested s (nested v end t) tag v) (past_plain s (plain_of s v end kind) t tag v)

-- an element, which starts at `at`, in a document that ends at `end`
unfoldable pub element_of : Nested → Bool → List ℕ → ℕ → ℕ → Tags → Walk
element_of nested top s at end t = value_of nested s end t (head_of top s at end t)

-- "then the first fault in byte order": what follows is looked at only past an element that was accepted
abbrev pub and_then : Walk → (ℕ → Tags → Walk) → Walk
and_then (Ok (n, t)) rest = rest n t
and_then (Err k) rest = Err k

-- e_list 0, from `at` up to `end`. 32: "a 0 in a type's place before its document's last byte, or the document used up without one".
-- The first number bounds how many elements there are; the law `enough` says that it never decides.
unfoldable pub elements : ℕ → Nested → Bool → List ℕ → ℕ → ℕ → Tags → Walk
elements zero nested top s at end t = Err 32
elements (suc bound) nested top s at end t =
    unless (ltb at end) (Err 32)
    (pick (eqb (get_or s at 0) 0)
    (unless (eqb (at + 1) end) (Err 32) (Ok (end, t)))
    (and_then (element_of nested top s at end t) (λ next tags. elements bound nested top s next end tags)))

-- 32: "nested document runs past its document", "nested length under 5"
abbrev pub document_fits : ℕ → ℕ → ℕ → Bool
document_fits at end n = leb 4 (end - at) && (leb 5 n && leb n (end - at))

-- document ::= int32 e_list 0, from `at` on, in what ends at `end`, with so many levels left, its own among them. 33: "depth 9, judged before its length"
unfoldable pub document_of : ℕ → Bool → List ℕ → ℕ → ℕ → Tags → Walk
document_of zero top s at end t = Err 33
document_of (suc levels) top s at end t =
    let n = value_le (part s at 4) in
    unless (document_fits at end n) (Err 32)
    (elements n (λ v e u. document_of levels false s v e u) top s (at + 4) (at + n) t)

-- the outer document ends where the payload ends, so that only its tags, or its fault, are the answer
abbrev pub answer : Walk → Result Tags ℕ
answer (Ok (n, t)) = Ok t
answer (Err k) = Err k

-- 30: "document length not the lent length, or not 5 to 1,024"
abbrev pub length_fits : List ℕ → Bool
length_fits s = leb 5 (length s) && (leb (length s) 1024 && eqb (value_le (part s 0 4)) (length s))

-- "A payload is one document of 5 to 1,024 bytes; data size 0 means no tags."; "nested inside each other to depth 8, the outer one being 1"
unfoldable pub payload_of : List ℕ → Result Tags ℕ
payload_of s = pick (eqb (length s) 0) (Ok no_tags) (unless (length_fits s) (Err 30) (answer (document_of 8 true s 0 (length s) no_tags)))
