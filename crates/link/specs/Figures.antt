-- Document 01's marked cases, all of them, and those of document 02's A2, as one list: what the definitions say, beside what the papers say, both as numbers.
-- Proved in proofs/Figures. (frame and payload have further worked cases of their own.)
-- Assumes nothing.
use Rattle.std.specs.Prelude.{ℕ, ◌-◌, ◌*◌, List, [], ◌∷◌, ◌++◌, map, ◌≡◌, length, take, replicate, Option, Some, None}
use Rattle.numbers.specs.Bytes.{part}
use Rattle.numbers.specs.Numbers.{value_be, bytes_be}
use Rattle.frame.specs.declared.Reading.{Reading}
use Rattle.frame.specs.declared.Reading.TheVariants as reading
use Rattle.frame.specs.Read.{read_of}
use Rattle.payload.specs.declared.version.Version.{Version}
use Rattle.payload.specs.Tags.{protocol_version}
use Rattle.payload.specs.Version.{version_of, version_text}
use Rattle.payload.specs.Reply.{document, string_element, ack_payload, nak_payload}
use Rattle.session.specs.declared.Row.{Row}
use Rattle.session.specs.Rows.{free_row, opened_row, admitted_row}
use Rattle.session.specs.Decide.{need_of}
use Rattle.link.specs.declared.Link.{Link}
use Rattle.link.specs.declared.Answer.{Answer}
use Rattle.link.specs.declared.Answer.TheVariants as answer
use Rattle.link.specs.State.{owner_of, created_link}
use Rattle.link.specs.Call.{After, call_of}

pub record Figure : Type 0 where
  pub says : List ℕ
  pub expected : List ℕ

abbrev figure : List ℕ → List ℕ → Figure
figure s e = record { says = s; expected = e }

abbrev version541 : Version
version541 = record { major = 5; minor = 4; patch = 1 }

-- an answer as numbers: the refusal's, or 0 where it is accepted silently; a reply's bytes
abbrev outcome : After → Answer → List ℕ
outcome w (answer.Short n) = []
outcome w (answer.Refused n) = n ∷ []
outcome w (answer.Acked c n) = take n w.out
outcome w (answer.Nacked c n) = take n w.out
outcome w (answer.Beat c n) = take n w.out
outcome w (answer.Accepted c) = 0 ∷ []
outcome w (answer.Delivered c v n) = []

-- a call with an offer of G 100; what it answers
abbrev gives : Link → List ℕ → List ℕ → List ℕ
gives l pool input =
    let w : After = call_of l pool input (replicate 128 0xFF) (record { guarantee = 100; cap = 256; hash = 39027 }) in
    outcome w w.answer

-- a link of module 5.4.1 with two sessions in its first rows, and so many blocks of the map, the first ones, with B's message on service 07; were they not as
-- the rows say, a call would answer 10
abbrev link_of : Row → Row → ℕ → Link
link_of a b blocks = record {
  version = version541;
  mtu = 131084;
  rows = a ∷ b ∷ replicate 6 free_row;
  owners = replicate blocks (owner_of 1 1) ++ replicate (256 - blocks) 0;
}

-- "A: G 100, C 200; B: G 100, C 256; both empty."
abbrev session_a : Row
session_a = opened_row (record { 0 = 1 }) 100 200 5 0

abbrev session_b : Row
session_b = opened_row (record { 0 = 2 }) 100 256 5 0

abbrev both_empty : Link
both_empty = link_of session_a session_b 0

-- "With B at 156"
abbrev with_b156 : Link
with_b156 = link_of session_a (admitted_row session_b 1 (record { 0 = 7 }) (156 * 256) 1) 156

-- a First Frame on service 07: total, then count
abbrev announcing : ℕ → ℕ → ℕ → List ℕ
announcing session total count = 0x52 ∷ 0x07 ∷ 0 ∷ session ∷ 0 ∷ 0 ∷ 0 ∷ 0x08 ∷ 0 ∷ 0 ∷ 0 ∷ 0x07 ∷ (bytes_be 4 total ++ bytes_be 4 count)

-- one that asks for so many whole blocks, in one frame
abbrev asks : ℕ → ℕ → List ℕ
asks session blocks = announcing session (blocks * 256) 1

-- a session with the whole room to itself
abbrev alone : Link
alone = link_of (opened_row (record { 0 = 1 }) 0 256 5 0) free_row 0

-- an opening without payload
abbrev start : List ℕ
start = 0x10 ∷ 0x07 ∷ 0x01 ∷ 0 ∷ 0 ∷ 0 ∷ 0 ∷ 0 ∷ []

-- a First Frame's version, total and count, and the blocks that it needs
abbrev announces : List ℕ → Reading → List ℕ
announces s (reading.Short n) = []
announces s (reading.Refused n) = []
announces s (reading.Frame h e) =
    let payload = part s e.start (e.end - e.start) in
    h.version ∷ h.kind ∷ value_be (part payload 0 4) ∷ value_be (part payload 4 4) ∷ need_of (value_be (part payload 0 4)) ∷ []

-- a version string: its three parts, or nothing
abbrev parts : Option Version → List ℕ
parts (Some v) = v.major ∷ v.minor ∷ v.patch ∷ []
parts None = []

abbrev announcement : List ℕ
announcement = 0x52 ∷ 0x07 ∷ 0 ∷ 0x01 ∷ 0 ∷ 0 ∷ 0 ∷ 0x08 ∷ 0 ∷ 0 ∷ 0 ∷ 0x07 ∷ 0 ∷ 0 ∷ 0x02 ∷ 0x58 ∷ 0 ∷ 0 ∷ 0 ∷ 0x02 ∷ []

-- for a pool of any bytes; each call goes from the whole state
unfoldable pub figures : List ℕ → List Figure
figures pool =
    -- "`10 07 01 00 00 00 00 00`: opening.": on a new link its reply is that of the bench's whole case, "40070201000000040000000100009873"
    figure (gives (created_link version541 131084) pool start) (0x40 ∷ 0x07 ∷ 0x02 ∷ 0x01 ∷ 0 ∷ 0 ∷ 0 ∷ 0x04 ∷ 0 ∷ 0 ∷ 0 ∷ 0x01 ∷ 0 ∷ 0 ∷ 0x98 ∷ 0x73 ∷ [])
    -- "NAK: `40 07 03` and nine zeros": on a link whose sessions' guarantees leave no room for another 100
    ∷ figure (gives both_empty pool start) (0x40 ∷ 0x07 ∷ 0x03 ∷ 0 ∷ 0 ∷ 0 ∷ 0 ∷ 0 ∷ 0 ∷ 0 ∷ 0 ∷ 0 ∷ [])
    -- "`52 07 00 01 .. 00 00 02 58 00 00 00 02`: version 5, total 600, count 2, 3 blocks."; type 2 is a First Frame
    ∷ figure (announces announcement (read_of announcement)) (5 ∷ 2 ∷ 600 ∷ 2 ∷ 3 ∷ [])
    -- "Total 256 needs 1 block, 257 needs 2, 65,536 needs 256."
    ∷ figure (map need_of (256 ∷ 257 ∷ 65536 ∷ [])) (1 ∷ 2 ∷ 256 ∷ [])
    -- "Payload for "5.4.1": `20 00 00 00 02`, "protocolVersion" and 0, `06 00 00 00`, "5.4.1", two zeros: 32 bytes."
    ∷ figure (document (string_element protocol_version (version_text version541)))
    (0x20 ∷ 0 ∷ 0 ∷ 0 ∷ 0x02 ∷ 0x70 ∷ 0x72 ∷ 0x6F ∷ 0x74 ∷ 0x6F ∷ 0x63 ∷ 0x6F ∷ 0x6C ∷ 0x56 ∷ 0x65 ∷ 0x72 ∷ 0x73 ∷ 0x69 ∷ 0x6F ∷ 0x6E ∷ 0
    ∷ 0x06 ∷ 0 ∷ 0 ∷ 0 ∷ 0x35 ∷ 0x2E ∷ 0x34 ∷ 0x2E ∷ 0x31 ∷ 0 ∷ 0 ∷ [])
    -- "The ACK payload with it has 57; the NAK's 49."
    ∷ figure (map length (document (string_element protocol_version (version_text version541)) ∷ ack_payload 39027 131084 version541 ∷ nak_payload protocol_version ∷ [])) (32 ∷ 57 ∷ 49 ∷ [])
    -- "B asks 156 blocks: admitted; 157: 21. With B at 156, A asks 100: admitted; 101: 21. A asks 201: 20."
    ∷ figure (gives both_empty pool (asks 2 156)) (0 ∷ [])
    ∷ figure (gives both_empty pool (asks 2 157)) (21 ∷ [])
    ∷ figure (gives with_b156 pool (asks 1 100)) (0 ∷ [])
    ∷ figure (gives with_b156 pool (asks 1 101)) (21 ∷ [])
    ∷ figure (gives with_b156 pool (asks 1 201)) (20 ∷ [])
    -- ""5.04.1" bad; "5.0.0" good."
    ∷ figure (parts (version_of (0x35 ∷ 0x2E ∷ 0x30 ∷ 0x34 ∷ 0x2E ∷ 0x31 ∷ []))) []
    ∷ figure (parts (version_of (0x35 ∷ 0x2E ∷ 0x30 ∷ 0x2E ∷ 0x30 ∷ []))) (5 ∷ 0 ∷ 0 ∷ [])
    -- document 02, A2: "18 loses its bound 256 on the count": 400 frames, 65,536 of one byte; and what it still refuses
    ∷ figure (gives alone pool (announcing 1 16000 400)) (0 ∷ [])
    ∷ figure (gives alone pool (announcing 1 65536 65536)) (0 ∷ [])
    ∷ figure (gives alone pool (announcing 1 400 401)) (18 ∷ [])
    ∷ figure (gives alone pool (announcing 1 65537 65537)) (18 ∷ [])
    ∷ []

abbrev pub AllRight : List Figure → Type 0
AllRight fs = map (λ (f : Figure). f.says) fs ≡ map (λ (f : Figure). f.expected) fs

-- the statement
abbrev pub FiguresRight : Type 0
FiguresRight = (pool : List ℕ) → length pool ≡ 65536 → AllRight (figures pool)
