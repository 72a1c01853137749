-- The open sessions of a link as text: docs/DRIVER.md, "STATE". Assumes nothing.
use Rattle.std.specs.Prelude.{ℕ, zero, suc, List, [], ◌∷◌, ◌++◌, ◌==◌, nat_lt, slice_index, slice_index_or}
use Rattle.numbers.specs.Bytes.{pick}
use Rattle.lines.specs.Hex.{hex_of}
use Rattle.lines.specs.Decimal.{decimal_of}
use Rattle.session.specs.declared.Reassembly.{Reassembly}
use Rattle.session.specs.declared.Row.{Row}
use Rattle.session.specs.declared.Running.{Running}
use Rattle.session.specs.Rows.{no_row}
use Rattle.session.specs.Decide.{held_of}
use Rattle.link.specs.declared.Link.{Link}
use Rattle.link.specs.State.{index_of, owner_of}
use Rattle.driver.specs.Spelling.{numbers_by, joined, or_dash}

-- "BLOCKS its block numbers in order, joined by `.`": an owner's, from block b on, behind those before it
unfoldable pub blocks_from : ℕ → ℕ → List ℕ → List ℕ → List ℕ
blocks_from owner b [] text = text
blocks_from owner b (o ∷ owners) text =
    blocks_from owner (suc b) owners (pick (o == owner) (joined 46 text (decimal_of b)) text)

abbrev pub blocks_text : ℕ → List ℕ → List ℕ
blocks_text owner owners = blocks_from owner 0 owners []

-- "ID/TOTAL/COUNT/FRAMESTOCOME/BYTESMISSING/"
abbrev pub counts_text : Reassembly → List ℕ
counts_text m = numbers_by 47 (m.id.0 ∷ m.total ∷ m.count ∷ m.frames ∷ m.missing ∷ []) ++ 47 ∷ []

-- "SERVICE/ID/TOTAL/COUNT/FRAMESTOCOME/BYTESMISSING/BLOCKS"
abbrev pub message_text : Reassembly → ℕ → List ℕ → ℕ → List ℕ
message_text m service owners owner = hex_of (service ∷ []) ++ (counts_text m ++ blocks_text owner owners)

-- the services by their places: "by rising service"
abbrev pub service_at : List ℕ
service_at = 0x00 ∷ 0x07 ∷ 0x0A ∷ 0x0B ∷ 0x0F ∷ []

-- "messages is `-` or the open ones by rising service, joined by `+`": those of row i from a place on, behind those before it
unfoldable pub messages_from : ℕ → ℕ → List ℕ → List Reassembly → List ℕ → List ℕ
messages_from i place owners [] text = text
messages_from i place owners (m ∷ ms) text =
    messages_from i (suc place) owners ms (pick m.live (joined 43 text (message_text m (slice_index service_at place) owners (owner_of i place))) text)

abbrev pub messages_text : ℕ → List ℕ → List Reassembly → List ℕ
messages_text i owners ms = or_dash (messages_from i 0 owners ms [])

-- "services are the running ones of 07, 0a, 0b, each `07=HASH`, joined by `+`": 07 runs as long as the session
abbrev pub service_text : ℕ → ℕ → ℕ → List ℕ
service_text mark service hash = (mark ∷ []) ++ (hex_of (service ∷ []) ++ (61 ∷ decimal_of hash))

abbrev pub running_text : ℕ → Running → List ℕ
running_text service r = pick r.on (service_text 43 service r.hash) []

abbrev pub services_text : Row → List ℕ
services_text r = service_text 44 0x07 r.hash ++ (running_text 0x0A r.audio ++ running_text 0x0B r.video)

-- "id,G,C,version,next"
abbrev pub row_numbers : Row → List ℕ
row_numbers r = decimal_of r.id.0 ++ numbers_by 44 (r.guarantee ∷ r.cap ∷ r.version ∷ r.next.0 ∷ [])

-- "id,G,C,version,next,services,held,messages": row i
abbrev pub session_text : Row → ℕ → List ℕ → List ℕ
session_text r i owners =
    row_numbers r ++ (services_text r ++ ((44 ∷ decimal_of (held_of r)) ++ ((44 ∷ []) ++ messages_text i owners r.messages)))

-- row i behind the sessions before it, if there is such a row
abbrev pub with_session : Link → ℕ → List ℕ → List ℕ
with_session l i text = pick (nat_lt i 8) (joined 59 text (session_text (slice_index_or l.rows i no_row) i l.owners)) text

-- "the open sessions by rising id, joined by `;`": of so many ids from one on, behind those before them
unfoldable pub sessions_from : Link → ℕ → ℕ → List ℕ → List ℕ
sessions_from l id zero text = text
sessions_from l id (suc left) text = sessions_from l (suc id) left (with_session l (index_of id l.rows) text)

-- "STATE is `-` if no session is open"
abbrev pub state_text : Link → List ℕ
state_text l = or_dash (sessions_from l 1 255 [])
