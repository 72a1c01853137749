-- What the three forms differ in, and the refusals 41 to 44: document 02, request A1.
-- Assumes nothing.
use Rattle.std.specs.Prelude.{ℕ, ◌^◌, Bool, true, false, ◌&&◌, ◌||◌, not, [], ◌∷◌, Option, Some, None, eqb, leb, ltb}
use Rattle.numbers.specs.Bytes.{pick, unless}
use Rattle.frame.specs.declared.ServiceType.{ServiceType}
use Rattle.frame.specs.Rules.{is_in}
use Rattle.rpc.specs.declared.Form.{Form}
use Rattle.rpc.specs.declared.Form.TheVariants.{Rpc, Bulk, Query}
use Rattle.rpc.specs.declared.Fields.{Fields}

abbrev pub is_rpc : Form → Bool
is_rpc Rpc = true
is_rpc Bulk = false
is_rpc Query = false

abbrev pub is_query : Form → Bool
is_query Rpc = false
is_query Bulk = false
is_query Query = true

-- document 01: "Services: 00, 07 RPC, 0A audio, 0B video, 0F bulk (hex)"; queries come on 00, and audio and video carry no such payload
unfoldable pub form_of : ServiceType → Option Form
form_of s = pick (eqb s.0 0x07) (Some Rpc) (pick (eqb s.0 0x0F) (Some Bulk) (pick (eqb s.0 0x00) (Some Query) None))

-- "At version 1 RPC alone has no such header: its payload is all JSON"
unfoldable pub is_bare : Form → ℕ → Bool
is_bare form version = is_rpc form && eqb version 1

-- "RPC type 4 bits, function id 28", "type 8, id 24": so many ids there are, and the type stands above them
unfoldable pub id_span : Form → ℕ
id_span form = pick (is_query form) (2 ^ 24) (2 ^ 28)

-- 41: "type not 0 to 2 (query: not 00, 10, 20 or FF)"
unfoldable pub kind_fits : Form → ℕ → Bool
kind_fits form kind = pick (is_query form) (is_in kind (0x00 ∷ 0x10 ∷ 0x20 ∷ 0xFF ∷ [])) (leb kind 2)

-- 42: "query id not 1, 2 or FFFFFF (all hex; in the writer also a function id over 28 bits)"; in the reader a function id has no more than its bits
unfoldable pub id_fits : Form → ℕ → Bool
id_fits form id = pick (is_query form) (is_in id (1 ∷ 2 ∷ 0xFFFFFF ∷ [])) (ltb id (2 ^ 28))

-- 44: "bytes after the JSON on RPC", "for bulk on RPC": nothing else bars what follows the JSON
abbrev pub may_end : Form → Bool → Bool
may_end form ends = ends || not (is_rpc form)

-- 43 and 44. Whether the JSON size fits (43) and whether the payload ends with the JSON is for reader and writer to say
abbrev pub size_fault : Form → Bool → Bool → ℕ
size_fault form fits ends = unless fits 43 (unless (may_end form ends) 44 0)

-- "New refusals, .. in this order": the first of 41 to 44, or 0
unfoldable pub fault_of : Form → Fields → Bool → Bool → ℕ
fault_of form f fits ends =
    unless (kind_fits form f.kind) 41
    (unless (id_fits form f.id) 42
    (size_fault form fits ends))
