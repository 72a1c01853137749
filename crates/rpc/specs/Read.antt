-- The reader: what a delivered payload is. Document 02, request A1.
-- Assumes nothing.
use Rattle.std.specs.Prelude.{ℕ, ◌+◌, ◌-◌, List, Result, Ok, Err, eqb, leb, length}
use Rattle.numbers.specs.Bytes.{part, pick, unless}
use Rattle.frame.specs.Rules.{known_version}
use Rattle.rpc.specs.Rules.{is_bare, fault_of}
use Rattle.rpc.specs.Layout.{fields_in, header_of}
use Rattle.rpc.specs.declared.Form.{Form}
use Rattle.rpc.specs.declared.Parts.{Parts}
use Rattle.rpc.specs.declared.Content.{Content}
use Rattle.rpc.specs.declared.Content.TheVariants.{Message, Bare}

-- "the bulk form (JSON then bulk data, bulk being payload minus 12 minus JSON size)"
abbrev pub parts_of : List ℕ → ℕ → Parts
parts_of s size = record { json = 12; bulk = 12 + size; end = length s }

-- "its payload is all JSON"
abbrev pub bare_parts : List ℕ → Parts
bare_parts s = record { json = 0; bulk = length s; end = length s }

abbrev pub json_part : List ℕ → Parts → List ℕ
json_part s p = part s p.json (p.bulk - p.json)

abbrev pub bulk_part : List ℕ → Parts → List ℕ
bulk_part s p = part s p.bulk (p.end - p.bulk)

-- 43: "JSON size past the end"; 44: "bytes after the JSON on RPC"
abbrev pub fault_in : Form → List ℕ → ℕ
fault_in form s = fault_of form (fields_in form s) (leb (fields_in form s).size (length s - 12)) (leb (length s - 12) (fields_in form s).size)

-- a payload of 12 bytes or more: 41 to 44, or header, JSON size and parts
unfoldable pub message_in : Form → List ℕ → Result Content ℕ
message_in form s =
    unless (eqb (fault_in form s) 0) (Err (fault_in form s))
    (Ok (Message (header_of form (fields_in form s)) (fields_in form s).size (parts_of s (fields_in form s).size)))

-- "New refusals, after 1 on the version, in this order: 40 payload under 12 bytes, .." At version 1 RPC "40 to 43 don't apply, and the header isn't read back"
unfoldable pub read_of : Form → ℕ → List ℕ → Result Content ℕ
read_of form version s =
    unless (known_version version) (Err 1)
    (pick (is_bare form version) (Ok (Bare (bare_parts s)))
    (unless (leb 12 (length s)) (Err 40)
    (message_in form s)))
