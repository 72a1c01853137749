-- What the C side gets for the answers of the payload reader and writer: a status and a value, and what is left in the lent bytes.
-- Document 02, request A1: "Our smoke tester needs what is inside joined messages." The numbers of forms and the places of fields are ours, as the C header
-- tells them.
-- Assumes nothing.
use Rattle.std.specs.Prelude.{ℕ, List, ◌∷◌, ◌++◌, eqb, leb, length, get_or, Option, None, Some, Result as Answer, Ok, Err}
use Rattle.numbers.specs.Bytes.{part, pick, unless, laid}
use Rattle.numbers.specs.Numbers.{bytes_be, value_be}
use Rattle.frame.specs.Write.{Wrote}
use Rattle.rpc.specs.Rules.{form_of, is_bare}
use Rattle.rpc.specs.Layout.{header_of, fields_of}
use Rattle.rpc.specs.Read.{read_of}
use Rattle.rpc.specs.Write.{write_of}
use Rattle.rpc.specs.declared.Form.{Form}
use Rattle.rpc.specs.declared.Form.TheVariants.{Rpc, Bulk, Query}
use Rattle.rpc.specs.declared.Fields.{Fields}
use Rattle.rpc.specs.declared.Header.{Header}
use Rattle.rpc.specs.declared.Content.{Content}
use Rattle.rpc.specs.declared.Content.TheVariants.{Message, Bare}
use Rattle.tilambok.specs.Status.{Result, done, refused, Left, left}

-- ---- forms

-- a caller names a form by a number
unfoldable pub form_from : ℕ → Option Form
form_from n = pick (eqb n 0) (Some Rpc) (pick (eqb n 1) (Some Bulk) (pick (eqb n 2) (Some Query) None))

abbrev pub form_number : Form → ℕ
form_number Rpc = 0
form_number Bulk = 1
form_number Query = 2

-- done with the form's number, or refused with 10, "settings .. out of range"
abbrev pub form_result : ℕ → Option Form → Result
form_result value (Some form) = done (form_number form)
form_result value None = refused value 10

-- what tilambok_rpc_form leaves
abbrev pub tilambok_rpc_form : ℕ → ℕ → Result
tilambok_rpc_form service value = form_result value (form_of (record { 0 = service }))

-- ---- the reader

-- the 16 bytes that tell a payload: whether it has a header, its type, where the JSON begins, 0, and the header's numbers
unfoldable pub field_bytes : ℕ → ℕ → Fields → List ℕ
field_bytes headed begins f = headed ∷ f.kind ∷ begins ∷ 0 ∷ (bytes_be 4 f.id ++ bytes_be 4 f.number ++ bytes_be 4 f.size)

-- fields taken apart again
unfoldable pub fields_at : List ℕ → Fields
fields_at l = record { kind = get_or l 1 0; id = value_be (part l 4 4); number = value_be (part l 8 4); size = value_be (part l 12 4) }

abbrev pub fields_from : ℕ → ℕ → ℕ → ℕ → Fields
fields_from kind id number size = record { kind = kind; id = id; number = number; size = size }

-- "At version 1 RPC alone has no such header": its fields are 0
abbrev pub no_fields : Fields
no_fields = fields_from 0 0 0 0

-- a payload that was read needs 16 bytes for its fields, else 11; the fields go to the front, and what is past them stays.
-- The value is the place where the JSON begins
unfoldable pub told : ℕ → ℕ → Fields → List ℕ → ℕ → Left
told headed begins f fields value = unless (leb 16 (length fields)) (left 11 fields value) (left 0 (laid (field_bytes headed begins f) fields) begins)

-- what a reading leaves to a caller who lends these fields and this number; a refusal writes nothing
abbrev pub left_by : List ℕ → ℕ → Answer Content ℕ → Left
left_by fields value (Ok (Message h size p)) = told 1 p.json (fields_of h size) fields value
left_by fields value (Ok (Bare p)) = told 0 p.json no_fields fields value
left_by fields value (Err n) = left n fields value

abbrev pub read_in : Form → ℕ → List ℕ → List ℕ → ℕ → Left
read_in form version payload fields value = left_by fields value (read_of form version payload)

-- a number that names no form is refused with 10, first
abbrev pub read_as : Option Form → ℕ → List ℕ → List ℕ → ℕ → Left
read_as (Some form) version payload fields value = read_in form version payload fields value
read_as None version payload fields value = left 10 fields value

-- what tilambok_read_rpc leaves, its result and the fields
abbrev pub tilambok_read_rpc : ℕ → ℕ → List ℕ → List ℕ → ℕ → Left
tilambok_read_rpc form version payload fields value = read_as (form_from form) version payload fields value

-- ---- the writer

-- where the JSON begins: "At version 1 RPC alone has no such header"
unfoldable pub start : Form → ℕ → ℕ
start form version = pick (is_bare form version) 0 12

-- done with the place where the JSON begins; so many bytes and those of JSON and bulk data are written. Else refused
abbrev pub written_from : ℕ → ℕ → Answer ℕ ℕ → Result
written_from begins value (Ok n) = done begins
written_from begins value (Err n) = refused value n

abbrev pub answered_from : ℕ → ℕ → Wrote → Left
answered_from begins value w = record { result = written_from begins value w.answer; lent = w.out }

abbrev pub write_in : Form → ℕ → Header → ℕ → List ℕ → List ℕ → List ℕ → ℕ → Left
write_in form version h size json bulk out value = answered_from (start form version) value (write_of version h size json bulk out)

abbrev pub write_as : Option Form → ℕ → Fields → List ℕ → List ℕ → List ℕ → ℕ → Left
write_as (Some form) version f json bulk out value = write_in form version (header_of form f) f.size json bulk out value
write_as None version f json bulk out value = left 10 out value

-- what tilambok_write_rpc leaves, its result and the out buffer
abbrev pub tilambok_write_rpc : ℕ → ℕ → Fields → List ℕ → List ℕ → List ℕ → ℕ → Left
tilambok_write_rpc form version f json bulk out value = write_as (form_from form) version f json bulk out value
