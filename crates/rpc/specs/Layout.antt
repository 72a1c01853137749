-- The layout of the 12 bytes, once for the three forms, and the kinds that its numbers have in each. Document 02, request A1: "the 12-byte RPC header (RPC type
-- 4 bits, function id 28, correlation id 32, JSON size 32)", "the security query header (type 8, id 24, sequence number 32, JSON size 32)".
-- Assumes nothing.
use Rattle.std.specs.Prelude.{ℕ, ◌+◌, ◌*◌, ◌/◌, ◌%◌, List, ◌++◌}
use Rattle.numbers.specs.Bytes.{part}
use Rattle.numbers.specs.Numbers.{value_be, bytes_be}
use Rattle.rpc.specs.Rules.{id_span}
use Rattle.rpc.specs.declared.Form.{Form}
use Rattle.rpc.specs.declared.Form.TheVariants.{Rpc, Bulk, Query}
use Rattle.rpc.specs.declared.Fields.{Fields}
use Rattle.rpc.specs.declared.FunctionHeader.{FunctionHeader}
use Rattle.rpc.specs.declared.QueryHeader.{QueryHeader}
use Rattle.rpc.specs.declared.Header.{Header}
use Rattle.rpc.specs.declared.Header.TheVariants.{OfRpc, OfBulk, OfQuery}

-- the 12 bytes: a word of type and id, a number, the JSON size; "numbers as in headers", most significant byte first
unfoldable pub layout_bytes : Form → Fields → List ℕ
layout_bytes form f = bytes_be 4 (f.kind * id_span form + f.id) ++ bytes_be 4 f.number ++ bytes_be 4 f.size

-- the same, taken apart
unfoldable pub fields_in : Form → List ℕ → Fields
fields_in form s = record {
  kind = value_be (part s 0 4) / id_span form;
  id = value_be (part s 0 4) % id_span form;
  number = value_be (part s 4 4);
  size = value_be (part s 8 4);
}

-- RPC and bulk have function id and correlation id, a query its id and sequence number
abbrev pub function_of : Fields → FunctionHeader
function_of f = record { kind = f.kind; function = record { 0 = f.id }; correlation = record { 0 = f.number } }

abbrev pub query_of : Fields → QueryHeader
query_of f = record { kind = f.kind; query = record { 0 = f.id }; sequence = record { 0 = f.number } }

abbrev pub header_of : Form → Fields → Header
header_of Rpc f = OfRpc (function_of f)
header_of Bulk f = OfBulk (function_of f)
header_of Query f = OfQuery (query_of f)

-- and back
abbrev pub form_in : Header → Form
form_in (OfRpc h) = Rpc
form_in (OfBulk h) = Bulk
form_in (OfQuery h) = Query

abbrev pub function_fields : FunctionHeader → ℕ → Fields
function_fields h size = record { kind = h.kind; id = h.function.0; number = h.correlation.0; size = size }

abbrev pub query_fields : QueryHeader → ℕ → Fields
query_fields h size = record { kind = h.kind; id = h.query.0; number = h.sequence.0; size = size }

abbrev pub fields_of : Header → ℕ → Fields
fields_of (OfRpc h) size = function_fields h size
fields_of (OfBulk h) size = function_fields h size
fields_of (OfQuery h) size = query_fields h size
