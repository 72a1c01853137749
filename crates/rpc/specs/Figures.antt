-- Marked cases of our own, as one list, and what it says of each: the payload is read as that, and what was read is written as those bytes.
-- Numbers are hexadecimal as document 02 has them; 7B 7D is the JSON {}. Proved in proofs/Figures. Assumes nothing.
use Rattle.std.specs.Prelude.{ℕ, List, [], ◌∷◌, ◌≡◌, Result, Ok, Err}
use Rattle.rpc.specs.Read.{json_part, bulk_part, read_of}
use Rattle.rpc.specs.Write.{message_bytes}
use Rattle.rpc.specs.declared.Form.{Form}
use Rattle.rpc.specs.declared.Form.TheVariants.{Rpc, Bulk, Query}
use Rattle.rpc.specs.declared.Header.TheVariants.{OfRpc, OfBulk, OfQuery}
use Rattle.rpc.specs.declared.Content.{Content}
use Rattle.rpc.specs.declared.Content.TheVariants.{Message, Bare}

pub record Figure : Type 0 where
  pub form : Form
  pub version : ℕ
  pub bytes : List ℕ
  pub answer : Result Content ℕ
  pub json : List ℕ
  pub bulk : List ℕ

-- a request: type 0, function id 1, correlation id 5
abbrev request : Figure
request = record {
  form = Rpc;
  version = 5;
  bytes = 0x00 ∷ 0x00 ∷ 0x00 ∷ 0x01 ∷ 0x00 ∷ 0x00 ∷ 0x00 ∷ 0x05 ∷ 0x00 ∷ 0x00 ∷ 0x00 ∷ 0x02 ∷ 0x7B ∷ 0x7D ∷ [];
  answer = Ok (Message (OfRpc (record { kind = 0; function = record { 0 = 1 }; correlation = record { 0 = 5 } })) 2 (record { json = 12; bulk = 14; end = 14 }));
  json = 0x7B ∷ 0x7D ∷ [];
  bulk = [];
}

-- its response, with a correlation id of four unlike bytes
abbrev response : Figure
response = record {
  form = Rpc;
  version = 2;
  bytes = 0x10 ∷ 0x00 ∷ 0x00 ∷ 0x01 ∷ 0x0A ∷ 0x0B ∷ 0x0C ∷ 0x0D ∷ 0x00 ∷ 0x00 ∷ 0x00 ∷ 0x02 ∷ 0x7B ∷ 0x7D ∷ [];
  answer = Ok (Message (OfRpc (record { kind = 1; function = record { 0 = 1 }; correlation = record { 0 = 0x0A0B0C0D } })) 2
      (record { json = 12; bulk = 14; end = 14 }));
  json = 0x7B ∷ 0x7D ∷ [];
  bulk = [];
}

-- "JSON then bulk data", at version 1 too
abbrev bulk_message : Figure
bulk_message = record {
  form = Bulk;
  version = 1;
  bytes = 0x00 ∷ 0x00 ∷ 0x00 ∷ 0x20 ∷ 0x00 ∷ 0x00 ∷ 0x00 ∷ 0x07 ∷ 0x00 ∷ 0x00 ∷ 0x00 ∷ 0x02 ∷ 0x7B ∷ 0x7D ∷ 0xFF ∷ 0xD8 ∷ 0xFF ∷ [];
  answer = Ok (Message (OfBulk (record { kind = 0; function = record { 0 = 0x20 }; correlation = record { 0 = 7 } })) 2 (record { json = 12; bulk = 14; end = 17 }));
  json = 0x7B ∷ 0x7D ∷ [];
  bulk = 0xFF ∷ 0xD8 ∷ 0xFF ∷ [];
}

-- a handshake: type 10, query id 1, sequence number 9, no JSON and two bytes of binary data
abbrev handshake : Figure
handshake = record {
  form = Query;
  version = 5;
  bytes = 0x10 ∷ 0x00 ∷ 0x00 ∷ 0x01 ∷ 0x00 ∷ 0x00 ∷ 0x00 ∷ 0x09 ∷ 0x00 ∷ 0x00 ∷ 0x00 ∷ 0x00 ∷ 0x16 ∷ 0x03 ∷ [];
  answer = Ok (Message (OfQuery (record { kind = 0x10; query = record { 0 = 1 }; sequence = record { 0 = 9 } })) 0 (record { json = 12; bulk = 12; end = 14 }));
  json = [];
  bulk = 0x16 ∷ 0x03 ∷ [];
}

-- "its payload is all JSON"
abbrev bare : Figure
bare = record {
  form = Rpc;
  version = 1;
  bytes = 0x7B ∷ 0x7D ∷ [];
  answer = Ok (Bare (record { json = 0; bulk = 2; end = 2 }));
  json = 0x7B ∷ 0x7D ∷ [];
  bulk = [];
}

abbrev refused : ℕ → Form → ℕ → List ℕ → Figure
refused n form version bytes = record { form = form; version = version; bytes = bytes; answer = Err n; json = []; bulk = [] }

-- 1 before 40; 11 bytes; type 3; query id 3, with a JSON size past the end too; a JSON size of 3 before two bytes; a byte behind the JSON
abbrev pub figures : List Figure
figures =
    request
    ∷ response
    ∷ bulk_message
    ∷ handshake
    ∷ bare
    ∷ refused 1 Query 6 []
    ∷ refused 40 Rpc 5 (0 ∷ 0 ∷ 0 ∷ 1 ∷ 0 ∷ 0 ∷ 0 ∷ 5 ∷ 0 ∷ 0 ∷ 0 ∷ [])
    ∷ refused 41 Bulk 5 (0x30 ∷ 0 ∷ 0 ∷ 1 ∷ 0 ∷ 0 ∷ 0 ∷ 5 ∷ 0 ∷ 0 ∷ 0 ∷ 0 ∷ [])
    ∷ refused 42 Query 5 (0 ∷ 0 ∷ 0 ∷ 3 ∷ 0 ∷ 0 ∷ 0 ∷ 9 ∷ 0 ∷ 0 ∷ 0 ∷ 1 ∷ [])
    ∷ refused 43 Bulk 5 (0 ∷ 0 ∷ 0 ∷ 1 ∷ 0 ∷ 0 ∷ 0 ∷ 5 ∷ 0 ∷ 0 ∷ 0 ∷ 3 ∷ 0x7B ∷ 0x7D ∷ [])
    ∷ refused 44 Rpc 5 (0 ∷ 0 ∷ 0 ∷ 1 ∷ 0 ∷ 0 ∷ 0 ∷ 5 ∷ 0 ∷ 0 ∷ 0 ∷ 2 ∷ 0x7B ∷ 0x7D ∷ 0 ∷ [])
    ∷ []

-- a refusal carries nothing
abbrev Carries : Figure → Result Content ℕ → Type 0
Carries f (Ok (Message h size p)) = (json_part f.bytes p ≡ f.json) × ((bulk_part f.bytes p ≡ f.bulk) × (message_bytes h size f.json f.bulk ≡ f.bytes))
Carries f (Ok (Bare p)) = (json_part f.bytes p ≡ f.json) × (bulk_part f.bytes p ≡ f.bulk)
Carries f (Err n) = Unit {0}

abbrev pub AllRight : List Figure → Type 0
AllRight [] = Unit {0}
AllRight (f ∷ fs) = ((read_of f.form f.version f.bytes ≡ f.answer) × Carries f f.answer) × AllRight fs
