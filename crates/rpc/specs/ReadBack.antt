-- Reader and writer undo each other, what the parts of a payload are, and when exactly each refusal is given: the statements that are proved in
-- proofs/ThereAndBack and proofs/Answers. Document 02, request A1.
-- Assumes nothing.
use Rattle.std.specs.Prelude.{ℕ, ◌-◌, ◌^◌, ◌≤◌, ◌<◌, true, false, List, [], ◌≡◌, Ok, Err, length, take}
use Rattle.numbers.specs.Bytes.{pick, AreBytes, laid}
use Rattle.frame.specs.Rules.{known_version}
use Rattle.frame.specs.Write.{wrote}
use Rattle.rpc.specs.Rules.{is_rpc, is_bare, kind_fits, id_fits}
use Rattle.rpc.specs.Layout.{fields_in, form_in, fields_of}
use Rattle.rpc.specs.Read.{json_part, bulk_part, read_of}
use Rattle.rpc.specs.Write.{write_of}
use Rattle.rpc.specs.declared.Form.{Form}
use Rattle.rpc.specs.declared.Header.{Header}
use Rattle.rpc.specs.declared.Parts.{Parts}
use Rattle.rpc.specs.declared.Content.TheVariants.{Message, Bare}

-- correlation id, sequence number and JSON size are u32
pub record AreU32 (h : Header) (size : ℕ) : Type 0 where
  pub number : (fields_of h size).number < 2 ^ 32
  pub json_size : size < 2 ^ 32

-- some bytes are read as this header, JSON and bulk data; RPC at version 1 as the JSON alone: there "the header isn't read back"
pub record ReadsAs (version : ℕ) (bytes : List ℕ) (h : Header) (size : ℕ) (json bulk : List ℕ) : Type 0 where
  pub parts : Parts
  pub read : read_of (form_in h) version bytes ≡ pick (is_bare (form_in h) version) (Ok (Bare parts)) (Ok (Message h size parts))
  pub json_is : json_part bytes parts ≡ json
  pub bulk_is : bulk_part bytes parts ≡ bulk

-- what is written is read back, in every form and version: the bytes that `rpc::write` left at the front of out, whatever stood there
abbrev pub WrittenReadBack : Type 0
WrittenReadBack =
    (version : ℕ) (h : Header) (size n : ℕ) (json bulk out left : List ℕ) → AreU32 h size → write_of version h size json bulk out ≡ wrote (Ok n) left
    → ReadsAs version (take n left) h size json bulk

-- the other way round: a payload that `rpc::read` read, written again where there is room, is the same bytes
abbrev pub WrittenAgain : Type 0
WrittenAgain =
    (form : Form) (version : ℕ) (s : List ℕ) (h : Header) (size : ℕ) (p : Parts) (out : List ℕ) → AreBytes s → read_of form version s ≡ Ok (Message h size p)
    → length s ≤ length out → write_of version h size (json_part s p) (bulk_part s p) out ≡ wrote (Ok (length s)) (laid s out)

-- at version 1 with any header of the RPC form and any JSON size
abbrev pub BareAgain : Type 0
BareAgain =
    (form : Form) (version : ℕ) (s : List ℕ) (h : Header) (size : ℕ) (p : Parts) (out : List ℕ) → read_of form version s ≡ Ok (Bare p) → is_rpc (form_in h) ≡ true
    → length s ≤ length out → write_of version h size (json_part s p) (bulk_part s p) out ≡ wrote (Ok (length s)) (laid s out)

-- "bulk being payload minus 12 minus JSON size", and the JSON has its size; at version 1 RPC "its payload is all JSON"
pub record PartsFit : Type 0 where
  pub json : (form : Form) (version : ℕ) (s : List ℕ) (h : Header) (size : ℕ) (p : Parts) → read_of form version s ≡ Ok (Message h size p)
      → length (json_part s p) ≡ size
  pub bulk : (form : Form) (version : ℕ) (s : List ℕ) (h : Header) (size : ℕ) (p : Parts) → read_of form version s ≡ Ok (Message h size p)
      → length (bulk_part s p) ≡ length s - 12 - size
  pub bare : (form : Form) (version : ℕ) (s : List ℕ) (p : Parts) → read_of form version s ≡ Ok (Bare p) → (json_part s p ≡ s) × (bulk_part s p ≡ [])

-- a payload whose 12 bytes are judged: "after 1 on the version", and not RPC at version 1
pub record Judged (form : Form) (version : ℕ) : Type 0 where
  pub known : known_version version ≡ true
  pub headed : is_bare form version ≡ false

-- why a payload is refused with a number: the tests before it passed, and its own did not
pub data Reason (form : Form) (version : ℕ) (s : List ℕ) : ℕ → Type 0 where
  -- 1 "on the version"
  unknown : known_version version ≡ false → Reason form version s 1
  -- "40 payload under 12 bytes"
  short : Judged form version → length s < 12 → Reason form version s 40
  -- "41 type not 0 to 2 (query: not 00, 10, 20 or FF)"
  kind : Judged form version → 12 ≤ length s → kind_fits form (fields_in form s).kind ≡ false → Reason form version s 41
  -- "42 query id not 1, 2 or FFFFFF"
  id : Judged form version → 12 ≤ length s → kind_fits form (fields_in form s).kind ≡ true → id_fits form (fields_in form s).id ≡ false
      → Reason form version s 42
  -- "43 JSON size past the end"
  past : Judged form version → 12 ≤ length s → kind_fits form (fields_in form s).kind ≡ true → id_fits form (fields_in form s).id ≡ true
      → length s - 12 < (fields_in form s).size → Reason form version s 43
  -- "44 bytes after the JSON on RPC"
  after : Judged form version → 12 ≤ length s → kind_fits form (fields_in form s).kind ≡ true → id_fits form (fields_in form s).id ≡ true
      → (fields_in form s).size < length s - 12 → is_rpc form ≡ true → Reason form version s 44

-- a payload is refused with a number exactly if there is this reason; the answer is one, so it is refused by one number
pub record Refusals : Type 0 where
  pub why : (form : Form) (version : ℕ) (s : List ℕ) (n : ℕ) → read_of form version s ≡ Err n → Reason form version s n
  pub so : (form : Form) (version : ℕ) (s : List ℕ) (n : ℕ) → Reason form version s n → read_of form version s ≡ Err n
