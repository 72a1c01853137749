-- The writer: header, JSON and bulk data to the front of a buffer. Document 02, request A1.
-- Assumes nothing.
use Rattle.std.specs.Prelude.{ℕ, List, ◌++◌, Err, eqb, length}
use Rattle.numbers.specs.Bytes.{pick, unless}
use Rattle.frame.specs.Rules.{known_version}
use Rattle.frame.specs.Write.{Wrote, wrote, put_of}
use Rattle.rpc.specs.Rules.{is_bare, fault_of}
use Rattle.rpc.specs.Layout.{layout_bytes, form_in, fields_of}
use Rattle.rpc.specs.declared.Header.{Header}

-- the header, "JSON then bulk data"
abbrev pub message_bytes : Header → ℕ → List ℕ → List ℕ → List ℕ
message_bytes h size json bulk = layout_bytes (form_in h) (fields_of h size) ++ json ++ bulk

-- "then 43 if the JSON size isn't the JSON's length, 44 for bulk on RPC"
abbrev pub fault_for : Header → ℕ → List ℕ → List ℕ → ℕ
fault_for h size json bulk = fault_of (form_in h) (fields_of h size) (eqb size (length json)) (eqb (length bulk) 0)

-- 41 to 44, then 11
unfoldable pub whole_of : Header → ℕ → List ℕ → List ℕ → List ℕ → Wrote
whole_of h size json bulk out =
    unless (eqb (fault_for h size json bulk) 0) (wrote (Err (fault_for h size json bulk)) out) (put_of (message_bytes h size json bulk) out)

-- version 1's RPC: "its payload is all JSON, 40 to 43 don't apply", 44 and 11 do
unfoldable pub bare_of : List ℕ → List ℕ → List ℕ → Wrote
bare_of json bulk out = unless (eqb (length bulk) 0) (wrote (Err 44) out) (put_of json out)

-- "The writer gives 1, 41, 42, then 43 .., 44 .., then 11."
unfoldable pub write_of : ℕ → Header → ℕ → List ℕ → List ℕ → List ℕ → Wrote
write_of version h size json bulk out =
    unless (known_version version) (wrote (Err 1) out)
    (pick (is_bare (form_in h) version) (bare_of json bulk out) (whole_of h size json bulk out))
