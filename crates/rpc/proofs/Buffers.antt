-- The writer's laws: the 12 bytes and what follows them, laid piece by piece.
-- Assumes nothing.
use Prim.Native.Nat.{ℕ, ◌+◌, ◌-◌, ◌*◌, ◌≤◌}
use mathlib.Core.Path.{◌≡◌, refl, ap, ◌∙◌}
use mathlib.Core.List.{List, [], ◌++◌}
use native.Mathlib.Omega.{arith}
use lib.ListN.{length, length-append}
use borrow.Rule.Slice.PartMut.{put_mid}
use Rattle.numbers.specs.Bytes.{put_at, laid}
use Rattle.numbers.specs.Numbers.{bytes_be}
use Rattle.numbers.proofs.Laws.{length_be}
use Rattle.frame.proofs.Buffers.{number_put, bytes_put}
use Rattle.rpc.specs.Rules.{id_span}
use Rattle.rpc.specs.Layout.{layout_bytes, form_in, fields_of}
use Rattle.rpc.specs.Write.{message_bytes}
use Rattle.rpc.specs.declared.Form.{Form}
use Rattle.rpc.specs.declared.Fields.{Fields}
use Rattle.rpc.specs.declared.Header.{Header}
use Rattle.rpc.proofs.Forms.{no_fault}

-- so many bytes the header has, and the header with the JSON
three_length : (x y z : ℕ) → length (bytes_be 4 x ++ bytes_be 4 y ++ bytes_be 4 z) ≡ 12
three_length x y z =
    rw (length-append (bytes_be 4 x ++ bytes_be 4 y) (bytes_be 4 z), length-append (bytes_be 4 x) (bytes_be 4 y), length_be 4 x, length_be 4 y, length_be 4 z)

pub layout_length : (form : Form) (f : Fields) → length (layout_bytes form f) ≡ 12
unfolding layout_bytes
layout_length form f = three_length _ _ _

pub front_length : (form : Form) (f : Fields) (json : List ℕ) → length (layout_bytes form f ++ json) ≡ 12 + length json
front_length form f json = length-append (layout_bytes form f) json ∙ ap (λ (n : ℕ). n + length json) (layout_length form f)

-- header, JSON and bulk data, put one behind the other
module _ (form : Form) (f : Fields) (json bulk o : List ℕ) (room : 12 + length json + length bulk ≤ length o) where
  pub whole_laid : (word : ℕ) (p₁ p₂ p₃ p₄ p₅ r₁ r₂ : List ℕ) → word ≡ f.kind * id_span form + f.id → p₁ ≡ put_at o 0 4 (bytes_be 4 word)
      → p₂ ≡ put_at p₁ 4 4 (bytes_be 4 f.number) → p₃ ≡ put_at p₂ 8 4 (bytes_be 4 f.size) → r₁ ≡ json → p₄ ≡ put_mid 12 (12 + length json - 12) p₃ r₁
      → r₂ ≡ bulk → p₅ ≡ put_mid (12 + length json) (12 + length json + length bulk - (12 + length json)) p₄ r₂
      → p₅ ≡ laid (layout_bytes form f ++ json ++ bulk) o
  unfolding layout_bytes
  whole_laid word p₁ p₂ p₃ p₄ p₅ r₁ r₂ v e₁ e₂ e₃ c₁ e₄ c₂ e₅ =
      let w : List ℕ = bytes_be 4 (f.kind * id_span form + f.id) in
      let n : List ℕ = bytes_be 4 f.number in
      let z : List ℕ = bytes_be 4 f.size in
      let l₁ : length w ≡ 4 = length_be 4 (f.kind * id_span form + f.id) in
      let l₂ : length (w ++ n) ≡ 8 = length-append w n ∙ omega (arith, length_be 4 f.number) in
      let q₁ : p₁ ≡ laid w o = number_put [] (f.kind * id_span form + f.id) 0 o o p₁ refl (omega arith) refl (rw v at e₁) in
      let q₂ : p₂ ≡ laid (w ++ n) o = number_put w f.number 4 o p₁ p₂ l₁ (omega arith) q₁ e₂ in
      let q₃ : p₃ ≡ laid (w ++ n ++ z) o = number_put (w ++ n) f.size 8 o p₂ p₃ l₂ (omega arith) q₂ e₃ in
      let q₄ : p₄ ≡ laid (w ++ n ++ z ++ json) o = bytes_put (w ++ n ++ z) json o p₃ p₄ r₁ 12 (layout_length form f) q₃ c₁ e₄ in
      bytes_put (w ++ n ++ z ++ json) bulk o p₄ p₅ r₂ (12 + length json) (front_length form f json) q₄ c₂ e₅

pub message_length : (h : Header) (size : ℕ) (json bulk : List ℕ) → length (message_bytes h size json bulk) ≡ 12 + length json + length bulk
message_length h size json bulk =
    length-append (layout_bytes (form_in h) (fields_of h size) ++ json) bulk
    ∙ ap (λ (n : ℕ). n + length bulk) (front_length (form_in h) (fields_of h size) json)

-- what the check needs to know of a message with a header
pub ruleset whole = (message_length, no_fault)
