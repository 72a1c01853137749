-- The laws of specs/Rules: what the forms' values leave room for, and what a message without fault says.
-- Assumes nothing.
use Prim.Native.Nat.{ℕ, ◌+◌, ◌*◌, ◌/◌, ◌^◌, ◌≤◌, ◌<◌}
use mathlib.Core.Path.{◌≡◌, refl, ap}
use mathlib.Core.Bool.{Bool, true, false, ◌||◌}
use mathlib.Core.List.{[], ◌∷◌}
use native.Mathlib.Omega.{arith}
use lib.Dec.{eqb, leb, ltb}
use borrow.Author.Tests.{leb-true, ltb-true, eqb-true}
use Rattle.numbers.specs.Bytes.{pick}
use Rattle.numbers.proofs.Choices.{either}
use Rattle.frame.specs.Rules.{is_in}
use Rattle.frame.proofs.Laws.{passed}
use Rattle.rpc.specs.Rules.{is_query, id_span, kind_fits, id_fits, may_end, fault_of}
use Rattle.rpc.specs.declared.Form.{Form}
use Rattle.rpc.specs.declared.Fields.{Fields}

not_both : false ≡ true → ⊥
not_both e =
    let z : ◌≡◌ {A = ℕ} 0 1 = ap (λ (b : Bool). pick b 1 0) e in
    omega arith

or_cases : {X : Type 0} (a b : Bool) → a || b ≡ true → (a ≡ true → X) → (b ≡ true → X) → X
or_cases true b e f g = f refl
or_cases false b e f g = g e

pub span_some : (form : Form) → 0 < id_span form
unfolding id_span
span_some form = either (λ (n : ℕ). 0 < n) (is_query form) (2 ^ 24) (2 ^ 28) (λ e. omega arith) (λ e. omega arith)

-- the type of a word is a byte
pub kind_byte : (form : Form) (w : ℕ) → w < 2 ^ 32 → w / id_span form < 256
unfolding id_span
kind_byte form w h = either (λ (n : ℕ). w / n < 256) (is_query form) (2 ^ 24) (2 ^ 28) (λ e. omega arith) (λ e. omega arith)

query_id : (id : ℕ) → is_in id (1 ∷ 2 ∷ 0xFFFFFF ∷ []) ≡ true → id < 2 ^ 24
query_id id e =
    or_cases (eqb id 1) _ e (λ t. omega (arith, eqb-true id 1 t))
    (λ f. or_cases (eqb id 2) _ f (λ t. omega (arith, eqb-true id 2 t))
    (λ g. or_cases (eqb id 0xFFFFFF) false g (λ t. omega (arith, eqb-true id 0xFFFFFF t)) (λ z. absurd (not_both z))))

-- an id that fits has room below the type
pub id_below : (form : Form) (id : ℕ) → id_fits form id ≡ true → id < id_span form
unfolding id_span id_fits
id_below form id e = below (is_query form) e
  where
    below : (q : Bool) → pick q (is_in id (1 ∷ 2 ∷ 0xFFFFFF ∷ [])) (ltb id (2 ^ 28)) ≡ true → id < pick q (2 ^ 24) (2 ^ 28)
    below true t = query_id id t
    below false t = ltb-true id (2 ^ 28) t

query_kind : (kind : ℕ) → is_in kind (0x00 ∷ 0x10 ∷ 0x20 ∷ 0xFF ∷ []) ≡ true → kind ≤ 0xFF
query_kind kind e =
    or_cases (eqb kind 0) _ e (λ t. omega (arith, eqb-true kind 0 t))
    (λ f. or_cases (eqb kind 0x10) _ f (λ t. omega (arith, eqb-true kind 0x10 t))
    (λ g. or_cases (eqb kind 0x20) _ g (λ t. omega (arith, eqb-true kind 0x20 t))
    (λ k. or_cases (eqb kind 0xFF) false k (λ t. omega (arith, eqb-true kind 0xFF t)) (λ z. absurd (not_both z)))))

-- type and id, as one number of 32 bits
pub word_fits : (form : Form) (kind id : ℕ) → kind_fits form kind ≡ true → id_fits form id ≡ true → kind * id_span form + id < 2 ^ 32
unfolding id_span id_fits kind_fits
word_fits form kind id e f = fits (is_query form) e f
  where
    fits : (q : Bool) → pick q (is_in kind (0x00 ∷ 0x10 ∷ 0x20 ∷ 0xFF ∷ [])) (leb kind 2) ≡ true
        → pick q (is_in id (1 ∷ 2 ∷ 0xFFFFFF ∷ [])) (ltb id (2 ^ 28)) ≡ true
        → kind * pick q (2 ^ 24) (2 ^ 28) + id < 2 ^ 32
    fits true t u = omega (arith, query_kind kind t, query_id id u)
    fits false t u = omega (arith, leb-true kind 2 t, ltb-true id (2 ^ 28) u)

-- what a message without fault says
pub record Sound (form : Form) (f : Fields) (sized ends : Bool) : Type 0 where
  pub kind : kind_fits form f.kind ≡ true
  pub id : id_fits form f.id ≡ true
  pub size : sized ≡ true
  pub end : may_end form ends ≡ true

pub no_fault : (form : Form) (f : Fields) (sized ends : Bool) → fault_of form f sized ends ≡ 0 → Sound form f sized ends
unfolding fault_of
no_fault form f sized ends e =
    let p₁ = passed (kind_fits form f.kind) 41 _ (λ z. omega arith) e in
    let p₂ = passed (id_fits form f.id) 42 _ (λ z. omega arith) p₁.1 in
    let p₃ = passed sized 43 _ (λ z. omega arith) p₂.1 in
    let p₄ = passed (may_end form ends) 44 0 (λ z. omega arith) p₃.1 in
    record { kind = p₁.0; id = p₂.0; size = p₃.0; end = p₄.0 }

pub sound_none : (form : Form) (f : Fields) (sized ends : Bool) → Sound form f sized ends → fault_of form f sized ends ≡ 0
unfolding fault_of
sound_none form f sized ends s = rw (s.kind, s.id, s.size, s.end)
