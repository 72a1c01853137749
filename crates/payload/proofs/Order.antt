-- The order of the refusals, in document 01's words: "30 comes first, then the first fault in byte order; an element is judged by type,
-- key, 34, then value"; 33 is "judged before its length". Each by the definition's own tests; the first fault by induction on the elements
-- before it. Assumes nothing.
use Prim.Native.Nat.{ℕ, zero, suc, ◌+◌, ◌-◌, ◌≤◌, ◌<◌}
use mathlib.Core.Path.{◌≡◌, refl, sym, subst}
use mathlib.Core.List.{List}
use mathlib.Core.Bool.{Bool, true, false}
use native.Mathlib.Omega.{arith}
use lib.ListN.{length, get_or}
use lib.Dec.{eqb}
use borrow.Author.Tests.{lt-ltb, le-ltb, ne_eqb, le-leb, lt-leb}
use Rattle.std.specs.Prelude.{Option, Some, None, Result, Ok, Err}
use Rattle.numbers.specs.Bytes.{part}
use Rattle.numbers.specs.Numbers.{value_le}
use Rattle.numbers.proofs.Choices.{either, unless_elim}
use Rattle.payload.specs.Tags.{clashes, no_tags}
use Rattle.payload.specs.Walk.{Head, Walk, read_type, plain_of, tag_at, key_stop, head_of, past_plain, past_nested, Nested, value_of, element_of, and_then, elements, document_fits, document_of, answer, length_fits, payload_of}
use Rattle.payload.specs.declared.Tags.{Tags}
use Rattle.payload.specs.declared.Tag.{Tag}
use Rattle.payload.proofs.Within.{head_by, element_by, elements_by, Inside, WalkIn, element_in}

-- an element: a type that is not read is 31, whatever follows it
module _ (nested : Nested) (top : Bool) (s : List ℕ) (at end : ℕ) (t : Tags) where
  pub type_first : read_type (get_or s at 0) ≡ false → element_of nested top s at end t ≡ Err 31
  unfolding element_of head_of
  type_first a = rw a

  -- a key that runs past its document is 32, whatever tag it would name
  pub key_second : read_type (get_or s at 0) ≡ true → end ≤ key_stop s at end → element_of nested top s at end t ≡ Err 32
  unfolding element_of head_of
  key_second a b = rw (a, le-ltb (key_stop s at end) end b)

  -- a known tag that comes twice or has another type is 34, whatever its value is
  pub tag_third : read_type (get_or s at 0) ≡ true → key_stop s at end < end → clashes t (tag_at top s (at + 1) (key_stop s at end)) (get_or s at 0) ≡ true → element_of nested top s at end t ≡ Err 34
  unfolding element_of head_of
  tag_third a b c = rw (a, lt-ltb (key_stop s at end) end b, c)

  -- only then its value is looked at
  pub value_last : read_type (get_or s at 0) ≡ true → key_stop s at end < end → clashes t (tag_at top s (at + 1) (key_stop s at end)) (get_or s at 0) ≡ false
      → element_of nested top s at end t ≡ value_of nested s end t (Ok (get_or s at 0, tag_at top s (at + 1) (key_stop s at end), key_stop s at end + 1))
  unfolding element_of head_of
  value_last a b c = rw (a, lt-ltb (key_stop s at end) end b, c)

-- a document: where no level is left it is 33, whatever its length says
pub depth_before_length : (top : Bool) (s : List ℕ) (at end : ℕ) (t : Tags) → document_of 0 top s at end t ≡ Err 33
unfolding document_of
depth_before_length top s at end t = refl

-- a length past the end of the document around it is 32, whatever stands inside
pub length_before_inside : (levels : ℕ) (top : Bool) (s : List ℕ) (at end : ℕ) (t : Tags) → 4 ≤ end - at → 5 ≤ value_le (part s at 4) → end - at < value_le (part s at 4)
    → document_of (suc levels) top s at end t ≡ Err 32
unfolding document_of
length_before_inside levels top s at end t a b c = rw (le-leb 4 (end - at) a, le-leb 5 (value_le (part s at 4)) b, lt-leb (value_le (part s at 4)) (end - at) c)

-- of several elements the first that is refused decides
module _ (nested : Nested) (i : Inside nested) (top : Bool) (s : List ℕ) (end : ℕ) where
  -- the elements from at, with the tags t, up to n, with the tags u, are accepted
  pub data Passed : ℕ → Tags → ℕ → Tags → Type 0 where
    none_more : {at : ℕ} {t : Tags} → Passed at t at t
    one_more : {at : ℕ} {t : Tags} {n : ℕ} {u : Tags} {m : ℕ} {w : Tags} → at < end → (get_or s at 0 ≡ 0 → ⊥) → element_of nested top s at end t ≡ Ok (n, u) → Passed n u m w → Passed at t m w

  pub first_fault : {at : ℕ} {t : Tags} {n : ℕ} {u : Tags} → Passed at t n u → (bound k : ℕ) → end - at ≤ bound → n < end → (get_or s n 0 ≡ 0 → ⊥) → element_of nested top s n end u ≡ Err k
      → elements bound nested top s at end t ≡ Err k
  unfolding elements
  first_fault none_more zero k l h z e = absurd (omega arith)
  first_fault {at = at} none_more (suc bound) k l h z e = rw (lt-ltb at end h, ne_eqb (get_or s at 0) 0 z, e)
  first_fault (one_more a b c r) zero k l h z e = absurd (omega arith)
  first_fault {at = at} {t = t} (one_more {n = n} {u = u} a b c r) (suc bound) k l h z e =
      let j : WalkIn (at + 1) end (Ok (n, u)) = subst (WalkIn (at + 1) end) c (element_in nested i top s at end t) in
      rw (lt-ltb at end a, ne_eqb (get_or s at 0) 0 b, c) (first_fault r bound k (omega arith) h z e)

-- the faults of a walk are 31 to 34
abbrev HeadRange : Head → Type 0
HeadRange (Ok (kind, tag, v)) = Unit {0}
HeadRange (Err k) = (31 ≤ k) × (k ≤ 34)

abbrev pub WalkRange : Walk → Type 0
WalkRange (Ok (n, t)) = Unit {0}
WalkRange (Err k) = (31 ≤ k) × (k ≤ 34)

head_range : (top : Bool) (s : List ℕ) (at end : ℕ) (t : Tags) → HeadRange (head_of top s at end t)
head_range top s at end t = head_by HeadRange top s at end t (omega arith) (omega arith) (omega arith) (λ l c. tt)

plain_range : (s : List ℕ) (w : Option ℕ) (t : Tags) (tag : Tag) (v : ℕ) → WalkRange (past_plain s w t tag v)
plain_range s (Some n) t tag v = tt
plain_range s None t tag v = omega arith

nested_range : (s : List ℕ) (w : Walk) (tag : Tag) (v : ℕ) → WalkRange w → WalkRange (past_nested s w tag v)
nested_range s (Ok (n, t)) tag v h = tt
nested_range s (Err k) tag v h = h

then_range : (w : Walk) (rest : ℕ → Tags → Walk) → WalkRange w → ((n : ℕ) (t : Tags) → WalkRange (rest n t)) → WalkRange (and_then w rest)
then_range (Ok (n, t)) rest h r = r n t
then_range (Err k) rest h r = h

module _ (nested : Nested) (r : (v end : ℕ) (t : Tags) → WalkRange (nested v end t)) (top : Bool) (s : List ℕ) where
  element_range : (at end : ℕ) (t : Tags) → WalkRange (element_of nested top s at end t)
  element_range at end t =
      element_by WalkRange HeadRange nested top s at end t (head_range top s at end t) (λ k h. h)
      (λ kind tag v h e. nested_range s (nested v end t) tag v (r v end t))
      (λ kind tag v h e. plain_range s (plain_of s v end kind) t tag v)

  elements_range : (bound at end : ℕ) (t : Tags) → WalkRange (elements bound nested top s at end t)
  elements_range bound at end t =
      elements_by (λ (u : Tags) (w : Walk). WalkRange w) nested top s end (λ u. omega arith) (λ u. tt) (λ i u rest h. then_range (element_of nested top s i end u) rest (element_range i end u) h) bound at t

pub document_range : (levels : ℕ) (top : Bool) (s : List ℕ) (at end : ℕ) (t : Tags) → WalkRange (document_of levels top s at end t)
unfolding document_of
document_range zero top s at end t = omega arith
document_range (suc levels) top s at end t =
    unless_elim WalkRange (document_fits at end (value_le (part s at 4))) (Err 32) _ (λ e. omega arith)
    (λ e. elements_range (document_of levels false s) (document_range levels false s) top s (value_le (part s at 4)) (at + 4) (at + value_le (part s at 4)) t)

-- "30 comes first": whatever the bytes hold, where their number or the document's length is wrong
pub length_first : (s : List ℕ) → (length s ≡ 0 → ⊥) → length_fits s ≡ false → payload_of s ≡ Err 30
unfolding payload_of
length_first s z e = rw (ne_eqb (length s) 0 z, e)

-- and 30 is given nowhere else; a refusal is 30 to 34
abbrev pub Refusal : Bool → Result Tags ℕ → Type 0
Refusal fits (Ok t) = Unit {0}
Refusal true (Err k) = (31 ≤ k) × (k ≤ 34)
Refusal false (Err k) = k ≡ 30

answer_range : (w : Walk) → WalkRange w → Refusal true (answer w)
answer_range (Ok (n, t)) h = tt
answer_range (Err k) h = h

pub refusal_range : (s : List ℕ) → Refusal (length_fits s) (payload_of s)
unfolding payload_of
refusal_range s =
    either (Refusal (length_fits s)) (eqb (length s) 0) _ _ (λ e. tt)
    (λ e. unless_elim (Refusal (length_fits s)) (length_fits s) (Err 30) _
    (λ f. subst (λ (b : Bool). Refusal b (Err 30)) (sym f) refl)
    (λ f. subst (λ (b : Bool). Refusal b (answer (document_of 8 true s 0 (length s) no_tags))) (sym f) (answer_range (document_of 8 true s 0 (length s) no_tags) (document_range 8 true s 0 (length s) no_tags))))
