-- Version strings there and back: what is written of a version with major 1 to 255 and the others 0 to 255 is read as that version, and every text
-- that is read as a version is what is written of it. By the digits of each part and the first dot of each text. Assumes nothing.
use Prim.Native.Nat.{ℕ, suc, ◌+◌, ◌-◌, ◌*◌, ◌/◌, ◌%◌, ◌^◌, ◌≤◌, ◌<◌}
use mathlib.Core.Path.{◌≡◌, refl, ap, ◌∙◌, sym, subst}
use mathlib.Core.Bool.{Bool, true, false, ◌&&◌}
use mathlib.Core.List.{List, [], ◌∷◌, ◌++◌}
use mathlib.Core.Logic.{◌⊎◌, inl, inr, ⊎_elim}
use native.Mathlib.Omega.{arith}
use lib.Dec.{leb, ltb, eqb}
use lib.ListN.{length, get_or}
use lib.Seq.{take_at, drop-append-add}
use borrow.Author.Tests.{le-leb, leb-true, eqb-true, eqb-false, ne_eqb}
use Rattle.std.specs.Prelude.{Option, Some, None}
use Rattle.numbers.proofs.Choices.{split}
use Rattle.lines.specs.Place.{index_of}
use Rattle.lines.specs.Text.{every}
use Rattle.lines.specs.Decimal.{is_decimal, value_from, value_of, number_of, decimal_of}
use Rattle.lines.proofs.Turns.{both}
use Rattle.lines.proofs.Characters.{says}
use Rattle.lines.proofs.Digits.{decimal_one, decimal_step, width_one, value_most}
use Rattle.lines.proofs.Laws.{decimal_digits, decimal_first, number_decimal}
use Rattle.payload.specs.Version.{version, before_dot, after_dot, spare_zero, part_of, version_from, version_of, version_text}
use Rattle.payload.specs.declared.version.Version.{Version}
use Rattle.payload.proofs.Versions.{InRange}

-- the first of a text of digits, and the others
first_digit : (b : ℕ) (t : List ℕ) → every is_decimal (b ∷ t) ≡ true → (48 ≤ b) × (b ≤ 57) × (every is_decimal t ≡ true)
first_digit b t e = let z = both (is_decimal b) (every is_decimal t) e in let y = says 48 57 b z.0 in (y.0, y.1, z.1)

-- a text of digits, then a dot: the dot is the first
dot_past : (t r : List ℕ) → every is_decimal t ≡ true → index_of 46 (t ++ 46 ∷ r) ≡ length t
unfolding index_of
dot_past [] r e = refl
dot_past (b ∷ t) r e =
    let z = first_digit b t e in
    let n : b ≡ 46 → ⊥ = λ d. omega arith in
    rw (ne_eqb b 46 n, dot_past t r z.2)

module _ (t r : List ℕ) (e : every is_decimal t ≡ true) where
  before_dot_lem : before_dot (t ++ 46 ∷ r) ≡ t
  before_dot_lem = rw (dot_past t r e) (take_at t (46 ∷ r) (length t) refl)

  after_dot_lem : after_dot (t ++ 46 ∷ r) ≡ r
  after_dot_lem = rw (dot_past t r e) (drop-append-add t (46 ∷ r) 1)

-- the text of a part is read as the part
spare_none : (n : ℕ) → spare_zero (decimal_of n) ≡ false
spare_none n =
    split (eqb n 0)
    (λ e. let z : n ≡ 0 = eqb-true n 0 e in rw (width_one n (omega arith)))
    (λ e.
    let z = eqb-false n 0 e in
    let f = decimal_first n (omega arith) in
    let d : get_or (decimal_of n) 0 0 ≡ 48 → ⊥ = λ k. omega arith in
    rw (ne_eqb (get_or (decimal_of n) 0 0) 48 d) (no (leb 2 (length (decimal_of n)))))
  where
    no : (b : Bool) → (b && false) ≡ false
    no true = refl
    no false = refl

part_read : (n : ℕ) → n < 256 → part_of (decimal_of n) ≡ Some n
unfolding part_of
part_read n h = rw (spare_none n, number_decimal n (omega arith), le-leb n 255 (omega arith))

-- a written version is read back
pub written_read : (v : Version) → 1 ≤ v.major → v.major < 256 → v.minor < 256 → v.patch < 256 → version_of (version_text v) ≡ Some v
unfolding version_of version_text version_from
written_read v l a b c =
    let x = decimal_of v.major in
    let y = decimal_of v.minor in
    let z = decimal_of v.patch in
    rw (
      before_dot_lem x (y ++ 46 ∷ z) (decimal_digits v.major),
      after_dot_lem x (y ++ 46 ∷ z) (decimal_digits v.major),
      before_dot_lem y z (decimal_digits v.minor),
      after_dot_lem y z (decimal_digits v.minor),
      part_read v.major a,
      part_read v.minor b,
      part_read v.patch c,
      le-leb 1 v.major l,
    )

-- one to three digits with no spare zero are the text of their value
digits_text : (t : List ℕ) (n : ℕ) → 0 < length t → every is_decimal t ≡ true → spare_zero t ≡ false → value_from 0 t ≡ n → n < 256 → decimal_of n ≡ t
unfolding value_from
digits_text [] n l d s e h = absurd (omega arith)
digits_text (a ∷ []) n l d s e h =
    let x = first_digit a [] d in
    let z : 48 + n ≡ a = omega arith in
    decimal_one n (omega arith) ∙ rw z
digits_text (a ∷ b ∷ []) n l d s e h =
    let x = first_digit a (b ∷ []) d in
    let y = first_digit b [] x.2 in
    let a' = eqb-false a 48 s in
    let p : 48 + n / 10 ≡ a = omega arith in
    let q : 48 + n % 10 ≡ b = omega arith in
    decimal_step n (omega arith) ∙ rw (decimal_one (n / 10) (omega arith), p, q)
digits_text (a ∷ b ∷ c ∷ []) n l d s e h =
    let x = first_digit a (b ∷ c ∷ []) d in
    let y = first_digit b (c ∷ []) x.2 in
    let z = first_digit c [] y.2 in
    let a' = eqb-false a 48 s in
    let o : 48 + n / 10 / 10 ≡ a = omega arith in
    let p : 48 + n / 10 % 10 ≡ b = omega arith in
    let q : 48 + n % 10 ≡ c = omega arith in
    decimal_step n (omega arith) ∙ rw (decimal_step (n / 10) (omega arith), decimal_one (n / 10 / 10) (omega arith), o, p, q)
digits_text (a ∷ b ∷ c ∷ d' ∷ t) n l d s e h =
    let x = first_digit a (b ∷ c ∷ d' ∷ t) d in
    let s' : eqb a 48 ≡ false = rw (le-leb 2 (length (a ∷ b ∷ c ∷ d' ∷ t)) (omega arith)) at s in
    let a' = eqb-false a 48 s' in
    absurd (omega (arith, value_most ((((0 * 10 + (a - 48)) * 10 + (b - 48)) * 10 + (c - 48)) * 10 + (d' - 48)) t))

-- a part that says a number is its text, and the number is a byte
part_text : (t : List ℕ) (n : ℕ) → part_of t ≡ Some n → (n < 256) × (decimal_of n ≡ t)
unfolding part_of number_of value_of
part_text t n e =
    split (spare_zero t) (λ s. none (rw s at e)) λ s.
    split (eqb (length t) 0) (λ k. none (rw (s, k) at e)) λ k.
    split (every is_decimal t) (λ d. split (ltb (value_from 0 t) (2 ^ 64))
    (λ m. split (leb (value_from 0 t) 255)
    (λ l.
    let f : Some (value_from 0 t) ≡ Some n = rw (s, k, d, m, l) at e in
    let g : value_from 0 t ≡ n = cc in
    let h : n < 256 = omega (arith, leb-true (value_from 0 t) 255 l) in
    (h, digits_text t n (let z = eqb-false (length t) 0 k in omega arith) d s g h))
    (λ l. none (rw (s, k, d, m, l) at e)))
    (λ m. none (rw (s, k, d, m) at e)))
    (λ d. none (rw (s, k, d) at e))
  where
    none : {X : Type 0} → ◌≡◌ {A = Option ℕ} None (Some n) → X
    none f = absurd (let z : ◌≡◌ {A = ℕ} 0 1 = cc in omega arith)

-- a text is what stands before its first dot, the dot and what follows it; or there is no dot and nothing follows
dots : (t : List ℕ) → (after_dot t ≡ []) ⊎ (before_dot t ++ 46 ∷ after_dot t ≡ t)
unfolding index_of
dots [] = inl refl
dots (b ∷ t) =
    split (eqb b 46)
    (λ e. let z : b ≡ 46 = eqb-true b 46 e in inr (rw e (rw z refl)))
    (λ e.
    let s : suc (index_of 46 t) + 1 ≡ suc (index_of 46 t + 1) = omega arith in
    ⊎_elim (λ f. inl (rw e (rw s f))) (λ f. inr (rw e (rw s (ap (λ (l : List ℕ). b ∷ l) f)))) (dots t))

-- no text, no part
nothing : (t : List ℕ) → t ≡ [] → part_of t ≡ None
unfolding part_of number_of
nothing t e = rw e refl

nothing_before : (t : List ℕ) → t ≡ [] → part_of (before_dot t) ≡ None
unfolding index_of
nothing_before t e = nothing (before_dot t) (rw e refl)

-- a version that is good has three parts, and they are its numbers
record Parts (a b c : Option ℕ) (v : Version) : Type 0 where
  one : 1 ≤ v.major
  major : a ≡ Some v.major
  minor : b ≡ Some v.minor
  patch : c ≡ Some v.patch

good_parts : (a b c : Option ℕ) (v : Version) → version_from a b c ≡ Some v → Parts a b c v
unfolding version_from
good_parts (Some a) (Some b) (Some c) v e =
    split (leb 1 a)
    (λ t. let g : Some (version a b c) ≡ Some v = rw t at e in let f : version a b c ≡ v = cc in subst (Parts (Some a) (Some b) (Some c)) f (record { one = leb-true 1 a t; major = refl; minor = refl; patch = refl }))
    (λ t. no (rw t at e))
  where
    no : {X : Type 0} → ◌≡◌ {A = Option Version} None (Some v) → X
    no f = absurd (let z : ◌≡◌ {A = ℕ} 0 1 = cc in omega arith)
good_parts a b c v e = absurd (let z : ◌≡◌ {A = ℕ} 0 1 = cc in omega arith)

module _ (t : List ℕ) (v : Version) (e : version_of t ≡ Some v) where
  parts : Parts (part_of (before_dot t)) (part_of (before_dot (after_dot t))) (part_of (after_dot (after_dot t))) v
  unfolding version_of
  parts = good_parts (part_of (before_dot t)) (part_of (before_dot (after_dot t))) (part_of (after_dot (after_dot t))) v e

  major_text : (v.major < 256) × (decimal_of v.major ≡ before_dot t)
  major_text = part_text (before_dot t) v.major parts.major

  minor_text : (v.minor < 256) × (decimal_of v.minor ≡ before_dot (after_dot t))
  minor_text = part_text (before_dot (after_dot t)) v.minor parts.minor

  patch_text : (v.patch < 256) × (decimal_of v.patch ≡ after_dot (after_dot t))
  patch_text = part_text (after_dot (after_dot t)) v.patch parts.patch

  -- a part that is there is not the one of no text
  none : {n : ℕ} {o : Option ℕ} {X : Type 0} → o ≡ Some n → o ≡ None → X
  none f g = absurd (let z : ◌≡◌ {A = ℕ} 0 1 = cc in omega arith)

  -- a text that is read as a version is the version's string
  pub read_written : version_text v ≡ t
  unfolding version_text
  read_written =
      rw (major_text.1, minor_text.1, patch_text.1)
      (⊎_elim (λ f. none parts.patch (nothing (after_dot (after_dot t)) f))
      (λ f. ⊎_elim (λ g. none parts.minor (nothing_before (after_dot t) g)) (λ g. ap (λ (l : List ℕ). before_dot t ++ 46 ∷ l) f ∙ g) (dots t))
      (dots (after_dot t)))

  -- a version that is read is in range
  pub read_range : InRange v.major v.minor v.patch
  read_range = record { one = parts.one; major = major_text.0; minor = minor_text.0; patch = patch_text.0 }

-- so no two texts are read as one version
pub read_one : (s t : List ℕ) (v : Version) → version_of s ≡ Some v → version_of t ≡ Some v → s ≡ t
read_one s t v e f = sym (read_written s v e) ∙ read_written t v f
