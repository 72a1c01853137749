-- The order of versions is total, it is the derived one, which compares the first numbers that differ, and the lesser of two is one of them and at most
-- both. By one law for each number compared, used for major and for minor. Assumes nothing.
use Prim.Native.Nat.{ℕ, ◌≤◌, ◌<◌}
use mathlib.Core.Path.{◌≡◌, refl, ◌∙◌, sym}
use mathlib.Core.Bool.{Bool, true, false, not, cond}
use mathlib.Core.Logic.{◌⊎◌, inl, inr, ⊎_elim}
use native.Mathlib.Omega.{arith}
use lib.Dec.{leb, ltb, eqb}
use borrow.Author.Tests.{lt-ltb, le-ltb, ltb-true, ltb-false, eq-eqb, ne_eqb, eqb-true, eqb-false, le-leb, lt-leb, leb-true, leb-false}
use Rattle.std.proofs.Common.{Ordering}
use Rattle.std.specs.Ordering.{ordering_then, nat_cmp, is_lt, ord_min}
use Rattle.numbers.specs.Bytes.{pick}
use Rattle.numbers.proofs.Choices.{split}
use Rattle.payload.specs.Version.{version, below_or, at_most, lesser_of}
use Rattle.payload.specs.declared.version.Version.{Version}

-- which of two numbers is below
order : {P : Type 0} (x y : ℕ) → (x < y → P) → (x ≡ y → P) → (y < x → P) → P
order x y f g h =
    split (ltb x y) (λ e. f (ltb-true x y e)) λ e.
    split (eqb x y) (λ d. g (eqb-true x y d)) λ d.
    h (let n = eqb-false x y d in let l = ltb-false x y e in omega arith)

-- the test of one number, whose rest r decides where they are the same
module _ (x y : ℕ) where
  below : (r : Bool) → x < y → below_or x y r ≡ true
  below r h = rw (lt-ltb x y h)

  same : (r : Bool) → x ≡ y → below_or x y r ≡ r
  same r h = rw (le-ltb x y (omega arith), eq-eqb x y h)

  above : (r : Bool) → y < x → below_or x y r ≡ false
  above r h =
      let n : x ≡ y → ⊥ = λ e. omega arith in
      rw (le-ltb x y (omega arith), ne_eqb x y n)

-- what the derived order of versions says: by major, then minor, then patch
abbrev version_cmp : Version → Version → Ordering
version_cmp a b = ordering_then (nat_cmp a.major b.major) (ordering_then (nat_cmp a.minor b.minor) (nat_cmp a.patch b.patch))

-- a number is less just where the other is not at most it, by what the rest says where they are the same
number_less : (x y : ℕ) (o : Ordering) (r : Bool) → is_lt o ≡ not r → is_lt (ordering_then (nat_cmp y x) o) ≡ not (below_or x y r)
number_less x y o r e =
    order x y
    (λ h. let n : y ≡ x → ⊥ = λ z. omega arith in rw (le-ltb y x (omega arith), ne_eqb y x n, below x y r h))
    (λ h. rw (le-ltb y x (omega arith), eq-eqb y x (sym h), same x y r h) e)
    (λ h. rw (lt-ltb y x h, above x y r h))

last_less : (x y : ℕ) → is_lt (nat_cmp y x) ≡ not (leb x y)
last_less x y =
    order x y
    (λ h. let n : y ≡ x → ⊥ = λ z. omega arith in rw (le-ltb y x (omega arith), ne_eqb y x n, le-leb x y (omega arith)))
    (λ h. rw (le-ltb y x (omega arith), eq-eqb y x (sym h), le-leb x y (omega arith)))
    (λ h. rw (lt-ltb y x h, lt-leb x y h))

-- so the lesser by the derived order is the lesser version
pub lesser_min : (a b : Version) → ord_min version_cmp a b ≡ lesser_of a b
unfolding lesser_of at_most
lesser_min a b = rw (number_less a.major b.major _ _ (number_less a.minor b.minor _ _ (last_less a.patch b.patch))) (turn (at_most a b))
  where
    turn : (r : Bool) → cond (not r) b a ≡ pick r a b
    turn true = refl
    turn false = refl

never : {P : Type 0} → true ≡ false → P
never e = absurd (let z : ◌≡◌ {A = ℕ} 0 1 = cc in omega arith)

module _ (x y : ℕ) (r s : Bool) where
  number_total : (r ≡ false → s ≡ true) → below_or x y r ≡ false → below_or y x s ≡ true
  number_total f e =
      order x y
      (λ h. never (sym (below x y r h) ∙ e))
      (λ h. same y x s (sym h) ∙ f (sym (same x y r h) ∙ e))
      (λ h. below y x s h)

  number_both : below_or x y r ≡ true → below_or y x s ≡ true → (x ≡ y) × (r ≡ true) × (s ≡ true)
  number_both e f =
      order x y
      (λ h. never (sym f ∙ above y x s h))
      (λ h. (h, sym (same x y r h) ∙ e, sym (same y x s (sym h)) ∙ f))
      (λ h. never (sym e ∙ above x y r h))

-- the order of versions: of any two one is at most the other; both only if they are the same
pub at_most_self : (a : Version) → at_most a a ≡ true
unfolding at_most
at_most_self a = same a.major a.major _ refl ∙ same a.minor a.minor _ refl ∙ le-leb a.patch a.patch (omega arith)

pub at_most_total : (a b : Version) → at_most a b ≡ false → at_most b a ≡ true
unfolding at_most
at_most_total a b =
    number_total a.major b.major _ _
    (number_total a.minor b.minor _ _ (λ e. le-leb b.patch a.patch (let l = leb-false a.patch b.patch e in omega arith)))

pub at_most_both : (a b : Version) → at_most a b ≡ true → at_most b a ≡ true → a ≡ b
unfolding at_most
at_most_both a b e f =
    let y = number_both a.major b.major _ _ e f in
    let z = number_both a.minor b.minor _ _ y.1 y.2 in
    let p : a.patch ≡ b.patch = omega (arith, leb-true a.patch b.patch z.1, leb-true b.patch a.patch z.2) in
    equal y.0 z.0 p
  where
    equal : a.major ≡ b.major → a.minor ≡ b.minor → a.patch ≡ b.patch → version a.major a.minor a.patch ≡ version b.major b.minor b.patch
    equal p q r = rw (p, q, r)

-- the lesser of two versions
module _ (a b : Version) where
  pub lesser_one : (lesser_of a b ≡ a) ⊎ (lesser_of a b ≡ b)
  unfolding lesser_of
  lesser_one = split (at_most a b) (λ e. inl (rw e)) (λ e. inr (rw e))

  -- what both majors are at least, its major is at least
  pub lesser_major : (n : ℕ) → n ≤ a.major → n ≤ b.major → n ≤ (lesser_of a b).major
  lesser_major n h k = ⊎_elim (λ e. rw e h) (λ e. rw e k) lesser_one

  pub lesser_first : at_most (lesser_of a b) a ≡ true
  unfolding lesser_of
  lesser_first = split (at_most a b) (λ e. rw e (at_most_self a)) (λ e. rw e (at_most_total a b e))

  pub lesser_second : at_most (lesser_of a b) b ≡ true
  unfolding lesser_of
  lesser_second = split (at_most a b) (λ e. rw e (rw e)) (λ e. rw e (at_most_self b))

  pub lesser_turned : lesser_of a b ≡ lesser_of b a
  unfolding lesser_of
  lesser_turned =
      split (at_most a b)
      (λ e. split (at_most b a) (λ f. rw e (rw f (at_most_both a b e f))) (λ f. rw e (rw f refl)))
      (λ e. let f = at_most_total a b e in rw e (rw f refl))

pub lesser_same : (a : Version) → lesser_of a a ≡ a
unfolding lesser_of
lesser_same a = rw (at_most_self a)
