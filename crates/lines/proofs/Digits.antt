-- The decimal digits of a number one at a time: the equations that show that the bound decides nothing, a turn of the loop that writes them and of the one that
-- reads them. By induction over n / 10, n / 100 and so on. Assumes nothing.
use Prim.Native.Nat.{ℕ, zero, suc, ◌+◌, ◌-◌, ◌*◌, ◌/◌, ◌%◌, ◌^◌, ◌<◌, ◌≤◌}
use mathlib.Core.Path.{◌≡◌, refl, ap, ◌∙◌, sym}
use mathlib.Core.List.{List, [], ◌∷◌, ◌++◌}
use native.Mathlib.Numerals.{add-one}
use native.Mathlib.Nat.{pow-suc}
use native.Mathlib.Omega.{arith}
use lib.ListN.{length, take, drop, get_or, set, length-append, get_or-append, take-append-drop, drop_of_length-le}
use lib.Seq.{drop-cons, drop_at, take_at, take-take, get_or_at, get_or-take, length-take-le}
use lib.Dec.{ltb}
use borrow.Author.Tests.{ltb-true, ltb-false, ne_eqb}
use Rattle.numbers.specs.Bytes.{laid}
use Rattle.numbers.proofs.Choices.{split}
use Rattle.std.specs.Prelude.{Some, None}
use Rattle.lines.specs.Decimal.{short, value_from, digits_by, decimal_of}
use Rattle.lines.proofs.Turns.{back_at}

-- what holds below ten, and of n where it holds of n / 10, holds of every number
tens : (P : ℕ → Type 0) → ((n : ℕ) → n < 10 → P n) → ((n : ℕ) → 10 ≤ n → P (n / 10) → P n) → (bound n : ℕ) → n < bound → P n
tens P one more zero n h = absurd (omega arith)
tens P one more (suc bound) n h =
    split (ltb n 10) (λ e. one n (ltb-true n 10 e)) λ e.
    more n (ltb-false n 10 e) (tens P one more bound (n / 10) (omega (arith, ltb-false n 10 e)))

pub by_tens : (P : ℕ → Type 0) → ((n : ℕ) → n < 10 → P n) → ((n : ℕ) → 10 ≤ n → P (n / 10) → P n) → (n : ℕ) → P n
by_tens P one more n = tens P one more (suc n) n (omega arith)

-- any two bounds from n on give the same digits
enough : (bound other n : ℕ) → n ≤ bound → n ≤ other → digits_by bound n ≡ digits_by other n
unfolding digits_by
enough zero zero n h k = refl
enough zero (suc other) zero h k = refl
enough zero (suc other) (suc m) h k = absurd (omega arith)
enough (suc bound) zero zero h k = refl
enough (suc bound) zero (suc m) h k = absurd (omega arith)
enough (suc bound) (suc other) zero h k = refl
enough (suc bound) (suc other) (suc m) h k = rw (enough bound other (suc m / 10) (omega arith) (omega arith))

-- the two equations of the decimal text: a number below ten is its digit, any other the text of n / 10 and then its last digit
pub decimal_one : (n : ℕ) → n < 10 → decimal_of n ≡ (48 + n) ∷ []
unfolding decimal_of digits_by
decimal_one zero h = refl
decimal_one (suc m) h =
    let none : suc m ≡ 0 → ⊥ = λ e. omega arith in
    let upper : suc m / 10 ≡ 0 = omega arith in
    let last : suc m % 10 ≡ suc m = omega arith in
    rw (ne_eqb (suc m) 0 none, upper, last, enough m 0 0 (omega arith) (omega arith))

pub decimal_step : (n : ℕ) → 10 ≤ n → decimal_of n ≡ decimal_of (n / 10) ++ (48 + n % 10) ∷ []
unfolding decimal_of digits_by
decimal_step zero h = absurd (omega arith)
decimal_step (suc m) h =
    let none : suc m ≡ 0 → ⊥ = λ e. omega arith in
    let some : suc m / 10 ≡ 0 → ⊥ = λ e. omega arith in
    rw (ne_eqb (suc m) 0 none, ne_eqb (suc m / 10) 0 some, enough m (suc m / 10) (suc m / 10) (omega arith) (omega arith))

-- how many digits
pub width_one : (n : ℕ) → n < 10 → length (decimal_of n) ≡ 1
width_one n h = ap length (decimal_one n h)

pub width_step : (n : ℕ) → 10 ≤ n → length (decimal_of n) ≡ length (decimal_of (n / 10)) + 1
width_step n h = ap length (decimal_step n h) ∙ length-append (decimal_of (n / 10)) ((48 + n % 10) ∷ [])

pub width_some : (n : ℕ) → 0 < length (decimal_of n)
width_some = by_tens (λ n. 0 < length (decimal_of n)) (λ n h. omega (arith, width_one n h)) (λ n h k. omega (arith, width_step n h))

-- a number below ten to the n + 1 has at most n + 1
pub width_most : (n k : ℕ) → k < 10 ^ suc n → length (decimal_of k) ≤ suc n
width_most zero k h = omega (arith, width_one k (omega arith))
width_most (suc n) k h =
    split (ltb k 10) (λ e. omega (arith, width_one k (ltb-true k 10 e))) λ e.
    let less : k / 10 < 10 ^ suc n = omega (arith, pow-suc 10 (suc n)) in
    omega (arith, width_step k (ltb-false k 10 e), width_most n (k / 10) less)

-- the first i + 1 of d end in x
last_at : (d s : List ℕ) (x i : ℕ) → i < length d → take (i + 1) d ≡ s ++ x ∷ []
    → (length s ≡ i) × (take i d ≡ s) × (get_or d i 0 ≡ x)
last_at d s x i h e =
    let l : length s ≡ i = omega (arith, length-append s (x ∷ []), ap length e, length-take-le (i + 1) d (omega arith)) in
    let t : take i d ≡ take i (take (i + 1) d) = sym (take-take i (i + 1) d (omega arith)) in
    let g : get_or d i 0 ≡ get_or (take (i + 1) d) i 0 = sym (get_or-take (i + 1) d i 0 (omega arith)) in
    (l, t ∙ rw e (take_at s (x ∷ []) i l), g ∙ rw e (get_or_at s x [] 0 i l))

-- the digits go to the front of out, the last one first: at the start, after a turn, and at the end
pub put_start : (d out : List ℕ) (w : ℕ) → w ≡ length d → take w out ++ drop w (laid d out) ≡ out
put_start d out w e = rw (e, drop_at d (drop (length d) out) (length d) refl, take-append-drop)

module _ (n i rest : ℕ) (out : List ℕ) (h : i < length (decimal_of n)) (room : length (decimal_of n) ≤ length out)
    (e : take (i + 1) (decimal_of n) ≡ decimal_of rest) where
  store : (x : ℕ) → get_or (decimal_of n) i 0 ≡ x
      → set (take (i + 1) out ++ drop (i + 1) (laid (decimal_of n) out)) i x ≡ take i out ++ drop i (laid (decimal_of n) out)
  store x g =
      let d = decimal_of n in
      let f : get_or (laid d out) i 0 ≡ x = get_or-append d (drop (length d) out) 0 i h ∙ g in
      let l : i < length (laid d out) = omega (arith, length-append d (drop (length d) out)) in
      rw f at (back_at (laid d out) out i l (omega arith))

  pub put_turn : 10 ≤ rest
      → (0 < i) × (take i (decimal_of n) ≡ decimal_of (rest / 10))
      × (set (take (i + 1) out ++ drop (i + 1) (laid (decimal_of n) out)) i (48 + rest % 10) ≡ take i out ++ drop i (laid (decimal_of n) out))
  put_turn t =
      let z = last_at (decimal_of n) (decimal_of (rest / 10)) (48 + rest % 10) i h (e ∙ decimal_step rest t) in
      (omega (arith, width_some (rest / 10)), z.1, store (48 + rest % 10) z.2)

  pub put_end : rest < 10 → set (take (i + 1) out ++ drop (i + 1) (laid (decimal_of n) out)) i (48 + rest) ≡ laid (decimal_of n) out
  put_end t =
      let z = last_at (decimal_of n) [] (48 + rest) i h (e ∙ decimal_one rest t) in
      let i0 : i ≡ 0 = sym z.0 in
      store (48 + rest) z.2 ∙ rw i0

-- the value of what is left: a turn, the end, and that it never falls
pub value_at : (v : ℕ) (text : List ℕ) (i : ℕ) → i < length text
    → value_from (v * 10 + (get_or text i 0 - 48)) (drop (i + 1) text) ≡ value_from v (drop i text)
unfolding value_from
value_at v text i h = rw (add-one i, drop-cons text i 0)

pub value_end : (v : ℕ) (text : List ℕ) (i : ℕ) → length text ≤ i → v ≡ value_from v (drop i text)
unfolding value_from
value_end v text i h = rw drop_of_length-le

pub value_most : (v : ℕ) (text : List ℕ) → v ≤ value_from v text
unfolding value_from
value_most v [] = omega arith
value_most v (b ∷ text) = omega (arith, value_most (v * 10 + (b - 48)) text)

-- what a number of at most 64 bits, and none, say
pub short_some : (n r : ℕ) → Some r ≡ short n → (r ≡ n) × (n < 2 ^ 64)
short_some n r e = split (ltb n (2 ^ 64)) (λ t. let f = rw t at e in (cc, ltb-true n (2 ^ 64) t)) (λ t. let f = rw t at e in cc)

pub short_none : (n : ℕ) → None ≡ short n → 2 ^ 64 ≤ n
short_none n e = split (ltb n (2 ^ 64)) (λ t. let f = rw t at e in cc) (λ t. ltb-false n (2 ^ 64) t)
