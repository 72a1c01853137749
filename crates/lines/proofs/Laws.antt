-- The laws of the text: hexadecimal text and decimal text read back as what was written, and what is written has the one form. About the definitions alone.
-- By induction over bytes, over pairs of characters and over n / 10. Assumes nothing.
use Prim.Native.Nat.{ℕ, ◌+◌, ◌-◌, ◌*◌, ◌/◌, ◌%◌, ◌^◌, ◌<◌, ◌≤◌}
use mathlib.Core.Path.{◌≡◌, refl, ◌∙◌}
use mathlib.Core.List.{List, [], ◌∷◌, ◌++◌}
use mathlib.Core.Bool.{Bool, true}
use native.Mathlib.Omega.{arith}
use lib.ListN.{length, get_or, get_or-append}
use lib.Dec.{ltb}
use borrow.Author.Tests.{lt-ltb, le-ltb, ltb-true, ltb-false, ne_eqb}
use Rattle.numbers.proofs.Choices.{split}
use Rattle.lines.specs.Text.{between, every}
use Rattle.numbers.specs.Bytes.{laid, AreBytes}
use Rattle.lines.specs.Hex.{digit_of, is_hex, is_lower_hex, bytes_of, decoded, decode_of, letter_of, hex_of}
use Rattle.lines.specs.Decimal.{is_decimal, value_from, value_of, number_of, decimal_of}
use Rattle.std.specs.Prelude.{Ok, Err}
use Rattle.lines.specs.declared.NumberFault.TheVariants.{TooLarge}
use Rattle.lines.proofs.Turns.{both}
use Rattle.lines.proofs.Characters.{within, above, says, digit_ten, digit_lower, length_hex}
use Rattle.lines.proofs.Digits.{by_tens, decimal_one, decimal_step, width_some}

-- a value below 16 as a digit: it is lower-case, and its value is the one that was written
module _ (v : ℕ) (h : v < 16) where
  letter_lower : is_lower_hex (letter_of v) ≡ true
  unfolding is_lower_hex letter_of
  letter_lower =
      split (ltb v 10) (λ e. rw (e, within 48 57 (48 + v) (omega arith) (omega (arith, ltb-true v 10 e)))) λ e.
      rw (e, above 48 57 (87 + v) (omega (arith, ltb-false v 10 e)), within 97 102 (87 + v) (omega (arith, ltb-false v 10 e)) (omega arith))

  digit_letter : digit_of (letter_of v) ≡ v
  unfolding letter_of
  digit_letter =
      split (ltb v 10) (λ e. rw e (omega (arith, digit_ten (48 + v) (omega arith) (omega (arith, ltb-true v 10 e))))) λ e.
      rw e (omega (arith, digit_lower (87 + v) (omega (arith, ltb-false v 10 e)) (omega arith)))

-- a lower-case digit is the digit of its value
letter_digit : (b : ℕ) → is_lower_hex b ≡ true → (digit_of b < 16) × (letter_of (digit_of b) ≡ b)
unfolding is_lower_hex letter_of
letter_digit b e =
    split (between 48 57 b)
    (λ t.
    let z = says 48 57 b t in
    let d = digit_ten b z.0 z.1 in
    (omega arith, rw (← d, lt-ltb (b - 48) 10 (omega arith)) (omega arith)))
    (λ t.
    let z = says 97 102 b (rw t at e) in
    let d = digit_lower b z.0 z.1 in
    (omega arith, rw (← d, le-ltb (b - 87) 10 (omega arith)) (omega arith)))

-- encoded text has an even length and is lower-case; lower-case text is hexadecimal
pub hex_even : (bytes : List ℕ) → length (hex_of bytes) % 2 ≡ 0
hex_even bytes = omega (arith, length_hex bytes)

pub hex_lower : (bytes : List ℕ) → AreBytes bytes → every is_lower_hex (hex_of bytes) ≡ true
unfolding hex_of
hex_lower [] h = refl
hex_lower (b ∷ bytes) h =
    rw (letter_lower (b / 16) (omega arith), letter_lower (b % 16) (omega arith)) (hex_lower bytes h.1)

pub lower_hex : (text : List ℕ) → every is_lower_hex text ≡ true → every is_hex text ≡ true
lower_hex [] e = refl
lower_hex (b ∷ text) e =
    let z = both (is_lower_hex b) (every is_lower_hex text) e in
    rw (lt-ltb (digit_of b) 16 (letter_digit b z.0).0) (lower_hex text z.1)

-- bytes that are encoded decode to the same bytes
pub bytes_hex : (bytes : List ℕ) → AreBytes bytes → bytes_of (hex_of bytes) ≡ bytes
unfolding hex_of bytes_of
bytes_hex [] h = refl
bytes_hex (b ∷ bytes) h =
    let e : b / 16 * 16 + b % 16 ≡ b = omega arith in
    rw (digit_letter (b / 16) (omega arith), digit_letter (b % 16) (omega arith), e, bytes_hex bytes h.1)

pub decode_encoded : (bytes out : List ℕ) → AreBytes bytes → length bytes ≤ length out
    → decode_of (hex_of bytes) out ≡ decoded (Ok (length bytes)) (laid bytes out)
unfolding decode_of
decode_encoded bytes out h room =
    let odd : 2 * length bytes % 2 ≡ 1 → ⊥ = λ e. omega arith in
    let half : 2 * length bytes / 2 ≡ length bytes = omega arith in
    rw (length_hex bytes, ne_eqb (2 * length bytes % 2) 1 odd, lower_hex (hex_of bytes) (hex_lower bytes h), half, le-ltb (length out) (length bytes) room, bytes_hex bytes h)

-- a lower-case text of even length that is decoded encodes to the same text
pub hex_bytes : (text : List ℕ) → every is_lower_hex text ≡ true → length text % 2 ≡ 0 → hex_of (bytes_of text) ≡ text
unfolding hex_of bytes_of
hex_bytes [] e h = refl
hex_bytes (a ∷ []) e h = absurd (omega arith)
hex_bytes (a ∷ b ∷ text) e h =
    let y = both (is_lower_hex a) (every is_lower_hex (b ∷ text)) e in
    let z = both (is_lower_hex b) (every is_lower_hex text) y.1 in
    let p = letter_digit a y.0 in
    let q = letter_digit b z.0 in
    let upper : (digit_of a * 16 + digit_of b) / 16 ≡ digit_of a = omega arith in
    let lower : (digit_of a * 16 + digit_of b) % 16 ≡ digit_of b = omega arith in
    rw (upper, lower, p.1, q.1, hex_bytes text z.1 (omega arith))

-- one more digit at the end
every_last : (test : ℕ → Bool) (text : List ℕ) (b : ℕ) → every test text ≡ true → test b ≡ true → every test (text ++ b ∷ []) ≡ true
every_last test [] b e t = rw t
every_last test (a ∷ text) b e t =
    let z = both (test a) (every test text) e in
    rw z.0 (every_last test text b z.1 t)

value_last : (v : ℕ) (text : List ℕ) (b : ℕ) → value_from v (text ++ b ∷ []) ≡ value_from v text * 10 + (b - 48)
unfolding value_from
value_last v [] b = refl
value_last v (a ∷ text) b = value_last (v * 10 + (a - 48)) text b

-- decimal text is of digits, says the number that was written, and starts with 0 for 0 alone
pub decimal_digits : (n : ℕ) → every is_decimal (decimal_of n) ≡ true
decimal_digits =
    by_tens (λ n. every is_decimal (decimal_of n) ≡ true)
    (λ n h. rw (decimal_one n h, within 48 57 (48 + n) (omega arith) (omega arith)))
    (λ n h e. rw (decimal_step n h) (every_last is_decimal (decimal_of (n / 10)) (48 + n % 10) e (within 48 57 (48 + n % 10) (omega arith) (omega arith))))

pub decimal_value : (n : ℕ) → value_from 0 (decimal_of n) ≡ n
unfolding value_from
decimal_value =
    by_tens (λ n. value_from 0 (decimal_of n) ≡ n)
    (λ n h. rw (decimal_one n h) (omega arith))
    (λ n h e. rw (decimal_step n h, value_last 0 (decimal_of (n / 10)) (48 + n % 10), e) (omega arith))

pub decimal_first : (n : ℕ) → 0 < n → 48 < get_or (decimal_of n) 0 0
decimal_first =
    by_tens (λ n. 0 < n → 48 < get_or (decimal_of n) 0 0)
    (λ n h p. rw (decimal_one n h) (omega arith))
    (λ n h f p. rw (decimal_step n h, get_or-append (decimal_of (n / 10)) ((48 + n % 10) ∷ []) 0 0 (width_some (n / 10))) (f (omega arith)))

pub no_spare_zero : (n : ℕ) → get_or (decimal_of n) 0 0 ≡ 48 → n ≡ 0
no_spare_zero n e =
    split (ltb 0 n) (λ t. absurd (omega (arith, decimal_first n (ltb-true 0 n t)))) λ t.
    omega (arith, ltb-false 0 n t)

-- the decimal text of n reads back as n, and is too large from 2 ^ 64 on
module _ (n : ℕ) where
  number_value : number_of (decimal_of n) ≡ value_of (decimal_of n)
  unfolding number_of
  number_value =
      let some : length (decimal_of n) ≡ 0 → ⊥ = λ e. omega (arith, width_some n) in
      rw (ne_eqb (length (decimal_of n)) 0 some, decimal_digits n)

  pub number_decimal : n < 2 ^ 64 → number_of (decimal_of n) ≡ Ok n
  unfolding value_of
  number_decimal h = number_value ∙ rw (decimal_value n, lt-ltb n (2 ^ 64) h)

  pub number_large : 2 ^ 64 ≤ n → number_of (decimal_of n) ≡ Err TooLarge
  unfolding value_of
  number_large h = number_value ∙ rw (decimal_value n, le-ltb n (2 ^ 64) h)
