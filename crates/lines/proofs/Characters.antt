-- What the definitions say of one character and one digit, and of the character or byte at a place. By the tests, and by induction over pairs of characters.
-- Assumes nothing.
use Prim.Native.Nat.{ℕ, zero, suc, ◌+◌, ◌-◌, ◌*◌, ◌/◌, ◌%◌, ◌<◌, ◌≤◌}
use mathlib.Core.Path.{◌≡◌, refl, sym}
use mathlib.Core.List.{List, [], ◌∷◌}
use mathlib.Core.Bool.{true, false, and-false}
use native.Mathlib.Omega.{arith}
use lib.ListN.{length, get_or}
use lib.Dec.{leb, ltb}
use borrow.Author.Tests.{le-leb, lt-leb, leb-true, ltb-true, ltb-false, lt-ltb}
use Rattle.numbers.proofs.Choices.{split}
use Rattle.std.specs.Char.{is_ascii_hexdigit}
use Rattle.lines.specs.Text.{between, every}
use Rattle.lines.specs.Hex.{digit_of, is_hex, bytes_of, letter_of, hex_of}
use Rattle.lines.specs.Decimal.{is_decimal}
use Rattle.lines.proofs.Turns.{both, every_says}

-- a range's test from facts, and facts from it
module _ (low high b : ℕ) where
  pub within : low ≤ b → b ≤ high → between low high b ≡ true
  within l h = rw (le-leb low b l, le-leb b high h)

  pub above : high < b → between low high b ≡ false
  above h = rw (lt-leb b high h) (and-false (leb low b))

  pub says : between low high b ≡ true → (low ≤ b) × (b ≤ high)
  says e =
      let z = both (leb low b) (leb b high) e in
      (leb-true low b z.0, leb-true b high z.1)

-- the value of a digit that is written
module _ (b : ℕ) where
  pub digit_ten : 48 ≤ b → b ≤ 57 → b - 48 ≡ digit_of b
  unfolding digit_of
  digit_ten l h = rw (within 48 57 b l h)

  pub digit_lower : 97 ≤ b → b ≤ 102 → b - 87 ≡ digit_of b
  unfolding digit_of
  digit_lower l h = rw (above 48 57 b (omega arith), within 97 102 b l h)

  -- the characters whose value is below 16 are those of the three ranges
  pub hex_ranges : is_ascii_hexdigit b ≡ is_hex b
  unfolding digit_of
  hex_ranges =
      split (between 48 57 b) (λ e. rw e (sym (lt-ltb (b - 48) 16 (omega (arith, says 48 57 b e))))) λ e.
      split (between 97 102 b) (λ f. rw (e, f, above 65 70 b (omega (arith, says 97 102 b f))) (sym (lt-ltb (b - 87) 16 (omega (arith, says 97 102 b f))))) λ f.
      split (between 65 70 b) (λ g. rw (e, f, g) (sym (lt-ltb (b - 55) 16 (omega (arith, says 65 70 b g))))) λ g.
      rw (e, f, g)

-- a digit's value, and that it is a byte, from each of the three ranges
module _ (b : ℕ) (d : is_hex b ≡ true) where
  pub digit_says : {r : ℕ} → (48 ≤ b → b ≤ 57 → r ≡ b - 48) → (97 ≤ b → b ≤ 102 → r ≡ b - 87) → (65 ≤ b → b ≤ 70 → r ≡ b - 55) → r ≡ digit_of b
  unfolding digit_of
  digit_says ten lower upper =
      split (between 48 57 b) (λ e. rw e (ten (says 48 57 b e).0 (says 48 57 b e).1)) λ e.
      split (between 97 102 b) (λ f. rw (e, f) (lower (says 97 102 b f).0 (says 97 102 b f).1)) λ f.
      split (between 65 70 b) (λ g. rw (e, f, g) (upper (says 65 70 b g).0 (says 65 70 b g).1)) λ g.
      absurd (omega (arith, ltb-true 16 16 (rw (e, f, g) at d)))

  pub digit_byte : b < 256
  unfolding digit_of
  digit_byte =
      split (ltb b 256) (λ e. ltb-true b 256 e) λ e.
      let l = ltb-false b 256 e in
      absurd (omega (arith, ltb-true 16 16 (rw (above 48 57 b (omega arith), above 97 102 b (omega arith), above 65 70 b (omega arith)) at d)))

pub decimal_at : (text : List ℕ) (i : ℕ) → every is_decimal text ≡ true → i < length text → (48 ≤ get_or text i 0) × (get_or text i 0 ≤ 57)
decimal_at text i e h = says 48 57 (get_or text i 0) (every_says is_decimal text i e h)

-- half as many bytes as characters
pub length_bytes : (text : List ℕ) → length (bytes_of text) ≡ length text / 2
unfolding bytes_of
length_bytes [] = refl
length_bytes (a ∷ []) = refl
length_bytes (a ∷ b ∷ text) = omega (arith, length_bytes text)

-- twice as many characters as bytes; those at 2 i and 2 i + 1 are of the byte at i
pub length_hex : (bytes : List ℕ) → length (hex_of bytes) ≡ 2 * length bytes
unfolding hex_of
length_hex [] = refl
length_hex (b ∷ bytes) = omega (arith, length_hex bytes)

pub letters_at : (bytes : List ℕ) (i : ℕ) → i < length bytes
    → (get_or (hex_of bytes) (2 * i) 0 ≡ letter_of (get_or bytes i 0 / 16)) × (get_or (hex_of bytes) (2 * i + 1) 0 ≡ letter_of (get_or bytes i 0 % 16))
unfolding hex_of
letters_at [] i h = absurd (omega arith)
letters_at (b ∷ bytes) zero h = (refl, refl)
letters_at (b ∷ bytes) (suc i) h =
    let e : 2 * suc i ≡ suc (suc (2 * i)) = omega arith in
    let f : 2 * suc i + 1 ≡ suc (suc (2 * i + 1)) = omega arith in
    rw (f, e) (letters_at bytes i (omega arith))
