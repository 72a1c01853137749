-- How many digits a part of a version has, how long its string is, and what holds of the parts of a version that is read.
-- By the equations of decimal text. Assumes nothing.
use Prim.Native.Nat.{ℕ, ◌+◌, ◌/◌, ◌≤◌, ◌<◌}
use mathlib.Core.Path.{◌≡◌}
use native.Mathlib.Omega.{arith}
use lib.Dec.{ltb}
use borrow.Author.Tests.{ltb-true, ltb-false}
use lib.ListN.{length, length-append}
use Rattle.numbers.proofs.Choices.{split}
use Rattle.lines.specs.Decimal.{decimal_of}
use Rattle.lines.proofs.Digits.{width_one, width_step}
use Rattle.payload.specs.Version.{version_text}
use Rattle.payload.specs.declared.version.Version.{Version}

-- one to three digits
module _ (n : ℕ) where
  pub digits_one : n < 10 → length (decimal_of n) ≡ 1
  digits_one h = width_one n h

  pub digits_two : 10 ≤ n → n < 100 → length (decimal_of n) ≡ 2
  digits_two l h = omega (arith, width_step n l, width_one (n / 10) (omega arith))

  pub digits_three : 100 ≤ n → n < 256 → length (decimal_of n) ≡ 3
  digits_three l h = omega (arith, width_step n (omega arith), width_step (n / 10) (omega arith), width_one (n / 10 / 10) (omega arith))

  pub digits_most : n < 256 → length (decimal_of n) ≤ 3
  digits_most h =
      split (ltb n 10) (λ e. omega (arith, digits_one (ltb-true n 10 e))) λ e.
      split (ltb n 100) (λ f. omega (arith, digits_two (ltb-false n 10 e) (ltb-true n 100 f))) λ f.
      omega (arith, digits_three (ltb-false n 100 f) h)

-- the string of a version: three parts and two dots
module _ (v : Version) where
  pub length_version : length (version_text v) ≡ length (decimal_of v.major) + 1 + length (decimal_of v.minor) + 1 + length (decimal_of v.patch)
  unfolding version_text
  length_version = simp length-append (omega arith)

  pub version_most : v.major < 256 → v.minor < 256 → v.patch < 256 → length (version_text v) ≤ 11
  version_most a b c = omega (arith, length_version, digits_most v.major a, digits_most v.minor b, digits_most v.patch c)

-- the parts of a version that is read: bytes, of which the major is not 0
pub record InRange (a b c : ℕ) : Type 0 where
  pub one : 1 ≤ a
  pub major : a < 256
  pub minor : b < 256
  pub patch : c < 256
