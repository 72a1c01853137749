-- Decimal text: the digits of a number, most significant first, and the number that digits say. Document 01 has it in version strings and in the bench's
-- output. Assumes nothing.
use Rattle.std.specs.Prelude.{ℕ, zero, suc, ◌+◌, ◌-◌, ◌*◌, ◌/◌, ◌%◌, ◌^◌, List, [], ◌∷◌, ◌++◌, Bool, not, ◌||◌, length, ltb, eqb, Result, Ok, Err, Option, Some, None}
use Rattle.lines.specs.Text.{between, every}
use Rattle.numbers.specs.Bytes.{pick}
use Rattle.lines.specs.declared.NumberFault.{NumberFault}
use Rattle.lines.specs.declared.NumberFault.TheVariants.{NotDecimal, TooLarge}

-- whether a character is one of '0' to '9'
abbrev pub is_decimal : ℕ → Bool
is_decimal b = between 48 57 b

-- the number that v, followed by these digits, says
unfoldable pub value_from : ℕ → List ℕ → ℕ
value_from v [] = v
value_from v (b ∷ text) = value_from (v * 10 + (b - 48)) text

-- a number, where it has at most 64 bits
abbrev pub short : ℕ → Option ℕ
short n = pick (ltb n (2 ^ 64)) (Some n) None

-- the number that a text of digits says, where it has at most 64 bits
unfoldable pub value_of : List ℕ → Result ℕ NumberFault
value_of text = pick (ltb (value_from 0 text) (2 ^ 64)) (Ok (value_from 0 text)) (Err TooLarge)

-- an empty text, or one with a character that is no digit, is refused before its value is asked
unfoldable pub number_of : List ℕ → Result ℕ NumberFault
number_of text = pick (eqb (length text) 0 || not (every is_decimal text)) (Err NotDecimal) (value_of text)

-- the digits of n, none for 0: those of n / 10 and then the last one; no more than the bound
unfoldable pub digits_by : ℕ → ℕ → List ℕ
digits_by zero n = []
digits_by (suc bound) zero = []
digits_by (suc bound) (suc m) = digits_by bound (suc m / 10) ++ (48 + suc m % 10) ∷ []

-- the decimal text of n: 0 is one digit, any other has no spare zeros; n has at most n digits, so the bound decides nothing (decimal_one, decimal_step of proofs/Digits.antt)
unfoldable pub decimal_of : ℕ → List ℕ
decimal_of n = pick (eqb n 0) (48 ∷ []) (digits_by n n)
