-- `lines::pair_byte` meets its contract: both characters of the pair are digits, so their values are below 16 and the sum is a byte.
-- Assumes nothing.
use Prim.Native.Nat.{ℕ, ◌/◌, ◌%◌, ◌<◌}
use mathlib.Core.Path.{◌≡◌}
use mathlib.Core.Bool.{true}
use native.Mathlib.Omega.{arith}
use borrow.Author.Tests.{ltb-true}
use Rattle.lines.specs.Hex.{digit_of, is_hex, is_pair}
use Rattle.lines.proofs.Turns.{both}
use Rattle.lines.proofs.pair_byte.Goals as goal

-- both characters of a pair of digits
digits : (pair : ℕ) → is_pair pair ≡ true → (digit_of (pair % 256) < 16) × (digit_of (pair / 256) < 16)
digits pair e =
    let z = both (is_hex (pair % 256)) (is_hex (pair / 256)) e in
    (ltb-true _ _ z.0, ltb-true _ _ z.1)

pub digit-requires : goal.digit-requires
digit-requires c = (both (is_hex (c.args.pair % 256)) _ c.requires).0

pub overflow_mul-result : goal.overflow_mul-result
overflow_mul-result c = omega (arith, digits c.args.pair c.requires, c.digit.ensures)

pub digit-requires-2 : goal.digit-requires-2
digit-requires-2 c = (both (is_hex (c.args.pair % 256)) _ c.requires).1

pub overflow_add-result : goal.overflow_add-result
overflow_add-result c = omega (arith, digits c.args.pair c.requires, c.digit.ensures, c.digit-2.ensures)

pub overflow_cast-result : goal.overflow_cast-result
overflow_cast-result c = omega (arith, digits c.args.pair c.requires, c.digit.ensures, c.digit-2.ensures)
