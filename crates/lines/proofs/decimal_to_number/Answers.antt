-- `lines::decimal_to_number` meets its contract. The tests are those of the definition, so each answer is a rewrite by them.
-- Assumes nothing.
use Prim.Native.Nat.{ℕ, ◌^◌}
use mathlib.Core.Path.{◌≡◌, ◌∙◌}
use mathlib.Core.List.{List}
use Rattle.std.specs.Option.{ok_or}
use lib.Dec.{ltb}
use Rattle.numbers.proofs.Choices.{split}
use Rattle.lines.specs.Decimal.{is_decimal, short, value_from, value_of, number_of}
use Rattle.lines.specs.declared.NumberFault.TheVariants.{TooLarge}
use Rattle.lines.proofs.decimal_to_number.Goals as goal

-- a value that has no room is too large
value_short : (text : List ℕ) → ok_or (short (value_from 0 text)) TooLarge ≡ value_of text
unfolding value_of
value_short text = split (ltb (value_from 0 text) (2 ^ 64)) (λ t. rw t) (λ t. rw t)

pub returns-then-is_empty-every : goal.returns-then-is_empty-every
unfolding number_of
returns-then-is_empty-every c =
    let tested = rw (c.is_empty.ensures, c.every.ensures is_decimal (λ b r l e. e)) at c.if-is_empty-every.true in
    rw tested

pub returns : goal.returns
unfolding number_of
returns c =
    let tested = rw (c.is_empty.ensures, c.every.ensures is_decimal (λ b r l e. e)) at c.if-is_empty-every.false in
    rw tested (c.ok_or.ensures.value ∙ rw c.value.ensures (value_short c.args.text.now))
