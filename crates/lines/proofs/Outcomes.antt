-- Hexadecimal text as bytes, one lemma for each answer: which facts of the numbers lead to it. The function's proof states them by `omega`, so
-- that a wrong test fails at numbers. Assumes nothing.
use Prim.Native.Nat.{ℕ, ◌/◌, ◌%◌, ◌≤◌, ◌<◌}
use mathlib.Core.Path.{◌≡◌}
use mathlib.Core.Bool.{true, false}
use mathlib.Core.List.{List}
use lib.ListN.{length}
use borrow.Author.Tests.{eq-eqb, ne_eqb, lt-ltb, le-ltb}
use Rattle.numbers.specs.Bytes.{laid}
use Rattle.lines.specs.Text.{every}
use Rattle.lines.specs.Hex.{is_hex, bytes_of, decoded, decode_of}
use Rattle.std.specs.Prelude.{Ok, Err}
use Rattle.lines.specs.declared.HexFault.TheVariants.{Odd, NotHex, Full}

module _ (text out : List ℕ) where
  pub decode_odd : length text % 2 ≡ 1 → decoded (Err Odd) out ≡ decode_of text out
  unfolding decode_of
  decode_odd a = rw (eq-eqb (length text % 2) 1 a)

  module _ (a : length text % 2 ≡ 1 → ⊥) where
    pub decode-not-hex : every is_hex text ≡ false → decoded (Err NotHex) out ≡ decode_of text out
    unfolding decode_of
    decode-not-hex b = rw (ne_eqb (length text % 2) 1 a, b)

    module _ (b : every is_hex text ≡ true) where
      pub decode-full : length out < length text / 2 → decoded (Err Full) out ≡ decode_of text out
      unfolding decode_of
      decode-full c = rw (ne_eqb (length text % 2) 1 a, b, lt-ltb (length out) (length text / 2) c)

      pub decode-bytes : length text / 2 ≤ length out → decoded (Ok (length text / 2)) (laid (bytes_of text) out) ≡ decode_of text out
      unfolding decode_of
      decode-bytes c = rw (ne_eqb (length text % 2) 1 a, b, le-ltb (length out) (length text / 2) c)
