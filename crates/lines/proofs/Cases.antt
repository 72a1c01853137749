-- Worked cases of the definitions, by computation: each list of inputs gives the list of answers beside it.
-- Assumes nothing.
use mathlib.Core.Path.{◌≡◌, refl}
use mathlib.Core.List.{[], ◌∷◌, map}
use Rattle.lines.specs.Text.{encoded, written_of}
use Rattle.lines.specs.Hex.{digit_of, bytes_of, decoded, decode_of, letter_of, hex_of}
use Rattle.lines.specs.Decimal.{value_from, value_of, number_of, digits_by, decimal_of}
use Rattle.lines.specs.Newline.{line_length, line_end_of}
use Rattle.std.specs.Prelude.{Some, None, Ok, Err}
use Rattle.lines.specs.declared.HexFault.TheVariants.{Odd, NotHex, Full}
use Rattle.lines.specs.declared.NumberFault.TheVariants.{NotDecimal, TooLarge}

-- the characters at the ends of the three ranges, and their neighbours: / 0 9 : @ A F G ` a f g
digits : map digit_of (47 ∷ 48 ∷ 57 ∷ 58 ∷ 64 ∷ 65 ∷ 70 ∷ 71 ∷ 96 ∷ 97 ∷ 102 ∷ 103 ∷ []) ≡ 16 ∷ 0 ∷ 9 ∷ 16 ∷ 16 ∷ 10 ∷ 15 ∷ 16 ∷ 16 ∷ 10 ∷ 15 ∷ 16 ∷ []
unfolding digit_of
digits = refl

-- "", "0aFf", "g" (odd, and no digit), "0g", and "0aFf" again, into buffers of three, three, three, three bytes and one byte
decodings :
    decode_of [] (7 ∷ 7 ∷ 7 ∷ []) ∷ decode_of (48 ∷ 97 ∷ 70 ∷ 102 ∷ []) (7 ∷ 7 ∷ 7 ∷ []) ∷ decode_of (103 ∷ []) (7 ∷ 7 ∷ 7 ∷ [])
    ∷ decode_of (48 ∷ 103 ∷ []) (7 ∷ 7 ∷ 7 ∷ []) ∷ decode_of (48 ∷ 97 ∷ 70 ∷ 102 ∷ []) (7 ∷ []) ∷ []
    ≡ decoded (Ok 0) (7 ∷ 7 ∷ 7 ∷ []) ∷ decoded (Ok 2) (10 ∷ 255 ∷ 7 ∷ []) ∷ decoded (Err Odd) (7 ∷ 7 ∷ 7 ∷ [])
    ∷ decoded (Err NotHex) (7 ∷ 7 ∷ 7 ∷ []) ∷ decoded (Err Full) (7 ∷ []) ∷ []
unfolding digit_of bytes_of decode_of
decodings = refl

-- 10 and 255 as "0aff", into five bytes and into three; 0, 10 and 1907 in decimal
encodings :
    written_of (hex_of (10 ∷ 255 ∷ [])) (7 ∷ 7 ∷ 7 ∷ 7 ∷ 7 ∷ []) ∷ written_of (hex_of (10 ∷ 255 ∷ [])) (7 ∷ 7 ∷ 7 ∷ [])
    ∷ written_of (decimal_of 0) (7 ∷ []) ∷ written_of (decimal_of 10) (7 ∷ []) ∷ written_of (decimal_of 1907) (7 ∷ 7 ∷ 7 ∷ 7 ∷ 7 ∷ []) ∷ []
    ≡ encoded (Some 4) (48 ∷ 97 ∷ 102 ∷ 102 ∷ 7 ∷ []) ∷ encoded None (7 ∷ 7 ∷ 7 ∷ [])
    ∷ encoded (Some 1) (48 ∷ []) ∷ encoded None (7 ∷ []) ∷ encoded (Some 4) (49 ∷ 57 ∷ 48 ∷ 55 ∷ 7 ∷ []) ∷ []
unfolding letter_of hex_of digits_by decimal_of written_of
encodings = refl

-- "", "00", "019", "1:", 2 ^ 64 - 1 and 2 ^ 64
numbers :
    number_of [] ∷ number_of (48 ∷ 48 ∷ []) ∷ number_of (48 ∷ 49 ∷ 57 ∷ []) ∷ number_of (49 ∷ 58 ∷ [])
    ∷ number_of (decimal_of 18446744073709551615) ∷ number_of (decimal_of 18446744073709551616) ∷ []
    ≡ Err NotDecimal ∷ Ok 0 ∷ Ok 19 ∷ Err NotDecimal ∷ Ok 18446744073709551615 ∷ Err TooLarge ∷ []
unfolding value_from value_of number_of digits_by decimal_of
numbers = refl

-- where the lines of "a", newline, "b" end, from each place and from one past the end
ends : map (line_end_of (97 ∷ 10 ∷ 98 ∷ [])) (0 ∷ 1 ∷ 2 ∷ 3 ∷ 7 ∷ []) ≡ 1 ∷ 1 ∷ 3 ∷ 3 ∷ 3 ∷ []
unfolding line_length line_end_of
ends = refl
