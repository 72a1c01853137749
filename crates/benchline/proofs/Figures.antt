-- Document 01's whole case and the forms of a line, computed from the definitions: input `1007010000000000` and `6007000000000000`, output
-- `1 W 40070201000000040000000100009873` and `2 R 1`. What the link answers is not computed here. Assumes nothing.
use Rattle.std.proofs.Common.{◌≡◌, ℕ, true, false, List, [], ◌∷◌, refl}
use Rattle.numbers.specs.Numbers.{value_le, value_be}
use Rattle.lines.specs.Hex.{digit_of, bytes_of, letter_of, hex_of}
use Rattle.lines.specs.Decimal.{digits_by, decimal_of}
use Rattle.frame.specs.Rules.{known_version, listed_service, info_fits, flag_fits, largest, size_fits, fault_of, header_size}
use Rattle.frame.specs.Read.{front_of, message_of, read_of}
use Rattle.link.specs.declared.Answer.TheVariants as answer
use Rattle.link.specs.Values.{values_of}
use Rattle.benchline.specs.Line.{is_taken, verdict_of, text_of}

-- the digits of an opening, and of a frame of version 6: both go to the link
abbrev opening : List ℕ
opening = 49 ∷ 48 ∷ 48 ∷ 55 ∷ 48 ∷ 49 ∷ 48 ∷ 48 ∷ 48 ∷ 48 ∷ 48 ∷ 48 ∷ 48 ∷ 48 ∷ 48 ∷ 48 ∷ []

abbrev version_6 : List ℕ
version_6 = 54 ∷ 48 ∷ 48 ∷ 55 ∷ 48 ∷ 48 ∷ 48 ∷ 48 ∷ 48 ∷ 48 ∷ 48 ∷ 48 ∷ 48 ∷ 48 ∷ 48 ∷ 48 ∷ []

pub both_taken : (is_taken opening ≡ true) × (is_taken version_6 ≡ true)
unfolding is_taken digit_of bytes_of read_of front_of message_of fault_of known_version listed_service info_fits flag_fits largest size_fits header_size value_le value_be
both_taken = (refl, refl)

-- no digits, one digit, two digits, a letter that is no digit: X
pub not_taken : (is_taken [] ≡ false) × (is_taken (49 ∷ []) ≡ false) × (is_taken (49 ∷ 48 ∷ []) ≡ false) × (is_taken (103 ∷ 48 ∷ []) ≡ false)
unfolding is_taken digit_of bytes_of read_of
not_taken = (refl, refl, refl, refl)

-- the ACK of the opening, with a byte of out behind it
pub acknowledged : text_of 1 (verdict_of (values_of (answer.Acked 8 16)) (0x40 ∷ 0x07 ∷ 0x02 ∷ 0x01 ∷ 0 ∷ 0 ∷ 0 ∷ 4 ∷ 0 ∷ 0 ∷ 0 ∷ 1 ∷ 0 ∷ 0 ∷ 0x98 ∷ 0x73 ∷ 0xEE ∷ []))
    ≡ 49 ∷ 32 ∷ 87 ∷ 32 ∷ 52 ∷ 48 ∷ 48 ∷ 55 ∷ 48 ∷ 50 ∷ 48 ∷ 49 ∷ 48 ∷ 48 ∷ 48 ∷ 48 ∷ 48 ∷ 48 ∷ 48 ∷ 52 ∷ 48 ∷ 48 ∷ 48 ∷ 48 ∷ 48 ∷ 48 ∷ 48 ∷ 49
    ∷ 48 ∷ 48 ∷ 48 ∷ 48 ∷ 57 ∷ 56 ∷ 55 ∷ 51 ∷ 10 ∷ []
unfolding decimal_of digits_by hex_of letter_of
acknowledged = refl

-- `2 R 1`
pub refused : text_of 2 (verdict_of (values_of (answer.Refused 1)) []) ≡ 50 ∷ 32 ∷ 82 ∷ 32 ∷ 49 ∷ 10 ∷ []
unfolding decimal_of digits_by
refused = refl

-- `12 D 0a ca` and, with no bytes, `12 D 0a`
pub delivered : (text_of 12 (verdict_of (values_of (answer.Delivered 13 (record { 0 = 0x0A }) 1)) (0xCA ∷ [])) ≡ 49 ∷ 50 ∷ 32 ∷ 68 ∷ 32 ∷ 48 ∷ 97 ∷ 32 ∷ 99 ∷ 97 ∷ 10 ∷ [])
    × (text_of 12 (verdict_of (values_of (answer.Delivered 12 (record { 0 = 0x0A }) 0)) (0xCA ∷ [])) ≡ 49 ∷ 50 ∷ 32 ∷ 68 ∷ 32 ∷ 48 ∷ 97 ∷ 10 ∷ [])
unfolding decimal_of digits_by hex_of letter_of
delivered = (refl, refl)
