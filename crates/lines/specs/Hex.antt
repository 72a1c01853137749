-- Hexadecimal text: two characters a byte, the upper half first. Document 01, "The bench program and the C side": "Digits in either case,
-- written in lower". Assumes nothing.
use Rattle.std.specs.Prelude.{ℕ, ◌+◌, ◌-◌, ◌*◌, ◌/◌, ◌%◌, List, [], ◌∷◌, Bool, not, ◌&&◌, ◌||◌, length, ltb, eqb, Result, Ok, Err}
use Rattle.lines.specs.Text.{between, every}
use Rattle.numbers.specs.Bytes.{pick, laid}
use Rattle.lines.specs.declared.HexFault.{HexFault}
use Rattle.lines.specs.declared.HexFault.TheVariants.{Odd, NotHex, Full}

-- "Digits in either case": the value of '0' to '9', 'a' to 'f', 'A' to 'F'; 16 for any other character
unfoldable pub digit_of : ℕ → ℕ
digit_of b =
    pick (between 48 57 b) (b - 48)
    (pick (between 97 102 b) (b - 87)
    (pick (between 65 70 b) (b - 55) 16))

-- whether a character is a digit of either case
abbrev pub is_hex : ℕ → Bool
is_hex b = ltb (digit_of b) 16

-- whether a character is one of '0' to '9', 'a' to 'f': the driver reads no others (ours)
unfoldable pub is_lower_hex : ℕ → Bool
is_lower_hex b = between 48 57 b || between 97 102 b

-- the bytes of a text of digits: each two characters are one byte, the first its upper half
unfoldable pub bytes_of : List ℕ → List ℕ
bytes_of [] = []
bytes_of (a ∷ []) = []
bytes_of (a ∷ b ∷ text) = (digit_of a * 16 + digit_of b) ∷ bytes_of text

-- a text two characters at a time: each pair is one number, the first character its lower byte
unfoldable pub pairs_of : List ℕ → List ℕ
pairs_of [] = []
pairs_of (a ∷ []) = []
pairs_of (a ∷ b ∷ text) = (a + b * 256) ∷ pairs_of text

-- whether both characters of a pair are digits
abbrev pub is_pair : ℕ → Bool
is_pair pair = is_hex (pair % 256) && is_hex (pair / 256)

-- the byte that a pair of digits says, the first its upper half
abbrev pub pair_byte : ℕ → ℕ
pair_byte pair = digit_of (pair % 256) * 16 + digit_of (pair / 256)

-- what decoding leaves: its answer and the buffer
pub record Decoding : Type 0 where
  pub answer : Result ℕ HexFault
  pub buffer : List ℕ

abbrev pub decoded : Result ℕ HexFault → List ℕ → Decoding
decoded r out = record { answer = r; buffer = out }

-- refused in this order: an odd number of characters, a character that is no digit, a buffer too short; else the bytes go to its front
unfoldable pub decode_of : List ℕ → List ℕ → Decoding
decode_of text out =
    pick (eqb (length text % 2) 1) (decoded (Err Odd) out)
    (pick (not (every is_hex text)) (decoded (Err NotHex) out)
    (pick (ltb (length out) (length text / 2)) (decoded (Err Full) out)
    (decoded (Ok (length text / 2)) (laid (bytes_of text) out))))

-- "written in lower": the digit of a value below 16
unfoldable pub letter_of : ℕ → ℕ
letter_of v = pick (ltb v 10) (48 + v) (87 + v)

-- the text of bytes: two digits a byte, the upper half first
unfoldable pub hex_of : List ℕ → List ℕ
hex_of [] = []
hex_of (b ∷ bytes) = letter_of (b / 16) ∷ letter_of (b % 16) ∷ hex_of bytes
