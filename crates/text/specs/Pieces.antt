-- Bytes put into a buffer, and the number that shows a buffer. Assumes nothing.
use Rattle.std.specs.Prelude.{ℕ, ◌+◌, ◌-◌, ◌*◌, ◌%◌, List, [], ◌∷◌, ◌++◌, leb, length, take, drop}
use Rattle.numbers.specs.Bytes.{pick}
use Rattle.lines.specs.Hex.{hex_of}

-- the bytes that fit into a buffer from a place on
abbrev pub fitting : List ℕ → ℕ → List ℕ → List ℕ
fitting buffer at bytes = take (length buffer - at) bytes

-- a buffer with the bytes that fit put from a place on
abbrev pub put_into : List ℕ → ℕ → List ℕ → List ℕ
put_into buffer at bytes =
    take at buffer ++ (fitting buffer at bytes ++ drop (at + length (fitting buffer at bytes)) buffer)

-- the digits of bytes, two for each, where these are at most 2,048; else none
abbrev pub digits_of : List ℕ → List ℕ
digits_of bytes = pick (leb (length (hex_of bytes)) 2048) (hex_of bytes) []

-- docs/DRIVER.md: "x := (x * 31 + b[i]) mod 2^32 for each byte"
unfoldable pub check_from : ℕ → List ℕ → ℕ
check_from x [] = x
check_from x (b ∷ bytes) = check_from ((x * 31 + b) % 4294967296) bytes

-- "x after x := 7"
abbrev pub check_of : List ℕ → ℕ
check_of bytes = check_from 7 bytes
