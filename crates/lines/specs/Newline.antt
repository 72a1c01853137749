-- Lines of a text: a newline, 10, ends one; any other character belongs to it. Assumes nothing.
use Rattle.std.specs.Prelude.{ℕ, suc, ◌+◌, min, Bool, not, List, [], ◌∷◌, length, drop, eqb}
use Rattle.numbers.specs.Bytes.{pick}

-- whether a character belongs to a line
abbrev pub is_in_line : ℕ → Bool
is_in_line b = not (eqb b 10)

-- how many characters stand before the first newline; all of them where there is none
unfoldable pub line_length : List ℕ → ℕ
line_length [] = 0
line_length (b ∷ text) = pick (eqb b 10) 0 (suc (line_length text))

-- where the line that goes on at a place ends: at the next newline, or with the text; a place past the text's end counts as its end
unfoldable pub line_end_of : List ℕ → ℕ → ℕ
line_end_of text from = min from (length text) + line_length (drop from text)
