-- The line that answers a command: characters, and among them the digits of bytes that stand at the front of the out buffer, or behind them two words of
-- bytes; docs/DRIVER.md.
-- A character is its number, as 'A' is 65. A text has room for 4,096 characters, and is cut there. Assumes nothing.
use Rattle.std.specs.Prelude.{◌≡◌, ℕ, ◌-◌, ◌≤◌, min, List, [], ◌∷◌, ◌++◌, length, take, drop, ◌==◌}
use Rattle.numbers.specs.Bytes.{pick}
use Rattle.lines.specs.Hex.{hex_of}
use Rattle.lines.specs.Decimal.{decimal_of}
use Rattle.text.specs.declared.Text.{Text}
use Rattle.text.specs.Said.{said}
use Rattle.rpc.specs.declared.Parts.{Parts}
use Rattle.rpc.specs.Read.{json_part, bulk_part}

-- characters, the digits of so many bytes, and characters behind them
pub record Spelled : Type 0 where
  pub before : List ℕ
  pub count : ℕ
  pub after : List ℕ

-- no bytes are spelled
abbrev pub plain : List ℕ → Spelled
plain s = record { before = []; count = 0; after = s }

-- bytes as the last word: "`-` stands for no bytes"
abbrev pub with_hex : List ℕ → ℕ → Spelled
with_hex s n = pick (n == 0) (plain (s ++ 32 ∷ 45 ∷ [])) (record { before = s ++ 32 ∷ []; count = n; after = [] })

-- more characters at the end
abbrev pub behind : Spelled → List ℕ → Spelled
behind l s = record { before = l.before; count = l.count; after = l.after ++ s }

-- the digits of so many bytes at the front of an out buffer, which has "at most 131,084"
abbrev pub digits_in : ℕ → List ℕ → List ℕ
digits_in count out = hex_of (take (min count 131084) out)

-- the characters that are written, `out` being the out buffer: all but the digits are cut where a text is full
abbrev pub cut_line : Spelled → List ℕ → List ℕ
cut_line l out = take 4096 l.before ++ (digits_in l.count out ++ take (4096 - length l.before) l.after)

-- the same with the newline
abbrev pub line_of : Spelled → List ℕ → List ℕ
line_of l out = cut_line (behind l (10 ∷ [])) out

-- a text has these characters, and says where the digits stand
pub record Holds (l : Spelled) (r : Text) : Type 0 where
  pub says : said r ≡ take 4096 (l.before ++ l.after)
  pub within : r.end ≤ 4096
  pub ends : r.end ≡ length (said r)
  pub cut : r.cut ≡ length (take 4096 l.before)
  pub size : r.size ≡ l.count

-- the line that a text makes with an out buffer: the digits stand behind its first `cut` characters
abbrev pub broken_at : ℕ → List ℕ → List ℕ → List ℕ
broken_at cut digits s = take cut s ++ (digits ++ drop cut s)

abbrev pub text_line : Text → List ℕ → List ℕ
text_line t out = broken_at t.cut (digits_in t.size out) (take 4096 (said t ++ 10 ∷ []))

-- ---- a line that ends with two words of bytes

-- bytes as a word behind a space: "`-` stands for no bytes"
abbrev pub word_text : List ℕ → List ℕ
word_text bytes = 32 ∷ pick (length bytes == 0) (45 ∷ []) (hex_of bytes)

-- JSON and bulk data of a payload behind some characters
abbrev pub parts_behind : List ℕ → List ℕ → Parts → List ℕ
parts_behind s payload p = s ++ (word_text (json_part payload p) ++ (word_text (bulk_part payload p) ++ 10 ∷ []))

-- the characters are cut where a text is full; a line says at most 150,000 bytes, so no payload of a line is cut
abbrev pub parts_line : List ℕ → List ℕ → Parts → List ℕ
parts_line s payload p = parts_behind (take 4096 s) (take 150000 payload) p

-- ---- parts of a line

-- "S n", "A consumed" and the like, and "R n"
abbrev pub letter_and : ℕ → ℕ → List ℕ
letter_and letter n = letter ∷ 32 ∷ decimal_of n

abbrev pub refused_text : ℕ → List ℕ
refused_text n = letter_and 82 n

-- numbers, a character before each
abbrev pub numbers_by : ℕ → List ℕ → List ℕ
numbers_by mark [] = []
numbers_by mark (n ∷ ns) = (mark ∷ decimal_of n) ++ numbers_by mark ns

-- "joined by": a part behind those before it, with a character between; nothing stands before the first one
abbrev pub joined : ℕ → List ℕ → List ℕ → List ℕ
joined mark [] part = part
joined mark (x ∷ parts) part = (x ∷ parts) ++ (mark ∷ part)

-- `-` for a list with no part
abbrev pub or_dash : List ℕ → List ℕ
or_dash [] = 45 ∷ []
or_dash (x ∷ parts) = x ∷ parts
