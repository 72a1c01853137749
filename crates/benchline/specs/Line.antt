-- The bench: one line of hexadecimal digits in, one line of text out. Document 01, "The bench program and the C side".
-- A character is its number, as 'A' is 65; a line is the list of its characters, without the newline. Assumes nothing.
use Rattle.std.specs.Prelude.{ℕ, ◌+◌, ◌*◌, ◌%◌, ◌^◌, Bool, true, false, ◌&&◌, List, [], ◌∷◌, ◌++◌, length, take, ◌==◌, nat_le, Option, Some, None}
use Rattle.numbers.specs.Bytes.{pick, unless, laid}
use Rattle.lines.specs.Text.{every}
use Rattle.lines.specs.Hex.{is_hex, bytes_of, hex_of}
use Rattle.lines.specs.Decimal.{decimal_of}
use Rattle.frame.specs.declared.Reading.{Reading}
use Rattle.frame.specs.declared.Reading.TheVariants as reading
use Rattle.frame.specs.Read.{read_of}
use Rattle.payload.specs.declared.version.Version.{Version}
use Rattle.link.specs.declared.Grant.{Grant}
use Rattle.link.specs.Values.{Kind, short, refused, reply, silent, delivery, Values, service_bytes}
use Rattle.state.specs.Calls.{call_in, Told, told_of, create_in}
use Rattle.benchline.specs.declared.Turn.{Turn}

-- "at most 3,000 digits"
abbrev pub most_digits : ℕ
most_digits = 3000

-- "Module 5.4.1, mtu 131,084"
abbrev pub module_version : Version
module_version = record { major = 5; minor = 4; patch = 1 }

abbrev pub module_mtu : ℕ
module_mtu = 131084

-- "G 32, C 64, hash 39,027"
abbrev pub offer : Grant
offer = record { guarantee = 32; cap = 64; hash = 39027 }

-- the link's state before the first line; bytes of any other length stay (each line that is taken is then `R 10`)
abbrev pub new_state : List ℕ → List ℕ
new_state state = (create_in state module_version module_mtu).state

-- "Short, or bytes after the frame" is X; bytes that the reader refuses go to the link, whose answer is that number
abbrev pub is_frame : List ℕ → Reading → Bool
is_frame bytes (reading.Short n) = false
is_frame bytes (reading.Refused n) = true
is_frame bytes (reading.Frame h e) = e.consumed == length bytes

-- "`X` (judged before the link: odd or not hex, too long, Short, or bytes after the frame)": what is none of these goes to the link
unfoldable pub is_taken : List ℕ → Bool
is_taken line =
    nat_le (length line) most_digits
    && (length line % 2 == 0
    && (every is_hex line
    && is_frame (bytes_of line) (read_of (bytes_of line))))

-- "one space between parts, none after the last (no bytes, no part)": a part with the space before it
abbrev pub spaced : List ℕ → List ℕ
spaced [] = []
spaced (b ∷ part) = 32 ∷ b ∷ part

-- the letters
abbrev pub letter_x : ℕ
letter_x = 88

abbrev pub letter_r : ℕ
letter_r = 82

abbrev pub letter_w : ℕ
letter_w = 87

abbrev pub letter_a : ℕ
letter_a = 65

abbrev pub letter_d : ℕ
letter_d = 68

-- "`W` reply, `D` service and bytes, `A` accepted silently, `R` number, or `X`": out is the buffer after the call
abbrev pub verdict_by : Kind → Values → List ℕ → List ℕ
verdict_by short v out = letter_x ∷ []
verdict_by refused v out = letter_r ∷ spaced (decimal_of v.refusal)
verdict_by (reply r) v out = letter_w ∷ spaced (hex_of (take v.written out))
verdict_by silent v out = letter_a ∷ []
verdict_by delivery v out = letter_d ∷ (spaced (hex_of (service_bytes v.service)) ++ spaced (hex_of (take v.written out)))

abbrev pub verdict_of : Values → List ℕ → List ℕ
verdict_of v out = verdict_by v.kind v out

-- "Output per line: line number and" verdict, and the newline
abbrev pub text_of : ℕ → List ℕ → List ℕ
text_of number verdict = decimal_of number ++ (spaced verdict ++ 10 ∷ [])

-- lines are numbered from 1; the number after the largest of 64 bits is 0 (ours)
abbrev pub next_of : ℕ → ℕ
next_of lines = (lines + 1) % 2 ^ 64

-- all that a line leaves: what it gives back, the link's state, and the lent buffers
pub record Left : Type 0 where
  pub output : Option ℕ
  pub lines : ℕ
  pub state : List ℕ
  pub pool : List ℕ
  pub out : List ℕ
  pub text : List ℕ

abbrev pub leaving : Option ℕ → ℕ → List ℕ → List ℕ → List ℕ → List ℕ → Left
leaving output lines state pool out text = record { output = output; lines = lines; state = state; pool = pool; out = out; text = text }

abbrev pub left : Turn → List ℕ → List ℕ → List ℕ → List ℕ → Left
left t state pool out text = leaving t.output t.lines state pool out text

-- the text to the front of the text buffer, and how long it is
abbrev pub saying : List ℕ → ℕ → List ℕ → List ℕ → List ℕ → List ℕ → Left
saying said number state pool out text = leaving (Some (length said)) number state pool out (laid said text)

-- a line that is not taken, after so many: the link is not called
abbrev pub refused_line : ℕ → List ℕ → List ℕ → List ℕ → List ℕ → Left
refused_line lines state pool out text = saying (text_of (next_of lines) (letter_x ∷ [])) (next_of lines) state pool out text

-- a line that is taken: what the call left, and its verdict
abbrev pub answered_line : ℕ → Told → List ℕ → Left
answered_line number o text = saying (text_of number (verdict_of o.values o.out)) number o.state o.pool o.out text

-- no text is longer: 20 digits of the number, 3 spaces, a letter, the service's 2 digits, two for each byte of out and a newline make
-- 27 and twice out's bytes
abbrev pub most_text : List ℕ → ℕ
most_text out = 2 * length out + 32

-- one line, after so many: no text, and nothing changed, where the longest text might not fit; else its text
unfoldable pub line_of : ℕ → List ℕ → List ℕ → List ℕ → List ℕ → List ℕ → Left
line_of lines line state pool out text =
    unless (nat_le (most_text out) (length text)) (leaving None lines state pool out text)
    (pick (is_taken line) (answered_line (next_of lines) (told_of (call_in state pool (bytes_of line) out offer)) text)
    (refused_line lines state pool out text))
