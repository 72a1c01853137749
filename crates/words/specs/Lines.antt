-- What a whole line says, and the bytes of its last word or its last two: docs/DRIVER.md. Assumes nothing.
use Rattle.std.specs.Prelude.{ℕ, ◌+◌, Bool, true, false, ◌&&◌, List, [], ◌∷◌, ◌++◌, eqb, ltb, length, take, drop, replicate, Option, Result, Ok, Err}
use Rattle.std.specs.Bool.{then_some}
use Rattle.std.proofs.Math.Seq.{slice}
use Rattle.lines.specs.Place.{index_of}
use Rattle.numbers.specs.Bytes.{pick}
use Rattle.lines.specs.declared.HexFault.{HexFault}
use Rattle.lines.specs.Text.{every}
use Rattle.lines.specs.Hex.{Decoding, decode_of, is_lower_hex}
use Rattle.words.specs.declared.Kind.{Kind}
use Rattle.words.specs.declared.Kind.TheVariants.{Unreadable, New, Silent, RpcWrite}
use Rattle.words.specs.declared.Last.{Last}
use Rattle.words.specs.declared.Command.{Command}
use Rattle.words.specs.Words.{Form, NumbersRead, same_bytes, is_silent, word_end, between, numbers_of, form_of}

-- how many bytes the last word says, or the last two together, and whether they can be read; the first of two says `first`
pub record LastRead : Type 0 where
  pub good : Bool
  pub first : ℕ
  pub count : ℕ

-- what reading the last words leaves: its answer and the buffer for its bytes
pub record LastLeft : Type 0 where
  pub last : LastRead
  pub content : List ℕ

abbrev pub leaves : LastRead → List ℕ → LastLeft
leaves last content = record { last = last; content = content }

-- "HEX is lower-case hexadecimal, at least two digits": what decoding answers, where every digit is lower-case or not
abbrev pub last_by : Bool → Result ℕ HexFault → LastRead
last_by lower (Ok n) = record { good = ltb 0 n && lower; first = 0; count = n }
last_by lower (Err f) = record { good = false; first = 0; count = 0 }

abbrev pub decoded_word : Bool → Decoding → LastLeft
decoded_word lower d = leaves (last_by lower d.answer) d.buffer

-- "`-` stands for no bytes"
unfoldable pub hex_word : List ℕ → List ℕ → LastLeft
hex_word word content =
    pick (same_bytes word (45 ∷ [])) (leaves (record { good = true; first = 0; count = 0 }) content)
    (decoded_word (every is_lower_hex word) (decode_of word content))

-- two words, the bytes of the second right behind those of the first
abbrev pub second_after : LastLeft → LastLeft → LastLeft
second_after a b =
    leaves
    (record { good = a.last.good && b.last.good; first = a.last.count; count = a.last.count + b.last.count })
    (take a.last.count a.content ++ b.content)

abbrev pub with_second : List ℕ → LastLeft → LastLeft
with_second word a = second_after a (hex_word word (drop a.last.count a.content))

-- "two HEX words": the first ends at the next space, the second is the rest of the line
unfoldable pub two_words : List ℕ → ℕ → List ℕ → LastLeft
two_words line end content =
    with_second (between line (word_end line end) (length line)) (hex_word (between line end (word_end line end)) content)

-- behind the numbers, which end at a position: nothing for `new`, two words for `rpcwrite`, else the rest of the line as one word
unfoldable pub last_of : List ℕ → Kind → ℕ → List ℕ → LastLeft
last_of line New end content = leaves (record { good = eqb end (length line); first = 0; count = 0 }) content
last_of line RpcWrite end content = two_words line end content
last_of line _ end content = hex_word (between line end (length line)) content

-- the last words, where they can be read
abbrev pub said_last : LastRead → Option Last
said_last l = then_some l.good (record { first = l.first; count = l.count })

-- a command with no words behind it
abbrev pub bare_command : Kind → Command
bare_command kind = record { kind = kind; values = replicate 9 0; lent = 0; first = 0; count = 0 }

-- "A line that cannot be read as one of the commands is answered `?`"
abbrev pub whole_of : Kind → NumbersRead → LastRead → Command
whole_of kind n l =
    pick (n.good && l.good) (record { kind = kind; values = n.values; lent = n.lent; first = l.first; count = l.count })
    (bare_command Unreadable)

-- what a line leaves: what it says, and the buffer for its bytes
pub record Left : Type 0 where
  pub command : Command
  pub content : List ℕ

abbrev pub leaving : Command → List ℕ → Left
leaving command content = record { command = command; content = content }

-- by its form, its numbers and what reading the last word left
abbrev pub spoken_by : Form → NumbersRead → LastLeft → Left
spoken_by form n l = leaving (whole_of form.kind n l.last) l.content

-- where the first word ends
abbrev pub name_end : List ℕ → ℕ
name_end line = index_of 32 (slice 0 (length line) line)

abbrev pub spoken : List ℕ → ℕ → Form → NumbersRead → List ℕ → Left
spoken line space form n content = spoken_by form n (last_of line form.kind n.end content)

abbrev pub with_form : List ℕ → ℕ → Form → List ℕ → Left
with_form line space form content = spoken line space form (numbers_of line space form) content

-- the whole line
unfoldable pub command_of : List ℕ → List ℕ → Left
command_of line content =
    pick (is_silent line) (leaving (bare_command Silent) content)
    (with_form line (name_end line) (form_of (take (name_end line) line)) content)
