-- The program over a piece of its input: the lines that end in it, what they leave, and what is kept of the line that goes on in the next piece.
-- What a read brings and what a write hands over is said by `streams`, and of one flush by `Passed`; of a whole run nothing is. Assumes nothing.
use Rattle.std.specs.Prelude.{ℕ, ◌+◌, ◌-◌, ◌<◌, ◌≡◌, true, false, ◌&&◌, List, [], ◌∷◌, ◌++◌, eqb, leb, length, take, drop, replicate, Option, Some, None, IsSome}
use Rattle.std.specs.Io.KnownBytes.{Keeps, Appends}
use Rattle.numbers.specs.Bytes.{pick}
use Rattle.lines.specs.Newline.{line_length}
use Rattle.benchline.specs.Line.{Left, most_text, line_of}
use Rattle.bench.specs.declared.Kept.{Kept}
use Rattle.bench.specs.declared.HeadUnit.{HeadUnit}

-- a link's state
abbrev pub state_size : ℕ
state_size = 2688

-- the bytes for it, before anything is in them
unfoldable pub empty_state : List ℕ
empty_state = replicate 2688 0

-- "out of 65,536 bytes", and the pool that a link asks for
abbrev pub out_size : ℕ
out_size = 65536

abbrev pub pool_size : ℕ
pool_size = 65536

-- a line of 3,000 digits, and one character more to tell a longer one: what is behind that makes no difference
abbrev pub most_kept : ℕ
most_kept = 3001

-- the line was answered: no line is lost
abbrev pub IsText : Option ℕ → Type 0
IsText output = IsSome output

abbrev pub size_of : Option ℕ → ℕ
size_of (Some n) = n
size_of None = 0

-- what goes from line to line: how many were answered, the link's state, its buffers, and the texts that wait to be written, so many characters at the
-- front of theirs
pub record Run : Type 0 where
  pub lines : ℕ
  pub link : List ℕ
  pub pool : List ℕ
  pub out : List ℕ
  pub texts : List ℕ
  pub waiting : ℕ

abbrev pub run_of : ℕ → List ℕ → List ℕ → List ℕ → List ℕ → ℕ → Run
run_of lines link pool out texts waiting = record { lines = lines; link = link; pool = pool; out = out; texts = texts; waiting = waiting }

abbrev pub run_in : HeadUnit → Run
run_in u = run_of u.lines u.state u.pool u.out u.texts u.waiting

-- what is kept of a line that goes on in the next piece
abbrev pub kept_in : Kept → List ℕ
kept_in k = take k.filled k.chars

-- the texts are written, and none waits
abbrev pub written : Run → Run
written r = run_of r.lines r.link r.pool r.out r.texts 0

-- after a write that failed nothing more is written or read
abbrev pub Flushed : HeadUnit → HeadUnit → Type 0
Flushed s r =
    (s.taken ≡ false → (r.taken ≡ false) × (r.more ≡ s.more))
    × (s.taken ≡ true → r.more ≡ s.more && r.taken)

-- what the writer holds then, where that is known: the texts that waited behind what it held, all of them where none of the writes failed, else so many
-- characters at their front
abbrev pub Passed : HeadUnit → HeadUnit → Option (List ℕ) → Option (List ℕ) → Type 0
Passed s r old new =
    (s.taken ≡ false → Keeps old new)
    × (s.taken ≡ true → r.taken ≡ true → Appends old new (take s.waiting s.texts))
    × (s.taken ≡ true → (n : ℕ) × Appends old new (take n (take s.waiting s.texts)))

-- texts wait as long as the longest one fits behind them; else they are written first
abbrev pub waiting_before : List ℕ → List ℕ → ℕ → ℕ
waiting_before out texts waiting = pick (leb waiting (length texts - most_text out)) waiting 0

abbrev pub roomed : Run → Run
roomed r = run_of r.lines r.link r.pool r.out r.texts (waiting_before r.out r.texts r.waiting)

-- what a line left, its text behind so many characters
abbrev pub joined : ℕ → List ℕ → Left → Run
joined waiting texts l = run_of l.lines l.state l.pool l.out (take waiting texts ++ l.text) (waiting + size_of l.output)

abbrev pub answer_to : ℕ → Run → List ℕ → Left
answer_to waiting r line = line_of r.lines line r.link r.pool r.out (drop waiting r.texts)

abbrev pub answered_at : ℕ → Run → List ℕ → Run
answered_at waiting r line = joined waiting r.texts (answer_to waiting r line)

abbrev pub after_line : Run → List ℕ → Run
after_line r line = answered_at (waiting_before r.out r.texts r.waiting) r line

unfoldable pub after_lines : Run → List (List ℕ) → Run
after_lines r [] = r
after_lines r (line ∷ lines) = after_lines (after_line r line) lines

-- a text's first line, and what stands behind its newline: the line ends
abbrev pub FirstLine : List ℕ → List ℕ → List ℕ → Type 0
FirstLine text line behind =
    (line_length text < length text) × ((line ≡ take (line_length text) text) × (behind ≡ drop (line_length text + 1) text))

-- the lines that end in a piece, without their newlines; the first began with what was kept
unfoldable pub lines_in : List ℕ → List ℕ → List (List ℕ)
lines_in kept [] = []
lines_in kept (b ∷ piece) = pick (eqb b 10) (kept ∷ lines_in [] piece) (lines_in (kept ++ b ∷ []) piece)

-- what is kept then: all that stands behind the last newline
unfoldable pub kept_after : List ℕ → List ℕ → List ℕ
kept_after kept [] = kept
kept_after kept (b ∷ piece) = pick (eqb b 10) (kept_after [] piece) (kept_after (kept ++ b ∷ []) piece)

-- what a read brought: its lines are answered and the texts written; no bytes are the end of the input
abbrev pub after_read : Run → List ℕ → List ℕ → Run
after_read r kept piece = pick (eqb (length piece) 0) r (written (after_lines r (lines_in kept piece)))

-- the last line may lack its newline; an empty one is none
abbrev pub last_of : Run → ℕ → List ℕ → Run
last_of r filled line = pick (eqb filled 0) r (after_line r (take filled line))
