-- A line as a whole: which lines are taken, from what the decoder and the reader say, and what a line leaves, from what its parts leave.
-- By the tests of the definitions. Assumes nothing.
use Rattle.std.proofs.Common.{◌≡◌, ℕ, ◌/◌, ◌%◌, ◌<◌, ◌≤◌, Bool, true, false, not, eqb, leb, ltb, List, length, take, drop, sym, refl, ◌∙◌, subst, arith, take_at, ltb-true, eq-eqb, ne_eqb, eqb-true, le-leb, Option, Some, None, Result}
use Rattle.std.specs.Result.{result_ok}
use Rattle.std.specs.Bool.{then_some}
use mathlib.Core.Bool.{and-false}
use borrow.Author.Tests.{lt-leb, eqb-false, not-true, not-false}
use Rattle.numbers.specs.Bytes.{pick, laid}
use Rattle.numbers.proofs.Choices.{either}
use Rattle.lines.specs.declared.HexFault.{HexFault}
use Rattle.lines.specs.Text.{every}
use Rattle.lines.specs.Hex.{is_hex, bytes_of, Decoding, decoded, decode_of}
use Rattle.lines.proofs.Characters.{length_bytes}
use Rattle.frame.specs.Read.{read_of}
use Rattle.state.specs.Calls.{call_in, told_of}
use Rattle.benchline.specs.Line.{offer, is_frame, is_taken, next_of, refused_line, answered_line, most_text, line_of}

-- the bytes at the front of the buffer
pub front_bytes : {f q : List ℕ} {n : ℕ} (line out : List ℕ) → f ≡ take n q → n ≡ length line / 2 → q ≡ laid (bytes_of line) out → f ≡ bytes_of line
front_bytes {n = n} line out e g h =
    let l : length (bytes_of line) ≡ n = length_bytes line ∙ sym g in
    e ∙ rw h (take_at (bytes_of line) (drop (length (bytes_of line)) out) n l)

-- which lines are taken
module _ (line : List ℕ) where
  pub too_long : 3000 < length line → is_taken line ≡ false
  unfolding is_taken
  too_long h = rw (lt-leb (length line) 3000 h)

  odd_line : length line % 2 ≡ 1 → is_taken line ≡ false
  unfolding is_taken
  odd_line h =
      let odd : length line % 2 ≡ 0 → ⊥ = λ e. omega arith in
      rw (ne_eqb (length line % 2) 0 odd) (and-false (leb (length line) 3000))

  other_line : every is_hex line ≡ false → is_taken line ≡ false
  unfolding is_taken
  other_line h = rw (h, and-false (eqb (length line % 2) 0)) (and-false (leb (length line) 3000))

  pub frame_line : {b : Bool} {f : List ℕ} → length line ≤ 3000 → length line % 2 ≡ 0 → every is_hex line ≡ true → f ≡ bytes_of line → b ≡ is_frame f (read_of f) → is_taken line ≡ b
  unfolding is_taken
  frame_line l e h g k = rw (le-leb (length line) 3000 l, eq-eqb (length line % 2) 0 e, h, ← g) (sym k)

-- what the decoder's answer says of a line whose bytes have room
module _ (line out : List ℕ) (room : length line / 2 ≤ length out) where
  abbrev pub Says : Option ℕ → List ℕ → Type 0
  Says (Some n) q = (length line % 2 ≡ 0) × ((every is_hex line ≡ true) × ((n ≡ length line / 2) × (q ≡ laid (bytes_of line) out)))
  Says None q = is_taken line ≡ false

  abbrev Tells : Decoding → Type 0
  Tells x = Says (result_ok x.answer) x.buffer

  decode_tells : Tells (decode_of line out)
  unfolding decode_of
  decode_tells =
      either Tells (eqb (length line % 2) 1) _ _ (λ e. odd_line line (eqb-true (length line % 2) 1 e)) λ e.
      either Tells (not (every is_hex line)) _ _ (λ f. other_line line (not-true (every is_hex line) f)) λ f.
      either Tells (ltb (length out) (length line / 2)) _ _ (λ g. absurd (omega (arith, ltb-true (length out) (length line / 2) g))) λ g.
      let odd : length line % 2 ≡ 1 → ⊥ = eqb-false (length line % 2) 1 e in
      (omega arith, (not-false (every is_hex line) f, (refl, refl)))

  pub decode_says : {r : Result ℕ HexFault} {a : Option ℕ} {q : List ℕ} → decoded r q ≡ decode_of line out → a ≡ result_ok r → Says a q
  decode_says {q = q} e f = subst (λ (a : Option ℕ). Says a q) (sym f) (subst Tells (sym e) decode_tells)

-- what reading a line answers, and what its buffer is to hold
module _ (line q : List ℕ) where
  abbrev pub Reads : Option ℕ → Type 0
  Reads r = (r ≡ pick (is_taken line) (Some (length line / 2)) None) × (is_taken line ≡ true → take (length line / 2) q ≡ bytes_of line)

  pub reads_none : {r : Option ℕ} → is_taken line ≡ false → r ≡ None → Reads r
  reads_none e k = (k ∙ rw e refl, λ t. cc)

  pub reads_bytes : {b : Bool} {n : ℕ} {r : Option ℕ} → is_taken line ≡ b → n ≡ length line / 2 → take n q ≡ bytes_of line → r ≡ then_some b n → Reads r
  reads_bytes {b = true} e g h k = (k ∙ rw (e, g) refl, λ t. rw (← g) h)
  reads_bytes {b = false} e g h k = (k ∙ rw e refl, λ t. cc)

-- what the answer of reading says of the line
pub frame_told : (b : Bool) (n k : ℕ) {r : Option ℕ} → r ≡ Some n → r ≡ pick b (Some k) None → (b ≡ true) × (n ≡ k)
frame_told true n k e f = (refl, cc)
frame_told false n k e f = (cc, cc)

pub none_told : (b : Bool) (k : ℕ) {r : Option ℕ} → r ≡ None → r ≡ pick b (Some k) None → b ≡ false
none_told true k e f = cc
none_told false k e f = refl

-- the line's outcomes
module _ (lines : ℕ) (line state pool out text : List ℕ) (room : most_text out ≤ length text) where
  pub line_answered : {f : List ℕ} → is_taken line ≡ true → f ≡ bytes_of line
      → answered_line (next_of lines) (told_of (call_in state pool f out offer)) text ≡ line_of lines line state pool out text
  unfolding line_of
  line_answered e g = rw (g, le-leb (most_text out) (length text) room, e)

  pub line_refused : is_taken line ≡ false → refused_line lines state pool out text ≡ line_of lines line state pool out text
  unfolding line_of
  line_refused e = rw (le-leb (most_text out) (length text) room, e)
