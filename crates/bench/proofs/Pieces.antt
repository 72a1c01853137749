-- Pieces of the input: what the end of a line makes of the lines and of what is kept, that a line cut behind 3,001 characters is answered as the
-- whole one, and that it makes no difference how the input comes in pieces. By induction over a piece and over its lines. Assumes nothing.
use Prim.Native.Nat.{ℕ, suc, ◌+◌, ◌≤◌, ◌<◌}
use mathlib.Core.Path.{◌≡◌, refl, ap, ◌∙◌, sym, subst}
use mathlib.Core.Bool.{false}
use mathlib.Core.List.{List, [], ◌∷◌, ◌++◌, append-nil, append_assoc}
use native.Mathlib.Omega.{arith}
use Rattle.std.proofs.Common.{None, add-one}
use lib.Dec.{eqb, leb}
use lib.ListN.{length, take, drop, length-take, length-append}
use lib.Seq.{take_all}
use borrow.Author.Tests.{leb-true, leb-false, le-leb, lt-leb}
use Rattle.numbers.specs.Bytes.{unless, laid}
use Rattle.numbers.proofs.Choices.{split, either, unless_elim}
use Rattle.lines.specs.Hex.{bytes_of}
use Rattle.lines.specs.Newline.{line_length, line_end_of}
use Rattle.state.specs.Calls.{call_in, told_of}
use Rattle.benchline.specs.declared.Turn.{Turn}
use Rattle.benchline.specs.Line.{Left, leaving, left, most_digits, most_text, is_taken, letter_x, next_of, text_of, verdict_of, offer, refused_line, line_of}
use Rattle.bench.specs.Pieces.{most_kept, IsText, size_of, waiting_before, joined, answered_at, after_line, Run, after_lines, lines_in, kept_after}

-- one character of a line
grows : (kept : List ℕ) (b : ℕ) (s : List ℕ) → (kept ++ b ∷ []) ++ s ≡ kept ++ b ∷ s
grows kept b s = append_assoc kept (b ∷ []) s

-- a piece in which no line ends
pub lines_none : (kept s : List ℕ) → line_length s ≡ length s → lines_in kept s ≡ []
unfolding line_length lines_in
lines_none kept [] e = refl
lines_none kept (b ∷ s) e =
    split (eqb b 10) (λ t. cc (rw t at e)) (λ f. rw f (lines_none (kept ++ b ∷ []) s (omega (arith, rw f at e))))

pub kept_none : (kept s : List ℕ) → line_length s ≡ length s → kept_after kept s ≡ kept ++ s
unfolding line_length kept_after
kept_none kept [] e = sym (append-nil kept)
kept_none kept (b ∷ s) e =
    split (eqb b 10) (λ t. cc (rw t at e)) (λ f. rw f (kept_none (kept ++ b ∷ []) s (omega (arith, rw f at e)) ∙ grows kept b s))

-- a piece in which one ends: it is the first
pub lines_some : (kept s : List ℕ) → line_length s < length s → lines_in kept s ≡ (kept ++ take (line_length s) s) ∷ lines_in [] (drop (suc (line_length s)) s)
unfolding line_length lines_in
lines_some kept [] h = absurd (omega (arith, h))
lines_some kept (b ∷ s) h =
    split (eqb b 10) (λ t. rw (t, append-nil kept)) (λ f. rw (f, ← grows kept b (take (line_length s) s)) (lines_some (kept ++ b ∷ []) s (omega (arith, rw f at h))))

pub kept_some : (kept s : List ℕ) → line_length s < length s → kept_after kept s ≡ kept_after [] (drop (suc (line_length s)) s)
unfolding line_length kept_after
kept_some kept [] h = absurd (omega (arith, h))
kept_some kept (b ∷ s) h =
    split (eqb b 10) (λ t. rw t) (λ f. rw f (kept_some (kept ++ b ∷ []) s (omega (arith, rw f at h))))

-- ---- too long a line

too_long : (line : List ℕ) → most_digits < length line → is_taken line ≡ false
unfolding is_taken
too_long line h = rw (lt-leb (length line) most_digits h)

refused_long : (lines : ℕ) (line link pool out text : List ℕ) → most_digits < length line
    → line_of lines line link pool out text
    ≡ unless (leb (most_text out) (length text)) (leaving None lines link pool out text) (refused_line lines link pool out text)
unfolding line_of
refused_long lines line link pool out text h = rw (too_long line h)

module _ (n : ℕ) (h : most_kept ≤ n) (lines : ℕ) where
  -- a line of which the front was cut
  front_cut : (front s link pool out text : List ℕ) → line_of lines (take n front ++ s) link pool out text ≡ line_of lines (front ++ s) link pool out text
  front_cut front s link pool out text =
      split (leb (length front) n) (λ e. ap (λ (l : List ℕ). line_of lines (l ++ s) link pool out text) (take_all n front (leb-true (length front) n e))) λ e.
      let g : n < length front = leb-false (length front) n e in
      refused_long lines (take n front ++ s) link pool out text (omega (arith, h, g, length-take n front, length-append (take n front) s))
      ∙ sym (refused_long lines (front ++ s) link pool out text (omega (arith, h, g, length-append front s)))

  line_cut : (line link pool out text : List ℕ) → line_of lines (take n line) link pool out text ≡ line_of lines line link pool out text
  line_cut line link pool out text = rw (append-nil (take n line), append-nil line) at (front_cut line [] link pool out text)

-- a line of which 3,001 characters were gathered
pub line_gathered : {line' : List ℕ} (w : ℕ) (r : Run) (line : List ℕ) → line' ≡ take most_kept line → answered_at w r line' ≡ answered_at w r line
line_gathered w r line e =
    ap (answered_at w r) e
    ∙ ap (joined w r.texts) (line_cut most_kept (omega arith) r.lines line r.link r.pool r.out (drop w r.texts))

-- ---- the text of a line

-- a text is no longer than the buffer that it stands in
abbrev Within : Left → Type 0
Within l = size_of l.output ≤ length l.text

said_within : (said : List ℕ) (text : List ℕ) → length said ≤ length (laid said text)
said_within said text = omega (arith, length-append said (drop (length said) text))

size_within : (lines : ℕ) (line link pool out text : List ℕ) → Within (line_of lines line link pool out text)
unfolding line_of
size_within lines line link pool out text =
    let number = next_of lines in
    let o = told_of (call_in link pool (bytes_of line) out offer) in
    unless_elim Within (leb (most_text out) (length text)) _ _ (λ _. omega arith) λ _.
    either Within (is_taken line) _ _ (λ _. said_within (text_of number (verdict_of o.values o.out)) text) (λ _. said_within (text_of number (letter_x ∷ [])) text)

module _ {t : Turn} {link' pool' out' text' : List ℕ} where
  pub text_within : (lines : ℕ) (line link pool out text : List ℕ) → left t link' pool' out' text' ≡ line_of lines line link pool out text
      → size_of t.output ≤ length text'
  text_within lines line link pool out text e = subst Within (sym e) (size_within lines line link pool out text)

-- where the longest text fits, a line has one
line_says : (lines : ℕ) (line link pool out text : List ℕ) → most_text out ≤ length text → IsText (line_of lines line link pool out text).output
unfolding line_of
line_says lines line link pool out text room =
    rw (le-leb (most_text out) (length text) room) (either (λ (l : Left). IsText l.output) (is_taken line) _ _ (λ _. refl) (λ _. refl))

pub turn_says : {t : Turn} {link' pool' out' text' : List ℕ} (lines : ℕ) (line link pool out text : List ℕ) → most_text out ≤ length text
    → left t link' pool' out' text' ≡ line_of lines line link pool out text → IsText t.output
turn_says lines line link pool out text room e = subst (λ (l : Left). IsText l.output) (sym e) (line_says lines line link pool out text room)

-- ---- over what is left of a piece

pub end_is : (s : List ℕ) {end : ℕ} → end ≡ line_end_of s 0 → end ≡ line_length s
unfolding line_end_of
end_is s e = omega (arith, e)

module _ (s kept : List ℕ) (r : Run) where
  -- a line ends: it is answered, none of it is kept, and what is behind its newline is left
  module _ (h : line_length s < length s) {part kept' s' : List ℕ} (p : part ≡ take (line_length s) s) (k : s' ≡ drop (line_length s + 1) s) (none : kept' ≡ []) where
    left_is : s' ≡ drop (suc (line_length s)) s
    left_is = k ∙ rw add-one

    pub line_passed : {r' : Run} → r' ≡ after_line r (kept ++ part) → after_lines r' (lines_in kept' s') ≡ after_lines r (lines_in kept s)
    unfolding after_lines
    line_passed {r'} f =
        ap (λ (l : List ℕ). after_lines r' (lines_in l s')) none
        ∙ ap (λ (l : List ℕ). after_lines r' (lines_in [] l)) left_is
        ∙ ap (λ (q : Run). after_lines q (lines_in [] (drop (suc (line_length s)) s))) (f ∙ ap (λ (l : List ℕ). after_line r (kept ++ l)) p)
        ∙ sym (ap (after_lines r) (lines_some kept s h))

    pub kept-passed : kept_after kept' s' ≡ kept_after kept s
    kept-passed = ap (λ (l : List ℕ). kept_after l s') none ∙ ap (kept_after []) left_is ∙ sym (kept_some kept s h)

  -- no line ends any more
  pub lines-over : line_length s ≡ length s → after_lines r (lines_in kept s) ≡ r
  unfolding after_lines
  lines-over e = ap (after_lines r) (lines_none kept s e)

-- ---- two pieces, one after the other

lines_then : (r : Run) (a b : List (List ℕ)) → after_lines r (a ++ b) ≡ after_lines (after_lines r a) b
unfolding after_lines
lines_then r [] b = refl
lines_then r (line ∷ a) b = lines_then (after_line r line) a b

lines_of_both : (kept p q : List ℕ) → lines_in kept (p ++ q) ≡ lines_in kept p ++ lines_in (kept_after kept p) q
unfolding lines_in kept_after
lines_of_both kept [] q = refl
lines_of_both kept (b ∷ p) q =
    split (eqb b 10) (λ t. rw t (ap (λ (l : List (List ℕ)). kept ∷ l) (lines_of_both [] p q))) (λ f. rw f (lines_of_both (kept ++ b ∷ []) p q))

pub kept_of_both : (kept p q : List ℕ) → kept_after kept (p ++ q) ≡ kept_after (kept_after kept p) q
unfolding kept_after
kept_of_both kept [] q = refl
kept_of_both kept (b ∷ p) q = split (eqb b 10) (λ t. rw t (kept_of_both [] p q)) (λ f. rw f (kept_of_both (kept ++ b ∷ []) p q))

module _ (n : ℕ) (h : most_kept ≤ n) where
  lines_cut : (r : Run) (front s q : List ℕ) → after_lines r (lines_in (take n front ++ s) q) ≡ after_lines r (lines_in (front ++ s) q)
  unfolding after_lines lines_in
  lines_cut r front s [] = refl
  lines_cut r front s (b ∷ q) =
      let w = waiting_before r.out r.texts r.waiting in
      let same = front_cut n h r.lines front s r.link r.pool r.out (drop w r.texts) in
      split (eqb b 10)
      (λ t. rw t (ap (λ (l : Left). after_lines (joined w r.texts l) (lines_in [] q)) same))
      (λ f. rw (f, append_assoc (take n front) s (b ∷ []), append_assoc front s (b ∷ [])) (lines_cut r front (s ++ b ∷ []) q))

  -- however the input is cut into pieces, its lines are the same, and each is answered as the whole line: n characters of what goes on are kept
  pub in_pieces : (r : Run) (kept p q : List ℕ) → after_lines (after_lines r (lines_in kept p)) (lines_in (take n (kept_after kept p)) q) ≡ after_lines r (lines_in kept (p ++ q))
  in_pieces r kept p q =
      let after = after_lines r (lines_in kept p) in
      let k = kept_after kept p in
      ap (λ (l : List ℕ). after_lines after (lines_in l q)) (sym (append-nil (take n k)))
      ∙ lines_cut after k [] q
      ∙ ap (λ (l : List ℕ). after_lines after (lines_in l q)) (append-nil k)
      ∙ sym (lines_then r (lines_in kept p) (lines_in k q))
      ∙ sym (ap (after_lines r) (lines_of_both kept p q))

-- no bytes were read
pub none_read : (kept piece : List ℕ) → length kept ≤ most_kept → length piece ≡ 0 → kept ≡ take most_kept (kept_after kept piece)
unfolding kept_after
none_read kept [] room h = sym (take_all most_kept kept room)
none_read kept (b ∷ piece) room h = absurd (omega arith)
