-- The end of a line, looked for in groups of characters and then one by one. By induction over the text, and by the laws of take and drop. Assumes nothing.
use Prim.Native.Nat.{ℕ, ◌+◌, ◌-◌, ◌≤◌, min}
use mathlib.Core.Path.{◌≡◌, refl, ◌∙◌, sym}
use mathlib.Core.List.{List, [], ◌∷◌, ◌++◌}
use mathlib.Core.Bool.{true}
use native.Mathlib.Omega.{arith}
use lib.Dec.{eqb, leb}
use lib.ListN.{length, take, drop, length-drop, take-append-drop, drop_of_length-le}
use lib.Seq.{drop-drop, length-take-le}
use borrow.Author.Tests.{leb-true, leb-false}
use Rattle.numbers.proofs.Choices.{split}
use Rattle.numbers.proofs.Slices.{rest_lent}
use Rattle.lines.specs.Text.{every}
use Rattle.lines.specs.Newline.{is_in_line, line_length, line_end_of}
use Rattle.lines.specs.Place.{index_of}
use Rattle.lines.proofs.Places.{index_within}

-- a line is as long as the place of its newline says
pub line_is : (text : List ℕ) → index_of 10 text ≡ line_length text
unfolding index_of line_length
line_is [] = refl
line_is (b ∷ text) = rw (line_is text)

-- characters with no newline among them are passed
line_passed : (front rest : List ℕ) → every is_in_line front ≡ true → line_length (front ++ rest) ≡ length front + line_length rest
unfolding line_length
line_passed [] rest e = omega arith
line_passed (b ∷ front) rest e =
    split (eqb b 10) (λ f. cc (rw f at e)) (λ f. rw f (omega (arith, line_passed front rest (rw f at e))))

module _ (text : List ℕ) (at : ℕ) where
  -- a group, as the code lends it
  pub group_passed : (group : ℕ) → at + group ≤ length text → every is_in_line (take (at + group - at) (drop at text)) ≡ true
      → at + group + line_length (drop (at + group) text) ≡ at + line_length (drop at text)
  group_passed group h e =
      let z : at + group - at ≡ group = omega arith in
      let front : List ℕ = take group (drop at text) in
      let size : length front ≡ group = length-take-le group (drop at text) (omega (arith, length-drop at text)) in
      let passed : line_length (front ++ drop group (drop at text)) ≡ length front + line_length (drop group (drop at text)) = line_passed front (drop group (drop at text)) (rw z at e) in
      let whole : front ++ drop group (drop at text) ≡ drop at text = take-append-drop group (drop at text) in
      let far : drop group (drop at text) ≡ drop (at + group) text = drop-drop group at text in
      omega (arith, rw (whole, far) at passed)

-- what is found one by one, as the code lends it, lies within the text, whatever byte is looked for
pub last_within : (b : ℕ) (text : List ℕ) (near last : ℕ) → near ≤ length text → last ≡ index_of b (take (length text - near) (drop near text)) → near + last ≤ length text
last_within b text near last h l =
    let rest : List ℕ = take (length text - near) (drop near text) in
    let size : length rest ≡ length text - near = length-take-le (length text - near) (drop near text) (omega (arith, length-drop near text)) in
    omega (arith, index_within b rest)

-- the two searches by groups and the one by characters together
pub line_found : (text : List ℕ) (from start far near last : ℕ) → start ≡ min from (length text)
    → far + line_length (drop far text) ≡ start + line_length (drop start text)
    → near + line_length (drop near text) ≡ far + line_length (drop far text)
    → last ≡ line_length (take (length text - near) (drop near text))
    → near + last ≡ line_end_of text from
unfolding line_end_of
line_found text from start far near last s f n l =
    let all : take (length text - near) (drop near text) ≡ drop near text = rest_lent text near in
    let same : drop start text ≡ drop from text =
    split (leb from (length text)) (λ e. let z : start ≡ from = omega (arith, leb-true from (length text) e) in rw z)
    (λ e.
    let h : length text ≤ start = omega (arith, leb-false from (length text) e) in
    let k : length text ≤ from = omega (arith, leb-false from (length text) e) in
    drop_of_length-le text {i = start} h ∙ sym (drop_of_length-le text {i = from} k)) in
    omega (arith, rw all at l, rw same at f)
