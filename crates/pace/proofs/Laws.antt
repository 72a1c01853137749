-- Laws of the definitions: the next place, one call more and none any more, the two stretches of a script, and a number and a newline as a text. By the laws of
-- take and drop. Assumes nothing.
use Rattle.std.proofs.Common.{◌≡◌, ℕ, suc, ◌+◌, ◌-◌, ◌^◌, ◌<◌, ◌≤◌, min, ltb, List, [], ◌∷◌, ◌++◌, length, take, drop, sym, ap, ◌∙◌, arith, length-append, length-drop, take_all}
use Rattle.numbers.specs.Bytes.{part}
use Rattle.numbers.proofs.Choices.{either}
use Rattle.lines.specs.Decimal.{decimal_of}
use Rattle.lines.proofs.Digits.{width_most}
use Rattle.std.proofs.lemmas.List.{take_min}
use Rattle.text.proofs.Lists.{drop_min}
use Rattle.text.specs.declared.Text.{Text}
use Rattle.text.specs.Said.{said, Started, Longer}
use Rattle.state.specs.Calls.{call_in, told_of}
use Rattle.pace.specs.Pace.{offered, behind_of, next_of, places_in, Left, left, counting, after_call, run_from, beginning, longest, number_at, size_at, opening, again, script_of, line_of}

-- ---- places

pub next_within : (at size n : ℕ) → next_of at size n ≤ n
next_within at size n = either (λ p. p ≤ n) (ltb (behind_of at size n) n) (behind_of at size n) 0 (λ _. omega arith) (λ _. omega arith)

-- ---- call after call

-- what one call leaves, with the bytes that the code lends
pub call_taken : {l' : Left} {q : List ℕ} (places : List ℕ) (at : ℕ) (l : Left)
    → l' ≡ counting l.accepted (told_of (call_in l.state l.pool q l.out offered)) → q ≡ drop at places → l' ≡ after_call places at l
call_taken places at l e bytes = e ∙ ap (λ (s : List ℕ). counting l.accepted (told_of (call_in l.state l.pool s l.out offered))) bytes

module _ (places : List ℕ) (size at : ℕ) (l : Left) {calls : ℕ} where
  -- one call more
  pub run_turn : {rest at' : ℕ} {l' : Left} → calls ≡ suc rest → at' ≡ next_of at size (length places) → l' ≡ after_call places at l
      → run_from rest places size at' l' ≡ run_from calls places size at l
  unfolding run_from
  run_turn {rest} {at'} {l'} z e f =
      ap (λ (i : ℕ). run_from rest places size i l') e
      ∙ ap (run_from rest places size (next_of at size (length places))) f
      ∙ sym (ap (λ (k : ℕ). run_from k places size at l) z)

  -- none any more
  pub run_over : calls ≡ 0 → l ≡ run_from calls places size at l
  unfolding run_from
  run_over z = sym (ap (λ (k : ℕ). run_from k places size at l) z)

-- ---- a script

-- the part from a to e, both places cut at the length
pub stretch_is : (s : List ℕ) (at n : ℕ) {a e : ℕ} → a ≡ min at (length s) → e ≡ min (a + n) (length s) → take (e - a) (drop a s) ≡ part s at n
stretch_is s at n {a} {e} h k =
    let d : drop a s ≡ drop at s = ap (λ (i : ℕ). drop i s) h ∙ drop_min at s in
    let z : e - a ≡ min n (length (drop at s)) = omega (arith, h, k, length-drop at s) in
    rw (d, z) (take_min n (drop at s))

same_run : {calls calls' size size' : ℕ} {places places' : List ℕ} {l l' : Left} → calls ≡ calls' → places ≡ places' → size ≡ size' → l ≡ l'
    → run_from calls places size 0 l ≡ run_from calls' places' size' 0 l'
same_run a b c d = cc

-- both runs, as the code makes them: its numbers, its three places and what each run left
module _ (script : List ℕ) {size f first g rest calls : ℕ} (is-size : size ≡ number_at script 0) (is_f : f ≡ number_at script 4) (is-first : first ≡ min f longest)
    (is-g : g ≡ number_at script 8) (is-rest : rest ≡ min g longest) (is-calls : calls ≡ number_at script 12)
    {a b e : ℕ} (is-a : a ≡ min (length script) 16) (is_b : b ≡ min (a + first) (length script)) (is-e : e ≡ min (b + rest) (length script)) where
  first_is : first ≡ size_at script 4
  first_is = is-first ∙ ap (λ (k : ℕ). min k longest) is_f

  rest_is : rest ≡ size_at script 8
  rest_is = is-rest ∙ ap (λ (k : ℕ). min k longest) is-g

  opening_is : take (b - a) (drop a script) ≡ opening script
  opening_is = stretch_is script 16 first (omega (arith, is-a)) is_b ∙ ap (part script 16) first_is

  again_is : take (e - b) (drop b script) ≡ again script
  again_is =
      stretch_is script (16 + first) rest (omega (arith, is-a, is_b)) is-e
      ∙ ap (λ (k : ℕ). part script (16 + k) rest) first_is
      ∙ ap (part script (16 + size_at script 4)) rest_is

  pub script_served : (state pool out : List ℕ) {count : ℕ} {begun l l₂ : Left} → begun ≡ left 0 (beginning state) pool out → count ≡ places_in first size
      → l ≡ run_from count (take (b - a) (drop a script)) size 0 begun
      → l₂ ≡ run_from calls (take (e - b) (drop b script)) size 0 l
      → l₂ ≡ script_of script state pool out
  unfolding script_of
  script_served state pool out is-begun is-count once more =
      let count_is = is-count ∙ ap (λ (k : ℕ). places_in k size) first_is ∙ ap (places_in (size_at script 4)) is-size in
      let one = once ∙ same_run count_is opening_is is-size is-begun in
      more ∙ same_run is-calls again_is is-size one

-- ---- a number and a newline

-- such a text is far from being cut
pub number_said : (n : ℕ) {t u r : Text} → n < 2 ^ 64 → Started [] t → Longer t (decimal_of n) u → Longer u (10 ∷ []) r → said r ≡ line_of n
number_said n {t} {u} h begun digits ended =
    let w : length (decimal_of n) ≤ 20 = width_most 19 n (omega (arith, h)) in
    let none : said t ≡ [] = begun.says in
    let d : said u ≡ decimal_of n = digits.says ∙ ap (λ (s : List ℕ). take 4096 (s ++ decimal_of n)) none ∙ take_all 4096 (decimal_of n) (omega (arith, w)) in
    let m : length (decimal_of n ++ 10 ∷ []) ≤ 4096 = omega (arith, w, length-append (decimal_of n) (10 ∷ [])) in
    ended.says ∙ ap (λ (s : List ℕ). take 4096 (s ++ 10 ∷ [])) d ∙ take_all 4096 (decimal_of n ++ 10 ∷ []) m
