-- Lists compared, the rest of a line, numbers read one by one, and what decoding the last word or the last two leaves. By the laws of take and drop and by induction over
-- lists. Assumes nothing.
use Prim.Native.Nat.{ℕ, suc, ◌+◌, ◌-◌, ◌/◌, ◌%◌, ◌≤◌, ◌<◌}
use mathlib.Core.Path.{◌≡◌, refl, ap, ◌∙◌, sym, subst}
use mathlib.Core.Bool.{Bool, true, false, not, ◌&&◌, ◌||◌}
use mathlib.Core.List.{List, [], ◌∷◌, ◌++◌, append-nil}
use native.Mathlib.Omega.{arith}
use lib.Dec.{eqb, ltb}
use lib.ListN.{length, take, drop, get_or, set, length-drop, drop_of_length-le}
use lib.Seq.{drop-cons}
use borrow.Author.Tests.{eq-eqb, eqb-true, ltb-false}
use borrow.Rule.Slice.PartMut.{put_mid}
use Rattle.numbers.specs.Bytes.{pick, part, laid}
use Rattle.numbers.proofs.Choices.{split, either}
use Rattle.numbers.proofs.Slices.{rest_lent}
use Rattle.std.specs.Prelude.{Result, Ok, Err, Some, None}
use Rattle.std.specs.Result.{result_unwrap_or}
use Rattle.lines.specs.Decimal.{number_of}
use Rattle.lines.specs.declared.NumberFault.{NumberFault}
use Rattle.lines.specs.declared.HexFault.{HexFault}
use Rattle.lines.specs.declared.HexFault.TheVariants.{Odd, NotHex, Full}
use Rattle.lines.specs.Text.{every}
use Rattle.lines.specs.Hex.{Decoding, decoded, decode_of, bytes_of, is_hex, is_lower_hex}
use Rattle.lines.proofs.Turns.{both}
use Rattle.words.specs.declared.Kind.{Kind}
use Rattle.words.specs.declared.Command.{Command}
use Rattle.words.specs.Words.{Word, NumbersRead, same_bytes, word_end, between, word_of, read_word, form_word, word_at, with_word, numbers_from, no_numbers, words_end, said_word, said_numbers, Form, limits_of, form_of, rpc_form_of, link_form_of}
use Rattle.words.specs.Lines.{LastRead, LastLeft, leaves, last_by, decoded_word, hex_word, second_after, with_second, two_words, last_of, whole_of, Left, leaving, with_form}

same_self : (a : List ℕ) → same_bytes a a ≡ true
same_self [] = refl
same_self (x ∷ xs) = rw (eq-eqb x x refl, same_self xs)

same_eq : (a b : List ℕ) → same_bytes a b ≡ true → a ≡ b
same_eq [] [] e = refl
same_eq [] (y ∷ ys) e = cc
same_eq (x ∷ xs) [] e = cc
same_eq (x ∷ xs) (y ∷ ys) e =
    let b = both (eqb x y) (same_bytes xs ys) e in
    let p : x ≡ y = eqb-true x y b.0 in
    let q : xs ≡ ys = same_eq xs ys b.1 in
    cc

-- one number more, and no more
module _ (line limits : List ℕ) (i : ℕ) (n : NumbersRead) where
  pub numbers_turn : i < length limits → {m : ℕ} → m ≡ get_or limits i 0
      → numbers_from line (drop (i + 1) limits) (i + 1) (with_word n i (word_at line n.end m)) ≡ numbers_from line (drop i limits) i n
  unfolding numbers_from
  numbers_turn h e =
      let z : i + 1 ≡ suc i = omega arith in
      let d : drop i limits ≡ get_or limits i 0 ∷ drop (i + 1) limits = drop-cons limits i 0 h ∙ ap (λ (k : ℕ). get_or limits i 0 ∷ drop k limits) (sym z) in
      rw (e, d)

  pub numbers_end : length limits ≤ i → n ≡ numbers_from line (drop i limits) i n
  unfolding numbers_from
  numbers_end h = rw (drop_of_length-le limits {i = i} h)

-- what a word that is read, and one that is not, say
word_good : (w : Word) (v : ℕ) → Some v ≡ said_word w → (w.good ≡ true) × (w.value ≡ v)
word_good w v e = split (w.good) (λ t. let f = rw t at e in (t, cc)) (λ t. let f = rw t at e in cc)

word_bad : (w : Word) → None ≡ said_word w → w.good ≡ false
word_bad w e = split (w.good) (λ t. let f = rw t at e in cc) (λ t. t)

-- a word ends where it does, whatever it says
said_end : (most end : ℕ) (r : Result ℕ NumberFault) → (word_of most end r).end ≡ end
said_end most end (Ok v) = refl
said_end most end (Err f) = refl

read_end : (most end : ℕ) (word : List ℕ) → (read_word most end word).end ≡ end
unfolding form_word
read_end most end word =
    let P : Word → Type 0 = λ w. w.end ≡ end in
    let query : Word = record { good = same_bytes word (113 ∷ 117 ∷ 101 ∷ 114 ∷ 121 ∷ []); value = 2; end = end } in
    let bulk : Word = record { good = true; value = 1; end = end } in
    let rpc : Word = record { good = true; value = 0; end = end } in
    let others : Word = pick (same_bytes word (98 ∷ 117 ∷ 108 ∷ 107 ∷ [])) bulk query in
    either P (eqb most 2) (form_word end word) (word_of most end (number_of word))
    (λ a. either P (same_bytes word (114 ∷ 112 ∷ 99 ∷ [])) rpc others (λ b. refl) (λ b. either P (same_bytes word (98 ∷ 117 ∷ 108 ∷ 107 ∷ [])) bulk query (λ d. refl) (λ d. refl)))
    (λ a. said_end most end (number_of word))

-- numbers with one that is not good stay so
bad_stays : (line limits : List ℕ) (i : ℕ) (n : NumbersRead) → n.good ≡ false → (numbers_from line limits i n).good ≡ false
unfolding numbers_from
bad_stays line [] i n e = e
bad_stays line (most ∷ limits) i n e = bad_stays line limits (i + 1) (with_word n i (word_at line n.end most)) (rw e)

-- the last number ends where so many words do
numbers_ends : (line limits : List ℕ) (i : ℕ) (n : NumbersRead) → (numbers_from line limits i n).end ≡ words_end line (length limits) n.end
unfolding numbers_from words_end
numbers_ends line [] i n = refl
numbers_ends line (most ∷ limits) i n =
    let e = word_end line n.end in
    let w : Word = word_at line n.end most in
    numbers_ends line limits (i + 1) (with_word n i w) ∙ ap (words_end line (length limits)) (read_end most e (between line n.end e))

-- good numbers with a good word
with_good : (n : NumbersRead) (i v near : ℕ) (w : Word) → n.good ≡ true → w.good ≡ true → w.value ≡ v → w.end ≡ near
    → record { good = true; values = set n.values i v; lent = v; end = near } ≡ with_word n i w
with_good n i v near w g h e f =
    let both : n.good && w.good ≡ true = rw (g, h) in
    cc

-- a turn of the loop that reads the numbers: the word at a place, as the code reads it
module _ (line limits values : List ℕ) (i lent end near : ℕ) (word : List ℕ) (all : NumbersRead) (h : i < length limits)
    (e : numbers_from line (drop i limits) i (record { good = true; values = values; lent = lent; end = end }) ≡ all)
    (n : near ≡ word_end line end) (w : word ≡ between line end near) where
  abbrev so_far : NumbersRead
  so_far = record { good = true; values = values; lent = lent; end = end }

  same_word : read_word (get_or limits i 0) near word ≡ word_at line end (get_or limits i 0)
  same_word = rw (w, n)

  turned : numbers_from line (drop (i + 1) limits) (i + 1) (with_word so_far i (read_word (get_or limits i 0) near word)) ≡ all
  turned =
      ap (λ (x : Word). numbers_from line (drop (i + 1) limits) (i + 1) (with_word so_far i x)) same_word
      ∙ numbers_turn line limits i so_far h refl ∙ e

  pub number_good : {v : ℕ} → Some v ≡ said_word (read_word (get_or limits i 0) near word)
      → numbers_from line (drop (i + 1) limits) (i + 1) (record { good = true; values = set values i v; lent = v; end = near }) ≡ all
  number_good {v} f =
      let x : Word = read_word (get_or limits i 0) near word in
      let g = word_good x v f in
      ap (numbers_from line (drop (i + 1) limits) (i + 1)) (with_good so_far i v near x refl g.0 g.1 (read_end (get_or limits i 0) near word)) ∙ turned

  pub number_bad : None ≡ said_word (read_word (get_or limits i 0) near word) → None ≡ said_numbers all
  number_bad f =
      let x : Word = read_word (get_or limits i 0) near word in
      let bad = bad_stays line (drop (i + 1) limits) (i + 1) (with_word so_far i x) (word_bad x f) in
      let last : all.good ≡ false = ap (λ (k : NumbersRead). k.good) (sym turned) ∙ bad in
      rw last

  -- behind a word that is no number the others are passed
  pub passed_end : {e : ℕ} → e ≡ words_end line (length limits - (i + 1)) near → e ≡ all.end
  passed_end {e} p =
      let x : Word = read_word (get_or limits i 0) near word in
      let rest : List ℕ = drop (i + 1) limits in
      let n : NumbersRead = with_word so_far i x in
      p ∙ ap (λ (k : ℕ). words_end line k near) (sym (length-drop (i + 1) limits))
      ∙ ap (words_end line (length rest)) (sym (read_end (get_or limits i 0) near word))
      ∙ sym (numbers_ends line rest (i + 1) n)
      ∙ ap (λ (k : NumbersRead). k.end) turned

-- `-` is an odd number of characters, so decoding it leaves the buffer
dash_read : (content : List ℕ) → decode_of (45 ∷ []) content ≡ decoded (Err Odd) content
unfolding decode_of
dash_read content = refl

-- what decoding answers, as the word's bytes
last_is : (lower : Bool) (a : Result ℕ HexFault) (n : ℕ) (b : Bool) → n ≡ result_unwrap_or a 0 → b ≡ (ltb 0 n && lower)
    → record { good = b; first = 0; count = n } ≡ last_by lower a
last_is lower (Ok v) n b m t = rw (t, m)
last_is lower (Err f) n b m t = rw (t, m)

-- what a word leaves, by what decoding it leaves
pub hex_read : (word content : List ℕ) {after : List ℕ} {a : Result ℕ HexFault} {n : ℕ} {b : Bool} → decoded a after ≡ decode_of word content → n ≡ result_unwrap_or a 0
    → b ≡ (same_bytes word (45 ∷ []) || (ltb 0 n && every is_lower_hex word)) → leaves (record { good = b; first = 0; count = n }) after ≡ hex_word word content
unfolding hex_word
hex_read word content {after} {a} {n} {b} d m t =
    split (same_bytes word (45 ∷ [])) (λ e.
    let w : decode_of word content ≡ decoded (Err Odd) content = rw (same_eq word (45 ∷ []) e) (dash_read content) in
    let x : a ≡ Err Odd = ap (λ (z : Decoding). z.answer) (d ∙ w) in
    let y : after ≡ content = ap (λ (z : Decoding). z.buffer) (d ∙ w) in
    let good : b ≡ true = t ∙ rw e in
    let none : n ≡ 0 = m ∙ rw x in
    rw (e, good, none, y))
    (λ e.
    let lower = every is_lower_hex word in
    let good : b ≡ (ltb 0 n && lower) = t ∙ rw e in
    rw e (ap (λ (l : LastRead). leaves l after) (last_is lower a n b m good) ∙ ap (decoded_word lower) d))

-- the words that are left end where all of them do
pub ends_turn : (line : List ℕ) (count done end : ℕ) → done < count → words_end line (count - (done + 1)) (word_end line end) ≡ words_end line (count - done) end
unfolding words_end
ends_turn line count done end h =
    let z : count - done ≡ suc (count - (done + 1)) = omega arith in
    rw z

pub ends_over : (line : List ℕ) (count done end : ℕ) → count ≤ done → end ≡ words_end line (count - done) end
unfolding words_end
ends_over line count done end h =
    let z : count - done ≡ 0 = omega arith in
    rw z

-- a word's bytes have room in the buffer
decoded_within : (lower : Bool) (word content : List ℕ) → (decoded_word lower (decode_of word content)).last.count ≤ length content
unfolding decode_of
decoded_within lower word content =
    let P : Decoding → Type 0 = λ d. (decoded_word lower d).last.count ≤ length content in
    let n = length word / 2 in
    let whole = decoded (Ok n) (laid (bytes_of word) content) in
    let fitting = pick (ltb (length content) n) (decoded (Err Full) content) whole in
    either P (eqb (length word % 2) 1) (decoded (Err Odd) content) (pick (not (every is_hex word)) (decoded (Err NotHex) content) fitting) (λ e. omega arith) λ e.
    either P (not (every is_hex word)) (decoded (Err NotHex) content) fitting (λ f. omega arith) λ f.
    either P (ltb (length content) n) (decoded (Err Full) content) whole (λ g. omega arith) λ g.
    omega (arith, ltb-false (length content) n g)

word_within : (word content : List ℕ) → (hex_word word content).last.count ≤ length content
unfolding hex_word
word_within word content =
    let lower = every is_lower_hex word in
    either (λ (l : LastLeft). l.last.count ≤ length content) (same_bytes word (45 ∷ [])) (leaves (record { good = true; first = 0; count = 0 }) content)
    (decoded_word lower (decode_of word content)) (λ e. omega arith) λ e.
    decoded_within lower word content

pub within : (word content : List ℕ) {after : List ℕ} {l : LastRead} → leaves l after ≡ hex_word word content → l.count ≤ length content
within word content e = subst (λ (l : LastLeft). l.last.count ≤ length content) (sym e) (word_within word content)

-- two words, of which the second goes to what the first left of the buffer
module _ (line content : List ℕ) (end : ℕ) {m : ℕ} (middle : m ≡ word_end line end) {v w : List ℕ} (near : v ≡ between line end m) (far : w ≡ between line m (length line)) where
  pub two_are : {a b : LastRead} {p q r : List ℕ} → leaves a p ≡ hex_word v content → leaves b q ≡ hex_word w (part p a.count (length p - a.count))
      → r ≡ put_mid a.count (length p - a.count) p q
      → leaves (record { good = a.good && b.good; first = a.count; count = a.count + b.count }) r ≡ two_words line end content
  unfolding two_words
  two_are {a} {b} {p} {q} {r} e f g =
      let n = a.count in
      let nothing = drop_of_length-le (drop n p) {i = length p - n} (omega (arith, length-drop n p)) in
      let left : r ≡ take n p ++ q = g ∙ rw (nothing, append-nil) in
      ap (leaves (record { good = a.good && b.good; first = n; count = n + b.count })) left
      ∙ ap (second_after (leaves a p)) (f ∙ ap (hex_word w) (rest_lent p n))
      ∙ ap (with_second w) e
      ∙ ap (λ (x : List ℕ). with_second x (hex_word v content)) far
      ∙ ap (λ (x : List ℕ). with_second (between line m (length line)) (hex_word x content)) near
      ∙ ap (λ (i : ℕ). with_second (between line i (length line)) (hex_word (between line end i) content)) middle

-- a form's limits are its command's
pub form_limits : (name : List ℕ) → (form_of name).limits ≡ limits_of (form_of name).kind
unfolding form_of rpc_form_of link_form_of
form_limits name =
    let P : Form → Type 0 = λ f. f.limits ≡ limits_of f.kind in
    either P (same_bytes name (114 ∷ 101 ∷ 97 ∷ 100 ∷ [])) _ _ (λ e. refl) λ e.
    either P (same_bytes name (119 ∷ 114 ∷ 105 ∷ 116 ∷ 101 ∷ [])) _ _ (λ e. refl) λ e.
    either P (same_bytes name (115 ∷ 101 ∷ 110 ∷ 100 ∷ [])) _ _ (λ e. refl) λ e.
    either P (same_bytes name (112 ∷ 97 ∷ 121 ∷ 108 ∷ 111 ∷ 97 ∷ 100 ∷ [])) _ _ (λ e. refl) λ e.
    either P (same_bytes name (114 ∷ 112 ∷ 99 ∷ [])) _ _ (λ e. refl) λ e.
    either P (same_bytes name (114 ∷ 112 ∷ 99 ∷ 119 ∷ 114 ∷ 105 ∷ 116 ∷ 101 ∷ [])) _ _ (λ e. refl) λ e.
    either P (same_bytes name (110 ∷ 101 ∷ 119 ∷ [])) _ _ (λ e. refl) λ e.
    either P (same_bytes name (99 ∷ 97 ∷ 108 ∷ 108 ∷ [])) _ _ (λ e. refl) λ e. refl

-- a line by its command, its limits and where its numbers end
module _ (line content : List ℕ) (space : ℕ) where
  abbrev said_as : Kind → List ℕ → ℕ → Left
  said_as k limits e =
      let l = last_of line k e content in
      leaving (whole_of k (numbers_from line limits 0 (no_numbers space)) l.last) l.content

  abbrev last_end : List ℕ → ℕ
  last_end limits = (numbers_from line limits 0 (no_numbers space)).end

  pub told : (f : Form) (k : Kind) (limits after : List ℕ) (e : ℕ) (r : Command) → f.limits ≡ limits_of f.kind → k ≡ f.kind → limits ≡ limits_of k
      → e ≡ last_end limits → r ≡ whole_of k (numbers_from line limits 0 (no_numbers space)) (last_of line k e content).last
      → after ≡ (last_of line k e content).content → leaving r after ≡ with_form line space f content
  told f k limits after e r a b d h p q =
      let same : limits ≡ f.limits = d ∙ ap limits_of b ∙ sym a in
      let left : leaving r after ≡ said_as k limits e = rw (p, q) in
      left ∙ ap (said_as k limits) h ∙ ap (λ (l : List ℕ). said_as k l (last_end l)) same ∙ ap (λ (x : Kind). said_as x f.limits (last_end f.limits)) b
