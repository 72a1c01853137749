-- Texts put together piece by piece: a piece behind a text, two pieces as one, and what a writer of `lines` hands on. By the laws of take, drop and append,
-- and by induction over the digits of a number. Assumes nothing.
use Prim.Native.Nat.{ℕ, zero, suc, ◌+◌, ◌-◌, ◌*◌, ◌%◌, ◌^◌, ◌≤◌, ◌<◌, min}
use mathlib.Core.Path.{◌≡◌, refl, ap, ◌∙◌, sym, subst}
use mathlib.Core.List.{List, [], ◌∷◌, ◌++◌, append-nil, append_assoc}
use native.Mathlib.Omega.{arith}
use lib.Dec.{leb}
use lib.ListN.{length, take, drop, length-take}
use lib.Seq.{take_all, take-append_seam}
use borrow.Author.Tests.{leb-true, leb-false, le-ltb, lt-ltb}
use Rattle.numbers.specs.Bytes.{pick, laid}
use Rattle.std.specs.Prelude.{Option, Some, None}
use Rattle.std.specs.Option.{unwrap_or}
use Rattle.lines.specs.Text.{Encoding, encoded, written_of}
use Rattle.lines.specs.Decimal.{decimal_of}
use Rattle.numbers.proofs.Choices.{split}
use Rattle.lines.proofs.Digits.{width_most}
use Rattle.text.specs.declared.Text.{Text}
use Rattle.text.specs.Said.{said, Started, Longer, Marked}
use Rattle.text.specs.Pieces.{fitting, put_into, check_from}
use Rattle.std.proofs.lemmas.List.{take_min}
use Rattle.text.proofs.Lists.{put_front}
use lib.Seq.{drop-cons}
use lib.ListN.{get_or, drop_of_length-le}

-- a front ends where it is long, unless there is less
pub front_ends : {n : ℕ} (s : List ℕ) → n ≤ length s → n ≡ length (take n s)
front_ends {n} s h = omega (arith, length-take n s)

-- a text's characters c, of which the first e are said
module _ (c : List ℕ) (l : length c ≡ 4096) (e : ℕ) where
  -- with s put behind them as far as it fits
  pub put_said : (s : List ℕ) {n : ℕ} → n ≡ min (min e (length c) + length (fitting c e s)) 4096 → take n (put_into c e s) ≡ take 4096 (take e c ++ s)
  put_said s {n} h =
      let z : n ≡ min e (length c) + length (fitting c e s) = omega (arith, h, l, length-take (length c - e) s) in
      put_front c s e z ∙ ap (λ (i : ℕ). take i (take e c ++ s)) l

  -- with nothing more
  pub same_said : {n : ℕ} → n ≡ min e 4096 → take n c ≡ take 4096 (take e c ++ [])
  same_said {n} h =
      let z : n ≡ min e (length c) = omega (arith, h, l) in
      let m : length (take e c) ≤ 4096 = omega (arith, l, length-take e c) in
      ap (λ (i : ℕ). take i c) z ∙ take_min e c ∙ sym (ap (take 4096) (append-nil (take e c)) ∙ take_all 4096 (take e c) m)

-- what was cut once is cut no more
pub cut_twice : (n : ℕ) (a b : List ℕ) → take n (take n a ++ b) ≡ take n (a ++ b)
cut_twice zero a b = refl
cut_twice (suc n) [] b = refl
cut_twice (suc n) (x ∷ a) b = ap (λ (t : List ℕ). x ∷ t) (cut_twice n a b)

-- two pieces, one behind the other
module _ {u r : Text} {a b : List ℕ} where
  pub then : {t : Text} → Longer t a u → Longer u b r → Longer t (a ++ b) r
  then {t} f g =
      record {
        says = g.says ∙ ap (λ (s : List ℕ). take 4096 (s ++ b)) f.says ∙ cut_twice 4096 (said t ++ a) b ∙ ap (take 4096) (append_assoc (said t) a b);
        within = g.within;
        ends = g.ends;
        cut = g.cut ∙ f.cut;
        size = g.size ∙ f.size;
      }

  pub started : Started a u → Longer u b r → Started (a ++ b) r
  started f g =
      record {
        says = g.says ∙ ap (λ (s : List ℕ). take 4096 (s ++ b)) f.says ∙ cut_twice 4096 a b;
        within = g.within;
        ends = g.ends;
        cut = g.cut ∙ f.cut;
        size = g.size ∙ f.size;
      }

  pub marked : {t : Text} {n : ℕ} → Longer t a u → Marked u b n r → Marked t (a ++ b) n r
  marked {t} f g =
      record {
        says = g.says ∙ ap (λ (s : List ℕ). take 4096 (s ++ b)) f.says ∙ cut_twice 4096 (said t ++ a) b ∙ ap (take 4096) (append_assoc (said t) a b);
        within = g.within;
        ends = g.ends;
        cut = g.cut;
        size = g.size;
      }

-- the same piece by another name
pub renamed : {t r : Text} {a b : List ℕ} → a ≡ b → Longer t a r → Longer t b r
renamed {t} {r} e f = subst (λ (s : List ℕ). Longer t s r) e f

-- what a writer of `lines` put to the front of a buffer, and how many characters it says these are
module _ (d o : List ℕ) {a : Option ℕ} {r : List ℕ} (e : encoded a r ≡ written_of d o) {n : ℕ} (h : n ≡ unwrap_or a 0) where
  fits : length d ≤ length o → take n r ≡ d
  unfolding written_of
  fits m =
      let f : encoded a r ≡ encoded (Some (length d)) (laid d o) = e ∙ rw (le-ltb (length o) (length d) m) in
      let x = ap (λ (w : Encoding). unwrap_or w.answer 0) f in
      let b = ap (λ (w : Encoding). w.buffer) f in
      rw (h, x, b) (take-append_seam d (drop (length d) o))

  full : length o < length d → take n r ≡ []
  unfolding written_of
  full m =
      let f : encoded a r ≡ encoded None o = e ∙ rw (lt-ltb (length o) (length d) m) in
      let x = ap (λ (w : Encoding). unwrap_or w.answer 0) f in
      rw (h, x) refl

  pub piece : (m : ℕ) → length o ≡ m → take n r ≡ pick (leb (length d) m) d []
  piece m l =
      split (leb (length d) m) (λ q. rw q (fits (omega (arith, l, leb-true (length d) m q)))) λ q.
      rw q (full (omega (arith, l, leb-false (length d) m q)))

  pub decimal_piece : (k : ℕ) → k < 2 ^ 64 → d ≡ decimal_of k → length o ≡ 20 → take n r ≡ decimal_of k
  decimal_piece k s i j = fits (omega (arith, ap length i, j, width_most 19 k (omega arith))) ∙ i

-- the check of what is left
module _ (s : List ℕ) (i x : ℕ) where
  pub check_turn : i < length s → check_from ((x * 31 + get_or s i 0) % 4294967296) (drop (i + 1) s) ≡ check_from x (drop i s)
  unfolding check_from
  check_turn h =
      let z : i + 1 ≡ suc i = omega arith in
      rw (z, drop-cons s i 0 h)

  pub check_end : length s ≤ i → x ≡ check_from x (drop i s)
  unfolding check_from
  check_end h = rw (drop_of_length-le s {i = i} h)
