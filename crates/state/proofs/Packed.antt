-- The laws of numbers that stand one behind the other, over the list of their widths: how long they are, that each is read back at its place, that
-- putting them one after the other puts them all; and of a part of a buffer into which bytes were put.
-- Assumes nothing.
use Prim.Native.Nat.{ℕ, zero, suc, ◌+◌, ◌-◌, ◌*◌, ◌≤◌, ◌<◌}
use mathlib.Core.Path.{◌≡◌, refl, ap, ◌∙◌, sym}
use mathlib.Core.List.{List, [], ◌∷◌, ◌++◌, append_assoc, append-nil}
use mathlib.Core.Bool.{◌&&◌}
use native.Mathlib.Omega.{arith}
use lib.Dec.{eqb}
use borrow.Author.Tests.{eq-eqb, ne_eqb}
use Rattle.numbers.proofs.Choices.{same_or_not}
use lib.ListN.{length, get_or, take, drop, length-append, length-take, length-drop, take-append-drop, drop_of_length-le}
use lib.Seq.{drop-cons, take-take, take-add, take_at, drop-append-add, drop-append-le, take-append-le, drop-drop, length-take-le}
use Rattle.numbers.specs.Bytes.{AreBytes, part, put_at}
use Rattle.numbers.specs.Numbers.{value_le, bytes_le}
use Rattle.numbers.proofs.Laws.{length_le, read_written_le, written_read_le, bytes_take, bytes_drop, put_fits}
use borrow.Rule.Slice.PartMut.{put_mid}
use Rattle.frame.proofs.Buffers.{pasted}
use Rattle.state.specs.Fields.{Field, field, size, packed, put_from, AllFit, number_at}

pub packed_length : (fs : List Field) → length (packed fs) ≡ size fs
unfolding packed
packed_length [] = refl
packed_length (f ∷ fs) = length-append (bytes_le f.width f.value) (packed fs) ∙ rw (length_le f.width f.value, packed_length fs)

-- where the k-th begins
abbrev pub offset : ℕ → List Field → ℕ
offset zero fs = 0
offset (suc k) [] = 0
offset (suc k) (f ∷ fs) = f.width + offset k fs

abbrev pub field_in : List Field → ℕ → Field
field_in fs k = get_or fs k (field 0 0)

-- the k-th is read back
pub read_field : (fs : List Field) → AllFit fs → (k : ℕ) → number_at (packed fs) (offset k fs) (field_in fs k).width ≡ (field_in fs k).value
unfolding packed value_le
read_field [] h zero = refl
read_field [] h (suc k) = refl
read_field (f ∷ fs) h zero =
    ap value_le (take_at (bytes_le f.width f.value) (packed fs) f.width (length_le f.width f.value))
    ∙ read_written_le f.width f.value h.0
read_field (f ∷ fs) h (suc k) =
    let l = length_le f.width f.value in
    let e : drop (f.width + offset k fs) (bytes_le f.width f.value ++ packed fs) ≡ drop (offset k fs) (packed fs)
    = rw l at (drop-append-add (bytes_le f.width f.value) (packed fs) (offset k fs)) in
    rw e (read_field fs h.1 k)

-- bytes put into a buffer where they fit
pub put_is : (s : List ℕ) (at w : ℕ) (bs : List ℕ) → length bs ≡ w → at + w ≤ length s → put_at s at w bs ≡ take at s ++ (bs ++ drop (at + w) s)
put_is s at w bs l h = put_fits s at w bs h ∙ pasted s bs at w l

pub put_length : (s : List ℕ) (at w : ℕ) (bs : List ℕ) → length bs ≡ w → at + w ≤ length s → length (put_at s at w bs) ≡ length s
put_length s at w bs l h =
    rw (put_is s at w bs l h, length-append, length-append, length-take, length-drop, l) (omega arith)

-- a part of a list of two pieces: inside the first, and behind it
pub part_first : (p q : List ℕ) (a n : ℕ) → a + n ≤ length p → part (p ++ q) a n ≡ part p a n
part_first p q a n h =
    let e : drop a (p ++ q) ≡ drop a p ++ q = drop-append-le a p q (omega arith) in
    let k : n ≤ length (drop a p) = omega (arith, length-drop a p) in
    rw e (take-append-le n (drop a p) q k)

pub part_second : (p q : List ℕ) (o n m : ℕ) → length p ≡ m → part (p ++ q) (m + o) n ≡ part q o n
part_second p q o n m l =
    let e : drop (m + o) (p ++ q) ≡ drop o q = rw l at (drop-append-add p q o) in
    rw e

-- a part of a buffer into which bytes were put: those bytes, before them, behind them
module _ (s : List ℕ) (at w : ℕ) (bs : List ℕ) (l : length bs ≡ w) (h : at + w ≤ length s) where
  front : length (take at s) ≡ at
  front = length-take-le at s (omega arith)

  pub part_same : part (put_at s at w bs) at w ≡ bs
  part_same =
      let z : at + 0 ≡ at = omega arith in
      let e : part (take at s ++ (bs ++ drop (at + w) s)) at w ≡ part (bs ++ drop (at + w) s) 0 w = rw z at (part_second (take at s) (bs ++ drop (at + w) s) 0 w at front) in
      rw (put_is s at w bs l h) (e ∙ take_at bs (drop (at + w) s) w l)

  pub part_before : (a n : ℕ) → a + n ≤ at → part (put_at s at w bs) a n ≡ part s a n
  part_before a n k =
      let g : a + n ≤ length (take at s) = omega (arith, front) in
      let e : part (take at s ++ drop at s) a n ≡ part (take at s) a n = part_first (take at s) (drop at s) a n g in
      rw (put_is s at w bs l h) (part_first (take at s) (bs ++ drop (at + w) s) a n g ∙ sym e ∙ ap (λ (t : List ℕ). part t a n) (take-append-drop at s))

  pub part_behind : (a n : ℕ) → at + w ≤ a → part (put_at s at w bs) a n ≡ part s a n
  part_behind a n k =
      let z : at + w + (a - (at + w)) ≡ a = omega arith in
      let g : length (take at s ++ bs) ≡ at + w = length-append (take at s) bs ∙ omega (arith, front) in
      let e : part ((take at s ++ bs) ++ drop (at + w) s) a n ≡ part (drop (at + w) s) (a - (at + w)) n
      = rw z at (part_second (take at s ++ bs) (drop (at + w) s) (a - (at + w)) n (at + w) g) in
      let d : drop (a - (at + w)) (drop (at + w) s) ≡ drop a s = drop-drop (a - (at + w)) (at + w) s ∙ ap (λ (i : ℕ). drop i s) z in
      rw (put_is s at w bs l h, ← append_assoc (take at s) bs (drop (at + w) s), e, d)

-- put one after the other, all of them stand there
pub put_from_lem : (fs : List Field) (at : ℕ) (s : List ℕ) → at + size fs ≤ length s → put_from at fs s ≡ take at s ++ (packed fs ++ drop (at + size fs) s)
unfolding packed
put_from_lem [] at s h =
    let z : at + 0 ≡ at = omega arith in
    rw z (sym (take-append-drop at s))
put_from_lem (f ∷ fs) at s h =
    let w = f.width in
    let bs = bytes_le f.width f.value in
    let l : length bs ≡ w = length_le f.width f.value in
    let k : at + w ≤ length s = omega arith in
    let p = put_at s at w bs in
    let long : length p ≡ length s = put_length s at w bs l k in
    let whole : p ≡ (take at s ++ bs) ++ drop (at + w) s = put_is s at w bs l k ∙ sym (append_assoc (take at s) bs (drop (at + w) s)) in
    let g : length (take at s ++ bs) ≡ at + w = length-append (take at s) bs ∙ omega (arith, length-take-le at s (omega arith)) in
    let near : take (at + w) p ≡ take at s ++ bs = rw whole (take_at (take at s ++ bs) (drop (at + w) s) (at + w) g) in
    let same : at + w + size fs ≡ at + (w + size fs) = omega arith in
    let far : drop (at + w + size fs) p ≡ drop (at + (w + size fs)) s
    = rw whole ((rw g at (drop-append-add (take at s ++ bs) (drop (at + w) s) (size fs))) ∙ drop-drop (size fs) (at + w) s ∙ ap (λ (i : ℕ). drop i s) same) in
    put_from_lem fs (at + w) p (omega arith) ∙ rw (near, far, append_assoc, append_assoc)

pub fit_append : (fs gs : List Field) → AllFit fs → AllFit gs → AllFit (fs ++ gs)
fit_append [] gs h g = g
fit_append (f ∷ fs) gs h g = (h.0, fit_append fs gs h.1 g)

-- what stands in a list, as fields of given widths: put together again it is the list
abbrev pub fields_at : ℕ → List ℕ → List ℕ → List Field
fields_at at [] t = []
fields_at at (w ∷ ws) t = field w (number_at t at w) ∷ fields_at (at + w) ws t

abbrev pub sum : List ℕ → ℕ
sum [] = 0
sum (w ∷ ws) = w + sum ws

pub repacked : (ws : List ℕ) (at : ℕ) (t : List ℕ) → AreBytes t → at + sum ws ≤ length t → packed (fields_at at ws t) ≡ part t at (sum ws)
unfolding packed
repacked [] at t h g = refl
repacked (w ∷ ws) at t h g =
    let l : length (part t at w) ≡ w = length-take-le w (drop at t) (omega (arith, length-drop at t)) in
    let bs : AreBytes (part t at w) = bytes_take w (drop at t) (bytes_drop at t h) in
    let here : bytes_le w (number_at t at w) ≡ part t at w = rw l at (written_read_le (part t at w) bs) in
    rw (here, repacked ws (at + w) t h (omega arith), ← drop-drop w at t) (sym (take-add w (sum ws) (drop at t)))

-- a number whose bytes are lent alone, and one that is put so; e is where they end, as code computes it
pub lent_read : (s : List ℕ) (at w r : ℕ) → r ≡ number_at (part s at (at + w - at)) 0 w → r ≡ number_at s at w
lent_read s at w r e =
    let z : at + w - at ≡ w = omega arith in
    e ∙ rw z (ap value_le (take-take w w (drop at s) (omega arith)))

pub part_length : (s : List ℕ) (at w : ℕ) → at + w ≤ length s → length (part s at w) ≡ w
part_length s at w h = length-take-le w (drop at s) (omega (arith, length-drop at s))

-- what stands in a part that was lent is put there
pub lent_over : (s : List ℕ) (at w : ℕ) (bs p : List ℕ) → length bs ≡ w → at + w ≤ length s → p ≡ bs → put_mid at w s p ≡ put_at s at w bs
lent_over s at w bs p l h e = rw (e, drop-drop) (sym (put_is s at w bs l h))

pub lent_put : (s : List ℕ) (at w : ℕ) (bs p : List ℕ) → length bs ≡ w → at + w ≤ length s → p ≡ put_at (part s at (at + w - at)) 0 w bs
    → put_mid at (at + w - at) s p ≡ put_at s at w bs
lent_put s at w bs p l h e =
    let z : at + w - at ≡ w = omega arith in
    let t = part s at w in
    let k : length t ≡ w = length-take-le w (drop at s) (omega (arith, length-drop at s)) in
    let none : drop w t ≡ [] = drop_of_length-le t {i = w} (omega arith) in
    let zero-w : 0 + w ≡ w = omega arith in
    let f : p ≡ bs = e ∙ ap (λ (n : ℕ). put_at (part s at n) 0 w bs) z ∙ put_is t 0 w bs l (omega arith) ∙ rw (zero-w, none, append-nil) in
    rw (z, f, drop-drop) (sym (put_is s at w bs l h))

-- a part of a part, from its start
pub part_front : (s : List ℕ) (a n w : ℕ) → w ≤ n → part (part s a n) 0 w ≡ part s a w
part_front s a n w h = take-take w n (drop a s) h

-- a number is its first byte and the rest
pub number_more : (s : List ℕ) (at w : ℕ) → at + suc w ≤ length s → number_at s at (suc w) ≡ number_at s at 1 + 256 * number_at s (suc at) w
unfolding value_le
number_more s at w h =
    let k : at < length s = omega arith in
    rw (drop-cons s at 0 k) (omega arith)

zero_sum : (a b : ℕ) → eqb (a + 256 * b) 0 ≡ eqb a 0 && eqb b 0
zero_sum a b =
    same_or_not a 0
    (λ e. rw (eq-eqb a 0 e) (same_or_not b 0 (λ f. rw (eq-eqb b 0 f) (eq-eqb (a + 256 * b) 0 (omega arith))) (λ n. rw (ne_eqb b 0 n) (ne_eqb (a + 256 * b) 0 (λ z. n (omega arith))))))
    (λ n. rw (ne_eqb a 0 n) (ne_eqb (a + 256 * b) 0 (λ z. n (omega arith))))

-- four bytes are 0 where their number is
pub zero_four : (s : List ℕ) (at : ℕ) → at + 4 ≤ length s
    → eqb (number_at s at 4) 0 ≡ eqb (number_at s at 1) 0 && (eqb (number_at s (suc at) 1) 0 && (eqb (number_at s (suc (suc at)) 1) 0 && eqb (number_at s (suc (suc (suc at))) 1) 0))
zero_four s at h =
    rw (number_more s at 3 h, zero_sum, number_more s (suc at) 2 (omega arith), zero_sum, number_more s (suc (suc at)) 1 (omega arith), zero_sum)
