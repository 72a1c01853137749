-- Parts of lists whose bounds are cut at the list's length, and bytes put into a buffer as far as they fit. By the laws of take and drop. Assumes nothing.
use Prim.Native.Nat.{ℕ, ◌+◌, ◌-◌, ◌≤◌, min}
use mathlib.Core.Path.{◌≡◌, ap, ◌∙◌, sym}
use mathlib.Core.List.{List, ◌++◌, append-nil}
use native.Mathlib.Omega.{arith}
use lib.Dec.{leb}
use lib.ListN.{length, take, drop, length-take, drop_of_length-le}
use lib.Seq.{take_all, drop-drop, take-append-add, take-append_seam}
use borrow.Author.Tests.{leb-true, leb-false}
use Rattle.std.proofs.lemmas.List.{take_min}
use Rattle.numbers.proofs.Choices.{split}
use borrow.Rule.Slice.PartMut.{put_mid}
use Rattle.text.specs.Pieces.{fitting, put_into}

-- a place cut at the length is the same place
pub drop_min : (n : ℕ) (s : List ℕ) → drop (min n (length s)) s ≡ drop n s
drop_min n s =
    split (leb n (length s)) (λ e. let q : min n (length s) ≡ n = omega (arith, leb-true n (length s) e) in rw q) λ e.
    let q : min n (length s) ≡ length s = omega (arith, leb-false n (length s) e) in
    let m : length s ≤ n = omega (arith, leb-false n (length s) e) in
    let l : length s ≤ length s = omega arith in
    rw (q, drop_of_length-le s {i = length s} l, drop_of_length-le s {i = n} m)

-- n bytes of s copied into b from a on: a is the place cut at the length of b, n what fits there
module _ (b s : List ℕ) (at : ℕ) {a n : ℕ} (h : a ≡ min at (length b)) (k : n ≡ min (length s) (length b - a)) where
  fits : take n s ≡ fitting b at s
  fits = let z : n ≡ min (length b - at) (length s) = omega (arith, h, k) in rw z (take_min (length b - at) s)

  fits_length : length (fitting b at s) ≡ n
  fits_length = omega (arith, h, k, length-take (length b - at) s)

  pub put_end : a + n ≡ min at (length b) + length (fitting b at s)
  put_end = omega (arith, h, fits_length)

  -- what the copy leaves in the part that it was lent
  pub put_part : {q : List ℕ} → q ≡ take (length (take (n - 0) s)) (take (n - 0) s) ++ drop (length (take (n - 0) s)) (take (a + n - a) (drop a b)) → q ≡ take n s
  put_part e =
      let z : n - 0 ≡ n = omega arith in
      let l : length (take n s) ≡ n = omega (arith, k, length-take n s) in
      let m : length (take (a + n - a) (drop a b)) ≤ n = omega (arith, length-take (a + n - a) (drop a b)) in
      let t : length (take n s) ≤ n = omega (arith, l) in
      e ∙ rw (z, l, take_all n (take n s) t, drop_of_length-le (take (a + n - a) (drop a b)) {i = n} m, append-nil)

  pub put_buffer : {q : List ℕ} → q ≡ take n s → put_mid a (a + n - a) b q ≡ put_into b at s
  put_buffer e =
      let z : a + n - a ≡ n = omega arith in
      let t : take a b ≡ take at b = ap (λ (i : ℕ). take i b) h ∙ take_min at b in
      let m : a + n ≡ min (at + n) (length b) = omega (arith, h, k) in
      let d : drop n (drop a b) ≡ drop (at + n) b = drop-drop n a b ∙ (ap (λ (i : ℕ). drop i b) m ∙ drop_min (at + n) b) in
      rw (e, z, t, d, fits, fits_length)

-- the front of a buffer when bytes were put behind its first e: these and the bytes, as far as the buffer goes
pub put_front : (c s : List ℕ) (e : ℕ) {n : ℕ} → n ≡ min e (length c) + length (fitting c e s) → take n (put_into c e s) ≡ take (length c) (take e c ++ s)
put_front c s e {n} h =
    let p = take e c in
    let f = fitting c e s in
    let z : n ≡ length p + length f = omega (arith, h, length-take e c) in
    let w : length c ≡ length p + (length c - e) = omega (arith, length-take e c) in
    ap (λ (i : ℕ). take i (put_into c e s)) z
    ∙ take-append-add p (f ++ drop (e + length f) c) (length f)
    ∙ ap (λ (t : List ℕ). p ++ t) (take-append_seam f (drop (e + length f) c))
    ∙ sym (take-append-add p s (length c - e))
    ∙ sym (ap (λ (i : ℕ). take i (p ++ s)) w)
