-- Bytes laid to the front of a buffer, piece by piece, and parts of a buffer.
-- Assumes nothing.
use Prim.Native.Nat.{ℕ, ◌+◌, ◌-◌, ◌*◌, ◌≤◌, ◌<◌, min}
use mathlib.Core.Path.{◌≡◌, refl, ap, ◌∙◌, sym}
use mathlib.Core.List.{List, [], ◌∷◌, ◌++◌, append_assoc, append-nil}
use native.Mathlib.Omega.{arith}
use lib.Dec.{leb}
use borrow.Author.Tests.{leb-true, leb-false, eq-eqb, ne_eqb}
use lib.ListN.{length, take, drop, set, length-append, length-take, length-drop, drop_of_length-le}
use lib.Seq.{paste, take_all, take_at, take-nil, length-take-le, drop-append-add, drop-drop}
use borrow.Rule.Slice.PartMut.{put_mid}
use Rattle.numbers.specs.Bytes.{part, pick, put_at, laid}
use Rattle.numbers.specs.Numbers.{bytes_be}
use Rattle.numbers.proofs.Laws.{length_be, put_fits}
use Rattle.numbers.proofs.Choices.{split}
use Rattle.frame.specs.declared.Header.{Header}
use Rattle.frame.specs.Write.{message_bytes, header_bytes}

-- four bytes stored one by one
pub four_stored : (o : List ℕ) (x y z w : ℕ) → 4 ≤ length o → set (set (set (set o 0 x) 1 y) 2 z) 3 w ≡ laid (x ∷ y ∷ z ∷ w ∷ []) o
four_stored (a ∷ b ∷ c ∷ d ∷ t) x y z w h = refl
four_stored [] x y z w h = absurd (omega arith)
four_stored (a ∷ []) x y z w h = absurd (omega arith)
four_stored (a ∷ b ∷ []) x y z w h = absurd (omega arith)
four_stored (a ∷ b ∷ c ∷ []) x y z w h = absurd (omega arith)

pub laid_length : (a o : List ℕ) → length a ≤ length o → length (laid a o) ≡ length o
laid_length a o h = length-append a (drop (length a) o) ∙ omega (arith, length-drop (length a) o)

-- what is put right behind what was laid
pub laid_more : (a b o p q : List ℕ) (n w : ℕ) → length a ≡ n → length b ≡ w → p ≡ laid a o → q ≡ take n p ++ (b ++ drop (n + w) p) → q ≡ laid (a ++ b) o
laid_more a b o p q n w la lb e f =
    let near : take n p ≡ a = rw e (take_at a (drop (length a) o) n la) in
    let z : length a + w ≡ n + w = omega arith in
    let far : drop (n + w) p ≡ drop (length a + length b) o = rw (e, ← z, drop-append-add a (drop (length a) o) w, drop-drop, lb) in
    f ∙ rw (near, far, length-append, append_assoc)

pub pasted : (d s : List ℕ) (at n : ℕ) → length s ≡ n → paste d at s n ≡ take at d ++ (s ++ drop (at + n) d)
pasted d s at n l =
    let w : take n s ≡ s = take_all n s (omega arith) in
    rw (w, append_assoc)

-- a number right behind what was laid
pub number_put : (a : List ℕ) (m at : ℕ) (o p q : List ℕ) → length a ≡ at → at + 4 ≤ length o → p ≡ laid a o → q ≡ put_at p at 4 (bytes_be 4 m) → q ≡ laid (a ++ bytes_be 4 m) o
number_put a m at o p q l h e f =
    let n : at + 4 ≤ length p = rw (e, laid_length a o (omega arith)) h in
    laid_more a (bytes_be 4 m) o p q at 4 l (length_be 4 m) e (f ∙ put_fits p at 4 (bytes_be 4 m) n ∙ pasted p (bytes_be 4 m) at 4 (length_be 4 m))

-- bytes copied there
pub bytes_put : (a b o p q r : List ℕ) (at : ℕ) → length a ≡ at → p ≡ laid a o → r ≡ b → q ≡ put_mid at (at + length b - at) p r → q ≡ laid (a ++ b) o
bytes_put a b o p q r at l e f g =
    let z : at + length b - at ≡ length b = omega arith in
    laid_more a b o p q at (length b) l refl e (g ∙ rw (z, f, drop-drop))

-- a number there, whose four bytes are lent alone
pub number_alone : (a : List ℕ) (m at : ℕ) (o p q r : List ℕ) → length a ≡ at → at + 4 ≤ length o → p ≡ laid a o
    → r ≡ put_at (part p at 4) 0 4 (bytes_be 4 m) → q ≡ put_mid at 4 p r → q ≡ laid (a ++ bytes_be 4 m) o
number_alone a m at o p q r l h e f g =
    let b : List ℕ = bytes_be 4 m in
    let n : at + 4 ≤ length p = rw (e, laid_length a o (omega arith)) h in
    let four : length (part p at 4) ≡ 4 = length-take-le 4 (drop at p) (omega (arith, length-drop at p)) in
    let z : at + length b - at ≡ 4 = omega (arith, length_be 4 m) in
    let put : r ≡ b ++ drop 4 (part p at 4) = f ∙ put_fits (part p at 4) 0 4 b (omega arith) ∙ pasted (part p at 4) b 0 4 (length_be 4 m) in
    let short : length (part p at 4) ≤ 4 = omega arith in
    bytes_put a b o p q r at l e (put ∙ rw (drop_of_length-le (part p at 4) {i = 4} short) (append-nil b)) (rw z g)

-- the first 8 bytes of a header: four stored one by one, then a number
pub front_put : (x y z w n : ℕ) (o q : List ℕ) → 8 ≤ length o → q ≡ put_at (set (set (set (set o 0 x) 1 y) 2 z) 3 w) 4 4 (bytes_be 4 n)
    → q ≡ laid (x ∷ y ∷ z ∷ w ∷ bytes_be 4 n) o
front_put x y z w n o q h e = number_put (x ∷ y ∷ z ∷ w ∷ []) n 4 o (set (set (set (set o 0 x) 1 y) 2 z) 3 w) q refl (omega arith) (four_stored o x y z w (omega arith)) e

-- the header's bytes with and without a message id; b is the flag's bit
module _ (h : Header) (b : ℕ) (o q : List ℕ) (e : b ≡ pick h.flag 8 0) where
  pub header_one : h.version ≡ 1 → q ≡ laid ((h.version * 16 + b + h.kind) ∷ h.service.0 ∷ h.info ∷ h.session.0 ∷ bytes_be 4 h.size) o → q ≡ laid (header_bytes h) o
  unfolding message_bytes
  header_one v f =
      let s : (h.version * 16 + b + h.kind) ∷ h.service.0 ∷ h.info ∷ h.session.0 ∷ bytes_be 4 h.size ≡ header_bytes h
      = rw (e, eq-eqb h.version 1 v, append-nil (bytes_be 4 h.size)) in
      f ∙ ap (λ (l : List ℕ). laid l o) s

  pub header_more : (h.version ≡ 1 → ⊥)
      → q ≡ laid ((h.version * 16 + b + h.kind) ∷ h.service.0 ∷ h.info ∷ h.session.0 ∷ (bytes_be 4 h.size ++ bytes_be 4 h.message.0)) o
      → q ≡ laid (header_bytes h) o
  unfolding message_bytes
  header_more v f =
      let s : (h.version * 16 + b + h.kind) ∷ h.service.0 ∷ h.info ∷ h.session.0 ∷ (bytes_be 4 h.size ++ bytes_be 4 h.message.0) ≡ header_bytes h
      = rw (e, ne_eqb h.version 1 v) in
      f ∙ ap (λ (l : List ℕ). laid l o) s

-- a payload copied right behind a header
pub payload_put : (a b o p q r : List ℕ) (n : ℕ) → length a ≡ n → n + length b ≤ length o → p ≡ laid a o
    → r ≡ take (length b) b ++ drop (length b) (part p n (n + length b - n))
    → q ≡ put_mid n (n + length b - n) p r
    → q ≡ laid (a ++ b) o
payload_put a b o p q r n l h e f g =
    let z : n + length b - n ≡ length b = omega arith in
    let k : take (length b) b ≡ b = take_all (length b) b (omega arith) in
    let m : drop (length b) (part p n (length b)) ≡ [] = drop_of_length-le (part p n (length b)) {i = length b} (length_part p n (length b)) in
    bytes_put a b o p q r n l e (f ∙ rw (z, k, m, append-nil)) g
  where
    length_part : (s : List ℕ) (at w : ℕ) → length (part s at w) ≤ w
    length_part s at w = omega (arith, length-take w (drop at s))

-- a part that starts at its end, or past the list's end, is empty
part_none : (s : List ℕ) (a w : ℕ) → length s ≤ a → part s a w ≡ []
part_none s a w h = rw (drop_of_length-le s {i = a} h) (take-nil w)

-- a part that ends past the list's end is all that is there
part_rest : (s : List ℕ) (a w : ℕ) → length s - a ≤ w → part s a w ≡ drop a s
part_rest s a w h = take_all w (drop a s) (omega (arith, length-drop a s))

-- a part whose ends are brought inside is the part
module _ (s : List ℕ) (a e : ℕ) where
  inside : a ≤ min e (length s) → part s a (min e (length s) - a) ≡ part s a (e - a)
  inside h =
      split (leb e (length s))
      (λ t. let l : e ≤ length s = leb-true e (length s) t in let z : min e (length s) ≡ e = omega arith in rw z)
      (λ t. let l : length s < e = leb-false e (length s) t in part_rest s a (min e (length s) - a) (omega arith) ∙ sym (part_rest s a (e - a) (omega arith)))

  outside : min e (length s) < a → [] ≡ part s a (e - a)
  outside h =
      split (leb e (length s))
      (λ t. let l : e ≤ length s = leb-true e (length s) t in let z : e - a ≡ 0 = omega arith in rw z)
      (λ t. let l : length s < e = leb-false e (length s) t in sym (part_none s a (e - a) (omega arith)))

  pub part_clamped : part s (min a (min e (length s))) (min e (length s) - min a (min e (length s))) ≡ part s a (e - a)
  part_clamped =
      split (leb a (min e (length s)))
      (λ t. let l : a ≤ min e (length s) = leb-true a (min e (length s)) t in let z : min a (min e (length s)) ≡ a = omega arith in rw z (inside l))
      (λ t. let l : min e (length s) < a = leb-false a (min e (length s)) t in
      let z : min e (length s) - min a (min e (length s)) ≡ 0 = omega arith in rw z (outside l))
