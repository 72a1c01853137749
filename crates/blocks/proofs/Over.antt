-- Laws of bytes that are put over a list: its length stays, what lies before and behind stays, and a list in two pieces takes them in two.
-- By induction along the list. Assumes nothing.
use Prim.Native.Nat.{ℕ, zero, suc, ◌+◌, ◌-◌, ◌≤◌, ◌<◌, min}
use mathlib.Core.Path.{◌≡◌, refl, ap, sym, ◌∙◌}
use mathlib.Core.List.{List, [], ◌∷◌, ◌++◌, append_assoc}
use native.Mathlib.Omega.{arith}
use lib.Dec.{leb}
use lib.ListN.{length, take, drop, length-append, length-take}
use lib.Seq.{take-nil, drop-nil, take-length, take_at}
use borrow.Author.Tests.{leb-true, leb-false}
use Rattle.numbers.specs.Bytes.{laid}
use Rattle.numbers.proofs.Choices.{split}
use Rattle.blocks.specs.Pool.{over}

-- by the order of two numbers
pub compare : {X : Type 0} (m n : ℕ) → (m ≤ n → X) → (n < m → X) → X
compare m n f g = split (leb m n) (λ t. f (leb-true m n t)) (λ t. g (leb-false m n t))

-- nothing is put over a list
pub over_nothing : (at : ℕ) (l : List ℕ) → over at [] l ≡ l
unfolding over
over_nothing at [] = refl
over_nothing zero (x ∷ l) = refl
over_nothing (suc at) (x ∷ l) = ap (λ (t : List ℕ). x ∷ t) (over_nothing at l)

-- bytes past the end of a list are put nowhere
pub over_past : (at : ℕ) (s l : List ℕ) → length l ≤ at → over at s l ≡ l
unfolding over
over_past at s [] h = refl
over_past zero s (x ∷ l) h = absurd (omega arith)
over_past (suc at) s (x ∷ l) h = ap (λ (t : List ℕ). x ∷ t) (over_past at s l (omega arith))

pub over_length : (at : ℕ) (s l : List ℕ) → length (over at s l) ≡ length l
unfolding over
over_length at s [] = refl
over_length zero [] (x ∷ l) = refl
over_length zero (y ∷ s) (x ∷ l) = ap suc (over_length zero s l)
over_length (suc at) s (x ∷ l) = ap suc (over_length at s l)

-- the bytes behind what was put stay
pub over_behind : (at : ℕ) (s l : List ℕ) → drop (at + length s) (over at s l) ≡ drop (at + length s) l
unfolding over
over_behind at s [] = refl
over_behind zero [] (x ∷ l) = refl
over_behind zero (y ∷ s) (x ∷ l) =
    let e : 0 + suc (length s) ≡ suc (0 + length s) = omega arith in
    rw e (over_behind zero s l)
over_behind (suc at) s (x ∷ l) =
    let e : suc at + length s ≡ suc (at + length s) = omega arith in
    rw e (over_behind at s l)

-- the list afterwards, in its three parts: before the bytes, the n of them that fit, behind them
pub over_parts : (at n : ℕ) (s l : List ℕ) → at ≤ length l → n ≡ min (length s) (length l - at) → over at s l ≡ take at l ++ (take n s ++ drop (at + n) l)
unfolding over
over_parts zero n [] [] h e = let z : n ≡ 0 = omega arith in rw z
over_parts zero n (y ∷ s) [] h e = let z : n ≡ 0 = omega arith in rw z
over_parts zero n [] (x ∷ l) h e = let z : n ≡ 0 = omega arith in rw z
over_parts zero n (y ∷ s) (x ∷ l) h e =
    let m : ℕ = n - 1 in
    let z : n ≡ suc m = omega arith in
    let w : 0 + suc m ≡ suc (0 + m) = omega arith in
    rw (z, w) (ap (λ (t : List ℕ). y ∷ t) (over_parts zero m s l (omega arith) (omega arith)))
over_parts (suc at) n s [] h e = absurd (omega arith)
over_parts (suc at) n s (x ∷ l) h e =
    let w : suc at + n ≡ suc (at + n) = omega arith in
    rw w (ap (λ (t : List ℕ). x ∷ t) (over_parts at n s l (omega arith) (omega arith)))

-- where all of them fit
pub over_fits : (at : ℕ) (s l : List ℕ) → at + length s ≤ length l → over at s l ≡ take at l ++ (s ++ drop (at + length s) l)
over_fits at s l h = over_parts at (length s) s l (omega arith) (omega arith) ∙ rw (take-length s)

-- then they stand behind the bytes that were there
pub over_adds : (at : ℕ) (s l : List ℕ) → at + length s ≤ length l → take (at + length s) (over at s l) ≡ take at l ++ s
over_adds at s l h =
    let n : length (take at l ++ s) ≡ at + length s = omega (arith, length-append (take at l) s, length-take at l) in
    rw (over_fits at s l h, ← append_assoc) (take_at (take at l ++ s) (drop (at + length s) l) (at + length s) n)

-- to the front of a list that has room
pub over_front : (s l : List ℕ) → length s ≤ length l → over 0 s l ≡ laid s l
over_front s l h = let z : 0 + length s ≡ length s = omega arith in rw z at (over_fits 0 s l (omega arith))

-- a list in two pieces
pub over_append : (at : ℕ) (s a b : List ℕ) → over at s (a ++ b) ≡ over at s a ++ over (at - length a) (drop (length a - at) s) b
unfolding over
over_append at s [] b =
    let e : at - 0 ≡ at = omega arith in
    let f : 0 - at ≡ 0 = omega arith in
    rw (e, f)
over_append zero [] (x ∷ a) b = rw (drop-nil (suc (length a) - 0)) (ap (λ (t : List ℕ). x ∷ (a ++ t)) (sym (over_nothing (0 - suc (length a)) b)))
over_append zero (y ∷ s) (x ∷ a) b =
    let e : 0 - suc (length a) ≡ 0 - length a = omega arith in
    let f : suc (length a) - 0 ≡ suc (length a - 0) = omega arith in
    rw (e, f) (ap (λ (t : List ℕ). y ∷ t) (over_append zero s a b))
over_append (suc at) s (x ∷ a) b =
    let e : suc at - suc (length a) ≡ at - length a = omega arith in
    let f : suc (length a) - suc at ≡ length a - at = omega arith in
    rw (e, f) (ap (λ (t : List ℕ). x ∷ t) (over_append at s a b))

-- bytes in two pieces: the second piece goes right behind the first
pub over_again : (at : ℕ) (a b l : List ℕ) → over at (a ++ b) l ≡ over (at + length a) b (over at a l)
unfolding over
over_again at a b [] = refl
over_again zero [] b (x ∷ l) = refl
over_again zero (y ∷ a) b (x ∷ l) =
    let e : 0 + suc (length a) ≡ suc (0 + length a) = omega arith in
    rw e (ap (λ (t : List ℕ). y ∷ t) (over_again zero a b l))
over_again (suc at) a b (x ∷ l) =
    let e : suc at + length a ≡ suc (at + length a) = omega arith in
    rw e (ap (λ (t : List ℕ). x ∷ t) (over_again at a b l))

-- more bytes than there is room for
pub over_cut : (n : ℕ) (s l : List ℕ) → length l ≤ n → over 0 (take n s) l ≡ over 0 s l
unfolding over
over_cut n s [] h = refl
over_cut n [] (x ∷ l) h = rw (take-nil n)
over_cut zero (y ∷ s) (x ∷ l) h = absurd (omega arith)
over_cut (suc n) (y ∷ s) (x ∷ l) h = ap (λ (t : List ℕ). y ∷ t) (over_cut n s l (omega arith))
