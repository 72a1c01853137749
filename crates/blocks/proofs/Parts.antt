-- The parts of lists that code lends: a block that may be cut short, bytes put over others, bytes that are copied.
-- By the laws of parts. Assumes nothing.
use Prim.Native.Nat.{ℕ, ◌+◌, ◌-◌, ◌*◌, ◌/◌, ◌<◌, ◌≤◌, min}
use mathlib.Core.Path.{◌≡◌, refl, sym, ◌∙◌}
use mathlib.Core.Bool.{Bool, true, false}
use mathlib.Core.List.{List, ◌++◌, append-nil}
use native.Mathlib.Omega.{arith}
use lib.Dec.{ltb}
use lib.ListN.{length, take, drop, length-drop, drop_of_length-le, take-append-drop}
use lib.Seq.{take_all, take_at, drop_at, drop-drop, length-take-le}
use borrow.Author.Tests.{lt-ltb, le-ltb, ltb-true, ltb-false}
use borrow.Rule.Slice.PartMut.{put_mid}
use Rattle.blocks.specs.Map.{block_size, needed_for}
use Rattle.blocks.specs.Pool.{over}
use Rattle.blocks.proofs.Over.{compare, over_parts}

-- ---- a block that starts inside the pool, and may be cut short

-- a block starts inside so many bytes exactly if its number is below the blocks that they need
pub inside_needed : (k n : ℕ) → ltb k (needed_for n) ≡ ltb (block_size * k) n
unfolding needed_for
inside_needed k n =
    compare n (block_size * k)
    (λ h. le-ltb k ((n + 255) / 256) (omega arith) ∙ sym (le-ltb (block_size * k) n h))
    (λ h. lt-ltb k ((n + 255) / 256) (omega arith) ∙ sym (lt-ltb (block_size * k) n h))

-- what code's test shows
pub starts : (k n : ℕ) {t : Bool} → t ≡ ltb (block_size * k) n → t ≡ true → block_size * k < n
starts k n e f = ltb-true (block_size * k) n (sym e ∙ f)

pub ends : (k n : ℕ) {t : Bool} → t ≡ ltb (block_size * k) n → t ≡ false → n ≤ block_size * k
ends k n e f = ltb-false (block_size * k) n (sym e ∙ f)

-- the part that is there of a longer one is that part, and what is behind it is behind that part
pub cut_short : (l : List ℕ) (room n : ℕ) → n ≡ min room (length l) → (take n l ≡ take room l) × (drop n l ≡ drop room l)
cut_short l room n e =
    compare room (length l)
    (λ h. let z : n ≡ room = omega arith in rw z (refl, refl))
    (λ h.
    let a : length l ≤ n = omega arith in
    let b : length l ≤ room = omega arith in
    (take_all n l a ∙ sym (take_all room l b), drop_of_length-le l {i = n} a ∙ sym (drop_of_length-le l {i = room} b)))

-- ---- putting bytes over others, in the parts that code lends

pub overwritten : (s l : List ℕ) {r : List ℕ} (at : ℕ) {n : ℕ} → at < length l → n ≡ min (length s) (length l - at) → r ≡ take (n - 0) (drop 0 s) → put_mid at (at + n - at) l r ≡ over at s l
overwritten s l at {n} h e f =
    let z : at + n - at ≡ n = omega arith in
    let y : n - 0 ≡ n = omega arith in
    rw (z, f, y, drop-drop n at l) (sym (over_parts at n s l (omega arith) e))

-- bytes copied in two halves
pub halves : (s t : List ℕ) {a b : List ℕ} → length s ≡ 256 → length t ≡ 256 → a ≡ take 128 s → b ≡ take 128 (drop 128 s) → put_mid 128 128 (put_mid 0 128 t a) b ≡ s
halves s t {a} {b} l m e f =
    let p : List ℕ = a ++ drop 128 t in
    let half : length a ≡ 128 = rw e (length-take-le 128 s (omega arith)) in
    let near : take 128 p ≡ a = take_at a (drop 128 t) 128 half in
    let far : drop 128 p ≡ drop 128 t = drop_at a (drop 128 t) 128 half in
    let short : length (drop 128 t) ≤ 128 = omega (arith, length-drop 128 t) in
    let rest : take 128 (drop 128 s) ≡ drop 128 s = take_all 128 (drop 128 s) (omega (arith, length-drop 128 s)) in
    rw (near, far, drop_of_length-le (drop 128 t) {i = 128} short, append-nil b, f, rest, e) (take-append-drop 128 s)
