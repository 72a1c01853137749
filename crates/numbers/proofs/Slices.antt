-- Parts of slices, as code lends them, and copies of whole ones. Assumes nothing.
use Prim.Native.Nat.{ℕ, ◌-◌, ◌≤◌}
use mathlib.Core.Path.{◌≡◌, refl, ◌∙◌}
use mathlib.Core.List.{List, ◌++◌, append-nil}
use native.Mathlib.Omega.{arith}
use lib.ListN.{length, take, drop, length-drop, drop_of_length-le}
use lib.Seq.{take_all, take_at}

-- from a place on, all of it
pub rest_lent : (s : List ℕ) (n : ℕ) → take (length s - n) (drop n s) ≡ drop n s
rest_lent s n = take_all (length s - n) (drop n s) (omega (arith, length-drop n s))

-- a copy over all of a list leaves nothing of it
pub copied : (s t : List ℕ) {r : List ℕ} → length t ≡ length s → r ≡ take (length s) s ++ drop (length s) t → r ≡ s
copied s t l e =
    let h : length t ≤ length s = omega arith in
    e ∙ rw (take_all (length s) s (omega arith), drop_of_length-le t {i = length s} h) (append-nil s)

-- bytes copied by way of other bytes m
pub by_way : (s z t : List ℕ) {m r : List ℕ} → length t ≡ length s → m ≡ take (length s) s ++ drop (length s) z
    → r ≡ take (length (take (length s - 0) (drop 0 m))) (take (length s - 0) (drop 0 m)) ++ drop (length (take (length s - 0) (drop 0 m))) t
    → r ≡ s
by_way s z t {m} l e f =
    let y : length s - 0 ≡ length s = omega arith in
    let all : take (length s) s ≡ s = take_all (length s) s (omega arith) in
    let near : take (length s) m ≡ s = rw (e, all) (take_at s (drop (length s) z) (length s) refl) in
    let h : length t ≤ length s = omega arith in
    f ∙ rw (y, near, all, drop_of_length-le t {i = length s} h) (append-nil s)
