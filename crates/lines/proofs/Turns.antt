-- Turns and ends of loops over lists: a test of each element, and text that goes to a buffer from its first or from its last character on.
-- By the laws of take, drop and set. Assumes nothing.
use Prim.Native.Nat.{ℕ, zero, suc, ◌+◌, ◌<◌, ◌≤◌}
use mathlib.Core.Path.{◌≡◌, refl, ap, ◌∙◌, sym}
use mathlib.Core.List.{List, [], ◌∷◌, ◌++◌, append_assoc}
use mathlib.Core.Bool.{Bool, true, false, ◌&&◌, and-true, and_assoc}
use native.Mathlib.Numerals.{add-one}
use native.Mathlib.Omega.{arith}
use lib.ListN.{length, take, drop, get_or, set, drop_of_length-le}
use lib.Seq.{drop-cons, drop_at, drop-drop, take-suc, take_at, take-add, append_snoc, set_at, length-take-le, take-length}
use borrow.Rule.Slice.PartMut.{put_mid}
use Rattle.lines.specs.Text.{every}
use Rattle.numbers.specs.Bytes.{laid}

-- both tests hold
pub both : (a b : Bool) → (a && b) ≡ true → (a ≡ true) × (b ≡ true)
both true b e = (refl, e)
both false b e = (e, cc)

-- a turn of the loop that tests each character, with r its test, and the end
module _ (test : ℕ → Bool) (text : List ℕ) (i : ℕ) (all : Bool) where
  pub every_turn : (r : Bool) → i < length text → r ≡ test (get_or text i 0) → (all && r && every test (drop (i + 1) text)) ≡ (all && every test (drop i text))
  every_turn r h e = rw (add-one i, drop-cons text i 0, e, and_assoc)

  pub every_end : length text ≤ i → all ≡ (all && every test (drop i text))
  every_end h = rw drop_of_length-le (sym (and-true all))

-- where each character passes, the one at i does
pub every_says : (test : ℕ → Bool) (text : List ℕ) (i : ℕ) → every test text ≡ true → i < length text → test (get_or text i 0) ≡ true
every_says test [] i e h = absurd (omega arith)
every_says test (b ∷ text) zero e h = (both (test b) (every test text) e).0
every_says test (b ∷ text) (suc i) e h = every_says test text i (both (test b) (every test text) e).1 (omega arith)

-- where each character passes, each of a part does
pub every_part : (test : ℕ → Bool) (text : List ℕ) (from n : ℕ) → every test text ≡ true → every test (take n (drop from text)) ≡ true
every_part test text from n e = every_take test n (drop from text) (every_drop test from text e) where
  every_drop : (test : ℕ → Bool) (n : ℕ) (text : List ℕ) → every test text ≡ true → every test (drop n text) ≡ true
  every_drop test zero text e = e
  every_drop test (suc n) [] e = refl
  every_drop test (suc n) (b ∷ text) e = every_drop test n text (both (test b) (every test text) e).1

  every_take : (test : ℕ → Bool) (n : ℕ) (text : List ℕ) → every test text ≡ true → every test (take n text) ≡ true
  every_take test zero text e = refl
  every_take test (suc n) [] e = refl
  every_take test (suc n) (b ∷ text) e =
      let z = both (test b) (every test text) e in
      rw z.0 (every_take test n text z.1)

-- a turn that stores the next character of s, from the front on, and the end
pub front_at : (s out : List ℕ) (i : ℕ) → i < length s → i < length out
    → set (take i s ++ drop i out) i (get_or s i 0) ≡ take (i + 1) s ++ drop (i + 1) out
front_at s out i h k =
    rw (add-one, drop-cons out i 0, set_at (take i s) (get_or out i 0) (drop (suc i) out) (get_or s i 0) i (length-take-le i s (omega arith)), take-suc s i 0, append_snoc)

-- a turn that stores two
pub front_two : (s out : List ℕ) (i x y : ℕ) → i + 1 < length s → i + 1 < length out → get_or s i 0 ≡ x → get_or s (i + 1) 0 ≡ y
    → set (set (take i s ++ drop i out) i x) (i + 1) y ≡ take (i + 1 + 1) s ++ drop (i + 1 + 1) out
front_two s out i x y h k e f =
    let first = rw e at (front_at s out i (omega arith) (omega arith)) in
    let second = rw f at (front_at s out (i + 1) h k) in
    ap (λ o. set o (i + 1) y) first ∙ second

pub front_end : (s out : List ℕ) (i : ℕ) → i ≡ length s → take i s ++ drop i out ≡ laid s out
front_end s out i e = rw (e, take-length)

-- a turn that stores the next n at once, which lie in r
pub front_part : (s out r : List ℕ) (i n : ℕ) → i + n ≤ length s → i + n ≤ length out → r ≡ take n (drop i s)
    → put_mid i n (take i s ++ drop i out) r ≡ take (i + n) s ++ drop (i + n) out
front_part s out r i n h k e =
    let l = length-take-le i s (omega arith) in
    rw (take_at (take i s) (drop i out) i l, drop_at (take i s) (drop i out) i l, e, drop-drop n i out, take-add i n s, append_assoc)

-- a turn that stores the next character of s, from the back on
pub back_at : (s out : List ℕ) (i : ℕ) → i < length s → i < length out
    → set (take (i + 1) out ++ drop (i + 1) s) i (get_or s i 0) ≡ take i out ++ drop i s
back_at s out i h k =
    rw (add-one, take-suc out i 0, append_snoc, set_at (take i out) (get_or out i 0) (drop (suc i) s) (get_or s i 0) i (length-take-le i out (omega arith)), drop-cons s i 0)
