-- A list, element by element: a test of all from the whole to one place and back, and tests and sums after one element was set. For any list; by induction along it.
-- Assumes nothing.
use mathlib.Core.Path.{◌≡◌, refl, sym, subst}
use Prim.Native.Nat.{ℕ, zero, suc, ◌+◌, ◌<◌}
use native.Mathlib.Omega.{arith}
use mathlib.Core.Bool.{Bool, true, false, not, ◌||◌}
use mathlib.Core.List.{List, [], ◌∷◌}
use lib.ListN.{length, get_or, set}
use lib.Seq.{get_or-set_same, get_or-set_other}
use Rattle.numbers.proofs.Choices.{and_yes, and_both, same_or_not}
use Rattle.link.specs.State.{all, all_from}

-- a rule that holds only where a test does
pub or_then : (b c : Bool) → not b || c ≡ true → b ≡ true → c ≡ true
or_then true c e f = e
or_then false c e f = cc

pub then_or : (b c : Bool) → (b ≡ true → c ≡ true) → not b || c ≡ true
then_or true c f = f refl
then_or false c f = refl

module _ {A : Type 0} where
  from_at : (n : ℕ) (test : ℕ → A → Bool) (l : List A) (k : ℕ) (d : A) → all_from n test l ≡ true → k < length l → test (n + k) (get_or l k d) ≡ true
  from_at n test [] k d e h = absurd (omega arith)
  from_at n test (a ∷ l) zero d e h = let z : n + 0 ≡ n = omega arith in rw z (and_both (test n a) (all_from (suc n) test l) e).0
  from_at n test (a ∷ l) (suc k) d e h =
      let z : n + suc k ≡ suc n + k = omega arith in
      rw z (from_at (suc n) test l k d (and_both (test n a) (all_from (suc n) test l) e).1 (omega arith))

  from_make : (n : ℕ) (test : ℕ → A → Bool) (l : List A) (d : A) → ((k : ℕ) → k < length l → test (n + k) (get_or l k d) ≡ true) → all_from n test l ≡ true
  from_make n test [] d f = refl
  from_make n test (a ∷ l) d f =
      let z : n + 0 ≡ n = omega arith in
      and_yes (test n a) (all_from (suc n) test l) (rw z at (f 0 (omega arith)))
      (from_make (suc n) test l d (λ k h. let y : n + suc k ≡ suc n + k = omega arith in rw y at (f (suc k) (omega arith))))

  -- places counted from 0
  pub each_at : (test : ℕ → A → Bool) (l : List A) (k : ℕ) (d : A) → all_from 0 test l ≡ true → k < length l → test k (get_or l k d) ≡ true
  each_at test l k d e h = let z : 0 + k ≡ k = omega arith in rw z at (from_at 0 test l k d e h)

  pub each_make : (test : ℕ → A → Bool) (l : List A) (d : A) → ((k : ℕ) → k < length l → test k (get_or l k d) ≡ true) → all_from 0 test l ≡ true
  each_make test l d f = from_make 0 test l d (λ k h. let z : 0 + k ≡ k = omega arith in rw z (f k h))

  pub all_at : (test : A → Bool) (l : List A) (k : ℕ) (d : A) → all test l ≡ true → k < length l → test (get_or l k d) ≡ true
  all_at test [] k d e h = absurd (omega arith)
  all_at test (a ∷ l) zero d e h = (and_both (test a) (all test l) e).0
  all_at test (a ∷ l) (suc k) d e h = all_at test l k d (and_both (test a) (all test l) e).1 (omega arith)

  pub all_make : (test : A → Bool) (l : List A) (d : A) → ((k : ℕ) → k < length l → test (get_or l k d) ≡ true) → all test l ≡ true
  all_make test [] d f = refl
  all_make test (a ∷ l) d f = and_yes (test a) (all test l) (f 0 (omega arith)) (all_make test l d (λ k h. f (suc k) (omega arith)))

  -- what holds of a list at every place, after one of them was set
  pub set_each : (P : ℕ → A → Type 0) (l : List A) (p : ℕ) (a d : A) → p < length l → P p a
      → ((k : ℕ) → k < length l → (k ≡ p → ⊥) → P k (get_or l k d)) → (k : ℕ) → k < length l → P k (get_or (set l p a) k d)
  set_each P l p a d h q f k i =
      same_or_not k p
      (λ e. rw e (subst (P p) (sym (get_or-set_same l p a d h)) q))
      (λ n. subst (P k) (sym (get_or-set_other l p k a d n)) (f k i n))

  -- a sum over a list, after one element was set
  pub sum_set : (sum : List A → ℕ) (f : A → ℕ) → ((a : A) (l : List A) → sum (a ∷ l) ≡ f a + sum l)
      → (l : List A) (k : ℕ) (a d : A) → k < length l → sum (set l k a) + f (get_or l k d) ≡ sum l + f a
  sum_set sum f c [] k a d h = absurd (omega arith)
  sum_set sum f c (x ∷ l) zero a d h = omega (arith, c a l, c x l)
  sum_set sum f c (x ∷ l) (suc k) a d h = omega (arith, c x (set l k a), c x l, sum_set sum f c l k a d (omega arith))
