-- Which numbers are refusals, by computation: one number, and each of a run. A law of each crate that refuses says of its answers that they are such (Listed in
-- its proofs/), since the type of an error, a byte, says it of none.
-- Assumes nothing.
use Prim.Native.Nat.{ℕ, zero, suc, ◌+◌, ◌≤◌, ◌<◌}
use mathlib.Core.Path.{◌≡◌, refl, subst}
use mathlib.Core.Bool.{Bool, true, ◌&&◌}
use mathlib.Core.List.{List, [], ◌∷◌}
use native.Mathlib.Omega.{arith}
use lib.Dec.{eqb, leb}
use lib.ListN.{length, get_or}
use borrow.Author.Tests.{leb-true}
use Rattle.std.specs.Set.{is_member}
use Rattle.std.specs.Cmp.{unsigned_Decides}
use Rattle.std.proofs.lemmas.Map.Made.{is_member-Decides}
use Rattle.numbers.proofs.Choices.{and_both, same_or_not}
use Rattle.figures.specs.Refusal.{all_refusals, Listed}

abbrev pub is_listed : ℕ → Bool
is_listed n = is_member eqb all_refusals n

pub listed : (n : ℕ) → is_listed n ≡ true → Listed n
listed n e = (is_member-Decides unsigned_Decides all_refusals n).0 e

-- whether so many numbers are refusals, from one on
abbrev pub are_listed : ℕ → ℕ → Bool
are_listed from zero = true
are_listed from (suc k) = is_listed from && are_listed (suc from) k

pub listed_run : (from count n : ℕ) → are_listed from count ≡ true → from ≤ n → n < from + count → Listed n
listed_run from zero n e l u = absurd (omega arith)
listed_run from (suc k) n e l u =
    let p = and_both (is_listed from) (are_listed (suc from) k) e in
    same_or_not from n (λ s. subst Listed s (listed from p.0)) (λ s. listed_run (suc from) k n p.1 (omega (arith, s)) (omega (arith, u)))

-- what a definition answers that says 0 for none: a number of these, or 0
abbrev pub ListedOrNone : ℕ → Type 0
ListedOrNone n = (n ≡ 0 → ⊥) → Listed n

-- whether all of a list's numbers are from 1 to 44
abbrev are_within : List ℕ → Bool
are_within [] = true
are_within (m ∷ ms) = (leb 1 m && leb m 44) && are_within ms

within_at : (ms : List ℕ) (k d : ℕ) → are_within ms ≡ true → k < length ms → (1 ≤ get_or ms k d) × (get_or ms k d ≤ 44)
within_at [] k d e h = absurd (omega arith)
within_at (m ∷ ms) zero d e h =
    let p = and_both (leb 1 m && leb m 44) (are_within ms) e in
    let q = and_both (leb 1 m) (leb m 44) p.0 in
    (leb-true 1 m q.0, leb-true m 44 q.1)
within_at (m ∷ ms) (suc k) d e h = within_at ms k d (and_both (leb 1 m && leb m 44) (are_within ms) e).1 (omega arith)

-- none is 0, and none is above 44
pub listed_bounds : (n : ℕ) → Listed n → (1 ≤ n) × (n ≤ 44)
listed_bounds n c = subst (λ (m : ℕ). (1 ≤ m) × (m ≤ 44)) c.2 (within_at all_refusals c.0 n refl c.1)
