-- What a First Frame may announce, and the numbers that consecutive frames carry: the laws of specs/Message that sender and link cite.
-- Assumes nothing.
use Prim.Native.Nat.{ℕ, ◌+◌, ◌-◌, ◌%◌, ◌≤◌, ◌<◌}
use mathlib.Core.Path.{◌≡◌, refl, sym, ◌∙◌}
use mathlib.Core.Bool.{true, false}
use native.Mathlib.Omega.{arith}
use lib.Dec.{eqb, leb}
use borrow.Author.Tests.{leb-true, eqb-true, eqb-false, le-leb}
use Rattle.numbers.proofs.Choices.{and_both, either, split}
use Rattle.frame.specs.Message.{frame_number, totals_fit}

-- what 18 leaves
pub record TotalsRange (total count : ℕ) : Type 0 where
  pub some_bytes : 1 ≤ total
  pub most_bytes : total ≤ 65536
  pub some_frames : 1 ≤ count
  pub most_frames : count ≤ total

pub totals_range : (total count : ℕ) → totals_fit total count ≡ true → TotalsRange total count
unfolding totals_fit
totals_range total count e =
    let p = and_both (leb 1 total) _ e in
    let q = and_both (leb total 65536) _ p.1 in
    let r = and_both (leb 1 count) (leb count total) q.1 in
    record {
      some_bytes = leb-true 1 total p.0;
      most_bytes = leb-true total 65536 q.0;
      some_frames = leb-true 1 count r.0;
      most_frames = leb-true count total r.1;
    }

-- where one of these fails it is refused, and past the first three the last one decides
pub totals_unfit : {total count : ℕ} → (TotalsRange total count → ⊥) → false ≡ totals_fit total count
totals_unfit {total} {count} unfit = split (totals_fit total count) (λ e. absurd (unfit (totals_range total count e))) (λ e. sym e)

pub totals_said : {total count : ℕ} → 1 ≤ total → total ≤ 65536 → 1 ≤ count → leb count total ≡ totals_fit total count
unfolding totals_fit
totals_said {total} {count} some most frames = rw (le-leb 1 total some, le-leb total 65536 most, le-leb 1 count frames)

pub totals_fit_lem : {total count : ℕ} → TotalsRange total count → totals_fit total count ≡ true
totals_fit_lem {total} {count} r = sym (totals_said r.some_bytes r.most_bytes r.some_frames) ∙ le-leb count total r.most_frames

-- a frame's number, by whether it is the last
pub number_says : (place count : ℕ) {r : ℕ} → (place ≡ count → r ≡ 0) → ((place ≡ count → ⊥) → r ≡ 1 + (place - 1) % 255) → r ≡ frame_number place count
unfolding frame_number
number_says place count {r} last inner =
    either (λ (n : ℕ). r ≡ n) (eqb place count) 0 (1 + (place - 1) % 255) (λ e. last (eqb-true place count e)) (λ e. inner (eqb-false place count e))

-- the numbers are 1, 2, 3 .. 255, 1, 2 .. and 0 for the last
pub number_inner : (k count : ℕ) → k < count → frame_number k count ≡ 1 + (k - 1) % 255
number_inner k count h = sym (number_says k count (λ z. absurd (omega arith)) (λ _. refl))

pub number_last : (count : ℕ) → frame_number count count ≡ 0
number_last count = sym (number_says count count (λ _. refl) (λ n. absurd (n refl)))

-- and each is a byte
pub number_byte : (k count : ℕ) → frame_number k count < 256
unfolding frame_number
number_byte k count = either (λ (n : ℕ). n < 256) (eqb k count) 0 (1 + (k - 1) % 255) (λ _. omega arith) (λ _. omega arith)
