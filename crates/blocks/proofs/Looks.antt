-- How many blocks a search looks at, for any map: at one entry, up to the next free block, over some entries, over all, and that an owner's highest block is
-- the last one looked at. By induction along the map. Assumes nothing.
use Prim.Native.Nat.{ℕ, zero, suc, ◌+◌, ◌-◌, ◌<◌, ◌≤◌}
use mathlib.Core.Path.{◌≡◌, refl, ap, sym, ◌∙◌}
use mathlib.Core.Logic.{◌≢◌}
use mathlib.Core.List.{List, [], ◌∷◌, ◌++◌}
use native.Mathlib.Omega.{arith}
use lib.ListN.{length, take, drop}
use borrow.Author.Tests.{eq-eqb, ne_eqb}
use Rattle.numbers.proofs.Choices.{same_or_not}
use Rattle.blocks.specs.Map.{free, held_by, free_in, claimed, looked_for, numbers_from, block_numbers, highest_of, nth_number}
use Rattle.blocks.proofs.Counts.{held_mine, held_not, claim_taken, claim_held, numbers_mine, numbers_not, claim_lowest, place_here, place_not}

-- worked cases, by computation: two of three free blocks, the first block alone, none, more than there are
looks : looked_for 2 (0 ∷ 3 ∷ 0 ∷ 4 ∷ 0 ∷ []) ∷ looked_for 1 (0 ∷ 3 ∷ []) ∷ looked_for 0 (0 ∷ 3 ∷ []) ∷ looked_for 9 (0 ∷ 3 ∷ 0 ∷ 4 ∷ 0 ∷ []) ∷ []
    ≡ 3 ∷ 1 ∷ 0 ∷ 5 ∷ []
unfolding looked_for
looks = refl

-- ---- looking at one entry

-- nothing is wanted
pub looked_none : (n : ℕ) (map : List ℕ) → n ≡ 0 → looked_for n map ≡ 0
unfolding looked_for
looked_none n [] z = refl
looked_none n (o ∷ map) z = rw (eq-eqb n 0 z)

-- an entry that is free, and one that is held
pub looked_free : (n o : ℕ) (map : List ℕ) → o ≡ free → 0 < n → looked_for n (o ∷ map) ≡ 1 + looked_for (n - 1) map
unfolding looked_for
looked_free n o map e h = rw (ne_eqb n 0 (omega arith), eq-eqb o free e)

pub looked_held : (n o : ℕ) (map : List ℕ) → o ≢ free → 0 < n → looked_for n (o ∷ map) ≡ 1 + looked_for n map
unfolding looked_for
looked_held n o map e h = rw (ne_eqb n 0 (omega arith), ne_eqb o free e)

-- ---- up to the next free block

-- the held ones in front of it are passed
module _ (n : ℕ) where
  pub looked_found : (map : List ℕ) → 0 < n → nth_number free 0 map < length map
      → looked_for n map ≡ suc (nth_number free 0 map) + looked_for (n - 1) (drop (suc (nth_number free 0 map)) map)
  unfolding nth_number
  looked_found [] some h = absurd (omega arith)
  looked_found (o ∷ map) some h =
      same_or_not o free
      (λ e. rw (place_here free 0 o map e refl) (looked_free n o map e some))
      (λ d. let p = place_not free 0 o map d in rw p (omega (arith, looked_held n o map d some, looked_found map some (omega arith))))

  pub claim_found : (owner : ℕ) (map : List ℕ) → 0 < n → nth_number free 0 map < length map
      → claimed owner n map ≡ take (nth_number free 0 map) map ++ (owner ∷ claimed owner (n - 1) (drop (suc (nth_number free 0 map)) map))
  unfolding nth_number
  claim_found owner [] some h = absurd (omega arith)
  claim_found owner (o ∷ map) some h =
      same_or_not o free
      (λ e. rw (place_here free 0 o map e refl) (claim_taken owner n o map e some))
      (λ d. let p = place_not free 0 o map d in
      rw p (claim_held owner n o map d ∙ ap (λ (t : List ℕ). o ∷ t) (claim_found owner map some (omega arith))))

-- there is none
pub none_found : (map : List ℕ) → length map ≤ nth_number free 0 map → free_in map ≡ 0
unfolding held_by
none_found [] h = refl
none_found (o ∷ map) h =
    same_or_not o free
    (λ e. absurd (omega (arith, place_here free 0 o map e refl)))
    (λ d. held_not free o map d ∙ none_found map (omega (arith, place_not free 0 o map d)))

pub claim_full : (owner n : ℕ) (map : List ℕ) → free_in map ≡ 0 → claimed owner n map ≡ map
unfolding claimed
claim_full owner n [] z = refl
claim_full owner n (o ∷ map) z =
    let d : o ≢ free = λ e. omega (arith, held_mine free o map e) in
    claim_held owner n o map d ∙ ap (λ (t : List ℕ). o ∷ t) (claim_full owner n map (sym (held_not free o map d) ∙ z))

-- ---- the next k entries, while k or more are wanted

pub looked_part : (n k : ℕ) (map : List ℕ) → k ≤ length map → k ≤ n → looked_for n map ≡ k + looked_for (n - free_in (take k map)) (drop k map)
unfolding held_by
looked_part n zero map h g = let z : n - 0 ≡ n = omega arith in rw z (omega arith)
looked_part n (suc k) [] h g = absurd (omega arith)
looked_part n (suc k) (o ∷ map) h g =
    same_or_not o free
    (λ e.
    let c : n - free_in (o ∷ take k map) ≡ n - 1 - free_in (take k map) = omega (arith, held_mine free o (take k map) e) in
    rw c (omega (arith, looked_free n o map e (omega arith), looked_part (n - 1) k map (omega arith) (omega arith))))
    (λ d. rw (held_not free o (take k map) d) (omega (arith, looked_held n o map d (omega arith), looked_part n k map (omega arith) (omega arith))))

pub claim_part : (owner j n k : ℕ) (map : List ℕ) → k ≤ length map → k ≤ j → k ≤ n
    → claimed owner n map ≡ claimed owner j (take k map) ++ claimed owner (n - free_in (take k map)) (drop k map)
unfolding held_by claimed
claim_part owner j n zero map h f g = let z : n - 0 ≡ n = omega arith in rw z
claim_part owner j n (suc k) [] h f g = absurd (omega arith)
claim_part owner j n (suc k) (o ∷ map) h f g =
    same_or_not o free
    (λ e.
    let c : n - free_in (o ∷ take k map) ≡ n - 1 - free_in (take k map) = omega (arith, held_mine free o (take k map) e) in
    rw (c, claim_taken owner n o map e (omega arith), claim_taken owner j o (take k map) e (omega arith))
    (ap (λ (t : List ℕ). owner ∷ t) (claim_part owner (j - 1) (n - 1) k map (omega arith) (omega arith) (omega arith))))
    (λ d.
    rw (held_not free o (take k map) d, claim_held owner n o map d, claim_held owner j o (take k map) d)
    (ap (λ (t : List ℕ). o ∷ t) (claim_part owner j n k map (omega arith) (omega arith) (omega arith))))

-- ---- too few are free

-- then every block is looked at
pub looked_all : (n : ℕ) (map : List ℕ) → free_in map < n → looked_for n map ≡ length map
unfolding looked_for
looked_all n [] h = refl
looked_all n (o ∷ map) h =
    let some : 0 < n = omega arith in
    same_or_not o free
    (λ e. omega (arith, looked_free n o map e some, looked_all (n - 1) map (omega (arith, held_mine free o map e))))
    (λ e. omega (arith, looked_held n o map e some, looked_all n map (omega (arith, held_not free o map e))))

-- ---- the last block looked at

-- else the last block looked at is the highest of the lowest n free ones; b is the number of the map's first block
last_looked : (b n : ℕ) (map : List ℕ) → 1 ≤ n → n ≤ free_in map → b + looked_for n map ≡ suc (highest_of (take n (numbers_from b free map)))
unfolding held_by highest_of
last_looked b n [] some enough = absurd (omega arith)
last_looked b n (o ∷ map) some enough =
    let left : 0 < n = omega arith in
    let behind : List ℕ = numbers_from (suc b) free map in
    same_or_not o free
    (λ e.
    let m : n ≡ suc (n - 1) = omega arith in
    let chosen : take n (numbers_from b free (o ∷ map)) ≡ b ∷ take (n - 1) behind
    = ap (take n) (numbers_mine b free o map e) ∙ ap (λ (k : ℕ). take k (b ∷ behind)) m in
    rw chosen (same_or_not n 1
    (λ one.
    let z : n - 1 ≡ 0 = omega arith in
    rw z (omega (arith, looked_free n o map e left, looked_none (n - 1) map z)))
    (λ d. omega (arith, looked_free n o map e left, last_looked (suc b) (n - 1) map (omega arith) (omega (arith, held_mine free o map e))))))
    (λ e.
    rw (numbers_not b free o map e)
    (omega (arith, looked_held n o map e left, last_looked (suc b) n map some (omega (arith, held_not free o map e)))))

-- "its highest block's number, from 0, plus 1": a new owner's, where enough blocks are free
pub looked_highest : (owner n : ℕ) (map : List ℕ) → owner ≢ free → held_by owner map ≡ 0 → 1 ≤ n → n ≤ free_in map
    → looked_for n map ≡ suc (highest_of (block_numbers owner (claimed owner n map)))
looked_highest owner n map some-owner none some enough =
    let numbers : block_numbers owner (claimed owner n map) ≡ take n (block_numbers free map) = claim_lowest 0 owner n map some-owner none in
    rw numbers (omega (arith, last_looked 0 n map some enough))
