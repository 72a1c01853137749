-- Appending, a block at a time: up to the owner's next block nothing changes, that block takes its share, and the rest goes to what is behind it.
-- `Filling` is the invariant of the loop that does so. By induction along the map, and by the laws of parts. Assumes nothing.
use Prim.Native.Nat.{ℕ, suc, ◌+◌, ◌-◌, ◌*◌, ◌/◌, ◌%◌, ◌<◌, ◌≤◌, min}
use mathlib.Core.Path.{◌≡◌, refl, ap, ap₂, sym, ◌∙◌}
use mathlib.Core.Bool.{Bool, true, false}
use mathlib.Core.List.{List, [], ◌∷◌, ◌++◌, append_assoc, append-nil}
use native.Mathlib.Omega.{arith}
use lib.Dec.{ltb}
use lib.ListN.{length, take, drop, length-take, length-drop, drop_of_length-le, take-append-drop}
use lib.Seq.{drop-nil, take_all, take-add, drop-drop, length-take-le, take-append-add, drop-append-add}
use borrow.Rule.Slice.PartMut.{put_mid, same_len_mid}
use Rattle.numbers.proofs.Choices.{same_or_not}
use Rattle.numbers.proofs.Slices.{rest_lent}
use Rattle.blocks.specs.Map.{block_size, nth_number}
use Rattle.blocks.specs.Pool.{appended_from, over, appended}
use Rattle.blocks.proofs.Over.{over_length, over_past, over_nothing}
use Rattle.blocks.proofs.Counts.{place_here, place_later, place_not, place_cases}
use Rattle.blocks.proofs.Contents.{append_mine, append_not, append_length, block_and_rest, nil_of}
use Rattle.blocks.proofs.Parts.{starts, ends, cut_short}
use Rattle.blocks.proofs.Turns.{next_block}

-- a pool whose first bytes stay, in one step and in two
in_two : (f : List ℕ → List ℕ) (a b : ℕ) (pool : List ℕ) → take a pool ++ (take b (drop a pool) ++ f (drop b (drop a pool))) ≡ take (a + b) pool ++ f (drop (a + b) pool)
in_two f a b pool = rw (take-add a b pool, append_assoc, drop-drop b a pool)

-- up to the owner's block at the place n nothing changes
append_skip : (owner n off at k : ℕ) (s map pool : List ℕ) → at ≡ block_size * n + off → k ≡ nth_number owner n map
    → appended owner at s map pool ≡ take (block_size * k) pool ++ appended owner off s (drop k map) (drop (block_size * k) pool)
unfolding appended nth_number
append_skip owner n off at k s [] pool f g = rw (drop-nil k) (sym (take-append-drop (block_size * k) pool))
append_skip owner n off at k s (o ∷ map) pool f g =
    place_cases owner n o
    (λ e z.
    let q : k ≡ 0 = g ∙ place_here owner n o map e z in
    let p : at ≡ off = omega arith in
    rw (q, p))
    (λ e z.
    let full : length (take block_size pool) ≤ at = omega (arith, length-take block_size pool) in
    let none : block_size - at ≡ 0 = omega arith in
    let less : at - block_size ≡ block_size * (n - 1) + off = omega arith in
    append_mine owner at o s map pool e
    ∙ ap₂ (λ (a b : List ℕ). a ++ b) (over_past at s (take block_size pool) full)
    (ap (λ (i : ℕ). appended owner (at - block_size) (drop i s) map (drop block_size pool)) none
    ∙ append_skip owner (n - 1) off (at - block_size) (nth_number owner (n - 1) map) s map (drop block_size pool) less refl)
    ∙ further (nth_number owner (n - 1) map) (g ∙ place_later owner n o map e z))
    (λ e.
    append_not owner at o s map pool e
    ∙ ap (λ (b : List ℕ). take block_size pool ++ b) (append_skip owner n off at (nth_number owner n map) s map (drop block_size pool) f refl)
    ∙ further (nth_number owner n map) (g ∙ place_not owner n o map e))
  where
    further : (j : ℕ) → k ≡ suc j
        → take block_size pool ++ (take (block_size * j) (drop block_size pool) ++ appended owner off s (drop j map) (drop (block_size * j) (drop block_size pool)))
        ≡ take (block_size * k) pool ++ appended owner off s (drop k (o ∷ map)) (drop (block_size * k) pool)
    further j q =
        let m : block_size * suc j ≡ block_size + block_size * j = omega arith in
        in_two (appended owner off s (drop j map)) block_size (block_size * j) pool ∙ rw (q, m)

-- there is no such block
pub none_found : (owner at : ℕ) (s map pool : List ℕ) → length map ≤ nth_number owner (at / block_size) map → pool ≡ appended owner at s map pool
unfolding appended
none_found owner at s map pool h =
    let k : ℕ = nth_number owner (at / block_size) map in
    sym (append_skip owner (at / block_size) (at % block_size) at k s map pool (omega arith) refl ∙ rw (drop_of_length-le map {i = k} h) (take-append-drop (block_size * k) pool))

-- the block at the place where the payload goes
pub from_found : (owner at : ℕ) (s map pool : List ℕ) {k : ℕ} → k ≡ nth_number owner (at / block_size) map
    → {after : List ℕ} → after ≡ appended_from owner k (at % block_size) s map pool → after ≡ appended owner at s map pool
unfolding appended_from
from_found owner at s map pool {k} is e = e ∙ sym (append_skip owner (at / block_size) (at % block_size) at k s map pool (omega arith) is)

-- nothing is appended
append_nothing : (owner at : ℕ) (map pool : List ℕ) → appended owner at [] map pool ≡ pool
unfolding appended
append_nothing owner at [] pool = refl
append_nothing owner at (o ∷ map) pool =
    same_or_not o owner
    (λ e.
    append_mine owner at o [] map pool e
    ∙ ap₂ (λ (a b : List ℕ). a ++ b) (over_nothing at (take block_size pool))
    (ap (λ (t : List ℕ). appended owner (at - block_size) t map (drop block_size pool)) (drop-nil (block_size - at)) ∙ append_nothing owner (at - block_size) map (drop block_size pool))
    ∙ take-append-drop block_size pool)
    (λ e. append_not owner at o [] map pool e ∙ ap (λ (b : List ℕ). take block_size pool ++ b) (append_nothing owner at map (drop block_size pool)) ∙ take-append-drop block_size pool)

-- ---- from a block on: k is the owner's next one

module _ (owner b at : ℕ) (s map pool : List ℕ) (k : ℕ) (is : k ≡ b + nth_number owner 0 (drop b map)) where
  from_skip : appended_from owner b at s map pool ≡ appended_from owner k at s map pool
  unfolding appended_from
  from_skip =
      let j : ℕ = nth_number owner 0 (drop b map) in
      let m : block_size * (b + j) ≡ block_size * b + block_size * j = omega arith in
      ap (λ (t : List ℕ). take (block_size * b) pool ++ t) (append_skip owner 0 at at j s (drop b map) (drop (block_size * b) pool) (omega arith) refl)
      ∙ in_two (appended owner at s (drop j (drop b map))) (block_size * b) (block_size * j) pool
      ∙ rw (is, m, drop-drop j b map)

  no_block : length map ≤ k → pool ≡ appended_from owner b at s map pool
  unfolding appended_from appended
  no_block h = sym (from_skip ∙ rw (drop_of_length-le map {i = k} h) (take-append-drop (block_size * k) pool))

  -- the block lies past the pool's end
  no_pool : length pool ≤ block_size * k → pool ≡ appended_from owner b at s map pool
  unfolding appended_from
  no_pool h =
      let none : appended owner at s (drop k map) [] ≡ [] = nil_of (appended owner at s (drop k map) []) (append_length owner at s (drop k map) []) in
      sym (from_skip ∙ rw (drop_of_length-le pool {i = block_size * k} h, none, take_all (block_size * k) pool h) (append-nil pool))

  -- the block takes its share: what is left goes to the blocks behind
  from_turn : k < length map → block_size * k ≤ length pool → at < block_size → {r : List ℕ} → r ≡ over at s (take block_size (drop (block_size * k) pool))
      → appended_from owner (k + 1) 0 (drop (block_size - at) s) map (take (block_size * k) pool ++ (r ++ drop block_size (drop (block_size * k) pool))) ≡ appended_from owner b at s map pool
  unfolding appended_from
  from_turn below fits inside {r} put =
      let start : ℕ = block_size * k in
      let behind : List ℕ = drop block_size (drop start pool) in
      let front : length (take start pool) ≡ start = length-take-le start pool fits in
      let n : block_size * (k + 1) ≡ length (take start pool) + block_size = omega arith in
      let same : length r ≡ length (take block_size (drop start pool)) = ap length put ∙ over_length at s (take block_size (drop start pool)) in
      let here : drop k map ≡ owner ∷ drop (k + 1) map = next_block owner map b k is below in
      let none : at - block_size ≡ 0 = omega arith in
      let apart = block_and_rest r behind (drop start pool) same refl in
      let near = take-append-add (take start pool) (r ++ behind) block_size in
      let far = drop-append-add (take start pool) (r ++ behind) block_size in
      rw (n, near, far, apart.0, apart.1, append_assoc)
      (sym (from_skip ∙ rw (here, append_mine owner at owner s (drop (k + 1) map) (drop start pool) refl, none, ← put)))

-- ---- the loop

-- between two turns: to append what is left of the payload from block b on is the whole append
pub record Filling (owner first at : ℕ) (payload map before pool : List ℕ) (b place : ℕ) (rest : List ℕ) : Type 0 where
  pub inside : place < block_size
  pub size : length pool ≡ length before
  pub whole : appended_from owner b place rest map pool ≡ appended_from owner first at payload map before

module _ {owner first at b place : ℕ} {payload map before pool rest : List ℕ} (i : Filling owner first at payload map before pool b place rest) where
  -- the payload is used up
  pub filling_ends : length rest ≡ 0 → pool ≡ appended_from owner first at payload map before
  unfolding appended_from
  filling_ends h =
      sym (rw (nil_of rest h, append_nothing owner place (drop b map) (drop (block_size * b) pool)) (take-append-drop (block_size * b) pool)) ∙ i.whole

  module _ {k : ℕ} (next : k ≡ b + nth_number owner 0 (drop b map)) where
    pub filling-no-block : length map ≤ k → pool ≡ appended_from owner first at payload map before
    filling-no-block h = no_block owner b place rest map pool k next h ∙ i.whole

    module _ {t : Bool} (test : t ≡ ltb (block_size * k) (length pool)) where
      pub filling-no-pool : t ≡ false → pool ≡ appended_from owner first at payload map before
      filling-no-pool f = no_pool owner b place rest map pool k next (ends k (length pool) test f) ∙ i.whole

      -- a turn, with the parts that code lends
      pub filling-turn : t ≡ true → k < length map → {start size n : ℕ} → start ≡ block_size * k → size ≡ min block_size (length pool - start)
          → n ≡ min (length rest) (block_size - place)
          → {o : List ℕ} → o ≡ over place rest (take (start + size - start) (drop start pool))
          → Filling owner first at payload map before (put_mid start (start + size - start) pool o) (k + 1) 0 (take (length rest - n) (drop n rest))
      filling-turn f below {start} {size} {n} begins sized least {o} put =
          let fits = starts k (length pool) test f in
          let z : start + size - start ≡ size = omega arith in
          let block = cut_short (drop start pool) block_size size (omega (arith, length-drop start pool)) in
          let left : take (length rest - n) (drop n rest) ≡ drop (block_size - place) rest =
          rest_lent rest n ∙ (cut_short rest (block_size - place) n (omega arith)).1 in
          let share : o ≡ over place rest (take block_size (drop start pool)) = put ∙ rw (z, block.0) in
          record {
            inside = omega arith;
            size = same_len_mid start (start + size - start) pool o (ap length put ∙ over_length place _ (take (start + size - start) (drop start pool))) ∙ i.size;
            whole = rw (z, block.1, left, begins) (from_turn owner b place rest map pool k next below (omega arith) i.inside (rw begins at share)) ∙ i.whole;
          }
