-- Turns and ends of the loops over the map: what is counted, claimed, released or found, and what is left to go through.
-- By the laws of one entry. Assumes nothing.
use Prim.Native.Nat.{ℕ, zero, suc, ◌+◌, ◌-◌, ◌*◌, ◌/◌, ◌<◌, ◌≤◌}
use mathlib.Core.Path.{◌≡◌, refl, ap, sym, ◌∙◌}
use mathlib.Core.Logic.{◌≢◌}
use mathlib.Core.Bool.{◌&&◌}
use mathlib.Core.List.{List, [], ◌∷◌, ◌++◌, append-nil}
use native.Mathlib.Numerals.{add-one}
use native.Mathlib.Omega.{arith}
use native.Mathlib.Nat.{mul-le-mul_right, div-mul-le_self}
use lib.Dec.{eqb, ltb, leb}
use lib.ListN.{length, take, drop, get_or, set, drop_of_length-le, take-append-drop, length-drop}
use lib.Seq.{drop-cons, take-suc-set, drop-set-lt, append_snoc, take_all, drop-drop, get_or-drop}
use borrow.Author.Tests.{ltb-true, ltb-false, lt-ltb, le-ltb}
use Rattle.std.proofs.Common.{Option, Some, None}
use Rattle.std.specs.Simd.{first_chunks}
use Rattle.numbers.specs.Bytes.{pick}
use Rattle.numbers.proofs.Choices.{split}
use Rattle.numbers.proofs.Slices.{rest_lent}
use Rattle.blocks.specs.declared.BlockNumber.{BlockNumber}
use Rattle.blocks.specs.Map.{free, held_by, claimed, released, nth_number, nth_from, found_at}
use Rattle.blocks.proofs.Counts.{claim_none, place_here, place_later, place_not, place_owner, place_skip}

-- a pass over a list at i: v is stored there
pub stored_at : (g : List ℕ → List ℕ) (p : List ℕ) (i v : ℕ) → i < length p
    → take (i + 1) (set p i v) ++ g (drop (i + 1) (set p i v)) ≡ take i p ++ (v ∷ g (drop (suc i) p))
stored_at g p i v h =
    let e : i < suc i = omega arith in
    rw (add-one, take-suc-set, drop-set-lt (suc i) p i v e, append_snoc)

-- claiming: nothing left to claim, the end
module _ (owner n : ℕ) (p : List ℕ) (i : ℕ) where
  pub claim_done : n ≡ 0 → take i p ++ claimed owner n (drop i p) ≡ p
  claim_done e = rw (e, claim_none owner (drop i p)) (take-append-drop i p)

  pub claim_end : length p ≤ i → take i p ++ claimed owner n (drop i p) ≡ p
  unfolding claimed
  claim_end h = rw (drop_of_length-le, take_all, append-nil)

-- releasing: an entry, and the end
module _ (low high : ℕ) (p : List ℕ) (i : ℕ) where
  pub release_turn : {v : ℕ} → i < length p → v ≡ pick (leb low (get_or p i 0) && leb (get_or p i 0) high) free (get_or p i 0)
      → take (i + 1) (set p i v) ++ released low high (drop (i + 1) (set p i v)) ≡ take i p ++ released low high (drop i p)
  unfolding released
  release_turn {v} h e = stored_at (released low high) p i v h ∙ rw (drop-cons p i 0 h, e)

  pub release_end : length p ≤ i → take i p ++ released low high (drop i p) ≡ p
  unfolding released
  release_end h = rw (drop_of_length-le, take_all, append-nil)

-- counting: an entry, and the end
module _ (owner : ℕ) (map : List ℕ) (i : ℕ) where
  pub count_turn : {v : ℕ} → i < length map → v ≡ pick (eqb (get_or map i 0) owner) 1 0 → v + held_by owner (drop (i + 1) map) ≡ held_by owner (drop i map)
  unfolding held_by
  count_turn h e = rw (add-one, drop-cons map i 0, e)

  pub count_end : length map ≤ i → held_by owner (drop i map) ≡ 0
  unfolding held_by
  count_end h = rw drop_of_length-le

pub held_pieces : (owner : ℕ) (a b : List ℕ) → held_by owner (a ++ b) ≡ held_by owner a + held_by owner b
unfolding held_by
held_pieces owner [] b = omega arith
held_pieces owner (o ∷ a) b = omega (arith, held_pieces owner a b)

-- a group of n entries from i on: counted, or passed where the block that is looked for is not among them
module _ (owner : ℕ) (map : List ℕ) (i n : ℕ) {r : ℕ} (e : r ≡ held_by owner (take n (drop i map))) where
  pub group_turn : r + held_by owner (drop (i + n) map) ≡ held_by owner (drop i map)
  group_turn =
      ap (λ (k : ℕ). k + held_by owner (drop (i + n) map)) e
      ∙ ap (λ (t : List ℕ). held_by owner (take n (drop i map)) + held_by owner t) (sym (drop-drop n i map))
      ∙ sym (held_pieces owner (take n (drop i map)) (drop n (drop i map))) ∙ ap (held_by owner) (take-append-drop n (drop i map))

  pub group_pass : (left : ℕ) → i + n ≤ length map → r ≤ left → nth_number owner left (drop i map) ≡ n + nth_number owner (left - r) (drop (i + n) map)
  group_pass left h g =
      let inside : n ≤ length (drop i map) = omega (arith, length-drop i map) in
      let few : held_by owner (take n (drop i map)) ≤ left = omega (arith, e) in
      rw (e, ← drop-drop n i map) (place_skip owner left n (drop i map) inside few)

-- the i-th group of those that a list is cut into
chunk_at : (n k i : ℕ) (xs d : List ℕ) → i < k → get_or (first_chunks n k xs) i d ≡ take n (drop (i * n) xs)
chunk_at n zero i xs d h = absurd (omega arith)
chunk_at n (suc k) zero xs d h = let z : zero * n ≡ 0 = omega arith in rw z
chunk_at n (suc k) (suc i) xs d h =
    let m : n + i * n ≡ suc i * n = omega arith in
    chunk_at n k i (drop n xs) d (omega arith) ∙ rw (drop-drop (i * n) n xs, m)

chunks_many : (n k : ℕ) (xs : List ℕ) → length (first_chunks n k xs) ≡ k
chunks_many n zero xs = refl
chunks_many n (suc k) xs = ap suc (chunks_many n k (drop n xs))

group_at : (map d : List ℕ) (n i k : ℕ) {groups : List (List ℕ)} → groups ≡ first_chunks n k map → i < length groups → get_or groups i d ≡ take n (drop (i * n) map)
group_at map d n i k {groups} e h =
    let l : length groups ≡ k = ap length e ∙ chunks_many n k map in
    ap (λ (gs : List (List ℕ)). get_or gs i d) e ∙ chunk_at n k i map d (omega arith)

group_inside : (n i L : ℕ) → 0 < n → i < L / n → i * n + n ≤ L
group_inside n i L h g =
    let more : (i + 1) * n ≤ L / n * n = mul-le-mul_right n (omega arith) in
    omega (arith, div-mul-le_self L n)

pub held_group : (owner : ℕ) (map : List ℕ) (n i k : ℕ) {r : ℕ} {groups : List (List ℕ)} → groups ≡ first_chunks n k map → i < length groups
    → r ≡ held_by owner (get_or groups i []) → r + held_by owner (drop ((i + 1) * n) map) ≡ held_by owner (drop (i * n) map)
held_group owner map n i k e h f =
    let m : i * n + n ≡ (i + 1) * n = omega arith in
    rw m at (group_turn owner map (i * n) n (f ∙ ap (held_by owner) (group_at map [] n i k e h)))

-- the i-th group of those behind a block, which is passed
pub pass_group : (owner : ℕ) (map : List ℕ) (first n i left from : ℕ) {r : ℕ} {groups : List (List ℕ)} (item : List ℕ)
    → groups ≡ first_chunks n (length (take (length map - first) (drop first map)) / n) (take (length map - first) (drop first map))
    → 0 < n → first ≤ length map → i < length groups → item ≡ get_or groups i item → r ≡ held_by owner item → r ≤ left → from ≡ first + i * n
    → (from + n ≡ first + (i + 1) * n) × (nth_from owner (from + n) (left - r) map ≡ nth_from owner from left map)
pass_group owner map first n i left from {r} {groups} item e z f h g c q at =
    let behind : List ℕ = drop first map in
    let e' : groups ≡ first_chunks n (length behind / n) behind = rw (rest_lent map first) at e in
    let many : length groups ≡ length behind / n = ap length e' ∙ chunks_many n (length behind / n) behind in
    let inside : i * n + n ≤ length behind = group_inside n i (length behind) z (omega arith) in
    let here : item ≡ take n (drop from map) = g ∙ group_at behind item n i (length behind / n) e' h ∙ rw (drop-drop (i * n) first map, at) in
    (omega arith, omega (arith, group_pass owner map from n (c ∙ ap (held_by owner) here) left (omega (arith, length-drop first map)) q))

-- in the part of the map from a block on: its length, and an entry
pub part_length : (map : List ℕ) (from : ℕ) → length (take (length map - from) (drop from map)) ≡ length map - from
part_length map from = rw (rest_lent map from) (length-drop from map)

pub entry_is : (map : List ℕ) (from i : ℕ) {at : ℕ} → at ≡ from + i → get_or (take (length map - from) (drop from map)) i 0 ≡ get_or map at 0
entry_is map from i p = rw (rest_lent map from, p) (get_or-drop from map i 0)

-- a block that was looked for and found, and one that was not
pub found_in : (k : ℕ) (map : List ℕ) {b : BlockNumber} {r : Option BlockNumber} → r ≡ found_at k map → r ≡ Some b → (b.0 ≡ k) × (b.0 < length map)
unfolding found_at
found_in k map {b} {r} e f =
    split (ltb k (length map))
    (λ t. let s : Some (record { 0 = k }) ≡ Some b = rw t at (sym e ∙ f) in let e : b.0 ≡ k = cc in (e, rw e (ltb-true k (length map) t)))
    (λ t. let s : None ≡ Some b = rw t at (sym e ∙ f) in absurd (cc))

pub found_is : (k i : ℕ) (map : List ℕ) → i ≡ k → i < length map → Some (record { 0 = i }) ≡ found_at k map
unfolding found_at
found_is k i map e h = rw (e, lt-ltb k (length map) (omega arith))

pub found_past : (k : ℕ) (map : List ℕ) → length map ≤ k → None ≡ found_at k map
unfolding found_at
found_past k map h = rw (le-ltb k (length map) h)

pub found_none : (k : ℕ) (map : List ℕ) {r : Option BlockNumber} → r ≡ found_at k map → r ≡ None → length map ≤ k
unfolding found_at
found_none k map {r} e f =
    split (ltb k (length map))
    (λ t. let s : Some (record { 0 = k }) ≡ None = rw t at (sym e ∙ f) in absurd (cc))
    (λ t. ltb-false k (length map) t)

-- finding: the block itself, another of the owner's before it, one of another, the end
module _ (owner n : ℕ) (map : List ℕ) (i : ℕ) where
  pub find_here : i < length map → get_or map i 0 ≡ owner → n ≡ 0 → nth_number owner n (drop i map) ≡ 0
  find_here h e z = rw (drop-cons map i 0 h) (place_here owner n (get_or map i 0) (drop (suc i) map) e z)

  pub find_later : i < length map → get_or map i 0 ≡ owner → n ≢ 0 → nth_number owner n (drop i map) ≡ suc (nth_number owner (n - 1) (drop (i + 1) map))
  find_later h e z = rw (drop-cons map i 0 h, add-one i) (place_later owner n (get_or map i 0) (drop (suc i) map) e z)

  pub find_not : i < length map → get_or map i 0 ≢ owner → nth_number owner n (drop i map) ≡ suc (nth_number owner n (drop (i + 1) map))
  find_not h e = rw (drop-cons map i 0 h, add-one i) (place_not owner n (get_or map i 0) (drop (suc i) map) e)

  pub find_end : length map ≤ i → nth_number owner n (drop i map) ≡ 0
  unfolding nth_number
  find_end h = rw drop_of_length-le

-- the owner's next block from b on, and the map behind it
pub next_block : (owner : ℕ) (map : List ℕ) (b k : ℕ) → k ≡ b + nth_number owner 0 (drop b map) → k < length map → drop k map ≡ owner ∷ drop (k + 1) map
next_block owner map b k is below =
    let j : ℕ = nth_number owner 0 (drop b map) in
    let mine : get_or map k 0 ≡ owner = rw is (sym (get_or-drop b map j 0) ∙ place_owner owner 0 (drop b map) (omega (arith, length-drop b map))) in
    rw (drop-cons map k 0 below, mine, add-one k)
