-- The laws of the block map, for any map: how many blocks each owner has after a claim and after a release, and which.
-- By induction along the map. Assumes nothing.
use Prim.Native.Nat.{ℕ, zero, suc, ◌+◌, ◌-◌, ◌≤◌, ◌<◌, min}
use mathlib.Core.Path.{◌≡◌, refl, ap, sym, ◌∙◌}
use mathlib.Core.Logic.{◌≢◌}
use mathlib.Core.Bool.{◌&&◌}
use mathlib.Core.List.{List, [], ◌∷◌}
use native.Mathlib.Omega.{arith}
use lib.Dec.{eqb, ltb, leb}
use lib.ListN.{length, take, drop, get_or}
use lib.Seq.{take-nil}
use borrow.Author.Tests.{eqb-true, eqb-false, eq-eqb, ne_eqb, ltb-true, ltb-false, leb-true, leb-false, lt-ltb}
use Rattle.numbers.specs.Bytes.{pick}
use Rattle.numbers.proofs.Choices.{split, same_or_not}
use Rattle.blocks.specs.Map.{free, needed_for, held_by, held_by_all, free_in, claimed, released, numbers_from, block_numbers, nth_number, Below, Outside}

-- ---- worked cases, by computation: before the laws, so that a changed definition is told by its values

-- "Total 256 needs 1 block, 257 needs 2, 65,536 needs 256"; total 600 needs 3; none needs none
needs : needed_for 0 ∷ needed_for 1 ∷ needed_for 256 ∷ needed_for 257 ∷ needed_for 600 ∷ needed_for 65536 ∷ [] ≡ 0 ∷ 1 ∷ 1 ∷ 2 ∷ 3 ∷ 256 ∷ []
unfolding needed_for
needs = refl

-- two of three free blocks, and more than there are; the owners 3 and 4 released
claims : claimed 5 2 (0 ∷ 3 ∷ 0 ∷ 4 ∷ 0 ∷ []) ∷ claimed 5 9 (0 ∷ 3 ∷ 0 ∷ 4 ∷ 0 ∷ []) ∷ released 3 4 (5 ∷ 3 ∷ 5 ∷ 4 ∷ 0 ∷ []) ∷ []
    ≡ (5 ∷ 3 ∷ 5 ∷ 4 ∷ 0 ∷ []) ∷ (5 ∷ 3 ∷ 5 ∷ 4 ∷ 5 ∷ []) ∷ (5 ∷ 0 ∷ 5 ∷ 0 ∷ 0 ∷ []) ∷ []
unfolding claimed released held_by
claims = refl

places : block_numbers 5 (5 ∷ 3 ∷ 5 ∷ 4 ∷ 5 ∷ []) ∷ (held_by 5 (5 ∷ 3 ∷ 5 ∷ []) ∷ nth_number 5 1 (5 ∷ 3 ∷ 5 ∷ []) ∷ nth_number 5 2 (5 ∷ 3 ∷ 5 ∷ []) ∷ []) ∷ []
    ≡ (0 ∷ 2 ∷ 4 ∷ []) ∷ (2 ∷ 2 ∷ 3 ∷ []) ∷ []
unfolding numbers_from held_by nth_number
places = refl

-- ---- the count of one entry

-- one entry more
pub held_mine : (owner o : ℕ) (map : List ℕ) → o ≡ owner → held_by owner (o ∷ map) ≡ suc (held_by owner map)
unfolding held_by
held_mine owner o map e = rw (eq-eqb o owner e) (omega arith)

pub held_not : (owner o : ℕ) (map : List ℕ) → o ≢ owner → held_by owner (o ∷ map) ≡ held_by owner map
unfolding held_by
held_not owner o map h = rw (ne_eqb o owner h) (omega arith)

-- at most all of them
pub held_most : (owner : ℕ) (map : List ℕ) → held_by owner map ≤ length map
unfolding held_by
held_most owner [] = omega arith
held_most owner (o ∷ map) = split (eqb o owner) (λ e. rw e (omega (arith, held_most owner map))) (λ e. rw e (omega (arith, held_most owner map)))

-- ---- claiming

-- an entry that is taken, and one that is not free
pub claim_taken : (owner n o : ℕ) (map : List ℕ) → o ≡ free → 0 < n → claimed owner n (o ∷ map) ≡ owner ∷ claimed owner (n - 1) map
unfolding claimed
claim_taken owner n o map e h = rw (eq-eqb o free e, lt-ltb 0 n h)

pub claim_held : (owner n o : ℕ) (map : List ℕ) → o ≢ free → claimed owner n (o ∷ map) ≡ o ∷ claimed owner n map
unfolding claimed
claim_held owner n o map h = rw (ne_eqb o free h)

-- the cases of an entry: it is taken, or it stays, since it is not free or nothing is left to claim
pub claim_cases : {X : Type 0} (owner n o : ℕ) (map : List ℕ) → (o ≡ free → 0 < n → claimed owner n (o ∷ map) ≡ owner ∷ claimed owner (n - 1) map → X)
    → (min n (pick (eqb o free) 1 0) ≡ 0 → claimed owner n (o ∷ map) ≡ o ∷ claimed owner n map → X) → X
unfolding claimed
claim_cases owner n o map f g =
    split (eqb o free)
    (λ e. split (ltb 0 n) (λ t. f (eqb-true o free e) (ltb-true 0 n t) (rw (e, t))) (λ t. g (rw e (omega (arith, ltb-false 0 n t))) (rw (e, t))))
    (λ e. g (rw e (omega arith)) (rw e))

-- nothing is claimed
pub claim_none : (owner : ℕ) (map : List ℕ) → claimed owner 0 map ≡ map
unfolding claimed
claim_none owner [] = refl
claim_none owner (o ∷ map) = claim_cases owner 0 o map (λ e g q. absurd (omega arith)) (λ m q. q ∙ ap (λ (t : List ℕ). o ∷ t) (claim_none owner map))

pub claim_length : (owner n : ℕ) (map : List ℕ) → length (claimed owner n map) ≡ length map
unfolding claimed
claim_length owner n [] = refl
claim_length owner n (o ∷ map) =
    split (eqb o free && ltb 0 n) (λ e. rw e (ap suc (claim_length owner (n - 1) map))) (λ e. rw e (ap suc (claim_length owner n map)))

-- the owner has n blocks more, or as many as were free
pub claim_gives : (owner n : ℕ) (map : List ℕ) → owner ≢ free → held_by owner (claimed owner n map) ≡ held_by owner map + min n (free_in map)
unfolding held_by claimed
claim_gives owner n [] h = omega arith
claim_gives owner n (o ∷ map) h =
    claim_cases owner n o map
    (λ e g q.
    ap (held_by owner) q ∙ held_mine owner owner (claimed owner (n - 1) map) refl
    ∙ omega (arith, claim_gives owner (n - 1) map h, held_not owner o map (λ w. h (sym w ∙ e)), held_mine free o map e))
    (λ m q. ap (held_by owner) q ∙ omega (arith, claim_gives owner n map h))

-- so many fewer are free
pub claim_lowers : (owner n : ℕ) (map : List ℕ) → owner ≢ free → free_in (claimed owner n map) ≡ free_in map - n
unfolding held_by claimed
claim_lowers owner n [] h = omega arith
claim_lowers owner n (o ∷ map) h =
    claim_cases owner n o map
    (λ e g q. ap (held_by free) q ∙ held_not free owner (claimed owner (n - 1) map) h ∙ omega (arith, claim_lowers owner (n - 1) map h, held_mine free o map e))
    (λ m q. ap (held_by free) q ∙ omega (arith, claim_lowers owner n map h))

-- every other owner has as many as before
pub claim_leaves : (other owner n : ℕ) (map : List ℕ) → other ≢ owner → other ≢ free → held_by other (claimed owner n map) ≡ held_by other map
unfolding held_by claimed
claim_leaves other owner n [] d z = refl
claim_leaves other owner n (o ∷ map) d z =
    claim_cases owner n o map
    (λ e g q.
    ap (held_by other) q ∙ held_not other owner (claimed owner (n - 1) map) (λ w. d (sym w))
    ∙ claim_leaves other owner (n - 1) map d z ∙ sym (held_not other o map (λ w. z (sym w ∙ e))))
    (λ m q. ap (held_by other) q ∙ omega (arith, claim_leaves other owner n map d z))

-- ---- releasing

-- the cases of an entry: it is freed, or it stays
pub release_cases : {X : Type 0} (low high o : ℕ) (map : List ℕ) → (low ≤ o → o ≤ high → released low high (o ∷ map) ≡ free ∷ released low high map → X)
    → (Outside low high o → released low high (o ∷ map) ≡ o ∷ released low high map → X) → X
unfolding released
release_cases low high o map f g =
    split (leb low o)
    (λ e. split (leb o high) (λ t. f (leb-true low o e) (leb-true o high t) (rw (e, t))) (λ t. g (λ a b. omega (arith, leb-false o high t)) (rw (e, t))))
    (λ e. g (λ a b. omega (arith, leb-false low o e)) (rw e))

pub release_length : (low high : ℕ) (map : List ℕ) → length (released low high map) ≡ length map
unfolding released
release_length low high [] = refl
release_length low high (o ∷ map) = ap suc (release_length low high map)

-- the owners of the range have none
pub release_takes : (low high owner : ℕ) (map : List ℕ) → owner ≢ free → low ≤ owner → owner ≤ high → held_by owner (released low high map) ≡ 0
unfolding held_by released
release_takes low high owner [] h a b = refl
release_takes low high owner (o ∷ map) h a b =
    let ih = release_takes low high owner map h a b in
    release_cases low high o map
    (λ p r q. ap (held_by owner) q ∙ held_not owner free (released low high map) (λ w. h (sym w)) ∙ ih)
    (λ d q. ap (held_by owner) q ∙ held_not owner o (released low high map) (λ w. d (omega arith) (omega arith)) ∙ ih)

-- every other owner has as many as before
pub release_leaves : (low high other : ℕ) (map : List ℕ) → other ≢ free → Outside low high other → held_by other (released low high map) ≡ held_by other map
unfolding held_by released
release_leaves low high other [] h d = refl
release_leaves low high other (o ∷ map) h d =
    let ih = release_leaves low high other map h d in
    release_cases low high o map
    (λ p r q. ap (held_by other) q ∙ held_not other free (released low high map) (λ w. h (sym w)) ∙ ih ∙ sym (held_not other o map (λ w. d (rw w at p) (rw w at r))))
    (λ n q. ap (held_by other) q ∙ omega (arith, ih))

-- how many of the owners from `first` on hold a block: one entry more
all_miss : (first n o : ℕ) (map : List ℕ) → (first ≤ o → o < first + n → ⊥) → held_by_all first n (o ∷ map) ≡ held_by_all first n map
unfolding held_by_all
all_miss first zero o map h = refl
all_miss first (suc n) o map h =
    omega (arith, held_not first o map (λ e. h (omega arith) (omega arith)), all_miss (suc first) n o map (λ a b. h (omega arith) (omega arith)))

all_hit : (first n o : ℕ) (map : List ℕ) → first ≤ o → o < first + n → held_by_all first n (o ∷ map) ≡ suc (held_by_all first n map)
unfolding held_by_all
all_hit first zero o map a b = absurd (omega arith)
all_hit first (suc n) o map a b =
    split (eqb o first)
    (λ t. omega (arith, held_mine first o map (eqb-true o first t), all_miss (suc first) n o map (λ p q. omega (arith, eqb-true o first t))))
    (λ t. omega (arith, held_not first o map (eqb-false o first t), all_hit (suc first) n o map (omega (arith, eqb-false o first t)) (omega arith)))

pub all_none : (first n : ℕ) → held_by_all first n [] ≡ 0
unfolding held_by_all held_by
all_none first zero = refl
all_none first (suc n) = omega (arith, all_none (suc first) n)

-- the blocks of the owners from low to high are free as well
pub release_raises : (low high : ℕ) (map : List ℕ) → free < low → free_in (released low high map) ≡ free_in map + held_by_all low (suc high - low) map
unfolding held_by released
release_raises low high [] h = omega (arith, all_none low (suc high - low))
release_raises low high (o ∷ map) h =
    let ih = release_raises low high map h in
    release_cases low high o map
    (λ p r q.
    ap (held_by free) q ∙ held_mine free free (released low high map) refl
    ∙ omega (arith, ih, held_not free o map (omega arith), all_hit low (suc high - low) o map p (omega arith)))
    (λ d q. ap (held_by free) q ∙ omega (arith, ih, all_miss low (suc high - low) o map (λ a b. d a (omega arith))))

-- one owner's blocks
pub release_one : (owner : ℕ) (map : List ℕ) → owner ≢ free → free_in (released owner owner map) ≡ free_in map + held_by owner map
unfolding held_by_all
release_one owner map h =
    let e : suc owner - owner ≡ 1 = omega arith in
    release_raises owner owner map (omega arith) ∙ rw e (omega arith)

-- ---- all owners together

-- the blocks of all owners below a bound, the free ones among them, are all blocks
pub counts_below : (bound : ℕ) (map : List ℕ) → Below bound map → held_by_all 0 bound map ≡ length map
counts_below bound [] h = all_none 0 bound
counts_below bound (o ∷ map) h = all_hit 0 bound o map (omega arith) (omega arith) ∙ ap suc (counts_below bound map h.1)

-- ---- block numbers

pub numbers_mine : (b owner o : ℕ) (map : List ℕ) → o ≡ owner → numbers_from b owner (o ∷ map) ≡ b ∷ numbers_from (suc b) owner map
unfolding numbers_from
numbers_mine b owner o map e = rw (eq-eqb o owner e)

pub numbers_not : (b owner o : ℕ) (map : List ℕ) → o ≢ owner → numbers_from b owner (o ∷ map) ≡ numbers_from (suc b) owner map
unfolding numbers_from
numbers_not b owner o map h = rw (ne_eqb o owner h)

-- a new owner's blocks are the lowest n of the free ones
pub claim_lowest : (b owner n : ℕ) (map : List ℕ) → owner ≢ free → held_by owner map ≡ 0 → numbers_from b owner (claimed owner n map) ≡ take n (numbers_from b free map)
unfolding numbers_from claimed
claim_lowest b owner n [] h z = sym (take-nil n)
claim_lowest b owner n (o ∷ map) h z =
    let left : o ≢ owner → held_by owner map ≡ 0 = λ d. sym (held_not owner o map d) ∙ z in
    claim_cases owner n o map
    (λ e g q.
    let m : suc (n - 1) ≡ n = omega arith in
    ap (numbers_from b owner) q ∙ numbers_mine b owner owner (claimed owner (n - 1) map) refl
    ∙ ap (λ (t : List ℕ). b ∷ t) (claim_lowest (suc b) owner (n - 1) map h (left (λ w. h (sym w ∙ e))))
    ∙ ap (λ (k : ℕ). take k (b ∷ numbers_from (suc b) free map)) m ∙ ap (take n) (sym (numbers_mine b free o map e)))
    (λ m q.
    let other : o ≢ owner = λ w. omega (arith, held_mine owner o map w) in
    ap (numbers_from b owner) q ∙ numbers_not b owner o (claimed owner n map) other ∙ claim_lowest (suc b) owner n map h (left other)
    ∙ same_or_not o free
    (λ e. let none : n ≡ 0 = omega (arith, rw (eq-eqb o free e) at m) in rw none)
    (λ e. ap (take n) (sym (numbers_not b free o map e))))

-- ---- the place of an owner's block

pub place_here : (owner n o : ℕ) (map : List ℕ) → o ≡ owner → n ≡ 0 → nth_number owner n (o ∷ map) ≡ 0
unfolding nth_number
place_here owner n o map e z = rw (eq-eqb o owner e, eq-eqb n 0 z)

pub place_later : (owner n o : ℕ) (map : List ℕ) → o ≡ owner → n ≢ 0 → nth_number owner n (o ∷ map) ≡ suc (nth_number owner (n - 1) map)
unfolding nth_number
place_later owner n o map e z = rw (eq-eqb o owner e, ne_eqb n 0 z)

pub place_not : (owner n o : ℕ) (map : List ℕ) → o ≢ owner → nth_number owner n (o ∷ map) ≡ suc (nth_number owner n map)
unfolding nth_number
place_not owner n o map h = rw (ne_eqb o owner h)

pub place_cases : {X : Type 0} (owner n o : ℕ) → (o ≡ owner → n ≡ 0 → X) → (o ≡ owner → n ≢ 0 → X) → (o ≢ owner → X) → X
place_cases owner n o f g h =
    split (eqb o owner)
    (λ e. split (eqb n 0) (λ t. f (eqb-true o owner e) (eqb-true n 0 t)) (λ t. g (eqb-true o owner e) (eqb-false n 0 t)))
    (λ e. h (eqb-false o owner e))

-- inside the map, or its end
pub place_most : (owner n : ℕ) (map : List ℕ) → nth_number owner n map ≤ length map
unfolding nth_number
place_most owner n [] = omega arith
place_most owner n (o ∷ map) =
    place_cases owner n o
    (λ e z. omega (arith, place_here owner n o map e z))
    (λ e z. omega (arith, place_later owner n o map e z, place_most owner (n - 1) map))
    (λ e. omega (arith, place_not owner n o map e, place_most owner n map))

-- the block there is the owner's
pub place_owner : (owner n : ℕ) (map : List ℕ) → nth_number owner n map < length map → get_or map (nth_number owner n map) 0 ≡ owner
unfolding nth_number
place_owner owner n [] h = absurd (omega arith)
place_owner owner n (o ∷ map) h =
    place_cases owner n o
    (λ e z. ap (λ (k : ℕ). get_or (o ∷ map) k 0) (place_here owner n o map e z) ∙ e)
    (λ e z. let p = place_later owner n o map e z in ap (λ (k : ℕ). get_or (o ∷ map) k 0) p ∙ place_owner owner (n - 1) map (omega arith))
    (λ e. let p = place_not owner n o map e in ap (λ (k : ℕ). get_or (o ∷ map) k 0) p ∙ place_owner owner n map (omega arith))

-- the first c entries hold too few
pub place_skip : (owner n c : ℕ) (map : List ℕ) → c ≤ length map → held_by owner (take c map) ≤ n
    → nth_number owner n map ≡ c + nth_number owner (n - held_by owner (take c map)) (drop c map)
unfolding held_by
place_skip owner n zero map h g =
    let e : n - 0 ≡ n = omega arith in
    rw e (omega arith)
place_skip owner n (suc c) [] h g = absurd (omega arith)
place_skip owner n (suc c) (o ∷ map) h g =
    place_cases owner n o
    (λ e z. absurd (omega (arith, held_mine owner o (take c map) e)))
    (λ e z.
    let m = held_mine owner o (take c map) e in
    let k : n - held_by owner (o ∷ take c map) ≡ n - 1 - held_by owner (take c map) = omega arith in
    place_later owner n o map e z ∙ ap suc (place_skip owner (n - 1) c map (omega arith) (omega arith))
    ∙ rw (← k) (omega arith))
    (λ e.
    let m = held_not owner o (take c map) e in
    let k : n - held_by owner (o ∷ take c map) ≡ n - held_by owner (take c map) = omega arith in
    place_not owner n o map e ∙ ap suc (place_skip owner n c map (omega arith) (omega arith))
    ∙ rw (← k) (omega arith))
