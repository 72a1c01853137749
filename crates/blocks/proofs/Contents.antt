-- The laws of the blocks' bytes, for any map and any pool: what an append, a claim, a release and a delivery do to each owner's bytes.
-- By induction along the map, a block at a time. Assumes nothing.
use Prim.Native.Nat.{ℕ, suc, ◌+◌, ◌-◌, ◌*◌, ◌≤◌}
use mathlib.Core.Path.{◌≡◌, refl, ap, ap₂, sym, ◌∙◌}
use mathlib.Core.Logic.{◌≢◌}
use mathlib.Core.List.{List, [], ◌∷◌, ◌++◌, append-nil}
use native.Mathlib.Omega.{arith}
use lib.Dec.{eqb}
use lib.ListN.{length, take, drop, length-append, length-take, length-drop, drop_of_length-le}
use lib.Seq.{take_all, take_at, drop_at, drop-drop, length-take-le}
use borrow.Author.Tests.{eq-eqb, ne_eqb}
use Rattle.numbers.specs.Bytes.{pick, laid}
use Rattle.numbers.proofs.Choices.{split, same_or_not}
use Rattle.blocks.specs.Map.{block_size, free, held_by, claimed, released, numbers_from, block_numbers, Outside}
use Rattle.blocks.specs.Pool.{block_bytes, over, appended, delivered, joined}
use Rattle.blocks.proofs.Over.{compare, over_length, over_append, over_adds, over_front}
use Rattle.blocks.proofs.Counts.{held_mine, held_not, claim_cases, release_cases, numbers_mine, numbers_not}

-- ---- worked cases, by computation; a pool of a few bytes is a first block cut short

-- behind one byte of a block of four; two of its bytes to the front of three
contents : appended 5 1 (8 ∷ 9 ∷ []) (5 ∷ []) (1 ∷ 2 ∷ 3 ∷ 4 ∷ []) ∷ appended 5 3 (8 ∷ 9 ∷ []) (5 ∷ []) (1 ∷ 2 ∷ 3 ∷ 4 ∷ [])
    ∷ appended 5 1 (8 ∷ 9 ∷ []) (6 ∷ []) (1 ∷ 2 ∷ 3 ∷ 4 ∷ []) ∷ delivered 5 2 (5 ∷ []) (1 ∷ 2 ∷ 3 ∷ 4 ∷ []) (7 ∷ 7 ∷ 7 ∷ []) ∷ []
    ≡ (1 ∷ 8 ∷ 9 ∷ 4 ∷ []) ∷ (1 ∷ 2 ∷ 3 ∷ 8 ∷ []) ∷ (1 ∷ 2 ∷ 3 ∷ 4 ∷ []) ∷ (1 ∷ 2 ∷ 7 ∷ []) ∷ []
unfolding block_bytes over appended delivered
contents = refl

-- ---- one block

pub bytes_mine : (owner o : ℕ) (map pool : List ℕ) → o ≡ owner → block_bytes owner (o ∷ map) pool ≡ take block_size pool ++ block_bytes owner map (drop block_size pool)
unfolding block_bytes
bytes_mine owner o map pool e = rw (eq-eqb o owner e)

pub bytes_not : (owner o : ℕ) (map pool : List ℕ) → o ≢ owner → block_bytes owner (o ∷ map) pool ≡ block_bytes owner map (drop block_size pool)
unfolding block_bytes
bytes_not owner o map pool h = rw (ne_eqb o owner h)

-- a pool of no bytes
pub bytes_none : (owner : ℕ) (map : List ℕ) → block_bytes owner map [] ≡ []
unfolding block_bytes
bytes_none owner [] = refl
bytes_none owner (o ∷ map) = split (eqb o owner) (λ e. rw e (bytes_none owner map)) (λ e. rw e (bytes_none owner map))

pub append_mine : (owner at o : ℕ) (s map pool : List ℕ) → o ≡ owner
    → appended owner at s (o ∷ map) pool ≡ over at s (take block_size pool) ++ appended owner (at - block_size) (drop (block_size - at) s) map (drop block_size pool)
unfolding appended
append_mine owner at o s map pool e = rw (eq-eqb o owner e)

pub append_not : (owner at o : ℕ) (s map pool : List ℕ) → o ≢ owner
    → appended owner at s (o ∷ map) pool ≡ take block_size pool ++ appended owner at s map (drop block_size pool)
unfolding appended
append_not owner at o s map pool h = rw (ne_eqb o owner h)

-- a block and what is behind it, in a pool whose pieces are as long as they were
pub nil_of : (l : List ℕ) → length l ≡ 0 → l ≡ []
nil_of [] e = refl
nil_of (x ∷ l) e = absurd (omega arith)

pub block_and_rest : (block rest pool : List ℕ) → length block ≡ length (take block_size pool) → length rest ≡ length (drop block_size pool)
    → (take block_size (block ++ rest) ≡ block) × (drop block_size (block ++ rest) ≡ rest)
block_and_rest block rest pool same left =
    compare block_size (length pool)
    (λ h. let full : length block ≡ block_size = same ∙ length-take-le block_size pool h in (take_at block rest block_size full, drop_at block rest block_size full))
    (λ h.
    let none : rest ≡ [] = nil_of rest (omega (arith, length-drop block_size pool)) in
    let short : length block ≤ block_size = omega (arith, length-take block_size pool) in
    rw (none, append-nil block) (take_all block_size block short, drop_of_length-le block {i = block_size} short))

-- ---- how long

-- where every block is there, an owner has so many bytes as blocks say
pub bytes_length : (owner : ℕ) (map pool : List ℕ) → block_size * length map ≤ length pool → length (block_bytes owner map pool) ≡ block_size * held_by owner map
unfolding block_bytes held_by
bytes_length owner [] pool h = refl
bytes_length owner (o ∷ map) pool h =
    let ih = bytes_length owner map (drop block_size pool) (omega (arith, length-drop block_size pool)) in
    let full = length-take-le block_size pool (omega arith) in
    same_or_not o owner
    (λ e. ap length (bytes_mine owner o map pool e) ∙ length-append (take block_size pool) _ ∙ omega (arith, held_mine owner o map e))
    (λ e. ap length (bytes_not owner o map pool e) ∙ omega (arith, held_not owner o map e))

-- an append, by its first block: what that is afterwards, and the append to the blocks behind it
by_block : {X : Type 0} (owner at o : ℕ) (s map pool : List ℕ)
    → ((block : List ℕ) (place : ℕ) (later : List ℕ) → appended owner at s (o ∷ map) pool ≡ block ++ appended owner place later map (drop block_size pool)
    → length block ≡ length (take block_size pool) → (o ≢ owner → block ≡ take block_size pool) → X) → X
by_block owner at o s map pool f =
    same_or_not o owner
    (λ e. f (over at s (take block_size pool)) (at - block_size) (drop (block_size - at) s) (append_mine owner at o s map pool e) (over_length at s (take block_size pool)) (λ d. absurd (d e)))
    (λ e. f (take block_size pool) at s (append_not owner at o s map pool e) refl (λ d. refl))

-- an append changes no length
pub append_length : (owner at : ℕ) (s map pool : List ℕ) → length (appended owner at s map pool) ≡ length pool
unfolding appended
append_length owner at s [] pool = refl
append_length owner at s (o ∷ map) pool =
    by_block owner at o s map pool λ block place later is same other.
    ap length is ∙ length-append block _
    ∙ omega (arith, append_length owner place later map (drop block_size pool), length-take block_size pool, length-drop block_size pool)

-- ---- appending

-- a block is whole, or nothing is behind it
whole_or_last : (owner at : ℕ) (s map pool : List ℕ)
    → over (at - block_size) (drop (block_size - at) s) (block_bytes owner map (drop block_size pool))
    ≡ over (at - length (take block_size pool)) (drop (length (take block_size pool) - at) s) (block_bytes owner map (drop block_size pool))
unfolding over
whole_or_last owner at s map pool =
    compare block_size (length pool)
    (λ h. let e : length (take block_size pool) ≡ block_size = length-take-le block_size pool h in rw e)
    (λ h.
    let short : length pool ≤ block_size = omega arith in
    let none : block_bytes owner map (drop block_size pool) ≡ [] = rw (drop_of_length-le pool {i = block_size} short) (bytes_none owner map) in
    rw none)

-- the owner's bytes with the payload put over them, and no others
pub append_bytes : (owner at : ℕ) (s map pool : List ℕ) → block_bytes owner map (appended owner at s map pool) ≡ over at s (block_bytes owner map pool)
unfolding block_bytes over
append_bytes owner at s [] pool = refl
append_bytes owner at s (o ∷ map) pool =
    same_or_not o owner
    (λ e.
    let block : List ℕ = over at s (take block_size pool) in
    let at₂ : ℕ = at - block_size in
    let s₂ : List ℕ = drop (block_size - at) s in
    let rest : List ℕ = appended owner at₂ s₂ map (drop block_size pool) in
    let old : List ℕ = block_bytes owner map (drop block_size pool) in
    let same = over_length at s (take block_size pool) in
    let left = append_length owner at₂ s₂ map (drop block_size pool) in
    ap (block_bytes owner (o ∷ map)) (append_mine owner at o s map pool e) ∙ bytes_mine owner o map (block ++ rest) e
    ∙ ap₂ (λ (a b : List ℕ). a ++ block_bytes owner map b) (block_and_rest block rest pool same left).0 (block_and_rest block rest pool same left).1
    ∙ ap (λ (t : List ℕ). block ++ t) (append_bytes owner at₂ s₂ map (drop block_size pool) ∙ whole_or_last owner at s map pool)
    ∙ sym (over_append at s (take block_size pool) old) ∙ ap (over at s) (sym (bytes_mine owner o map pool e)))
    (λ e.
    let rest : List ℕ = appended owner at s map (drop block_size pool) in
    let left = append_length owner at s map (drop block_size pool) in
    ap (block_bytes owner (o ∷ map)) (append_not owner at o s map pool e) ∙ bytes_not owner o map (take block_size pool ++ rest) e
    ∙ ap (block_bytes owner map) (block_and_rest (take block_size pool) rest pool refl left).1 ∙ append_bytes owner at s map (drop block_size pool)
    ∙ ap (over at s) (sym (bytes_not owner o map pool e)))

-- where the payload fits, it stands right behind the first `at` bytes
pub append_adds : (owner at : ℕ) (s map pool : List ℕ) → at + length s ≤ length (block_bytes owner map pool)
    → take (at + length s) (block_bytes owner map (appended owner at s map pool)) ≡ take at (block_bytes owner map pool) ++ s
append_adds owner at s map pool h = ap (take (at + length s)) (append_bytes owner at s map pool) ∙ over_adds at s (block_bytes owner map pool) h

-- the same where every block is there: the owner's blocks have room
pub append_fits : (owner at : ℕ) (s map pool : List ℕ) → block_size * length map ≤ length pool → at + length s ≤ block_size * held_by owner map
    → take (at + length s) (block_bytes owner map (appended owner at s map pool)) ≡ take at (block_bytes owner map pool) ++ s
append_fits owner at s map pool e h = append_adds owner at s map pool (omega (arith, bytes_length owner map pool e))

-- the bytes of every other owner stay, and those of the free blocks
pub append_others : (other owner at : ℕ) (s map pool : List ℕ) → other ≢ owner → block_bytes other map (appended owner at s map pool) ≡ block_bytes other map pool
unfolding block_bytes
append_others other owner at s [] pool d = refl
append_others other owner at s (o ∷ map) pool d =
    by_block owner at o s map pool λ block place later is same stays.
    let rest : List ℕ = appended owner place later map (drop block_size pool) in
    let left = append_length owner place later map (drop block_size pool) in
    let behind : block_bytes other map (drop block_size (block ++ rest)) ≡ block_bytes other map (drop block_size pool) =
    ap (block_bytes other map) (block_and_rest block rest pool same left).1 ∙ append_others other owner place later map (drop block_size pool) d in
    ap (block_bytes other (o ∷ map)) is
    ∙ same_or_not o other
    (λ e.
    let here : take block_size (block ++ rest) ≡ take block_size pool = (block_and_rest block rest pool same left).0 ∙ stays (λ w. d (sym e ∙ w)) in
    bytes_mine other o map (block ++ rest) e ∙ ap₂ (λ (a b : List ℕ). a ++ b) here behind ∙ sym (bytes_mine other o map pool e))
    (λ e. bytes_not other o map (block ++ rest) e ∙ behind ∙ sym (bytes_not other o map pool e))

-- ---- claiming and releasing: the pool is not touched

-- a claim leaves the bytes of every other owner
pub claim_bytes : (other owner n : ℕ) (map pool : List ℕ) → other ≢ owner → other ≢ free → block_bytes other (claimed owner n map) pool ≡ block_bytes other map pool
unfolding block_bytes claimed
claim_bytes other owner n [] pool d z = refl
claim_bytes other owner n (o ∷ map) pool d z =
    claim_cases owner n o map
    (λ e g q.
    ap (λ (m : List ℕ). block_bytes other m pool) q ∙ bytes_not other owner (claimed owner (n - 1) map) pool (λ w. d (sym w))
    ∙ claim_bytes other owner (n - 1) map (drop block_size pool) d z ∙ sym (bytes_not other o map pool (λ w. z (sym w ∙ e))))
    (λ m q.
    ap (λ (l : List ℕ). block_bytes other l pool) q
    ∙ ap (λ (b : List ℕ). pick (eqb o other) (take block_size pool ++ b) b) (claim_bytes other owner n map (drop block_size pool) d z))

-- a release leaves the bytes of every owner that is not released
pub release_bytes : (low high other : ℕ) (map pool : List ℕ) → other ≢ free → Outside low high other → block_bytes other (released low high map) pool ≡ block_bytes other map pool
unfolding block_bytes released
release_bytes low high other [] pool h d = refl
release_bytes low high other (o ∷ map) pool h d =
    let ih = release_bytes low high other map (drop block_size pool) h d in
    release_cases low high o map
    (λ p r q.
    ap (λ (m : List ℕ). block_bytes other m pool) q ∙ bytes_not other free (released low high map) pool (λ w. h (sym w)) ∙ ih
    ∙ sym (bytes_not other o map pool (λ w. d (rw w at p) (rw w at r))))
    (λ n q. ap (λ (m : List ℕ). block_bytes other m pool) q ∙ ap (λ (b : List ℕ). pick (eqb o other) (take block_size pool ++ b) b) ih)

-- ---- delivery

-- where out has room, it begins with the first `due` bytes, and the rest stays
pub deliver_laid : (owner due : ℕ) (map pool out : List ℕ) → due ≤ length out
    → delivered owner due map pool out ≡ laid (take due (block_bytes owner map pool)) out
unfolding delivered
deliver_laid owner due map pool out h = over_front (take due (block_bytes owner map pool)) out (omega (arith, length-take due (block_bytes owner map pool)))

-- where all that is due is there as well
pub deliver_first : (owner due : ℕ) (map pool out : List ℕ) → due ≤ length out → due ≤ length (block_bytes owner map pool)
    → take due (delivered owner due map pool out) ≡ take due (block_bytes owner map pool)
deliver_first owner due map pool out h g =
    ap (take due) (deliver_laid owner due map pool out h) ∙ take_at (take due (block_bytes owner map pool)) _ due (length-take-le due (block_bytes owner map pool) g)

pub deliver_rest : (owner due : ℕ) (map pool out : List ℕ) → due ≤ length out → due ≤ length (block_bytes owner map pool)
    → drop due (delivered owner due map pool out) ≡ drop due out
deliver_rest owner due map pool out h g =
    let full : length (take due (block_bytes owner map pool)) ≡ due = length-take-le due (block_bytes owner map pool) g in
    ap (drop due) (deliver_laid owner due map pool out h) ∙ drop_at (take due (block_bytes owner map pool)) _ due full ∙ ap (λ (n : ℕ). drop n out) full

-- ---- by index: block b starts at block_size * b

pub bytes_from : (b owner : ℕ) (map pool : List ℕ) → block_bytes owner map (drop (block_size * b) pool) ≡ joined pool (numbers_from b owner map)
unfolding block_bytes joined numbers_from
bytes_from b owner [] pool = refl
bytes_from b owner (o ∷ map) pool =
    let n : block_size * b + block_size ≡ block_size * suc b = omega arith in
    let d : drop block_size (drop (block_size * b) pool) ≡ drop (block_size * suc b) pool = drop-drop block_size (block_size * b) pool ∙ ap (λ (k : ℕ). drop k pool) n in
    let ih : block_bytes owner map (drop block_size (drop (block_size * b) pool)) ≡ joined pool (numbers_from (suc b) owner map) = rw d (bytes_from (suc b) owner map pool) in
    same_or_not o owner
    (λ e.
    bytes_mine owner o map (drop (block_size * b) pool) e ∙ ap (λ (t : List ℕ). take block_size (drop (block_size * b) pool) ++ t) ih
    ∙ ap (joined pool) (sym (numbers_mine b owner o map e)))
    (λ e. bytes_not owner o map (drop (block_size * b) pool) e ∙ ih ∙ ap (joined pool) (sym (numbers_not b owner o map e)))

pub bytes_by_number : (owner : ℕ) (map pool : List ℕ) → block_bytes owner map pool ≡ joined pool (block_numbers owner map)
bytes_by_number owner map pool = bytes_from 0 owner map pool
