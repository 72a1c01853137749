-- The loops of the search for free blocks (`claim`): what is taken, and what is looked at, while each of them goes on. By the laws of one entry and of what is
-- looked at. Assumes nothing.
use Prim.Native.Nat.{ℕ, suc, ◌+◌, ◌-◌, ◌<◌, ◌≤◌}
use mathlib.Core.Path.{◌≡◌, refl, ap, sym, ◌∙◌}
use mathlib.Core.Logic.{◌≢◌}
use mathlib.Core.Bool.{Bool, true, false}
use mathlib.Core.List.{List, ◌∷◌, ◌++◌, append_assoc}
use native.Mathlib.Numerals.{add-one}
use native.Mathlib.Omega.{arith}
use lib.Dec.{eqb}
use lib.ListN.{length, take, drop, get_or, set, drop_of_length-le, length-set, length-drop, length-append, take-append-drop}
use lib.Seq.{drop-cons, drop-set-lt, drop-drop, take-add, length-take-le, take_at, drop_at}
use borrow.Author.Tests.{eq-eqb, ne_eqb}
use borrow.Rule.Slice.PartMut.{put_mid, same_len_mid}
use Rattle.numbers.specs.Bytes.{pick}
use Rattle.numbers.proofs.Choices.{same_or_not}
use Rattle.blocks.specs.Map.{free, free_in, claimed, looked_for, nth_number}
use Rattle.blocks.proofs.Counts.{held_most, claim_taken, claim_held, claim_length}
use Rattle.blocks.proofs.Turns.{stored_at, count_turn, count_end, claim_done, claim_end}
use Rattle.blocks.proofs.Looks.{looked_none, looked_free, looked_held, looked_found, looked_part, looked_all}
use Rattle.blocks.proofs.Looks.{claim_found, claim_part, claim_full, none_found}

-- ---- every free one of some entries (`claim_all`)

-- an entry, without a test: what it becomes, and how many fewer are wanted
claim_entry : (owner n o : ℕ) (map : List ℕ) {one entry : ℕ} → 0 < n → one ≡ pick (eqb o free) 1 0 → entry ≡ pick (eqb o free) owner o
    → entry ∷ claimed owner (n - one) map ≡ claimed owner n (o ∷ map)
claim_entry owner n o map {one} {entry} some u v =
    same_or_not o free
    (λ e.
    let a : one ≡ 1 = rw (eq-eqb o free e) at u in
    let b : entry ≡ owner = rw (eq-eqb o free e) at v in
    rw (a, b) (sym (claim_taken owner n o map e some)))
    (λ d.
    let a : n - one ≡ n = omega (arith, rw (ne_eqb o free d) at u) in
    let b : entry ≡ o = rw (ne_eqb o free d) at v in
    rw (a, b) (sym (claim_held owner n o map d)))

pub bit_most : (b : Bool) {one : ℕ} → one ≡ pick b 1 0 → one ≤ 1
bit_most true e = omega arith
bit_most false e = omega arith

-- what holds at an entry: those passed and the claim on those left are the whole claim, and so are the counts. As many are wanted as there are entries, so
-- each free one is taken
pub record TakingAll (owner : ℕ) (start map : List ℕ) (count at : ℕ) : Type 0 where
  pub inside : at ≤ length map
  pub size : length map ≡ length start
  pub few : count ≤ at
  pub taken : take at map ++ claimed owner (length start - count) (drop at map) ≡ claimed owner (length start) start
  pub counted : count + free_in (drop at map) ≡ free_in start

pub taking_starts : (owner : ℕ) (start : List ℕ) → TakingAll owner start start 0 0
taking_starts owner start =
    let all : length start - 0 ≡ length start = omega arith in
    record { inside = omega arith; size = refl; few = omega arith; taken = rw all; counted = omega arith }

module _ {owner : ℕ} {start map : List ℕ} {count at : ℕ} (k : TakingAll owner start map count at) where
  pub taking_turn : {one entry : ℕ} → at < length map → one ≡ pick (eqb (get_or map at 0) free) 1 0
      → entry ≡ pick (eqb (get_or map at 0) free) owner (get_or map at 0)
      → TakingAll owner start (set map at entry) (count + one) (at + 1)
  taking_turn {one} {entry} h u v =
      let past : at < suc at = omega arith in
      let behind : drop (at + 1) (set map at entry) ≡ drop (at + 1) map = rw (add-one at) (drop-set-lt (suc at) map at entry past) in
      let wanted : ℕ = length start - count in
      let left : length start - (count + one) ≡ wanted - one = omega arith in
      record {
        inside = omega (arith, length-set map at entry);
        size = length-set map at entry ∙ k.size;
        few = omega (arith, k.few, bit_most (eqb (get_or map at 0) free) u);
        taken = rw left (stored_at (claimed owner (wanted - one)) map at entry h
            ∙ ap (λ (t : List ℕ). take at map ++ t) (claim_entry owner wanted (get_or map at 0) (drop (suc at) map) (omega (arith, k.few, k.size)) u v
            ∙ ap (claimed owner wanted) (sym (drop-cons map at 0 h)))
            ∙ k.taken);
        counted = rw behind (omega (arith, k.counted, count_turn free map at h u));
      }

  pub taking_ends : length map ≤ at → (count ≡ free_in start) × (map ≡ claimed owner (length start) start)
  taking_ends h = (omega (arith, k.counted, count_end free map at h), sym (claim_end owner _ map at h) ∙ k.taken)

-- ---- one free block after another (`seek`, `claim_singly`)

-- at a place of the map: a free entry, a held one, the end
module _ (map : List ℕ) (i : ℕ) where
  pub looked_here : i < length map → get_or map i 0 ≡ free → looked_for 1 (drop i map) ≡ 1
  looked_here h e =
      let behind : List ℕ = drop (suc i) map in
      rw (drop-cons map i 0 h) (omega (arith, looked_free 1 (get_or map i 0) behind e (omega arith), looked_none 0 behind refl))

  pub looked_past : i < length map → get_or map i 0 ≢ free → looked_for 1 (drop i map) ≡ 1 + looked_for 1 (drop (i + 1) map)
  looked_past h e = rw (drop-cons map i 0 h, add-one i) (looked_held 1 (get_or map i 0) (drop (suc i) map) e (omega arith))

  pub looked_end : (n : ℕ) → length map ≤ i → looked_for n (drop i map) ≡ 0
  unfolding looked_for
  looked_end n h = rw drop_of_length-le

-- what holds between two searches: the entries passed and the claim of what is still wanted on those left are the whole claim; what was looked at and what
-- will be are the whole count
pub record Claiming (owner : ℕ) (whole : List ℕ) (total : ℕ) (map : List ℕ) (wanted looked at : ℕ) : Type 0 where
  pub inside : at ≤ length map
  pub counted : looked ≤ at
  pub taken : take at map ++ claimed owner wanted (drop at map) ≡ whole
  pub seen : looked + looked_for wanted (drop at map) ≡ total

module _ {owner total : ℕ} {whole map : List ℕ} {wanted looked at : ℕ} (k : Claiming owner whole total map wanted looked at) where
  -- nothing is wanted any more
  pub claiming_done : wanted ≡ 0 → (looked ≡ total) × (map ≡ whole)
  claiming_done z = (omega (arith, k.seen, looked_none wanted (drop at map) z), sym (claim_done owner wanted map at z) ∙ k.taken)

  -- a search found a block, which is taken; the next one goes on behind it
  pub claiming_found : {more next place : ℕ} → place ≡ at + nth_number free 0 (drop at map) → more ≡ looked + looked_for 1 (drop at map)
      → place < length map → 0 < wanted → next ≡ place + 1 → Claiming owner whole total (set map place owner) (wanted - 1) more next
  claiming_found {more} {next} {place} p m h some n =
      let rest : List ℕ = drop at map in
      let j : ℕ = nth_number free 0 rest in
      let within : j < length rest = omega (arith, length-drop at map) in
      let one : looked_for 1 rest ≡ suc j = omega (arith, looked_found 1 rest (omega arith) within, looked_none (1 - 1) (drop (suc j) rest) refl) in
      let past : place < suc place = omega arith in
      let next_is : next ≡ suc place = omega arith in
      let sum : suc place ≡ at + suc j = omega arith in
      let behind : drop (suc place) map ≡ drop (suc j) rest = ap (λ (i : ℕ). drop i map) sum ∙ sym (drop-drop (suc j) at map) in
      let front : take place map ≡ take at map ++ take j rest = ap (λ (i : ℕ). take i map) p ∙ take-add at j map in
      record {
        inside = omega (arith, length-set map place owner);
        counted = omega (arith, k.counted);
        taken = rw n (stored_at (claimed owner (wanted - 1)) map place owner h ∙ rw (behind, front) (append_assoc (take at map) (take j rest) _
            ∙ ap (λ (t : List ℕ). take at map ++ t) (sym (claim_found wanted owner rest some within)) ∙ k.taken));
        seen = rw (next_is, drop-set-lt (suc place) map place owner past, behind) (omega (arith, k.seen, looked_found wanted rest some within));
      }

  -- a search found none
  pub claiming_lost : {more place : ℕ} → place ≡ at + nth_number free 0 (drop at map) → more ≡ looked + looked_for 1 (drop at map)
      → length map ≤ place → 0 < wanted → (more ≡ total) × (map ≡ whole)
  claiming_lost p m h some =
      let rest : List ℕ = drop at map in
      let full : free_in rest ≡ 0 = none_found rest (omega (arith, length-drop at map)) in
      let all : looked_for wanted rest ≡ length rest = looked_all wanted rest (omega arith) in
      let one : looked_for 1 rest ≡ length rest = looked_all 1 rest (omega arith) in
      let same : take at map ++ claimed owner wanted rest ≡ map = rw (claim_full owner wanted rest full) (take-append-drop at map) in
      (omega (arith, k.seen), sym same ∙ k.taken)

-- ---- some entries at once (`claim`)

-- the next n entries, which were lent as a part of the map and came back with every free one taken
module _ {owner total : ℕ} {whole map : List ℕ} {wanted looked at : ℕ} (k : Claiming owner whole total map wanted looked at)
    (n : ℕ) (h : at + n ≤ length map) {entries : List ℕ}
    (e : entries ≡ claimed owner (length (take (at + n - at) (drop at map))) (take (at + n - at) (drop at map))) where
  abbrev part : List ℕ
  part = take n (drop at map)

  abbrev behind : List ℕ
  behind = drop n (drop at map)

  lent : at + n - at ≡ n
  lent = omega arith

  part_length : length part ≡ n
  part_length = length-take-le n (drop at map) (omega (arith, length-drop at map))

  entries_are : entries ≡ claimed owner n part
  entries_are = e ∙ rw (lent, part_length)

  entries_length : length entries ≡ n
  entries_length = ap length entries_are ∙ claim_length owner n part ∙ part_length

  pub part_size : length (put_mid at (at + n - at) map entries) ≡ length map
  part_size = rw lent (same_len_mid at n map entries (entries_length ∙ sym part_length))

  -- the entries up to their end, and those behind
  put_back : put_mid at (at + n - at) map entries ≡ (take at map ++ entries) ++ behind
  put_back = rw lent (sym (append_assoc (take at map) entries behind))

  passed : length (take at map ++ entries) ≡ at + n
  passed = omega (arith, length-append (take at map) entries, length-take-le at map k.inside, entries_length)

  front : take (at + n) (put_mid at (at + n - at) map entries) ≡ take at map ++ entries
  front = ap (take (at + n)) put_back ∙ take_at (take at map ++ entries) behind (at + n) passed

  rest : drop (at + n) (put_mid at (at + n - at) map entries) ≡ behind
  rest = ap (drop (at + n)) put_back ∙ drop_at (take at map ++ entries) behind (at + n) passed

  -- no more than n of them were free
  pub part_some : {some : ℕ} → some ≡ free_in (take (at + n - at) (drop at map)) → some ≤ n
  part_some f = omega (arith, f ∙ ap (λ (i : ℕ). free_in (take i (drop at map))) lent, held_most free part, part_length)

  pub claiming_part : {some more next : ℕ} → n ≤ wanted → some ≡ free_in (take (at + n - at) (drop at map)) → more ≡ looked + n → next ≡ at + n
      → Claiming owner whole total (put_mid at (at + n - at) map entries) (wanted - some) more next
  claiming_part {some} enough f m x =
      let got : some ≡ free_in part = f ∙ rw lent in
      let within : n ≤ length (drop at map) = omega (arith, length-drop at map) in
      record {
        inside = omega (arith, part_size);
        counted = omega (arith, k.counted);
        taken = rw (x, front, rest, got) (append_assoc (take at map) entries _
            ∙ ap (λ (t : List ℕ). take at map ++ t) (rw entries_are (sym (claim_part owner n wanted n (drop at map) within (omega arith) enough)))
            ∙ k.taken);
        seen = rw (x, rest, got) (omega (arith, k.seen, looked_part wanted n (drop at map) within enough));
      }
