-- The blocks of all owners: if each open message holds what it needs, and these blocks and the free ones are the whole map, no other owner has
-- any. So the one pass of the code over the rows and the definition's rules say the same. Assumes nothing.
use Prim.Native.Nat.{ℕ, zero, suc, ◌+◌, ◌*◌, ◌<◌, ◌≤◌}
use mathlib.Core.Path.{◌≡◌, refl, sym, ◌∙◌}
use mathlib.Core.Bool.{Bool, true, false, ◌&&◌, ◌||◌, not}
use mathlib.Core.List.{List, [], ◌∷◌}
use native.Mathlib.Omega.{arith}
use lib.Dec.{eqb, leb}
use lib.ListN.{length}
use borrow.Author.Tests.{eqb-true, eq-eqb, leb-true, le-leb}
use Rattle.numbers.specs.Bytes.{pick}
use Rattle.numbers.proofs.Choices.{and_yes, and_both, same_or_not}
use Rattle.link.proofs.Table.{owner_next}
use Rattle.blocks.specs.Map.{held_by, held_by_all, free_in}
use Rattle.blocks.proofs.Counts.{held_mine, held_not, all_none}
use Rattle.session.specs.declared.Reassembly.{Reassembly}
use Rattle.session.specs.declared.Row.{Row}
use Rattle.session.specs.Decide.{need_of, message_blocks, held_in, held_of, share_of}
use Rattle.link.specs.Pages.{FiveEach}
use Rattle.link.specs.declared.Link.{Link}
use Rattle.link.specs.declared.Grant.{Grant}
use Rattle.link.specs.State.{all_from, owner_of, shares_in, free_fits, blocks_fit, row_fits, rules_hold, settings_fit, grant_fits, guard_of}
use Rattle.link.proofs.TableRules.{helds_in, forty}
use Rattle.rules.specs.declared.Overview.{Overview}
use Rattle.rules.specs.Parts.{none_live, session_fits, ids_of, distinct_in, holds_need, open_fit, row_sound, of_session, held_sum, share_sum, Summed, Surveyed}
use Rattle.rules.proofs.Turns.{distinct_ids_lem}

-- ---- owners have no more blocks than there are

-- an entry of the map counts for one owner at most: for none of those above it
all_above : (first n o : ℕ) (map : List ℕ) → o < first → held_by_all first n (o ∷ map) ≡ held_by_all first n map
unfolding held_by_all
all_above first zero o map h = refl
all_above first (suc n) o map h = omega (arith, held_not first o map (λ e. omega arith), all_above (suc first) n o map (omega arith))

all_once : (first n o : ℕ) (map : List ℕ) → held_by_all first n (o ∷ map) ≤ suc (held_by_all first n map)
unfolding held_by_all
all_once first zero o map = omega arith
all_once first (suc n) o map =
    same_or_not o first
    (λ e. omega (arith, held_mine first o map e, all_above (suc first) n o map (omega arith)))
    (λ d. omega (arith, held_not first o map d, all_once (suc first) n o map))

all_most : (first n : ℕ) (map : List ℕ) → held_by_all first n map ≤ length map
all_most first n [] = omega (arith, all_none first n)
all_most first n (o ∷ map) = omega (arith, all_once first n o map, all_most first n map)

with_free : (map : List ℕ) → held_by_all 1 40 map + free_in map ≤ length map
unfolding held_by_all
with_free map = omega (arith, all_most 0 41 map)

-- ---- one message: whether it is open, what its owner has, what it needs

-- a test of two numbers that were found is the test of what they are
pub tested : (held owned need needed : ℕ) (said : Bool) → held ≡ owned → need ≡ needed → said ≡ eqb held need → said ≡ eqb owned needed
tested held owned need needed said e f same = rw (← e, ← f) same

most_of : (live : Bool) (held need : ℕ) → not live || eqb held need ≡ true → pick live need 0 ≤ held
most_of true held need e = omega (arith, eqb-true held need e)
most_of false held need e = omega arith

exact_of : (live : Bool) (held need : ℕ) → not live || eqb held need ≡ true → held ≤ pick live need 0 → eqb held (pick live need 0) ≡ true
exact_of true held need e h = e
exact_of false held need e h = eq-eqb held 0 (omega arith)

open_of : (live : Bool) (held need : ℕ) → eqb held (pick live need 0) ≡ true → not live || eqb held need ≡ true
open_of true held need e = e
open_of false held need e = refl

idle_of : (live : Bool) (held need : ℕ) → not live ≡ true → (not live || eqb held need ≡ true) × (pick live need 0 ≡ 0)
idle_of true held need e = (cc, cc)
idle_of false held need e = (refl, refl)

by_pick : {X : Type 0} (t a b : Bool) → pick t a b ≡ true → (t ≡ true → a ≡ true → X) → (t ≡ false → b ≡ true → X) → X
by_pick true a b e f g = f refl e
by_pick false a b e f g = g refl e

pub idle_held : (ms : List Reassembly) → none_live ms ≡ true → held_in ms ≡ 0
unfolding held_in message_blocks
idle_held [] e = refl
idle_held (m ∷ ms) e =
    let p = and_both (not m.live) (none_live ms) e in
    omega (arith, (idle_of m.live 0 (need_of m.total) p.0).1, idle_held ms p.1)

-- a free row takes nothing
free_none : (r : Row) → free_fits r ≡ true → (none_live r.messages ≡ true) × (r.guarantee ≡ 0)
unfolding free_fits
free_none r e =
    let p = and_both (eqb r.guarantee 0) (eqb r.cap 0 && none_live r.messages) e in
    ((and_both (eqb r.cap 0) (none_live r.messages) p.1).1, eqb-true r.guarantee 0 p.0)

next_row : (n : ℕ) → owner_of (suc n) 0 ≡ suc (suc (suc (suc (suc (owner_of n 0)))))
unfolding owner_of
next_row n = omega arith

first_owner : owner_of 0 0 ≡ 1
unfolding owner_of
first_owner = refl

module _ (map : List ℕ) where
  -- ---- a row's messages from a place on

  abbrev Open : ℕ → ℕ → List Reassembly → Bool
  Open i n ms = all_from n (λ (place : ℕ) (m : Reassembly). holds_need map (owner_of i place) m) ms

  abbrev Exact : ℕ → ℕ → List Reassembly → Bool
  Exact i n ms = all_from n (λ (place : ℕ) (m : Reassembly). eqb (held_by (owner_of i place) map) (pick m.live (need_of m.total) 0)) ms

  pub idle_open : (i n : ℕ) (ms : List Reassembly) → none_live ms ≡ true → Open i n ms ≡ true
  unfolding holds_need
  idle_open i n [] e = refl
  idle_open i n (m ∷ ms) e =
      let p = and_both (not m.live) (none_live ms) e in
      and_yes _ _ (idle_of m.live (held_by (owner_of i n) map) (need_of m.total) p.0).0 (idle_open i (suc n) ms p.1)

  exact_open : (i n : ℕ) (ms : List Reassembly) → Exact i n ms ≡ true → Open i n ms ≡ true
  unfolding holds_need
  exact_open i n [] e = refl
  exact_open i n (m ∷ ms) e =
      let p = and_both (eqb (held_by (owner_of i n) map) (pick m.live (need_of m.total) 0)) (Exact i (suc n) ms) e in
      and_yes _ _ (open_of m.live (held_by (owner_of i n) map) (need_of m.total) p.0) (exact_open i (suc n) ms p.1)

  -- their owners have at least what the open ones need
  less : (i n : ℕ) (ms : List Reassembly) → Open i n ms ≡ true → held_in ms ≤ held_by_all (owner_of i n) (length ms) map
  unfolding held_in message_blocks held_by_all holds_need
  less i n [] e = omega arith
  less i n (m ∷ ms) e =
      let p = and_both (holds_need map (owner_of i n) m) (Open i (suc n) ms) e in
      let here : pick m.live (need_of m.total) 0 ≤ held_by (owner_of i n) map = most_of m.live (held_by (owner_of i n) map) (need_of m.total) p.0 in
      let rest : held_in ms ≤ held_by_all (suc (owner_of i n)) (length ms) map = rw (owner_next i n) at (less i (suc n) ms p.1) in
      omega arith

  -- and if they have no more, each has exactly that
  exact : (i n : ℕ) (ms : List Reassembly) → Open i n ms ≡ true → held_by_all (owner_of i n) (length ms) map ≤ held_in ms → Exact i n ms ≡ true
  unfolding held_in message_blocks held_by_all holds_need
  exact i n [] e h = refl
  exact i n (m ∷ ms) e h =
      let p = and_both (holds_need map (owner_of i n) m) (Open i (suc n) ms) e in
      let here : pick m.live (need_of m.total) 0 ≤ held_by (owner_of i n) map = most_of m.live (held_by (owner_of i n) map) (need_of m.total) p.0 in
      let rest : held_in ms ≤ held_by_all (suc (owner_of i n)) (length ms) map = rw (owner_next i n) at (less i (suc n) ms p.1) in
      let left : held_by_all (owner_of i (suc n)) (length ms) map ≤ held_in ms = rw (owner_next i n) (omega arith) in
      and_yes _ _ (exact_of m.live (held_by (owner_of i n) map) (need_of m.total) p.0 (omega arith)) (exact i (suc n) ms p.1 left)

  module _ (major : ℕ) where
    -- ---- one row

    sound-open : (n : ℕ) (r : Row) → row_sound major map n r ≡ true → open_fit map n r.messages ≡ true
    unfolding row_sound
    sound-open n r e =
        by_pick (eqb r.id.0 0) (free_fits r) (open_fit map n r.messages && session_fits major r) e
        (λ t f. idle_open n 0 r.messages (free_none r f).0)
        (λ t f. (and_both (open_fit map n r.messages) (session_fits major r) f).0)

    sound-sums : (n : ℕ) (r : Row) → row_sound major map n r ≡ true → (of_session held_of r ≡ held_of r) × (of_session share_of r ≡ share_of r)
    unfolding row_sound of_session
    sound-sums n r e =
        by_pick (eqb r.id.0 0) (free_fits r) (open_fit map n r.messages && session_fits major r) e
        (λ t f.
        let none : held_of r ≡ 0 = idle_held r.messages (free_none r f).0 in
        let spare : r.guarantee ≡ 0 = (free_none r f).1 in
        (rw t (sym none), rw t (omega arith)))
        (λ t f. (rw t, rw t))

    fits-sound : (n : ℕ) (r : Row) → row_fits major map n r ≡ true → row_sound major map n r ≡ true
    unfolding row_fits blocks_fit row_sound
    fits-sound n r e =
        let p = and_both (Exact n 0 r.messages) (pick (eqb r.id.0 0) (free_fits r) (session_fits major r)) e in
        by_pick (eqb r.id.0 0) (free_fits r) (session_fits major r) p.1
        (λ t f. rw t f)
        (λ t f. rw t (and_yes _ _ (exact_open n 0 r.messages p.0) f))

    sound-fits : (n : ℕ) (r : Row) → length r.messages ≡ 5 → row_sound major map n r ≡ true → held_by_all (owner_of n 0) 5 map ≤ held_of r → row_fits major map n r ≡ true
    unfolding row_fits blocks_fit row_sound
    sound-fits n r five e h =
        let blocks : Exact n 0 r.messages ≡ true = exact n 0 r.messages (sound-open n r e) (rw five h) in
        by_pick (eqb r.id.0 0) (free_fits r) (open_fit map n r.messages && session_fits major r) e
        (λ t f. and_yes _ _ blocks (rw t f))
        (λ t f. and_yes _ _ blocks (rw t (and_both (open_fit map n r.messages) (session_fits major r) f).1))

    row-less : (n : ℕ) (r : Row) → length r.messages ≡ 5 → row_sound major map n r ≡ true → held_of r ≤ held_by_all (owner_of n 0) 5 map
    row-less n r five e = rw five at (less n 0 r.messages (sound-open n r e))

    -- ---- all rows

    row-split : (n k : ℕ) → held_by_all (owner_of n 0) (5 * suc k) map ≡ held_by_all (owner_of n 0) 5 map + held_by_all (owner_of (suc n) 0) (5 * k) map
    unfolding held_by_all
    row-split n k =
        let z : 5 * suc k ≡ suc (suc (suc (suc (suc (5 * k))))) = omega arith in
        rw (z, next_row n) (omega arith)

    all_sound : (n : ℕ) (rs : List Row) → all_from n (row_fits major map) rs ≡ true → all_from n (row_sound major map) rs ≡ true
    all_sound n [] e = refl
    all_sound n (r ∷ rs) e =
        let p = and_both (row_fits major map n r) (all_from (suc n) (row_fits major map) rs) e in
        and_yes _ _ (fits-sound n r p.0) (all_sound (suc n) rs p.1)

    all-sums : (n : ℕ) (rs : List Row) → all_from n (row_sound major map) rs ≡ true → (held_sum rs ≡ helds_in rs) × (share_sum rs ≡ shares_in rs)
    unfolding held_sum helds_in share_sum shares_in
    all-sums n [] e = (refl, refl)
    all-sums n (r ∷ rs) e =
        let p = and_both (row_sound major map n r) (all_from (suc n) (row_sound major map) rs) e in
        let here = sound-sums n r p.0 in
        let rest = all-sums (suc n) rs p.1 in
        (rw (here.0, rest.0), rw (here.1, rest.1))

    all-less : (n : ℕ) (rs : List Row) → FiveEach rs → all_from n (row_sound major map) rs ≡ true → helds_in rs ≤ held_by_all (owner_of n 0) (5 * length rs) map
    unfolding helds_in
    all-less n [] five e = omega arith
    all-less n (r ∷ rs) five e =
        let p = and_both (row_sound major map n r) (all_from (suc n) (row_sound major map) rs) e in
        omega (arith, row-split n (length rs), row-less n r five.0 p.0, all-less (suc n) rs five.1 p.1)

    all_fit : (n : ℕ) (rs : List Row) → FiveEach rs → all_from n (row_sound major map) rs ≡ true → held_by_all (owner_of n 0) (5 * length rs) map ≤ helds_in rs
        → all_from n (row_fits major map) rs ≡ true
    unfolding helds_in
    all_fit n [] five e h = refl
    all_fit n (r ∷ rs) five e h =
        let p = and_both (row_sound major map n r) (all_from (suc n) (row_sound major map) rs) e in
        let s = row-split n (length rs) in
        let here = row-less n r five.0 p.0 in
        let rest = all-less (suc n) rs five.1 p.1 in
        and_yes _ _ (sound-fits n r five.0 p.0 (omega arith)) (all_fit (suc n) rs five.1 p.1 (omega arith))

    module _ (rs : List Row) (whole : length map ≡ 256) (eight : length rs ≡ 8) (five : FiveEach rs) where
      forty-owners : held_by_all (owner_of 0 0) (5 * length rs) map ≡ held_by_all 1 40 map
      forty-owners = let z : 5 * length rs ≡ 40 = omega arith in rw (first_owner, z)

      to-rules : all_from 0 (row_sound major map) rs && (leb (share_sum rs) 256 && eqb (held_sum rs + free_in map) 256) ≡ true
          → all_from 0 (row_fits major map) rs && (leb (shares_in rs) 256 && eqb (held_by_all 1 40 map + free_in map) 256) ≡ true
      to-rules e =
          let p = and_both (all_from 0 (row_sound major map) rs) (leb (share_sum rs) 256 && eqb (held_sum rs + free_in map) 256) e in
          let q = and_both (leb (share_sum rs) 256) (eqb (held_sum rs + free_in map) 256) p.1 in
          let s = all-sums 0 rs p.0 in
          let sum : held_sum rs + free_in map ≡ 256 = eqb-true (held_sum rs + free_in map) 256 q.1 in
          let share : share_sum rs ≤ 256 = leb-true (share_sum rs) 256 q.0 in
          let fit : all_from 0 (row_fits major map) rs ≡ true = all_fit 0 rs five p.0 (omega (arith, forty-owners, with_free map)) in
          let owned : held_by_all 1 40 map ≡ helds_in rs = forty major map rs eight five fit in
          and_yes _ _ fit (and_yes _ _ (le-leb (shares_in rs) 256 (omega arith)) (eq-eqb (held_by_all 1 40 map + free_in map) 256 (omega arith)))

      from-rules : all_from 0 (row_fits major map) rs && (leb (shares_in rs) 256 && eqb (held_by_all 1 40 map + free_in map) 256) ≡ true
          → all_from 0 (row_sound major map) rs && (leb (share_sum rs) 256 && eqb (held_sum rs + free_in map) 256) ≡ true
      from-rules e =
          let p = and_both (all_from 0 (row_fits major map) rs) (leb (shares_in rs) 256 && eqb (held_by_all 1 40 map + free_in map) 256) e in
          let q = and_both (leb (shares_in rs) 256) (eqb (held_by_all 1 40 map + free_in map) 256) p.1 in
          let fit : all_from 0 (row_sound major map) rs ≡ true = all_sound 0 rs p.0 in
          let s = all-sums 0 rs fit in
          let sum : held_by_all 1 40 map + free_in map ≡ 256 = eqb-true (held_by_all 1 40 map + free_in map) 256 q.1 in
          let share : shares_in rs ≤ 256 = leb-true (shares_in rs) 256 q.0 in
          let owned : held_by_all 1 40 map ≡ helds_in rs = forty major map rs eight five p.0 in
          and_yes _ _ fit (and_yes _ _ (le-leb (share_sum rs) 256 (omega arith)) (eq-eqb (held_sum rs + free_in map) 256 (omega arith)))

      -- what the code tests is what the rules say
      pub rules-same : all_from 0 (row_sound major map) rs && (leb (share_sum rs) 256 && eqb (held_sum rs + free_in map) 256)
          ≡ all_from 0 (row_fits major map) rs && (leb (shares_in rs) 256 && eqb (held_by_all 1 40 map + free_in map) 256)
      rules-same = same _ _ to-rules from-rules
        where
          same : (a b : Bool) → (a ≡ true → b ≡ true) → (b ≡ true → a ≡ true) → a ≡ b
          same true b f g = sym (f refl)
          same false true f g = g refl
          same false false f g = refl

-- ---- what a survey finds

-- the rules of a link, by what one pass over its rows found
rules_found : (l : Link) (fit : Bool) (held shared : ℕ) → length l.owners ≡ 256 → Summed l fit held shared
    → distinct_in (ids_of l.rows) && (fit && (leb shared 256 && eqb (held + free_in l.owners) 256)) ≡ rules_hold l
unfolding rules_hold
rules_found l fit held shared whole s =
    rw (s.fits, s.shares, s.holds, distinct_ids_lem l.rows, rules-same l.owners l.version.major l.rows whole s.eight s.five)

module _ (l : Link) (pool : ℕ) (g : Grant) (fit : Bool) (held shared : ℕ) (whole : length l.owners ≡ 256) (s : Summed l fit held shared) where
  -- the sum of shares, where refusal 10 is not earned
  shares_found : guard_of l pool g ≡ true → shared ≡ shares_in l.rows
  unfolding guard_of
  shares_found e =
      let inner = (and_both (eqb pool 65536) (settings_fit l.version l.mtu && (grant_fits g && rules_hold l)) e).1 in
      let rules = (and_both (grant_fits g) (rules_hold l) (and_both (settings_fit l.version l.mtu) (grant_fits g && rules_hold l) inner).1).1 in
      let rest : Bool = leb shared 256 && eqb (held + free_in l.owners) 256 in
      let tests : distinct_in (ids_of l.rows) && (fit && rest) ≡ true = rules_found l fit held shared whole s ∙ rules in
      let sound = (and_both fit rest (and_both (distinct_in (ids_of l.rows)) (fit && rest) tests).1).0 in
      s.shares ∙ (all-sums l.owners l.version.major 0 l.rows (sym s.fits ∙ sound)).1

  -- what is told, by what was found. The limit of shares has a name, so that a search for it says the code's where that is another
  pub overview_told : {v : Overview} {settings granted apart rest : Bool} {limit : ℕ} → settings ≡ settings_fit l.version l.mtu → granted ≡ grant_fits g
      → apart ≡ distinct_in (ids_of l.rows) → rest ≡ eqb (held + free_in l.owners) 256 → v.ids ≡ ids_of l.rows → v.shared ≡ shared
      → v.fit ≡ eqb pool 65536 && (settings && (granted && (apart && (fit && (leb shared limit && rest))))) → limit ≡ 256
      → (v.fit ≡ guard_of l pool g) × ((v.shared ≡ share_sum l.rows) × ((v.ids ≡ ids_of l.rows) × (v.fit ≡ true → Surveyed l v)))
  unfolding guard_of
  overview_told {v} a b c d names sum tests e =
      let fits : v.fit ≡ guard_of l pool g = tests ∙ rw (a, b, c, d, e, rules_found l fit held shared whole s) in
      let seen : v.fit ≡ true → Surveyed l v
      = λ h. record { shares = sum ∙ shares_found (sym fits ∙ h); names = names; bound = omega (arith, s.bound); eight = s.eight } in
      (fits, (sum ∙ s.shares, (names, seen)))
