-- A frame in an open session keeps the state rules: one row put in another's place, and a map that moves as the row does. By the cases of the decision.
-- Assumes nothing.
use mathlib.Core.Path.{◌≡◌, refl, sym, ap, subst, ◌∙◌}
use Prim.Native.Nat.{ℕ, zero, suc, ◌+◌, ◌-◌, ◌*◌, ◌≤◌, ◌<◌, max}
use native.Mathlib.Omega.{arith}
use mathlib.Core.Bool.{true}
use mathlib.Core.List.{List, [], ◌∷◌}
use lib.ListN.{length, get_or, set, length-set, get_or-replicate}
use Rattle.numbers.proofs.Choices.{and_yes, and_both, same_or_not}
use Rattle.frame.specs.declared.Header.{Header}
use Rattle.frame.specs.declared.SessionId.{SessionId}
use Rattle.frame.proofs.Laws.{Sound, version_range}
use Rattle.session.specs.declared.Row.{Row}
use Rattle.session.specs.declared.Act.{Act}
use Rattle.session.specs.Rows.{no_row, no_reassembly, free_row, message_at}
use Rattle.session.specs.Rules.{is_running}
use Rattle.session.specs.Decide.{place_of, need_of, message_blocks, held_of, share_of}
use Rattle.blocks.specs.Map.{held_by, held_by_all, free_in, claimed, released}
use Rattle.blocks.proofs.Contents.{append_length}
use Rattle.blocks.proofs.Counts.{claim_gives, claim_lowers, claim_leaves, claim_length, release_takes, release_leaves, release_one, release_raises, release_length}
use Rattle.link.specs.State.{free_fits, all_from, shares_in, owner_of, blocks_fit, row_fits, with_row, with_owners}
use Rattle.link.specs.declared.Grant.{Grant}
use Rattle.link.specs.Call.{After, applied}
use Rattle.link.specs.Book.{Ask}
use Rattle.link.specs.Claim.{State}
use Rattle.link.specs.Pages.{FiveEach, Sane}
use Rattle.link.proofs.Each.{each_make, set_each, sum_set}
use Rattle.link.proofs.Shown.{Rules, rules_say, say_rules}
use Rattle.link.proofs.Table.{distinct_one, distinct_set, shares_set, share_below, five_set, ids_set, free_held, owner_some, owner_apart, owner_outside, owner_inside}
use Rattle.link.proofs.Holdings.{five_at, row_fits_at, blocks_say, say_blocks, row_owned}
use Rattle.link.proofs.Decisions.{Decided, refuses, accepts, beats, starts, starts-not, stops, closes, ends_not, hands-over, claims, drops, appends, delivers}
use Rattle.link.proofs.RowFacts.{place_below, service_place, facts_fit, OpenFacts}
use Rattle.link.proofs.RowRules.{held_idle, fits_settled, fits_allowed, runs_in, RowKept, kept_single, kept_start, kept-claim, kept-drop, kept-fed, kept_stop}

-- every row's rule, where the map changed only for the row that was set
pub rows_set : (major : ℕ) (owners owners' : List ℕ) (rs : List Row) (i : ℕ) (a : Row) → i < length rs → row_fits major owners' i a ≡ true
    → ((k : ℕ) → k < length rs → (k ≡ i → ⊥) → row_fits major owners k (get_or rs k no_row) ≡ true → row_fits major owners' k (get_or rs k no_row) ≡ true)
    → all_from 0 (row_fits major owners) rs ≡ true → all_from 0 (row_fits major owners') (set rs i a) ≡ true
rows_set major owners owners' rs i a h q f e =
    each_make (row_fits major owners') (set rs i a) no_row (λ k j.
    set_each (λ (k : ℕ) (r : Row). row_fits major owners' k r ≡ true) rs i a no_row h q (λ k j n. f k j n (row_fits_at major owners rs k e j)) k (omega (arith, length-set rs i a)))

-- ---- the blocks of all rows

unfoldable pub helds_in : List Row → ℕ
helds_in [] = 0
helds_in (r ∷ rs) = held_of r + helds_in rs

helds_set : (rs : List Row) (i : ℕ) (r : Row) → i < length rs → helds_in (set rs i r) + held_of (get_or rs i no_row) ≡ helds_in rs + held_of r
unfolding helds_in
helds_set rs i r h = sum_set helds_in held_of (λ a l. refl) rs i r no_row h

-- no row holds more than its share
helds_most : (rs : List Row) → helds_in rs ≤ shares_in rs
unfolding helds_in shares_in
helds_most [] = omega arith
helds_most (a ∷ rs) = omega (arith, helds_most rs)

-- what the rows hold, without one of them, is at most what the others' shares take
helds_less : (rs : List Row) (i : ℕ) → i < length rs → helds_in rs + share_of (get_or rs i no_row) ≤ shares_in rs + held_of (get_or rs i no_row)
helds_less rs i h = omega (arith, helds_set rs i free_row h, shares_set rs i free_row h, helds_most (set rs i free_row), free_held)

owners_join : (first a b : ℕ) (map : List ℕ) → held_by_all first (a + b) map ≡ held_by_all first a map + held_by_all (first + a) b map
unfolding held_by_all
owners_join first zero b map =
    let z : 0 + b ≡ b = omega arith in
    let y : first + 0 ≡ first = omega arith in
    rw (z, y) (omega arith)
owners_join first (suc a) b map =
    let z : suc a + b ≡ suc (a + b) = omega arith in
    let y : first + suc a ≡ suc first + a = omega arith in
    rw (z, y) (omega (arith, owners_join (suc first) a b map))

row_next : (n : ℕ) → owner_of (suc n) 0 ≡ owner_of n 0 + 5
unfolding owner_of
row_next n = omega arith

none_owned : (first : ℕ) (map : List ℕ) → held_by_all first 0 map ≡ 0
unfolding held_by_all
none_owned first map = refl

-- all rows' owners have what all rows hold
rows_owned : (major : ℕ) (owners : List ℕ) (n : ℕ) (rs : List Row) → FiveEach rs → all_from n (row_fits major owners) rs ≡ true
    → held_by_all (owner_of n 0) (5 * length rs) owners ≡ helds_in rs
unfolding helds_in row_fits
rows_owned major owners n [] five e = none_owned (owner_of n 0) owners
rows_owned major owners n (r ∷ rs) five e =
    let p = and_both (row_fits major owners n r) (all_from (suc n) (row_fits major owners) rs) e in
    let one : held_by_all (owner_of n 0) 5 owners ≡ held_of r = row_owned owners n r five.0 (and_both (blocks_fit owners n r) _ p.0).0 in
    let more : held_by_all (owner_of (suc n) 0) (5 * length rs) owners ≡ helds_in rs = rows_owned major owners (suc n) rs five.1 p.1 in
    let next : held_by_all (owner_of n 0 + 5) (5 * length rs) owners ≡ helds_in rs = rw (row_next n) at more in
    let z : 5 * suc (length rs) ≡ 5 + 5 * length rs = omega arith in
    subst (λ (x : ℕ). held_by_all (owner_of n 0) x owners ≡ held_of r + helds_in rs) (sym z) (owners_join (owner_of n 0) 5 (5 * length rs) owners ∙ omega arith)

-- the forty owners have what the eight rows hold
pub forty : (major : ℕ) (owners : List ℕ) (rs : List Row) → length rs ≡ 8 → FiveEach rs → all_from 0 (row_fits major owners) rs ≡ true → held_by_all 1 40 owners ≡ helds_in rs
unfolding owner_of
forty major owners rs eight five e =
    let z : 5 * length rs ≡ 40 = omega arith in
    let o : held_by_all (owner_of 0 0) (5 * length rs) owners ≡ helds_in rs = rows_owned major owners 0 rs five e in
    rw z at o

-- ---- a row put in another's place

-- another row's rule reads the map only at its own owners
row_elsewhere : (major : ℕ) (owners owners' : List ℕ) (k : ℕ) (r : Row) → length r.messages ≡ 5
    → ((q : ℕ) → q < 5 → held_by (owner_of k q) owners' ≡ held_by (owner_of k q) owners) → row_fits major owners k r ≡ true → row_fits major owners' k r ≡ true
unfolding row_fits
row_elsewhere major owners owners' k r five f e =
    let p = and_both (blocks_fit owners k r) _ e in
    and_yes (blocks_fit owners' k r) _ (say_blocks owners' k r (λ q h. f q (omega arith) ∙ blocks_say owners k r p.0 q h)) p.1

-- what the state rules ask of a row in row n's place, and of a map that moves with it
record Put (s : State) (n : ℕ) (after : Row) (owners : List ℕ) : Type 0 where
  pub size : length owners ≡ length s.link.owners
  pub fits : row_fits s.link.version.major owners n after ≡ true
  pub five : length after.messages ≡ 5
  pub ids : (after.id.0 ≡ 0 → ⊥) → after.id.0 ≡ (get_or s.link.rows n no_row).id.0
  pub shares : shares_in s.link.rows - share_of (get_or s.link.rows n no_row) + share_of after ≤ 256
  pub others : (j : ℕ) → (j ≡ n → ⊥) → (q : ℕ) → q < 5 → held_by (owner_of j q) owners ≡ held_by (owner_of j q) s.link.owners
  pub spare : free_in owners + held_of after ≡ free_in s.link.owners + held_of (get_or s.link.rows n no_row)

module _ (s : State) (i n : ℕ) (k : Sane s) (f : OpenFacts s i n) where
  abbrev r : Row
  r = get_or s.link.rows n no_row

  abbrev major : ℕ
  major = s.link.version.major

  abbrev map : List ℕ
  map = s.link.owners

  -- the other sessions' room
  abbrev room : ℕ
  room = shares_in s.link.rows - share_of (get_or s.link.rows n no_row)

  rules : Rules s.link
  rules = rules_say s.link k.rules

  put_sane : (after : Row) (owners pool : List ℕ) → length pool ≡ length s.pool → Put s n after owners
      → Sane (record { link = with_owners (with_row s.link n after) owners; pool = pool })
  put_sane after owners pool e x =
      let rs : List Row = s.link.rows in
      let len : length (set rs n after) ≡ length rs = length-set rs n after in
      let five : FiveEach (set rs n after) = five_set rs n after k.five x.five in
      let rows : all_from 0 (row_fits major owners) (set rs n after) ≡ true
      = rows_set major map owners rs n after f.below x.fits
      (λ j h d. row_elsewhere major map owners j (get_or rs j no_row) (five_at rs j k.five h) (x.others j d)) rules.rows in
      let was : held_by_all 1 40 map ≡ helds_in rs = forty major map rs k.rows k.five rules.rows in
      let is : held_by_all 1 40 owners ≡ helds_in (set rs n after) = forty major owners (set rs n after) (len ∙ k.rows) five rows in
      record {
        rows = len ∙ k.rows;
        five = five;
        ids = ids_set rs n after f.below (same_or_not after.id.0 0 (λ z. omega arith) (λ z. omega (arith, x.ids z, k.ids n f.below))) k.ids;
        owners = x.size ∙ k.owners;
        pool = e ∙ k.pool;
        settings = k.settings;
        rules = say_rules (with_owners (with_row s.link n after) owners) (record {
          ids = distinct_set rs n after (λ z j h d w. d (distinct_one rs j n rules.ids h f.below (w ∙ x.ids z) (λ y. z (sym w ∙ y)))) rules.ids;
          rows = rows;
          shares = omega (arith, shares_set rs n after f.below, share_below rs n f.below, x.shares);
          blocks = omega (arith, helds_set rs n after f.below, x.spare, rules.blocks);
        });
      }

  -- a row that stays open, with a map in which the place's owner lost and got what the row did, and no other owner anything
  put_kept : {place : ℕ} {after : Row} {freed got : ℕ} (owners : List ℕ) → place < 5 → RowKept major room place r after freed got → length owners ≡ length map
      → ((j q : ℕ) → q < 5 → ((j ≡ n) × (q ≡ place) → ⊥) → held_by (owner_of j q) owners ≡ held_by (owner_of j q) map)
      → held_by (owner_of n place) owners + freed ≡ held_by (owner_of n place) map + got → free_in owners + got ≡ free_in map + freed → Put s n after owners
  put_kept {place} {after} owners below x e apart here spare =
      let same : after.id.0 ≡ r.id.0 = ap (λ (a : SessionId). a.0) x.same_id in
      record {
        size = e;
        fits = facts_fit major n owners after x.facts (λ z. f.some_id (sym f.mine ∙ sym same ∙ z)) (say_blocks owners n after (λ q h.
            same_or_not q place
            (λ z. rw z (omega (arith, x.here, f.room place below)))
            (λ d. let b : q < 5 = omega (arith, x.facts.five) in apart n q b (λ z. d z.1) ∙ f.room q b ∙ sym (ap message_blocks (x.elsewhere q d)))));
        five = x.facts.five;
        ids = λ _. same;
        shares = x.shares (omega (arith, rules.shares, share_below s.link.rows n f.below));
        others = λ j d q h. apart j q h (λ z. d z.0);
        spare = omega (arith, x.held);
      }

  -- nothing freed, nothing claimed
  put_same : {place : ℕ} {after : Row} → place < 5 → RowKept major room place r after 0 0 → Put s n after map
  put_same below x = put_kept map below x refl (λ j q h d. refl) refl refl

  -- the message's blocks freed
  put_freed : {place : ℕ} {after : Row} → place < 5 → RowKept major room place r after (message_blocks (message_at r place)) 0
      → Put s n after (released (owner_of n place) (owner_of n place) map)
  put_freed {place} below x =
      let o : ℕ = owner_of n place in
      put_kept (released o o map) below x (release_length o o map)
      (λ j q h d. release_leaves o o (owner_of j q) map (owner_some j q) (λ a b. owner_apart n j place q below h d (omega arith)))
      (omega (arith, release_takes o o o map (owner_some n place) (omega arith) (omega arith), f.room place below))
      (omega (arith, release_one o map (owner_some n place), f.room place below))

  -- the room check passed: so many blocks are free
  pub claim_room : (need : ℕ) → room + max (held_of r + need) r.guarantee ≤ 256 → need ≤ free_in map
  claim_room need w =
      let all : held_by_all 1 40 map ≡ helds_in s.link.rows = forty major map s.link.rows k.rows k.five rules.rows in
      omega (arith, helds_less s.link.rows n f.below, share_below s.link.rows n f.below, rules.blocks)

  -- then blocks are claimed
  put_claimed : {place : ℕ} {after : Row} (need : ℕ) → place < 5 → room + max (held_of r + need) r.guarantee ≤ 256 → RowKept major room place r after 0 need
      → Put s n after (claimed (owner_of n place) need map)
  put_claimed {place} need below w x =
      let o : ℕ = owner_of n place in
      let free : need ≤ free_in map = claim_room need w in
      put_kept (claimed o need map) below x (claim_length o need map)
      (λ j q h d. claim_leaves (owner_of j q) o need map (owner_apart n j place q below h d) (owner_some j q))
      (omega (arith, claim_gives o need map (owner_some n place))) (omega (arith, claim_lowers o need map (owner_some n place)))

  -- the session closed: all its blocks freed
  put_closed : Put s n free_row (released (owner_of n 0) (owner_of n 4) map)
  unfolding row_fits free_fits
  put_closed =
      let low : ℕ = owner_of n 0 in
      let high : ℕ = owner_of n 4 in
      let some : low ≡ 0 → ⊥ = owner_some n 0 in
      let raise : free_in (released low high map) ≡ free_in map + held_by_all low (suc high - low) map = release_raises low high map (omega arith) in
      let gain : free_in (released low high map) ≡ free_in map + held_by_all low 5 map = rw (owner_inside n 0 (omega arith)).2 at raise in
      let sum : held_by_all low 5 map ≡ held_of r = row_owned map n r f.five (say_blocks map n r (λ q h. f.room q (omega (arith, f.five)))) in
      record {
        size = release_length low high map;
        fits = and_yes (blocks_fit (released low high map) n free_row) _ (say_blocks (released low high map) n free_row (λ q h.
            release_takes low high (owner_of n q) map (owner_some n q) (owner_inside n q h).0 (owner_inside n q h).1
            ∙ sym (ap message_blocks (get_or-replicate 5 q no_reassembly no_reassembly h) ∙ held_idle no_reassembly refl))) refl;
        five = refl;
        ids = λ z. absurd (z refl);
        shares = omega (arith, free_held, rules.shares);
        others = λ j d q h. release_leaves low high (owner_of j q) map (owner_some j q) (owner_outside n j q h d);
        spare = omega (arith, free_held);
      }

  -- a frame in the session leads to a state within the rules
  module _ (h : Header) (consumed : ℕ) (payload out : List ℕ) (g : Grant) (sound : Sound h) where
    abbrev place : ℕ
    place = place_of h.service.0

    abbrev SaneAfter : Act → Type 0
    SaneAfter act = let w : After = applied s.link n s.pool out h consumed payload g act in Sane (record { link = w.link; pool = w.pool })

    -- the frame's version, which settles the row's
    least : 1 ≤ h.version
    least = (version_range h.version sound.version).0

    pub session-sane : {ask : Ask} {act : Act} → Decided s.link n h payload ask act → SaneAfter act
    session-sane (refuses b) = k
    session-sane accepts = k
    session-sane beats = k
    session-sane starts = put_sane _ _ _ refl (put_same (place_below h.service.0) (kept_start major room place r h.service g.hash f.facts))
    session-sane starts-not = k
    session-sane (stops d) = put_sane _ _ _ refl (put_freed (place_below h.service.0) (kept_stop major room r h.service f.facts))
    session-sane (closes d) = put_sane _ _ _ refl put_closed
    session-sane ends_not = k
    session-sane (hands-over q) =
        put_sane _ _ _ refl (put_same (place_below h.service.0)
        (kept_single major room place r h.version f.facts (fits_allowed major r h.version f.facts.allowed q.version) least (fits_settled major r h.version q.version)))
    session-sane (claims {total} {count} q d fit idle cap w) =
        put_sane _ _ _ refl (put_claimed (need_of total) (place_below h.service.0) w
        (kept-claim major room place (place_below h.service.0) r h.version h.message total count f.facts
        (fits_allowed major r h.version f.facts.allowed q.version) least (fits_settled major r h.version q.version)
        (ap (is_running r h.version) (service_place h.service sound.service) ∙ runs_in r h d q.service) fit idle cap w))
    session-sane (drops d c) = put_sane _ _ _ refl (put_freed (place_below h.service.0) (kept-drop major room place (place_below h.service.0) r f.facts))
    session-sane (appends c sizes more) =
        put_sane _ _ _ (append_length _ _ payload map s.pool) (put_same (place_below h.service.0)
        (kept-fed major room place (place_below h.service.0) r h.size f.facts sizes more))
    session-sane (delivers c sizes one) =
        put_sane _ _ _ (append_length _ _ payload map s.pool) (put_freed (place_below h.service.0)
        (kept-drop major room place (place_below h.service.0) r f.facts))
