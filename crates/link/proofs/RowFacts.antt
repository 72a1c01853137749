-- What the state rules say of one row, as facts: of each of its five messages, of the row, and of the row of an open session.
-- By taking the rules' tests apart, and putting them together again.
-- Assumes nothing.
use mathlib.Core.Path.{◌≡◌, refl, sym, ◌∙◌}
use Prim.Native.Nat.{ℕ, zero, suc, ◌-◌, ◌≤◌, ◌<◌}
use native.Mathlib.Omega.{arith}
use mathlib.Core.Bool.{Bool, true, false, true≢false, not, ◌||◌}
use mathlib.Core.List.{List}
use lib.Dec.{eqb, leb}
use lib.ListN.{length, get_or}
use borrow.Author.Tests.{leb-true, eqb-true, not-true, le-leb, eq-eqb, ne_eqb}
use Rattle.numbers.proofs.Choices.{and_yes, and_both, split, either}
use Rattle.blocks.specs.Map.{held_by}
use Rattle.frame.specs.declared.ServiceType.{ServiceType}
use Rattle.frame.specs.declared.MessageId.{MessageId}
use Rattle.frame.specs.Rules.{listed_service}
use Rattle.frame.specs.Message.{totals_fit}
use Rattle.frame.proofs.Message.{totals_range}
use Rattle.session.specs.declared.Reassembly.{Reassembly}
use Rattle.session.specs.declared.Row.{Row}
use Rattle.session.specs.Rows.{no_reassembly, no_row, message_at, announced, shortened}
use Rattle.session.specs.Rules.{is_running}
use Rattle.session.specs.Decide.{place_of, message_blocks, held_of, sized}
use Rattle.link.specs.State.{index_of, owner_of, all, room_fits, version_allowed, service_at, message_fits, unsettled_fits, blocks_fit, row_fits}
use Rattle.link.specs.Claim.{State, is_open}
use Rattle.link.specs.Pages.{Sane}
use Rattle.link.proofs.Each.{or_then, then_or, each_at, each_make, all_at, all_make}
use Rattle.link.proofs.Shown.{rules_say}
use Rattle.link.proofs.Table.{index_row}
use Rattle.link.proofs.Holdings.{row_fits_at, five_at, open_index, OpenRow, row_rules, blocks_say}

-- ---- services and places

pub place_below : (s : ℕ) → place_of s < 5
unfolding place_of
place_below s =
    let P : ℕ → Type 0 = λ n. n < 5 in
    either P (eqb s 0x00) 0 _ (λ _. omega arith) λ _.
    either P (eqb s 0x07) 1 _ (λ _. omega arith) λ _.
    either P (eqb s 0x0A) 2 _ (λ _. omega arith) λ _.
    either P (eqb s 0x0B) 3 4 (λ _. omega arith) (λ _. omega arith)

-- a listed service stands at its place
pub service_place : (s : ServiceType) → listed_service s ≡ true → service_at (place_of s.0) ≡ s.0
unfolding listed_service place_of service_at
service_place s e =
    let n : ℕ = s.0 in
    split (eqb n 0x00) (λ t. rw t (sym (eqb-true n 0x00 t))) λ a.
    split (eqb n 0x07) (λ t. rw (a, t) (sym (eqb-true n 0x07 t))) λ b.
    split (eqb n 0x0A) (λ t. rw (a, b, t) (sym (eqb-true n 0x0A t))) λ c.
    split (eqb n 0x0B) (λ t. rw (a, b, c, t) (sym (eqb-true n 0x0B t))) λ d.
    split (eqb n 0x0F) (λ t. rw (a, b, c, d) (sym (eqb-true n 0x0F t))) λ f. absurd (true≢false (sym (rw (a, b, c, d, f) at e)))

pub place_service : (k : ℕ) → k < 5 → place_of (service_at k) ≡ k
unfolding place_of service_at
place_service zero h = refl
place_service (suc zero) h = refl
place_service (suc (suc zero)) h = refl
place_service (suc (suc (suc zero))) h = refl
place_service (suc (suc (suc (suc zero)))) h = refl
place_service (suc (suc (suc (suc (suc k))))) h = absurd (omega arith)

-- ---- one message

-- what an open message keeps to
pub record OpenFits (runs : Bool) (m : Reassembly) : Type 0 where
  pub running : runs ≡ true
  pub totals : totals_fit m.total m.count ≡ true
  pub some_frames : 1 ≤ m.frames
  pub frames_most : m.frames ≤ m.count
  pub missing_least : m.frames ≤ m.missing
  pub missing_most : m.missing ≤ m.total

-- whether the service at a place runs
abbrev pub runs_at : Row → ℕ → Bool
runs_at r k = is_running r r.version (service_at k)

abbrev pub Fits : Bool → Reassembly → Type 0
Fits runs m = m.live ≡ true → OpenFits runs m

fits_open : (r : Row) (k : ℕ) (m : Reassembly) → message_fits r k m ≡ true → Fits (runs_at r k) m
unfolding message_fits
fits_open r k m e l =
    let p₁ = and_both (runs_at r k) _ (or_then m.live _ e l) in
    let p₂ = and_both (totals_fit m.total m.count) _ p₁.1 in
    let p₃ = and_both (leb 1 m.frames) _ p₂.1 in
    let p₄ = and_both (leb m.frames m.count) _ p₃.1 in
    let p₅ = and_both (leb m.frames m.missing) (leb m.missing m.total) p₄.1 in
    record {
      running = p₁.0;
      totals = p₂.0;
      some_frames = leb-true 1 m.frames p₃.0;
      frames_most = leb-true m.frames m.count p₄.0;
      missing_least = leb-true m.frames m.missing p₅.0;
      missing_most = leb-true m.missing m.total p₅.1;
    }

open_fits : (r : Row) (k : ℕ) (m : Reassembly) → Fits (runs_at r k) m → message_fits r k m ≡ true
unfolding message_fits
open_fits r k m f =
    then_or m.live _ (λ l.
    let o = f l in
    rw (
      o.running,
      o.totals,
      le-leb 1 m.frames o.some_frames,
      le-leb m.frames m.count o.frames_most,
      le-leb m.frames m.missing o.missing_least,
      le-leb m.missing m.total o.missing_most,
    ))

-- no message is open
pub fits_none : (b : Bool) → Fits b no_reassembly
fits_none b l = absurd (true≢false (sym l))

-- a message just announced
pub fits_announced : (b : Bool) (i : MessageId) (total count : ℕ) → b ≡ true → totals_fit total count ≡ true → Fits b (announced i total count)
fits_announced b i total count e t l =
    let range = totals_range total count t in
    record {
      running = e;
      totals = t;
      some_frames = range.some_frames;
      frames_most = omega arith;
      missing_least = range.most_frames;
      missing_most = omega arith;
    }

-- a message with one frame less to come, which was not the last
pub fits_shortened : (b : Bool) (m : Reassembly) (size : ℕ) → Fits b m → sized m size ≡ true → (m.frames ≡ 1 → ⊥) → Fits b (shortened m size)
unfolding sized
fits_shortened b m size f s n l =
    let o = f l in
    let p = and_both (leb size m.missing) _ s in
    let q = and_both (leb (m.frames - 1) (m.missing - size)) _ p.1 in
    record {
      running = o.running;
      totals = o.totals;
      some_frames = omega (arith, o.some_frames);
      frames_most = omega (arith, o.frames_most);
      missing_least = leb-true (m.frames - 1) (m.missing - size) q.0;
      missing_most = omega (arith, o.missing_most);
    }

-- ---- one row

-- the rules of an open row, message by message
pub record RowFacts (major : ℕ) (r : Row) : Type 0 where
  pub offer : r.guarantee ≤ r.cap
  pub most : r.cap ≤ 256
  pub within : held_of r ≤ r.cap
  pub allowed : version_allowed major r.version ≡ true
  pub unsettled : r.version ≡ 0 → (k : ℕ) → k < length r.messages → (message_at r k).live ≡ false
  pub messages : (k : ℕ) → k < length r.messages → Fits (runs_at r k) (message_at r k)
  pub five : length r.messages ≡ 5

module _ (major i : ℕ) (owners : List ℕ) (r : Row) where
  facts_of : length r.messages ≡ 5 → OpenRow major i owners r → RowFacts major r
  unfolding room_fits unsettled_fits
  facts_of l g =
      let p = and_both (leb r.guarantee r.cap) _ g.room in
      let q = and_both (leb r.cap 256) (leb (held_of r) r.cap) p.1 in
      record {
        offer = leb-true r.guarantee r.cap p.0;
        most = leb-true r.cap 256 q.0;
        within = leb-true (held_of r) r.cap q.1;
        allowed = g.version;
        unsettled = λ z k h.
            let u = or_then (eqb r.version 0) _ g.unsettled (eq-eqb r.version 0 z) in
            not-true (message_at r k).live (all_at (λ (m : Reassembly). not m.live) r.messages k no_reassembly u h);
        messages = λ k h. fits_open r k (message_at r k) (each_at (message_fits r) r.messages k no_reassembly g.messages h);
        five = l;
      }

  pub facts_fit : RowFacts major r → (r.id.0 ≡ 0 → ⊥) → blocks_fit owners i r ≡ true → row_fits major owners i r ≡ true
  unfolding row_fits room_fits unsettled_fits
  facts_fit f n b =
      let unsettled : not (eqb r.version 0) || all (λ (m : Reassembly). not m.live) r.messages ≡ true = then_or (eqb r.version 0) _ (λ t.
      all_make (λ (m : Reassembly). not m.live) r.messages no_reassembly (λ k h. rw (f.unsettled (eqb-true r.version 0 t) k h))) in
      and_yes (blocks_fit owners i r) _ b
      (rw (ne_eqb r.id.0 0 n, le-leb r.guarantee r.cap f.offer, le-leb r.cap 256 f.most, le-leb (held_of r) r.cap f.within, f.allowed, unsettled)
      (each_make (message_fits r) r.messages no_reassembly (λ k h. open_fits r k (message_at r k) (f.messages k h))))

-- ---- the row of an open session

-- the session i in row n
pub record OpenFacts (s : State) (i n : ℕ) : Type 0 where
  pub below : n < length s.link.rows
  pub some_id : i ≡ 0 → ⊥
  pub mine : (get_or s.link.rows n no_row).id.0 ≡ i
  pub five : length (get_or s.link.rows n no_row).messages ≡ 5
  pub facts : RowFacts s.link.version.major (get_or s.link.rows n no_row)
  pub fits : (place : ℕ) → place < 5 → (b : Bool) × Fits b (message_at (get_or s.link.rows n no_row) place)
  pub room : (place : ℕ) → place < 5 → held_by (owner_of n place) s.link.owners ≡ message_blocks (message_at (get_or s.link.rows n no_row) place)

pub open_facts : (s : State) (i : ℕ) → Sane s → is_open s i ≡ true → OpenFacts s i (index_of i s.link.rows)
open_facts s i k o =
    let rs : List Row = s.link.rows in
    let n : ℕ = index_of i rs in
    let r : Row = get_or rs n no_row in
    let at = open_index s i o in
    let mine : r.id.0 ≡ i = index_row i rs at.1 in
    let five : length r.messages ≡ 5 = five_at rs n k.five at.1 in
    let fit = row_fits_at s.link.version.major s.link.owners rs n (rules_say s.link k.rules).rows at.1 in
    let g = row_rules s.link.version.major n s.link.owners r fit (λ x. at.0 (sym mine ∙ x)) in
    let facts : RowFacts s.link.version.major r = facts_of s.link.version.major n s.link.owners r five g in
    record {
      below = at.1;
      some_id = at.0;
      mine = mine;
      five = five;
      facts = facts;
      fits = λ place b. (runs_at r place, facts.messages place (omega (arith, five, b)));
      room = λ place b. blocks_say s.link.owners n r g.blocks place (omega (arith, five, b));
    }
