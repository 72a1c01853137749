-- What a session holds: exactly the blocks that its messages in the book need, and at most its cap. By the state rules at its row.
-- Assumes nothing.
use Prim.Native.Nat.{ℕ, zero, suc, ◌≤◌, ◌<◌}
use mathlib.Core.Path.{◌≡◌, refl, ap, ◌∙◌, sym}
use mathlib.Core.Bool.{Bool, true, true≢false, ◌&&◌, not}
use mathlib.Core.Option.{some}
use mathlib.Core.List.{List, [], ◌∷◌}
use native.Mathlib.Omega.{arith}
use lib.Dec.{eqb, ltb, leb}
use lib.ListN.{length, get_or}
use borrow.Author.Tests.{eqb-true, leb-true, ltb-true, eq-eqb, ne_eqb, not-true}
use Rattle.numbers.specs.Bytes.{pick}
use Rattle.numbers.proofs.Choices.{and_both, split}
use Rattle.blocks.specs.Map.{held_by, held_by_all}
use Rattle.session.specs.declared.Reassembly.{Reassembly}
use Rattle.session.specs.declared.Row.{Row}
use Rattle.session.specs.Rows.{no_row, no_reassembly, message_at}
use Rattle.session.specs.Decide.{need_of, held_in, held_of, message_blocks}
use Rattle.link.specs.State.{index_of, owner_of, all_from, room_fits, version_allowed, unsettled_fits, message_fits, blocks_fit, row_fits}
use Rattle.link.specs.Book.{there, Page, needs_in, needs_of}
use Rattle.link.specs.Claim.{State, is_open, blocks_of}
use Rattle.link.specs.Pages.{note_of, notes_from, page_of, pages, FiveEach, Sane}
use Rattle.link.proofs.Shown.{rules_say, shown, page_of_lem}
use Rattle.link.proofs.Table.{index_row, owner_next}
use Rattle.link.proofs.Each.{each_at, each_make}

-- the rules of the row at an index
pub row_fits_at : (major : ℕ) (owners : List ℕ) (rs : List Row) (i : ℕ) → all_from 0 (row_fits major owners) rs ≡ true → i < length rs → row_fits major owners i (get_or rs i no_row) ≡ true
row_fits_at major owners rs i e h = each_at (row_fits major owners) rs i no_row e h

pub five_at : (rs : List Row) (k : ℕ) → FiveEach rs → k < length rs → length (get_or rs k no_row).messages ≡ 5
five_at [] k f h = absurd (omega arith)
five_at (r ∷ rs) zero f h = f.0
five_at (r ∷ rs) (suc k) f h = five_at rs k f.1 (omega arith)

-- a message's need in the book is what it holds
note_need : (s : State) (i place : ℕ) (m : Reassembly) → (note_of s i place m).need ≡ pick m.live (need_of m.total) 0
unfolding note_of
note_need s i place m = split m.live (λ e. rw e) (λ e. rw e)

-- ---- blocks and messages

-- the map has as many blocks of each message as the message holds
module _ (owners : List ℕ) (i : ℕ) (r : Row) where
  abbrev counts : ℕ → Reassembly → Bool
  counts place m = eqb (held_by (owner_of i place) owners) (pick m.live (need_of m.total) 0)

  pub blocks_say : blocks_fit owners i r ≡ true → (k : ℕ) → k < length r.messages → held_by (owner_of i k) owners ≡ message_blocks (message_at r k)
  unfolding blocks_fit message_blocks
  blocks_say e k h = eqb-true _ _ (each_at counts r.messages k no_reassembly e h)

  pub say_blocks : ((k : ℕ) → k < length r.messages → held_by (owner_of i k) owners ≡ message_blocks (message_at r k)) → blocks_fit owners i r ≡ true
  unfolding blocks_fit message_blocks
  say_blocks f = each_make counts r.messages no_reassembly (λ k h. eq-eqb _ _ (f k h))

  owned : (place : ℕ) (ms : List Reassembly) → all_from place counts ms ≡ true → held_by_all (owner_of i place) (length ms) owners ≡ held_in ms
  unfolding held_by_all held_in message_blocks
  owned place [] e = refl
  owned place (m ∷ ms) e =
      let p = and_both (counts place m) _ e in
      let here : held_by (owner_of i place) owners ≡ message_blocks m = eqb-true _ _ p.0 in
      let rest : held_by_all (suc (owner_of i place)) (length ms) owners ≡ held_in ms = ap (λ (n : ℕ). held_by_all n (length ms) owners) (sym (owner_next i place)) ∙ owned (suc place) ms p.1 in
      rw (here, rest)

  -- so a row's five owners have what the row holds
  pub row_owned : length r.messages ≡ 5 → blocks_fit owners i r ≡ true → held_by_all (owner_of i 0) 5 owners ≡ held_of r
  unfolding blocks_fit
  row_owned five e = ap (λ (n : ℕ). held_by_all (owner_of i 0) n owners) (sym five) ∙ owned 0 r.messages e

-- the needs in the book are what the row's messages hold
pub needs_held : (s : State) (i place : ℕ) (ms : List Reassembly) → needs_in (notes_from s i place ms) ≡ held_in ms
unfolding needs_in notes_from held_in message_blocks
needs_held s i place [] = refl
needs_held s i place (m ∷ ms) = rw (note_need s i place m, needs_held s i (suc place) ms)

-- an open session's page is read off its row
page_row : (s : State) (i : ℕ) (p : Page) → pages s i ≡ some p → (is_open s i ≡ true) × (p ≡ page_of s (index_of i s.link.rows) (get_or s.link.rows (index_of i s.link.rows) no_row))
page_row s i p e = let o : is_open s i ≡ true = shown s i ∙ ap there e in (o, cc (page_of_lem s i o))

-- an open session's row is in the table
pub open_index : (s : State) (i : ℕ) → is_open s i ≡ true → (i ≡ 0 → ⊥) × (index_of i s.link.rows < length s.link.rows)
unfolding is_open
open_index s i e =
    let p = and_both (not (eqb i 0)) (ltb (index_of i s.link.rows) (length s.link.rows)) e in
    ((λ z. true≢false (sym (eq-eqb i 0 z) ∙ not-true (eqb i 0) p.0)), ltb-true (index_of i s.link.rows) (length s.link.rows) p.1)

-- an open row's rules
pub record OpenRow (major i : ℕ) (owners : List ℕ) (r : Row) : Type 0 where
  pub blocks : blocks_fit owners i r ≡ true
  pub room : room_fits r ≡ true
  pub version : version_allowed major r.version ≡ true
  pub unsettled : unsettled_fits r ≡ true
  pub messages : all_from 0 (message_fits r) r.messages ≡ true

pub row_rules : (major i : ℕ) (owners : List ℕ) (r : Row) → row_fits major owners i r ≡ true → (r.id.0 ≡ 0 → ⊥) → OpenRow major i owners r
unfolding row_fits
row_rules major i owners r e n =
    let p = and_both (blocks_fit owners i r) _ e in
    let q : room_fits r && (version_allowed major r.version && (unsettled_fits r && all_from 0 (message_fits r) r.messages)) ≡ true = rw (ne_eqb r.id.0 0 n) at p.1 in
    let a = and_both (room_fits r) _ q in
    let b = and_both (version_allowed major r.version) _ a.1 in
    let c = and_both (unsettled_fits r) _ b.1 in
    record { blocks = p.0; room = a.0; version = b.0; unsettled = c.0; messages = c.1 }

-- "each open session holds exactly as many blocks as its messages in the book need, never more than its cap"; counted in the block map
pub holds : (s : State) (i : ℕ) (p : Page) → Sane s → pages s i ≡ some p → (blocks_of s i ≡ needs_of p) × (needs_of p ≤ p.cap)
unfolding blocks_of room_fits
holds s i p k e =
    let rs : List Row = s.link.rows in
    let n : ℕ = index_of i rs in
    let r : Row = get_or rs n no_row in
    let q = page_row s i p e in
    let o = open_index s i q.0 in
    let z : r.id.0 ≡ 0 → ⊥ = λ x. o.0 (sym (index_row i rs o.1) ∙ x) in
    let t : row_fits s.link.version.major s.link.owners n r ≡ true = row_fits_at s.link.version.major s.link.owners rs n (rules_say s.link k.rules).rows o.1 in
    let f : OpenRow s.link.version.major n s.link.owners r = row_rules s.link.version.major n s.link.owners r t z in
    let five : length r.messages ≡ 5 = five_at rs n k.five o.1 in
    let needs : needs_of p ≡ needs_in (notes_from s n 0 r.messages) = ap (λ (x : Page). needs_of x) q.1 in
    let cap : p.cap ≡ r.cap = ap (λ (x : Page). x.cap) q.1 in
    let a = and_both (leb r.guarantee r.cap) _ f.room in
    let b = and_both (leb r.cap 256) (leb (held_of r) r.cap) a.1 in
    (row_owned s.link.owners n r five f.blocks ∙ sym (needs_held s n 0 r.messages) ∙ sym needs, omega (arith, leb-true (held_of r) r.cap b.1, needs_held s n 0 r.messages))
