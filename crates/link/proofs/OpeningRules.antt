-- An opening keeps the state rules: the new row stands in a free one's place, under an id that no row has, and holds nothing.
-- Assumes nothing.
use mathlib.Core.Path.{◌≡◌, refl, sym, ap, subst, ◌∙◌}
use Prim.Native.Nat.{ℕ, ◌≤◌, ◌<◌, min}
use native.Mathlib.Omega.{arith}
use mathlib.Core.Bool.{true, false, ◌&&◌, ◌||◌, not}
use mathlib.Core.List.{List}
use lib.Dec.{eqb, leb}
use lib.ListN.{length, get_or, get_or-replicate}
use borrow.Author.Tests.{eq-eqb, leb-true, le-leb, not-true}
use Rattle.numbers.proofs.Choices.{and_both, either}
use Rattle.blocks.specs.Map.{held_by}
use Rattle.frame.specs.declared.SessionId.{SessionId}
use Rattle.session.specs.declared.Reassembly.{Reassembly}
use Rattle.session.specs.declared.Row.{Row}
use Rattle.session.specs.Rows.{no_row, no_reassembly, opened_row, message_at}
use Rattle.session.specs.Decide.{message_blocks, held_in}
use Rattle.link.specs.declared.Link.{Link}
use Rattle.link.specs.declared.Grant.{Grant}
use Rattle.link.specs.State.{all, index_of, owner_of, version_allowed, blocks_fit, free_fits, row_fits, rules_hold, grant_fits, with_row, lowest_free}
use Rattle.link.specs.Call.{admits, old_version}
use Rattle.link.specs.Pages.{FiveEach}
use Rattle.link.proofs.Each.{all_at}
use Rattle.link.proofs.Shown.{rules_say, say_rules}
use Rattle.link.proofs.Table.{index_row, index_missing, shares_set, distinct_set, lowest_of_eight, lowest_between, opened_held}
use Rattle.link.proofs.Calls.{admitted}
use Rattle.link.proofs.Holdings.{five_at, row_fits_at, blocks_say, say_blocks}
use Rattle.link.proofs.RowFacts.{runs_at, Fits, fits_none, RowFacts, facts_fit}
use Rattle.link.proofs.RowRules.{held_idle}
use Rattle.link.proofs.TableRules.{rows_set}

-- the versions that an opening gives are allowed
pub old_allowed : (major : ℕ) → 1 ≤ major → version_allowed major (old_version major) ≡ true
unfolding version_allowed old_version
old_allowed major h =
    either (λ (v : ℕ). leb v (min major 4) || (eqb major 5 && eqb v 5) ≡ true) (eqb major 1) 1 0
    (λ _. rw (le-leb 1 (min major 4) (omega arith))) (λ _. rw (le-leb 0 (min major 4) (omega arith)))

pub new_allowed : version_allowed 5 5 ≡ true
unfolding version_allowed
new_allowed = refl

-- a new row keeps the rules of a row
opened_facts : (major : ℕ) (i : SessionId) (g c v hash : ℕ) → g ≤ c → c ≤ 256 → version_allowed major v ≡ true → RowFacts major (opened_row i g c v hash)
unfolding held_in message_blocks
opened_facts major i g c v hash a b e = record {
  offer = a;
  most = b;
  within = omega arith;
  allowed = e;
  unsettled = λ _ k h. ap (λ (m : Reassembly). m.live) (get_or-replicate 5 k no_reassembly no_reassembly h);
  messages = λ k h. subst (Fits (runs_at (opened_row i g c v hash) k)) (sym (get_or-replicate 5 k no_reassembly no_reassembly h)) (fits_none _);
  five = refl;
}

-- a free row has no open message
pub free_idle : (major : ℕ) (owners : List ℕ) (k : ℕ) (r : Row) → r.id.0 ≡ 0 → row_fits major owners k r ≡ true → all (λ (m : Reassembly). not m.live) r.messages ≡ true
unfolding row_fits free_fits
free_idle major owners k r z e =
    let p = and_both (blocks_fit owners k r) _ e in
    let t : eqb r.guarantee 0 && (eqb r.cap 0 && all (λ (m : Reassembly). not m.live) r.messages) ≡ true = rw (eq-eqb r.id.0 0 z) at p.1 in
    (and_both (eqb r.cap 0) _ (and_both (eqb r.guarantee 0) _ t).1).1

-- and no blocks
free_blocks : (major : ℕ) (owners : List ℕ) (k : ℕ) (r : Row) → r.id.0 ≡ 0 → row_fits major owners k r ≡ true → (q : ℕ) → q < length r.messages → held_by (owner_of k q) owners ≡ 0
unfolding row_fits
free_blocks major owners k r z e q h =
    let n : (message_at r q).live ≡ false = not-true (message_at r q).live (all_at (λ (m : Reassembly). not m.live) r.messages q no_reassembly (free_idle major owners k r z e) h) in
    blocks_say owners k r (and_both (blocks_fit owners k r) _ e).0 q h ∙ held_idle (message_at r q) n

-- the state rules hold after an opening that is admitted
pub opened_rules : (l : Link) (g : Grant) (v : ℕ) → length l.rows ≡ 8 → FiveEach l.rows → rules_hold l ≡ true → grant_fits g ≡ true → admits l.rows g ≡ true
    → version_allowed l.version.major v ≡ true
    → rules_hold (with_row l (index_of 0 l.rows) (opened_row (record { 0 = lowest_free 255 1 l.rows }) g.guarantee g.cap v g.hash)) ≡ true
unfolding grant_fits
opened_rules l g v eight five e f w a =
    let rs : List Row = l.rows in
    let k : ℕ = index_of 0 rs in
    let i : SessionId = record { 0 = lowest_free 255 1 rs } in
    let r : Row = opened_row i g.guarantee g.cap v g.hash in
    let major : ℕ = l.version.major in
    let rules = rules_say l e in
    let q = and_both (leb g.guarantee g.cap) (leb g.cap 256) f in
    let b : k < length rs = (admitted rs g w).0 in
    let old : row_fits major l.owners k (get_or rs k no_row) ≡ true = row_fits_at major l.owners rs k rules.rows b in
    let facts : RowFacts major r = opened_facts major i g.guarantee g.cap v g.hash (leb-true g.guarantee g.cap q.0) (leb-true g.cap 256 q.1) a in
    let new : row_fits major l.owners k r ≡ true
    = facts_fit major k l.owners r facts (λ y. omega (arith, (lowest_between rs eight).0)) (say_blocks l.owners k r (λ j h.
    free_blocks major l.owners k (get_or rs k no_row) (index_row 0 rs b) old j (omega (arith, five_at rs k five b))
    ∙ sym (ap message_blocks (get_or-replicate 5 j no_reassembly no_reassembly h) ∙ held_idle no_reassembly refl))) in
    say_rules (with_row l k r) (record {
      ids = distinct_set rs k r (λ _ j h _. index_missing i.0 rs (lowest_of_eight rs eight).unused j h) rules.ids;
      rows = rows_set major l.owners l.owners rs k r b new (λ j h n t. t) rules.rows;
      shares = omega (arith, opened_held i g.guarantee g.cap v g.hash, shares_set rs k r b, (admitted rs g w).1);
      blocks = rules.blocks;
    })
