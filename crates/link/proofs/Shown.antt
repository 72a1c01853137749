-- What a state shows: the rules, one by one, its open sessions, their rows and their pages. By the definitions, taken apart.
-- Assumes nothing.
use Prim.Native.Nat.{ℕ, ◌+◌, ◌≤◌}
use mathlib.Core.Path.{◌≡◌, refl}
use mathlib.Core.Bool.{Bool, true, false, ◌&&◌, and-false, not}
use mathlib.Core.Option.{none, some}
use native.Mathlib.Omega.{arith}
use lib.Dec.{eqb, leb, ltb}
use lib.ListN.{length, get_or}
use borrow.Author.Tests.{eqb-true, leb-true, eq-eqb, le-leb, le-ltb}
use Rattle.numbers.specs.Bytes.{pick}
use Rattle.numbers.proofs.Choices.{and_both, on_test}
use Rattle.blocks.specs.Map.{held_by_all, free_in}
use Rattle.session.specs.declared.Row.{Row}
use Rattle.session.specs.Rows.{no_row}
use Rattle.link.specs.declared.Link.{Link}
use Rattle.link.specs.State.{index_of, distinct_ids, all_from, row_fits, shares_in, rules_hold}
use Rattle.link.specs.Book.{there}
use Rattle.link.specs.Claim.{State, is_open}
use Rattle.link.specs.Pages.{row_of, page_of, page_if, pages}

-- the state rules, one by one
pub record Rules (l : Link) : Type 0 where
  pub ids : distinct_ids l.rows ≡ true
  pub rows : all_from 0 (row_fits l.version.major l.owners) l.rows ≡ true
  pub shares : shares_in l.rows ≤ 256
  pub blocks : held_by_all 1 40 l.owners + free_in l.owners ≡ 256

pub rules_say : (l : Link) → rules_hold l ≡ true → Rules l
unfolding rules_hold
rules_say l e =
    let p = and_both (distinct_ids l.rows) _ e in
    let q = and_both (all_from 0 (row_fits l.version.major l.owners) l.rows) _ p.1 in
    let r = and_both (leb (shares_in l.rows) 256) (eqb (held_by_all 1 40 l.owners + free_in l.owners) 256) q.1 in
    record {
      ids = p.0;
      rows = q.0;
      shares = leb-true (shares_in l.rows) 256 r.0;
      blocks = eqb-true (held_by_all 1 40 l.owners + free_in l.owners) 256 r.1;
    }

pub say_rules : (l : Link) → Rules l → rules_hold l ≡ true
unfolding rules_hold
say_rules l g = rw (g.ids, g.rows, le-leb (shares_in l.rows) 256 g.shares, eq-eqb (held_by_all 1 40 l.owners + free_in l.owners) 256 g.blocks)

-- the open sessions are those that have a page
pub shown : (s : State) (i : ℕ) → is_open s i ≡ there (pages s i)
unfolding pages row_of
shown s i =
    let n : ℕ = index_of i s.link.rows in
    on_test (λ (b : Bool). b ≡ there (page_if s n (pick b (some (get_or s.link.rows n no_row)) none))) (is_open s i) (λ _. refl) (λ _. refl)

-- ---- an open session

-- the test of a call
pub is_open_lem : (s : State) (i : ℕ) → not (eqb i 0) && ltb (index_of i s.link.rows) (length s.link.rows) ≡ true → is_open s i ≡ true
unfolding is_open
is_open_lem s i e = e

picked : {A : Type 0} (b : Bool) (x y : A) → pick b (some x) none ≡ some y → (b ≡ true) × (x ≡ y)
picked true x y e = (refl, cc)
picked false x y e = let z : ◌≡◌ {A = ℕ} 0 1 = cc in absurd (omega arith)

-- it has a row, the one that its id leads to
pub row_open : (s : State) (i : ℕ) (r : Row) → row_of s i ≡ some r → is_open s i ≡ true
unfolding row_of
row_open s i r e = (picked (is_open s i) _ r e).0

pub open_row : (s : State) (i : ℕ) → is_open s i ≡ true → row_of s i ≡ some (get_or s.link.rows (index_of i s.link.rows) no_row)
unfolding row_of
open_row s i e = rw e

pub row_is : (s : State) (i : ℕ) (r : Row) → row_of s i ≡ some r → get_or s.link.rows (index_of i s.link.rows) no_row ≡ r
unfolding row_of
row_is s i r e = (picked (is_open s i) _ r e).1

-- and a page, read off that row
pub page_of_lem : (s : State) (i : ℕ) → is_open s i ≡ true → pages s i ≡ some (page_of s (index_of i s.link.rows) (get_or s.link.rows (index_of i s.link.rows) no_row))
unfolding pages row_of
page_of_lem s i e = rw e

-- ---- a session that is not open

-- it has no page
pub closed_page : (t : State) (i : ℕ) → is_open t i ≡ false → pages t i ≡ none
unfolding pages row_of
closed_page t i e = rw e

-- its id may be in no row
pub missing_closed : (t : State) (i : ℕ) → index_of i t.link.rows ≡ length t.link.rows → is_open t i ≡ false
unfolding is_open
missing_closed t i e = let n : ℕ = length t.link.rows in rw (e, le-ltb n n (omega arith), and-false)
