-- `headunit::free_row` meets its contract.
-- Assumes nothing.
use Prim.Native.Nat.{ℕ, ◌+◌, ◌≤◌, ◌<◌}
use mathlib.Core.Path.{◌≡◌, refl, ap, sym, ◌∙◌}
use mathlib.Core.Bool.{Bool, true, false, ◌&&◌}
use native.Mathlib.Omega.{arith}
use lib.Dec.{ltb}
use lib.ListN.{length}
use borrow.Author.Tests.{le-leb, lt-leb, le-ltb, lt-ltb}
use Rattle.std.specs.Prelude.{Option, Some, None, MatchOption}
use Rattle.session.specs.Rows.{no_session_id}
use Rattle.link.specs.declared.Link.{Link}
use Rattle.link.specs.declared.Grant.{Grant}
use Rattle.link.specs.State.{index_of, shares_in}
use Rattle.link.specs.Call.{admits}
use Rattle.state.specs.declared.RowNumber.{RowNumber}
use Rattle.rules.specs.Parts.{index_in}
use Rattle.rules.proofs.Ids.{index_ids}
use Rattle.headunit.specs.Unit.{FreeRow}
use Rattle.headunit.proofs.free_row.Goals as goal

and_no : (b : Bool) → b && false ≡ false
and_no true = refl
and_no false = refl

and_true : (b : Bool) → b && true ≡ b
and_true true = refl
and_true false = refl

-- by the room that is left
module _ (l : Link) (g : Grant) (shared guarantee : ℕ) (e : shared ≡ shares_in l.rows) (f : guarantee ≡ g.guarantee) where
  no_room : 256 < shared + guarantee → admits l.rows g ≡ false
  unfolding admits
  no_room h = rw (← e, ← f, lt-leb (shared + guarantee) 256 h) (and_no (ltb (index_of 0 l.rows) (length l.rows)))

  by_row : length l.rows ≡ 8 → shared + guarantee ≤ 256 → admits l.rows g ≡ ltb (index_of 0 l.rows) 8
  unfolding admits
  by_row eight h = rw (← e, ← f, le-leb (shared + guarantee) 256 h, eight) (and_true (ltb (index_of 0 l.rows) 8))

-- by the row that was found, where k is its number or 8
free_is : (l : Link) (g : Grant) (k : ℕ) (found : Option RowNumber) → k ≡ index_of 0 l.rows → admits l.rows g ≡ ltb (index_of 0 l.rows) 8
    → MatchOption found (k ≡ 8) (λ i. i.number ≡ k) → FreeRow l g found
free_is l g k None at e h = record {
  admitted = sym (e ∙ ap (λ (n : ℕ). ltb n 8) (sym at) ∙ le-ltb k 8 (omega (arith, h)));
  first = λ i q. absurd (cc);
}
free_is l g k (Some i) at e h =
    let below : i.number < 8 = i.below in
    record {
      admitted = sym (e ∙ ap (λ (n : ℕ). ltb n 8) (sym at) ∙ lt-ltb k 8 (omega (arith, h, below)));
      first = λ j q. let same : i ≡ j = cc in ap (λ (x : RowNumber). x.number) (sym same) ∙ h ∙ at;
    }

pub returns-then-seen-from-gt256 : goal.returns-then-seen-from-gt256
returns-then-seen-from-gt256 c = λ l s.
    record { admitted = sym (no_room l c.args.grant c.args.seen.shared c.from.result s.shares c.from.ensures c.if-seen-from-gt256.true); first = λ i q. absurd (cc) }

pub returns : goal.returns
returns c = λ l s.
    let at : index_in no_session_id c.args.seen.ids ≡ index_of 0 l.rows = ap (index_in no_session_id) s.names ∙ index_ids no_session_id l.rows in
    free_is l c.args.grant (index_in no_session_id c.args.seen.ids) c.index_of.result at
    (by_row l c.args.grant c.args.seen.shared c.from.result s.shares c.from.ensures s.eight c.if-seen-from-gt256.false) c.index_of.ensures
