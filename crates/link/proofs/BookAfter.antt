-- The book after a call is the state's, session by session: the call's own session by its decision, an opening by its new row, and every
-- other one because nothing of it is touched.
-- Assumes nothing.
use Prim.Native.Nat.{ℕ, ◌-◌, ◌≤◌}
use mathlib.Core.Path.{◌≡◌, refl, ap, ◌∙◌, sym, fun_ext}
use mathlib.Core.Logic.{⊎_elim}
use mathlib.Core.Bool.{Bool, true, false}
use mathlib.Core.Option.{Option, none, some}
use mathlib.Core.List.{List}
use native.Mathlib.Omega.{arith}
use lib.Dec.{eqb, ltb}
use lib.ListN.{length, get_or}
use borrow.Author.Tests.{eqb-true, eqb-false, ltb-false, ne_eqb}
use Rattle.numbers.specs.Bytes.{pick, part}
use Rattle.numbers.proofs.Choices.{split, same_or_not, on_test}
use Rattle.frame.specs.declared.Header.{Header}
use Rattle.frame.proofs.ThereAndBack.{payload_length}
use Rattle.session.specs.declared.Row.{Row}
use Rattle.session.specs.declared.Act.{Act}
use Rattle.session.specs.Rows.{no_row}
use Rattle.link.specs.declared.Link.{Link}
use Rattle.link.specs.declared.Grant.{Grant}
use Rattle.link.specs.declared.Answer.TheVariants as answer
use Rattle.link.specs.State.{index_of, with_row, with_owners}
use Rattle.link.specs.Call.{After, admits, decision_of, applied}
use Rattle.link.specs.Book.{Request, Command, call, Ask, Seen, opening, within, nothing, ask_of, Page, Book, with_page, lowest_not_in, new_page, page_after_if, noted, book_after}
use Rattle.link.specs.Claim.{State, state_after, event_of, is_open}
use Rattle.link.specs.Pages.{note_of, notes_from, page_of, page_if, pages, Sane}
use Rattle.link.proofs.Table.{index_below, missing_set}
use Rattle.link.proofs.Decisions.{decided}
use Rattle.link.proofs.Calls.{new_row, entered, Called, short, refused, nacked, acked, in_row, called}
use Rattle.link.proofs.RowFacts.{open_facts}
use Rattle.link.proofs.Others.{after_id, moves, applied_leaves, entered_leaves}
use Rattle.link.proofs.Opens.{lowest_same, entered_row}
use Rattle.link.proofs.Shown.{is_open_lem, page_of_lem, closed_page, missing_closed}
use Rattle.link.proofs.PageAfter.{refused_page, tells}

-- the book with a page, at each id
page_at : (b c : Book) (i : ℕ) (p : Option Page) → p ≡ c i → ((j : ℕ) → (i ≡ j → ⊥) → b j ≡ c j) → (j : ℕ) → with_page b i p j ≡ c j
page_at b c i p e f j =
    on_test (λ (t : Bool). eqb i j ≡ t → pick t p (b j) ≡ c j) (eqb i j)
    (λ _ u. e ∙ ap c (eqb-true i j u)) (λ _ u. f j (eqb-false i j u)) refl

-- refusals but 24 and 25 leave the page
refused_if : (p : Option Page) (ask : Ask) (c : ℕ) → c ≤ 23 → page_after_if p ask (answer.Refused c) ≡ p
refused_if none ask c b = refl
refused_if (some p) ask c b = refused_page p ask c b

module _ (s : State) (k : Sane s) where
  abbrev after : After → State
  after w = record { link = w.link; pool = w.pool }

  -- the book after a call, at each id
  abbrev Tells : Grant → Seen → After → Type 0
  Tells g x w = (j : ℕ) → noted (pages s) g w.answer x j ≡ pages (after w) j

  -- ---- sessions that a call does not name

  closed_index : (j : ℕ) → is_open s j ≡ false → (j ≡ 0 → ⊥) → index_of j s.link.rows ≡ length s.link.rows
  unfolding is_open
  closed_index j e z =
      let f : ltb (index_of j s.link.rows) (length s.link.rows) ≡ false = rw (ne_eqb j 0 z) at e in
      omega (arith, ltb-false (index_of j s.link.rows) (length s.link.rows) f, index_below j s.link.rows)

  -- a row stored under another id opens no session
  stays_closed : (j m : ℕ) (x : Row) (owners pool : List ℕ) → is_open s j ≡ false → (x.id.0 ≡ j → j ≡ 0)
      → pages (record { link = with_owners (with_row s.link m x) owners; pool = pool }) j ≡ pages s j
  unfolding is_open
  stays_closed j m x owners pool e d =
      let t : State = record { link = with_owners (with_row s.link m x) owners; pool = pool } in
      let shut : is_open t j ≡ false = same_or_not j 0 (λ z. rw z) (λ z. missing_closed t j (missing_set j s.link.rows m x (closed_index j e z) (λ u. z (d u)))) in
      closed_page t j shut ∙ sym (closed_page s j e)

  -- a decision leaves the other sessions' pages: those of open sessions, and no other one opens
  others_kept : (i n : ℕ) (q : Request) (h : Header) (consumed : ℕ) (payload : List ℕ) (act : Act) → (get_or s.link.rows n no_row).id.0 ≡ i → (j : ℕ) → (i ≡ j → ⊥)
      → pages (after (applied s.link n s.pool q.out h consumed payload q.grant act)) j ≡ pages s j
  others_kept i n q h consumed payload act mine j d =
      let w : After = applied s.link n s.pool q.out h consumed payload q.grant act in
      let v = moves s.link n s.pool q.out h consumed payload q.grant act in
      split (is_open s j)
      (λ o. (applied_leaves s j k o n h consumed payload q.grant q.out act (λ e. d (sym mine ∙ e))).1)
      (λ o. ap (λ (l : Link). pages (record { link = l; pool = w.pool }) j) v.link ∙ stays_closed j n _ v.owners w.pool o
      (λ e. ⊎_elim (λ a. absurd (d (sym mine ∙ sym a ∙ e))) (λ b. sym e ∙ b) (after_id (get_or s.link.rows n no_row) h q.grant.hash act)))

  module _ (q : Request) where
    -- a new session's page is empty
    new-page : (t : State) (n v : ℕ) → page_of t n (new_row s.link q.grant v) ≡ new_page q.grant
    unfolding notes_from note_of
    new-page t n v = refl

    enters : (v : ℕ) → admits s.link.rows q.grant ≡ true
        → (j : ℕ) → with_page (pages s) (lowest_not_in (pages s) 255 1) (some (new_page q.grant)) j ≡ pages (record { link = entered s.link q.grant v; pool = s.pool }) j
    unfolding pages
    enters v e =
        let t : State = record { link = entered s.link q.grant v; pool = s.pool } in
        let i : ℕ = lowest_not_in (pages s) 255 1 in
        page_at (pages s) (pages t) i _
        (sym (ap (λ (o : Option Row). page_if t (index_of i t.link.rows) o) (entered_row s q.grant v k e) ∙ ap some (new-page t (index_of i t.link.rows) v)))
        (λ j d. sym (split (is_open s j)
        (λ o. (entered_leaves s j k o q.grant v e).1)
        (λ o. stays_closed j (index_of 0 s.link.rows) (new_row s.link q.grant v) s.link.owners s.pool o (λ u. absurd (d (lowest_same s ∙ u))))))

    -- every call is noted as it is
    call-tells : {x : Seen} {w : After} → Called s.link s.pool q.input q.out q.grant x w → Tells q.grant x w
    call-tells short = λ j. refl
    call-tells (refused {x = opening} b) = λ j. refl
    call-tells (refused {x = within i ask} b) = page_at (pages s) (pages s) i _ (refused_if (pages s i) ask _ b) (λ j _. refl)
    call-tells (refused {x = nothing} b) = λ j. refl
    call-tells nacked = λ j. refl
    call-tells (acked t a v) = enters _ a
    call-tells (in_row h e f t b a) =
        let i : ℕ = h.session.0 in
        let n : ℕ = index_of i s.link.rows in
        let payload : List ℕ = part q.input e.start (e.end - e.start) in
        let act : Act = decision_of s.link n h payload (length q.out) in
        let w : After = applied s.link n s.pool q.out h e.consumed payload q.grant act in
        let o : is_open s i ≡ true = is_open_lem s i a in
        page_at (pages s) (pages (after w)) i _
        (ap (λ (p : Option Page). page_after_if p (ask_of h payload) w.answer) (page_of_lem s i o)
        ∙ tells s i k o q h e.consumed payload (payload_length q.input h e f) (decided s.link n h payload (length q.out)))
        (λ j d. sym (others_kept i n q h e.consumed payload act (open_facts s i k o).mine j d))

-- the law
pub told : (s : State) (c : Command) → Sane s → book_after (pages s) c (event_of s c).answer ≡ pages (state_after s c)
told s (call q) k = fun_ext (call-tells s k q (called s.link s.pool q.input q.out q.grant))
