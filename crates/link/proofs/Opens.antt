-- An opening's ACK enters a row under the lowest id that is not open, which is the lowest not in the book. By cases of the call, of which only
-- the admitted opening answers so.
-- Assumes nothing.
use Prim.Native.Nat.{ℕ, ◌≤◌, ◌<◌}
use mathlib.Core.Path.{◌≡◌, refl, ◌∙◌, sym, subst}
use mathlib.Core.Bool.{true}
use mathlib.Core.Option.{some}
use mathlib.Core.List.{List}
use native.Mathlib.Omega.{arith}
use lib.Dec.{T, ltb}
use lib.ListN.{length, set, length-set}
use lib.Seq.{get_or-set_same}
use borrow.Author.Tests.{lt-ltb, ne_eqb}
use Rattle.session.specs.declared.Row.{Row}
use Rattle.session.specs.Rows.{no_row}
use Rattle.link.specs.declared.Grant.{Grant}
use Rattle.link.specs.State.{index_of, lowest_free}
use Rattle.link.specs.Call.{After, admits}
use Rattle.link.specs.Book.{Request, Command, call, Seen, opening, is_ack, there, lowest_not_in}
use Rattle.link.specs.Claim.{State, stepped, state_after, event_of, is_open, seen_by}
use Rattle.link.specs.Pages.{row_of, pages, Sane}
use Rattle.link.proofs.Calls.{new_row, entered, admitted, Called, refused, nacked, acked, called}
use Rattle.link.proofs.Shown.{shown}
use Rattle.link.proofs.Table.{index_set_new, lowest_of_eight, lowest_book}

-- a session that is open has its id in a row
there_row : (s : State) (i : ℕ) → 1 ≤ i → there (pages s i) ≡ ltb (index_of i s.link.rows) (length s.link.rows)
unfolding is_open
there_row s i h = sym (shown s i) ∙ rw (ne_eqb i 0 (λ z. omega arith))

-- the lowest id not in the book is the lowest not in a row
pub lowest_same : (s : State) → lowest_not_in (pages s) 255 1 ≡ lowest_free 255 1 s.link.rows
lowest_same s = lowest_book (pages s) s.link.rows (λ i h. there_row s i h) 255 1 (omega arith)

-- a new session's row is found under that id
pub entered_row : (s : State) (g : Grant) (v : ℕ) → Sane s → admits s.link.rows g ≡ true
    → row_of (record { link = entered s.link g v; pool = s.pool }) (lowest_not_in (pages s) 255 1) ≡ some (new_row s.link g v)
unfolding row_of is_open
entered_row s g v k a =
    let rs : List Row = s.link.rows in
    let r : Row = new_row s.link g v in
    let n : ℕ = index_of 0 rs in
    let i : ℕ = lowest_free 255 1 rs in
    let h : n < length rs = (admitted rs g a).0 in
    let low = lowest_of_eight rs k.rows in
    let at : index_of i (set rs n r) ≡ n = index_set_new i rs n r h low.unused refl in
    let len : length (set rs n r) ≡ length rs = length-set rs n r in
    rw (lowest_same s, at, len, ne_eqb i 0 (λ z. omega (arith, low.from)), lt-ltb n (length rs) h, get_or-set_same rs n r no_row h)

-- what the state after a call owes, where its answer is an ACK
abbrev Enters : State → After → Type 0
Enters s w = T (is_ack w.answer) → (r : Row) × (row_of (record { link = w.link; pool = w.pool }) (lowest_not_in (pages s) 255 1) ≡ some r)

enters : (s : State) (q : Request) → Sane s → {w : After} → Called s.link s.pool q.input q.out q.grant opening w → Enters s w
enters s q k (refused b) = λ z. absurd z
enters s q k nacked = λ z. absurd z
enters s q k (acked t a v) = λ _. (_, entered_row s q.grant _ k a)

-- the law
pub opens_row : (s : State) (o : Command) → Sane s → seen_by o ≡ opening → T (is_ack (event_of s o).answer)
    → (r : Row) × (row_of (state_after s o) (lowest_not_in (pages s) 255 1) ≡ some r)
opens_row s (call q) k e =
    enters s q k (subst (λ (x : Seen). Called s.link s.pool q.input q.out q.grant x (stepped s q)) e (called s.link s.pool q.input q.out q.grant))
