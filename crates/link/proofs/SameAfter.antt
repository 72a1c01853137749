-- A call that names a session leads states that agree on it to states that agree on it, unless it closes the session or goes above its
-- guarantee: the page by the book, which sees one answer, the row by the one decision.
-- Assumes nothing.
use Prim.Native.Nat.{ℕ}
use mathlib.Core.Path.{◌≡◌, refl, ap, ◌∙◌, sym, subst}
use mathlib.Core.Logic.{⊎_elim}
use mathlib.Core.Bool.{Bool, true, false, true≢false, ◌&&◌, not}
use mathlib.Core.Option.{Option, none, some}
use mathlib.Core.List.{List}
use native.Mathlib.Omega.{arith}
use lib.Ieee.Bits.{is_true, is_false}
use lib.Dec.{T, eqb}
use lib.ListN.{get_or}
use borrow.Author.Tests.{eqb-true}
use Rattle.numbers.specs.Bytes.{pick}
use Rattle.numbers.proofs.Choices.{either, on_test}
use Rattle.frame.specs.declared.Header.{Header}
use Rattle.frame.specs.declared.Extent.{Extent}
use Rattle.frame.specs.declared.Reading.{Reading}
use Rattle.frame.specs.declared.Reading.TheVariants as reading
use Rattle.frame.specs.Read.{read_of}
use Rattle.session.specs.declared.Row.{Row}
use Rattle.session.specs.declared.Act.{Act}
use Rattle.session.specs.Rows.{no_row}
use Rattle.session.specs.Decide.{row_after}
use Rattle.link.specs.declared.Link.{Link}
use Rattle.link.specs.declared.Grant.{Grant}
use Rattle.link.specs.declared.Answer.{Answer}
use Rattle.link.specs.State.{index_of}
use Rattle.link.specs.Call.{After, opens}
use Rattle.link.specs.Book.{Request, Command, call, Event, Ask, single, first, next, end, other, Seen, opening, within, nothing, ask_of, seen_in, seen_of, is_ack, Page, Book, there, page_after_if, noted, book_after, names, ends_rpc, closes, shuts, ModestOn, ModestIn}
use Rattle.link.specs.Claim.{State, state_after, event_of, is_open}
use Rattle.link.specs.Pages.{row_of, pages, Sane}
use Rattle.link.proofs.Shown.{shown, row_open, row_is}
use Rattle.link.proofs.Holdings.{open_index}
use Rattle.link.proofs.Others.{after_id, moves}
use Rattle.link.proofs.PageAfter.{stored_row, gone_page}
use Rattle.link.proofs.BookAfter.{told}
use Rattle.link.proofs.Settings.{settings}
use Rattle.link.proofs.Answers.{decided_alike, same_answer}
use Rattle.link.proofs.Calls.{opens_zero, named, payload_in, row_act, row_call, two_calls}
use Rattle.link.proofs.Lists.{Alike}

-- ---- the book at one session

-- a page stays unless an End's ACK closes the session
stays_there : (o : Option Page) (ask : Ask) (a : Answer) (i : ℕ) → there o ≡ true → is_ack a && ends_rpc (within i ask) ≡ false → there (page_after_if o ask a) ≡ true
stays_there none ask a i t e = absurd (true≢false (sym t))
stays_there (some p) (single place x) a i t e = refl
stays_there (some p) (first place id total count) a i t e = refl
stays_there (some p) (next place id x) a i t e = refl
stays_there (some p) (end place) a i t e =
    let P : Option Page → Type 0 = λ y. there y ≡ true in
    either P (is_ack a) _ _ (λ u. either P (eqb place 1) _ _ (λ v. absurd (true≢false (rw (u, v) at e))) (λ _. refl)) (λ _. refl)
stays_there (some p) other a i t e = refl

-- the session stays in the book
book_there : (b : Book) (g : Grant) (a : Answer) (x : Seen) (i : ℕ) → there (b i) ≡ true → is_ack a && ends_rpc x ≡ false → there (noted b g a x i) ≡ true
book_there b g a opening i t e =
    either (λ (c : Book). there (c i) ≡ true) (is_ack a) _ b (λ _. either (λ (o : Option Page). there o ≡ true) (eqb _ i) _ _ (λ _. refl) (λ _. t)) (λ _. t)
book_there b g a (within j ask) i t e =
    either (λ (o : Option Page). there o ≡ true) (eqb j i) (page_after_if (b j) ask a) (b i)
    (λ u. stays_there (b j) ask a j (ap (λ (y : ℕ). there (b y)) (eqb-true j i u) ∙ t) e) (λ _. t)
book_there b g a nothing i t e = t

-- books that agree at a session agree there after a frame of any session
book_same : (b c : Book) (g : Grant) (a : Answer) (x : Seen) (i : ℕ) → (x ≡ opening → ⊥) → b i ≡ c i → noted b g a x i ≡ noted c g a x i
book_same b c g a opening i n e = absurd (n refl)
book_same b c g a (within j ask) i n e =
    on_test (λ (t : Bool). eqb j i ≡ t → pick t (page_after_if (b j) ask a) (b i) ≡ pick t (page_after_if (c j) ask a) (c i)) (eqb j i)
    (λ _ u. ap (λ (o : Option Page). page_after_if o ask a) (ap b (eqb-true j i u) ∙ e ∙ ap c (sym (eqb-true j i u)))) (λ _ _. e) refl
book_same b c g a nothing i n e = e

-- ---- the row after a decision

abbrev left : After → State
left w = record { link = w.link; pool = w.pool }

-- a session that is still open has the row that the decision makes
row_after_lem : (s : State) (q : Request) (h : Header) (e : Extent) (r : Row) → Sane s → row_of s h.session.0 ≡ some r → there (pages (left (row_call s q h e)) h.session.0) ≡ true
    → row_of (left (row_call s q h e)) h.session.0 ≡ some (row_after r h q.grant.hash (row_act s q h e))
row_after_lem s q h e r k found t =
    let i : ℕ = h.session.0 in
    let n : ℕ = index_of i s.link.rows in
    let act : Act = row_act s q h e in
    let old : Row = get_or s.link.rows n no_row in
    let o : is_open s i ≡ true = row_open s i r found in
    let v = moves s.link n s.pool q.out h e.consumed (payload_in q e) q.grant act in
    let pool : List ℕ = (row_call s q h e).pool in
    let x : Row = row_after old h q.grant.hash act in
    ⊎_elim
    (λ a. ap (λ (l : Link). row_of (record { link = l; pool = pool }) i) v.link ∙ stored_row s i k o x v.owners pool a)
    (λ z. absurd (true≢false (sym t ∙ ap (λ (l : Link). there (pages (record { link = l; pool = pool }) i)) v.link
    ∙ ap there (gone_page s i k o x v.owners pool z))))
    (after_id old h q.grant.hash act)
    ∙ ap (λ (y : Row). some (row_after y h q.grant.hash act)) (row_is s i r found)

-- ---- two states

module _ (s₁ s₂ : State) (q : Request) (k₁ : Sane s₁) (k₂ : Sane s₂) where
  -- one row in both, where the session is still open
  abbrev OneRow : ℕ → Seen → After → After → Type 0
  OneRow i seen w₁ w₂ =
      ModestOn (pages s₂ i) seen w₂.answer → there (pages (left w₁) i) ≡ true → there (pages (left w₂) i) ≡ true
      → (x : Row) × ((row_of (left w₁) i ≡ some x) × (row_of (left w₂) i ≡ some x))

  row_one : (h : Header) (e : Extent) → Alike h.session.0 s₁ s₂
      → OneRow h.session.0 (within h.session.0 (ask_of h (payload_in q e))) (row_call s₁ q h e) (row_call s₂ q h e)
  row_one h e a m t₁ t₂ =
      let r : Row = a.the_row in (
        _,
        (
          row_after_lem s₁ q h e r k₁ a.row₁ t₁ ∙ ap (λ (d : Act). some (row_after r h q.grant.hash d)) (decided_alike s₁ s₂ q k₁ k₂ h e a m),
          row_after_lem s₂ q h e r k₂ a.row₂ t₂,
        ),
      )

  -- a call that names an open session is no opening
  no_opening : (i : ℕ) → T (names i (call q)) → (i ≡ 0 → ⊥) → seen_of q.input ≡ opening → ⊥
  unfolding seen_of
  no_opening i t z = by_reading (read_of q.input) refl
    where
      by_reading : (x : Reading) → read_of q.input ≡ x → seen_in q.input x ≡ opening → ⊥
      by_reading (reading.Short n) f e = let w : ◌≡◌ {A = ℕ} 0 1 = cc in omega arith
      by_reading (reading.Refused n) f e = let w : ◌≡◌ {A = ℕ} 0 1 = cc in omega arith
      by_reading (reading.Frame h x) f e =
          either (λ (y : Seen). y ≡ opening → ⊥) (opens h) _ _ (λ o _. z (named q i h x f t ∙ opens_zero h o)) (λ _ y. let w : ◌≡◌ {A = ℕ} 0 1 = cc in omega arith) e

  -- no closing, in the words of the book
  not_closing : (i : ℕ) (e : Event) → T (names i e.command) → e.command ≡ call q → T (not (shuts i e)) → is_ack e.answer && ends_rpc (seen_of q.input) ≡ false
  unfolding shuts
  not_closing i e t c n = ap (λ (d : Command). closes d e.answer) (sym c) ∙ is_false (closes e.command e.answer) (rw (is_true (names i e.command) t) at n)

-- the law
pub same_after : (s₁ s₂ : State) (c : Command) (i : ℕ) → Sane s₁ → Sane s₂ → Alike i s₁ s₂ → T (names i c)
    → ModestIn (pages s₂ i) c (event_of s₂ c).answer → T (not (shuts i (event_of s₁ c))) → Alike i (state_after s₁ c) (state_after s₂ c)
same_after s₁ s₂ (call q) i k₁ k₂ a t m n =
    let c : Command = call q in
    let x : Seen = seen_of q.input in
    let o₁ : is_open s₁ i ≡ true = row_open s₁ i a.the_row a.row₁ in
    let o₂ : is_open s₂ i ≡ true = row_open s₂ i a.the_row a.row₂ in
    let b₁ : book_after (pages s₁) c (event_of s₁ c).answer ≡ pages (state_after s₁ c) = told s₁ c k₁ in
    let b₂ : book_after (pages s₂) c (event_of s₂ c).answer ≡ pages (state_after s₂ c) = told s₂ c k₂ in
    let alike : event_of s₂ c ≡ event_of s₁ c = same_answer s₁ s₂ c i k₁ k₂ a t m in
    let n₂ : T (not (shuts i (event_of s₂ c))) = subst (λ (e : Event). T (not (shuts i e))) (sym alike) n in
    let t₁ : there (pages (state_after s₁ c) i) ≡ true
    = ap (λ (b : Book). there (b i)) (sym b₁) ∙ book_there (pages s₁) q.grant (event_of s₁ c).answer x i (sym (shown s₁ i) ∙ o₁) (not_closing s₁ s₂ q k₁ k₂ i (event_of s₁ c) t refl n) in
    let t₂ : there (pages (state_after s₂ c) i) ≡ true
    = ap (λ (b : Book). there (b i)) (sym b₂) ∙ book_there (pages s₂) q.grant (event_of s₂ c).answer x i (sym (shown s₂ i) ∙ o₂) (not_closing s₁ s₂ q k₁ k₂ i (event_of s₂ c) t refl n₂) in
    let one = two_calls s₁ s₂ q k₁ k₂ (OneRow s₁ s₂ q k₁ k₂) (λ _ _ _ b _ _ _. (b.the_row, (b.row₁, b.row₂))) (λ h e _. row_one s₁ s₂ q k₁ k₂ h e) i t a m t₁ t₂ in
    record {
      the_row = one.0;
      row₁ = one.1.0;
      row₂ = one.1.1;
      page = ap (λ (b : Book). b i) (sym b₁)
          ∙ ap (λ (e : Event). book_after (pages s₁) c e.answer i) (sym alike)
          ∙ book_same (pages s₁) (pages s₂) q.grant (event_of s₂ c).answer x i (no_opening s₁ s₂ q k₁ k₂ i t (open_index s₁ i o₁).0) a.page
          ∙ ap (λ (b : Book). b i) b₂;
      version = (settings s₁ c).0 ∙ a.version ∙ sym (settings s₂ c).0;
      mtu = (settings s₁ c).1 ∙ a.mtu ∙ sym (settings s₂ c).1;
    }
