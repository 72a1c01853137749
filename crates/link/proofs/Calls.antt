-- A call, by its cases: what the book sees in its input, and what it leaves; for one state, and for two that agree on the session that it names. The
-- definition's tests are walked here once; every law about one call goes by these cases.
-- Assumes nothing.
use Prim.Native.Nat.{ℕ, ◌+◌, ◌-◌, ◌≤◌, ◌<◌}
use mathlib.Core.Path.{◌≡◌, refl, sym, subst, ◌∙◌}
use mathlib.Core.Logic.{◌⊎◌, inl, inr}
use mathlib.Core.Bool.{Bool, true, false, ◌&&◌, and-true, not}
use mathlib.Core.List.{List}
use native.Mathlib.Omega.{arith}
use lib.Dec.{T, eqb, ltb, leb}
use lib.Ieee.Bits.{is_true}
use lib.ListN.{length, get_or}
use borrow.Author.Tests.{eqb-true, leb-true, ltb-true}
use Rattle.numbers.specs.Bytes.{pick, unless, part}
use Rattle.numbers.proofs.Choices.{and_both, unless_elim}
use Rattle.frame.specs.declared.Header.{Header}
use Rattle.frame.specs.declared.Extent.{Extent}
use Rattle.frame.specs.declared.Reading.{Reading}
use Rattle.frame.specs.declared.Reading.TheVariants as reading
use Rattle.frame.specs.Read.{front_of, read_of}
use Rattle.frame.proofs.Laws.{fault_most}
use Rattle.frame.proofs.Answers.{is_refused, session_fourth}
use Rattle.payload.specs.declared.version.Version.{Version}
use Rattle.session.specs.declared.Row.{Row}
use Rattle.session.specs.declared.Act.{Act}
use Rattle.session.specs.Rows.{opened_row}
use Rattle.link.specs.declared.Link.{Link}
use Rattle.link.specs.declared.Grant.{Grant}
use Rattle.link.specs.declared.Answer.{Answer}
use Rattle.link.specs.declared.Answer.TheVariants as answer
use Rattle.link.specs.State.{index_of, shares_in, grant_fits, guard_of, with_row, lowest_free}
use Rattle.link.specs.Call.{After, after, Wish, old, new, bad, wish_of, opens, admits, old_version, opening_by, decision_of, applied, frame_of, reading_of, call_of}
use Rattle.link.specs.Book.{Request, call, Seen, opening, within, nothing, ask_of, seen_in, seen_of, names}
use Rattle.link.specs.Claim.{State, stepped, is_open}
use Rattle.link.specs.Pages.{Sane}
use Rattle.link.proofs.Lists.{Alike}
use Rattle.link.proofs.Shown.{row_open}
use Rattle.link.proofs.Holdings.{open_index}
use Rattle.link.proofs.Decisions.{both_by}

-- ---- one state

-- only a link of version 5 grants a new version
new_five : (major : ℕ) (payload : List ℕ) (v : Version) → wish_of major payload ≡ new v → major ≡ 5
unfolding wish_of
new_five major payload v =
    unless_elim (λ (w : Wish). w ≡ new v → major ≡ 5) (eqb major 5) old _ (λ _ e. let z : ◌≡◌ {A = ℕ} 0 1 = cc in absurd (omega arith)) (λ t _. eqb-true major 5 t)

-- the row of a new session, and the link with it
abbrev pub new_row : Link → Grant → ℕ → Row
new_row l g v = opened_row (record { 0 = lowest_free 255 1 l.rows }) g.guarantee g.cap v g.hash

abbrev pub entered : Link → Grant → ℕ → Link
entered l g v = with_row l (index_of 0 l.rows) (new_row l g v)

-- an opening that is admitted has a free row and room
pub admitted : (rs : List Row) (g : Grant) → admits rs g ≡ true → (index_of 0 rs < length rs) × (shares_in rs + g.guarantee ≤ 256)
unfolding admits
admitted rs g e =
    let u = and_both (ltb (index_of 0 rs) (length rs)) (leb (shares_in rs + g.guarantee) 256) e in
    (ltb-true (index_of 0 rs) (length rs) u.0, leb-true (shares_in rs + g.guarantee) 256 u.1)

module _ (l : Link) (p s o : List ℕ) (g : Grant) where
  abbrev payload : Extent → List ℕ
  payload e = part s e.start (e.end - e.start)

  abbrev index : Header → ℕ
  index h = index_of h.session.0 l.rows

  -- what is seen, and what the call leaves
  pub data Called : Seen → After → Type 0 where
    short : {n : ℕ} → Called nothing (after (answer.Short n) l p o)
    -- 1 to 6 and 10 to 12
    refused : {x : Seen} {n : ℕ} → n ≤ 23 → Called x (after (answer.Refused n) l p o)
    -- openings
    nacked : {c n : ℕ} {out : List ℕ} → Called opening (after (answer.Nacked c n) l p out)
    acked : {c n v : ℕ} {out : List ℕ} → guard_of l (length p) g ≡ true → admits l.rows g ≡ true
        → (v ≡ old_version l.version.major) ⊎ ((v ≡ 5) × (l.version.major ≡ 5)) → Called opening (after (answer.Acked c n) (entered l g v) p out)
    -- a frame of an open session: the decision on its row
    in_row : (h : Header) (e : Extent) → read_of s ≡ reading.Frame h e → guard_of l (length p) g ≡ true → 128 ≤ length o
        → not (eqb h.session.0 0) && ltb (index h) (length l.rows) ≡ true
        → Called (within h.session.0 (ask_of h (payload e))) (applied l (index h) p o h e.consumed (payload e) g (decision_of l (index h) h (payload e) (length o)))

  opening_called : (consumed : ℕ) (bytes : List ℕ) → guard_of l (length p) g ≡ true → (w : Wish) → wish_of l.version.major bytes ≡ w → Called opening (opening_by l p o consumed g w)
  opening_called consumed bytes t bad e = nacked
  opening_called consumed bytes t old e = unless_elim (Called opening) (admits l.rows g) _ _ (λ _. nacked) (λ a. acked t a (inl refl))
  opening_called consumed bytes t (new v) e = unless_elim (Called opening) (admits l.rows g) _ _ (λ _. nacked) (λ a. acked t a (inr (refl, new_five l.version.major bytes v e)))

  reading_called : guard_of l (length p) g ≡ true → (x : Reading) → read_of s ≡ x → Called (seen_in s x) (reading_of l p s o g x)
  unfolding frame_of
  reading_called t (reading.Short n) f = short
  reading_called t (reading.Refused n) f = refused {n = n} (omega (arith, (is_refused s n f).fault, fault_most (front_of s)))
  reading_called t (reading.Frame h e) f =
      unless_elim (Called _) (leb 128 (length o)) _ _ (λ _. refused {n = 11} (omega arith)) λ space.
      both_by Called (opens h) _ _ _ _ (λ _. opening_called e.consumed (payload e) t (wish_of l.version.major (payload e)) refl) λ _.
      unless_elim (Called _) (not (eqb h.session.0 0) && ltb (index h) (length l.rows)) _ _ (λ _. refused {n = 12} (omega arith))
      (λ a. in_row h e f t (leb-true 128 (length o) space) a)

  -- the call is one of them
  pub called : Called (seen_of s) (call_of l p s o g)
  unfolding call_of seen_of
  called = unless_elim (Called _) (guard_of l (length p) g) _ _ (λ _. refused {n = 10} (omega arith)) (λ t. reading_called t (read_of s) refl)

-- ---- two states

-- in a state within the rules, 10 is refused for the offer alone
pub guard_is : (s : State) (g : Grant) → Sane s → guard_of s.link (length s.pool) g ≡ grant_fits g
unfolding guard_of
guard_is s g k = rw (k.pool, k.settings, k.rules, and-true)

pub open_test : (s : State) (i : ℕ) → is_open s i ≡ true → not (eqb i 0) && ltb (index_of i s.link.rows) (length s.link.rows) ≡ true
unfolding is_open
open_test s i e = e

-- an opening names session 0
pub opens_zero : (h : Header) → opens h ≡ true → h.session.0 ≡ 0
unfolding opens
opens_zero h e =
    let a = and_both (eqb h.version 1) _ e in
    let b = and_both (eqb h.kind 0) _ a.1 in
    let c = and_both (eqb h.service.0 0x07) _ b.1 in
    eqb-true h.session.0 0 (and_both (eqb h.info 0x01) (eqb h.session.0 0) c.1).1

-- a frame names the session whose id is its fourth byte
pub named : (q : Request) (i : ℕ) (h : Header) (e : Extent) → read_of q.input ≡ reading.Frame h e → T (names i (call q)) → i ≡ h.session.0
named q i h e f t = sym (session_fourth q.input h e f ∙ eqb-true (get_or q.input 3 0) i (and_both (ltb 3 (length q.input)) _ (is_true _ t)).1)

-- tests that two and three choices share
pub two_unless : {A B : Type 0} (P : A → B → Type 0) (b : Bool) (x y : A) (u v : B) → (b ≡ false → P x u) → (b ≡ true → P y v) → P (unless b x y) (unless b u v)
two_unless P true x y u v f g = g refl
two_unless P false x y u v f g = f refl

three_by : {A B C : Type 0} (P : A → B → C → Type 0) (b : Bool) (x y : A) (u v : B) (s t : C) → (b ≡ true → P x u s) → (b ≡ false → P y v t) → P (pick b x y) (pick b u v) (pick b s t)
three_by P true x y u v s t f g = f refl
three_by P false x y u v s t f g = g refl

-- a frame's payload, the decision on a frame of a session, and what it leaves
abbrev pub payload_in : Request → Extent → List ℕ
payload_in q e = part q.input e.start (e.end - e.start)

abbrev pub row_act : State → Request → Header → Extent → Act
row_act s q h e = decision_of s.link (index_of h.session.0 s.link.rows) h (payload_in q e) (length q.out)

abbrev pub row_call : State → Request → Header → Extent → After
row_call s q h e = applied s.link (index_of h.session.0 s.link.rows) s.pool q.out h e.consumed (payload_in q e) q.grant (row_act s q h e)

-- a call that names a session on which both states agree: both leave all as it was, with one answer, or both decide on its row
module _ (s₁ s₂ : State) (q : Request) (k₁ : Sane s₁) (k₂ : Sane s₂) (P : ℕ → Seen → After → After → Type 0)
    (same : (i : ℕ) (x : Seen) (a : Answer) → Alike i s₁ s₂ → P i x (after a s₁.link s₁.pool q.out) (after a s₂.link s₂.pool q.out))
    (row : (h : Header) (e : Extent) → read_of q.input ≡ reading.Frame h e → Alike h.session.0 s₁ s₂
    → P h.session.0 (within h.session.0 (ask_of h (payload_in q e))) (row_call s₁ q h e) (row_call s₂ q h e)) where
  two_frames : (h : Header) (e : Extent) → read_of q.input ≡ reading.Frame h e → Alike h.session.0 s₁ s₂
      → P h.session.0 (seen_in q.input (reading.Frame h e))
      (frame_of s₁.link s₁.pool q.input q.out h e q.grant) (frame_of s₂.link s₂.pool q.input q.out h e q.grant)
  unfolding frame_of
  two_frames h e f a =
      let i : ℕ = h.session.0 in
      let o₁ : is_open s₁ i ≡ true = row_open s₁ i a.the_row a.row₁ in
      let o₂ : is_open s₂ i ≡ true = row_open s₂ i a.the_row a.row₂ in
      two_unless (P i _) (leb 128 (length q.out)) _ _ _ _ (λ _. same i _ _ a) λ _.
      three_by (P i) (opens h) _ _ _ _ _ _ (λ z. absurd ((open_index s₁ i o₁).0 (opens_zero h z))) λ _.
      rw (open_test s₁ i o₁, open_test s₂ i o₂) (row h e f a)

  two_readings : (i : ℕ) → T (names i (call q)) → Alike i s₁ s₂ → (x : Reading) → read_of q.input ≡ x
      → P i (seen_in q.input x) (reading_of s₁.link s₁.pool q.input q.out q.grant x) (reading_of s₂.link s₂.pool q.input q.out q.grant x)
  two_readings i t a (reading.Short n) f = same i _ _ a
  two_readings i t a (reading.Refused n) f = same i _ _ a
  two_readings i t a (reading.Frame h e) f =
      let z : i ≡ h.session.0 = named q i h e f t in
      subst (λ (j : ℕ). P j (seen_in q.input (reading.Frame h e)) (reading_of s₁.link s₁.pool q.input q.out q.grant (reading.Frame h e))
      (reading_of s₂.link s₂.pool q.input q.out q.grant (reading.Frame h e)))
      (sym z) (two_frames h e f (subst (λ (j : ℕ). Alike j s₁ s₂) z a))

  pub two_calls : (i : ℕ) → T (names i (call q)) → Alike i s₁ s₂ → P i (seen_of q.input) (stepped s₁ q) (stepped s₂ q)
  unfolding call_of seen_of
  two_calls i t a =
      rw (guard_is s₁ q.grant k₁, guard_is s₂ q.grant k₂)
      (two_unless (P i _) (grant_fits q.grant) _ _ _ _ (λ _. same i _ _ a) (λ _. two_readings i t a (read_of q.input) refl))
