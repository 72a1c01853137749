-- The list part of demand 3: from laws about ONE call to every list of calls, by induction over the list.
-- Assumes nothing.
use mathlib.Core.Path.{◌≡◌, refl, sym, ap, ap₂, subst, ◌∙◌}
use Prim.Native.Nat.{ℕ, ◌+◌, ◌≤◌}
use mathlib.Core.Bool.{Bool, true, false, not}
use mathlib.Core.Option.{some}
use mathlib.Core.List.{List, [], ◌∷◌, ◌++◌, map, append_assoc}
use lib.Dec.{T}
use lib.Ieee.Bits.{is_true, is_false}
use Rattle.numbers.specs.Bytes.{pick}
use Rattle.numbers.proofs.Choices.{either, on_test}
use Rattle.blocks.specs.Map.{free_in}
use Rattle.session.specs.declared.Row.{Row}
use Rattle.link.specs.Book.{Command, call, Event, opening, is_accepted, is_ack, Page, Book, empty_book, there, lowest_not_in, needs_of, needs_in_all, book_after, book_of, due_of, names, shuts, until_closed, naming, own_of, ModestIn, Modest}
use Rattle.link.specs.Claim.{State, state_after, event_of, run, state_after_all, command_of, is_open, blocks_of, DeliversDue, AllDelivered, seen_by, Demand}
use Rattle.link.specs.Pages.{row_of, pages, Sane}

-- cases on a test, with what it says
split : {X : Type 0} (b : Bool) → (T b → X) → (T (not b) → X) → X
split true f g = f tt
split false f g = g tt

-- a session in two states: one row, one page
pub record Alike (i : ℕ) (s₁ s₂ : State) : Type 0 where
  pub the_row : Row
  pub row₁ : row_of s₁ i ≡ some the_row
  pub row₂ : row_of s₂ i ≡ some the_row
  pub page : pages s₁ i ≡ pages s₂ i
  pub version : s₁.link.version ≡ s₂.link.version
  pub mtu : s₁.link.mtu ≡ s₂.link.mtu

-- the laws about one call
pub record Laws : Type 0 where
  -- every call leads from a state within the rules to another one, and the book follows it
  pub sane : (s : State) (c : Command) → Sane s → Sane (state_after s c)
  pub told : (s : State) (c : Command) → Sane s → book_after (pages s) c (event_of s c).answer ≡ pages (state_after s c)
  -- no call changes the module's version and mtu
  pub settings : (s : State) (c : Command) → ((state_after s c).link.version ≡ s.link.version) × ((state_after s c).link.mtu ≡ s.link.mtu)
  -- a call that does not name a session leaves its row and its page
  pub other_row : (s : State) (c : Command) (i : ℕ) (r : Row) → Sane s → row_of s i ≡ some r → T (not (names i c)) → row_of (state_after s c) i ≡ some r
  pub other_page : (s : State) (c : Command) (i : ℕ) (r : Row) → Sane s → row_of s i ≡ some r → T (not (names i c)) → pages (state_after s c) i ≡ pages s i
  -- one that names it is answered alike in states that agree on its row, its page and the settings, unless it goes above the guarantee
  pub same_answer : (s₁ s₂ : State) (c : Command) (i : ℕ) → Sane s₁ → Sane s₂ → Alike i s₁ s₂ → T (names i c)
      → ModestIn (pages s₂ i) c (event_of s₂ c).answer → event_of s₂ c ≡ event_of s₁ c
  pub same_after : (s₁ s₂ : State) (c : Command) (i : ℕ) → Sane s₁ → Sane s₂ → Alike i s₁ s₂ → T (names i c)
      → ModestIn (pages s₂ i) c (event_of s₂ c).answer → T (not (shuts i (event_of s₁ c))) → Alike i (state_after s₁ c) (state_after s₂ c)
  -- an opening's ACK enters a row under the lowest id
  pub opens : (s : State) (o : Command) → Sane s → seen_by o ≡ opening → T (is_ack (event_of s o).answer)
      → (r : Row) × (row_of (state_after s o) (lowest_not_in (pages s) 255 1) ≡ some r)
  -- a state within the rules shows its sessions and their blocks
  pub shown : (s : State) (i : ℕ) → Sane s → is_open s i ≡ there (pages s i)
  pub holds : (s : State) (i : ℕ) (p : Page) → Sane s → pages s i ≡ some p → (blocks_of s i ≡ needs_of p) × (needs_of p ≤ p.cap)
  pub all_blocks : (s : State) → Sane s → needs_in_all (pages s) 255 1 + free_in s.link.owners ≡ 256
  -- what is due is delivered
  pub hands : (s : State) (c : Command) → Sane s → T (is_accepted (event_of s c).answer) → DeliversDue (due_of (pages s) c) (event_of s c)

event_command : (s : State) (c : Command) → (event_of s c).command ≡ c
event_command s (call q) = refl

own_other : (i : ℕ) (e : Event) (l : List Event) → T (not (names i e.command)) → own_of i (e ∷ l) ≡ own_of i l
unfolding own_of until_closed naming shuts
own_other i e l t = rw (is_false (names i e.command) t)

own_mine : (i : ℕ) (e : Event) (l : List Event) → T (names i e.command) → own_of i (e ∷ l) ≡ e ∷ pick (shuts i e) [] (own_of i l)
unfolding own_of until_closed naming
own_mine i e l t =
    rw (is_true (names i e.command) t)
    (ap (λ (y : List Event). e ∷ y) (on_test (λ (b : Bool). naming i (pick b [] (until_closed i l)) ≡ pick b [] (naming i (until_closed i l))) (shuts i e) (λ _. refl) (λ _. refl)))

run_append : (s : State) (a b : List Command) → run s (a ++ b) ≡ run s a ++ run (state_after_all s a) b
unfolding run state_after_all
run_append s [] b = refl
run_append s (c ∷ a) b = ap (λ (x : List Event). event_of s c ∷ x) (run_append (state_after s c) a b)

end_append : (s : State) (a b : List Command) → state_after_all s (a ++ b) ≡ state_after_all (state_after_all s a) b
unfolding state_after_all
end_append s [] b = refl
end_append s (c ∷ a) b = end_append (state_after s c) a b

module _ (L : Laws) where
  -- run again alone, a session's own calls give the same events
  abbrev Same : ℕ → State → List Event → Type 0
  Same i s l = Modest i (pages s) (run s (map command_of l)) → run s (map command_of l) ≡ l

  same_cons : (i : ℕ) (s : State) (e : Event) (l : List Event) → Sane s
      → ((T (names i e.command) → ModestIn (pages s i) e.command (event_of s e.command).answer) → (event_of s e.command ≡ e) × Same i (state_after s e.command) l)
      → Same i s (e ∷ l)
  unfolding run Modest
  same_cons i s e l g f h =
      let c : (event_of s e.command).command ≡ e.command = event_command s e.command in
      let k = f (subst (λ (x : Command). T (names i x) → ModestIn (pages s i) x (event_of s e.command).answer) c h.0) in
      let m : Modest i (book_after (pages s) e.command (event_of s e.command).answer) (run (state_after s e.command) (map command_of l))
      = subst (λ (x : Command). Modest i (book_after (pages s) x (event_of s e.command).answer) (run (state_after s e.command) (map command_of l))) c h.1 in
      ap₂ (λ (x : Event) (t : List Event). x ∷ t) k.0
      (k.1 (subst (λ (b : Book). Modest i b (run (state_after s e.command) (map command_of l))) (L.told s e.command g) m))

  mine : (s₁ s₂ : State) (i : ℕ) (c : Command) (cs : List Command) → Sane s₁ → Sane s₂ → Alike i s₁ s₂ → T (names i c)
      → (Alike i (state_after s₁ c) (state_after s₂ c) → Same i (state_after s₂ c) (own_of i (run (state_after s₁ c) cs)))
      → Same i s₂ (own_of i (run s₁ (c ∷ cs)))
  unfolding run
  mine s₁ s₂ i c cs g₁ g₂ k t ih =
      let e : Event = event_of s₁ c in
      let ec : e.command ≡ c = event_command s₁ c in
      let l : List Event = own_of i (run (state_after s₁ c) cs) in
      let te : T (names i e.command) = subst (λ (x : Command). T (names i x)) (sym ec) t in
      subst (Same i s₂) (sym (own_mine i e (run (state_after s₁ c) cs) te))
      (same_cons i s₂ e (pick (shuts i e) [] l) g₂
      (subst (λ (x : Command). (T (names i x) → ModestIn (pages s₂ i) x (event_of s₂ x).answer) → (event_of s₂ x ≡ e) × Same i (state_after s₂ x) (pick (shuts i e) [] l)) (sym ec) (λ m. (
        L.same_answer s₁ s₂ c i g₁ g₂ k t (m t),
        either (Same i (state_after s₂ c)) (shuts i e) [] l (λ _ _. refl) (λ n. ih (L.same_after s₁ s₂ c i g₁ g₂ k t (m t) (subst (λ (b : Bool). T (not b)) (sym n) tt))),
      ))))

  apart : (s₁ s₂ : State) (i : ℕ) (cs : List Command) → Sane s₁ → Sane s₂ → Alike i s₁ s₂ → Same i s₂ (own_of i (run s₁ cs))
  unfolding own_of run until_closed naming
  apart s₁ s₂ i [] g₁ g₂ k = λ h. refl
  apart s₁ s₂ i (c ∷ cs) g₁ g₂ k =
      split (names i c)
      (λ t. mine s₁ s₂ i c cs g₁ g₂ k t (λ k'. apart (state_after s₁ c) (state_after s₂ c) i cs (L.sane s₁ c g₁) (L.sane s₂ c g₂) k'))
      (λ t. subst (Same i s₂) (sym (own_other i (event_of s₁ c) (run (state_after s₁ c) cs) (subst (λ (x : Command). T (not (names i x))) (sym (event_command s₁ c)) t)))
      (apart (state_after s₁ c) s₂ i cs (L.sane s₁ c g₁) g₂ (record {
        the_row = k.the_row;
        row₁ = L.other_row s₁ c i k.the_row g₁ k.row₁ t;
        row₂ = k.row₂;
        page = L.other_page s₁ c i k.the_row g₁ k.row₁ t ∙ k.page;
        version = (L.settings s₁ c).0 ∙ k.version;
        mtu = (L.settings s₁ c).1 ∙ k.mtu;
      })))

  noted_next : (s : State) (c : Command) → Sane s → book_after (pages s) (event_of s c).command (event_of s c).answer ≡ pages (state_after s c)
  noted_next s c g = ap (λ (x : Command). book_after (pages s) x (event_of s c).answer) (event_command s c) ∙ L.told s c g

  book_agrees : (s : State) (cs : List Command) → Sane s → book_of (pages s) (run s cs) ≡ pages (state_after_all s cs)
  unfolding book_of run state_after_all
  book_agrees s [] k = refl
  book_agrees s (c ∷ cs) k = ap (λ (b : Book). book_of b (run (state_after s c) cs)) (noted_next s c k) ∙ book_agrees (state_after s c) cs (L.sane s c k)

  -- every state after a list keeps the state rules
  pub all_sane : (s : State) (cs : List Command) → Sane s → Sane (state_after_all s cs)
  unfolding state_after_all
  all_sane s [] k = k
  all_sane s (c ∷ cs) k = all_sane (state_after s c) cs (L.sane s c k)

  all_delivered : (s : State) (cs : List Command) → Sane s → AllDelivered (pages s) (run s cs)
  unfolding AllDelivered run
  all_delivered s [] k = tt
  all_delivered s (c ∷ cs) k = (
    (λ t. subst (λ (x : Command). DeliversDue (due_of (pages s) x) (event_of s c)) (sym (event_command s c)) (L.hands s c k t)),
    subst (λ (b : Book). AllDelivered b (run (state_after s c) cs)) (sym (noted_next s c k)) (all_delivered (state_after s c) cs (L.sane s c k)),
  )

  -- from any state within the rules whose book is empty
  module _ (s₀ : State) (k₀ : Sane s₀) (e₀ : pages s₀ ≡ empty_book) where
    shows : (l : List Command) → book_of empty_book (run s₀ l) ≡ pages (state_after_all s₀ l)
    shows l = ap (λ (b : Book). book_of b (run s₀ l)) (sym e₀) ∙ book_agrees s₀ l k₀

    alone : (before rest : List Command) (o : Command) → seen_by o ≡ opening → T (is_ack (event_of (state_after_all s₀ before) o).answer)
        → (let i : ℕ = lowest_not_in (book_of empty_book (run s₀ before)) 255 1 in
        let s₁ : State = state_after (state_after_all s₀ before) o in
        let own : List Event = own_of i (run s₁ rest) in
        Modest i (book_of empty_book (run s₀ (before ++ o ∷ []))) (run s₁ (map command_of own))
        → run s₀ (before ++ o ∷ map command_of own) ≡ run s₀ (before ++ o ∷ []) ++ own)
    unfolding run state_after_all
    alone before rest o v a m =
        let s : State = state_after_all s₀ before in
        let s₁ : State = state_after s o in
        let ks : Sane s = all_sane s₀ before k₀ in
        let k₁ : Sane s₁ = L.sane s o ks in
        let i : ℕ = lowest_not_in (book_of empty_book (run s₀ before)) 255 1 in
        let r = L.opens s o ks v a in
        let row : row_of s₁ i ≡ some r.0 = ap (λ (b : Book). row_of s₁ (lowest_not_in b 255 1)) (shows before) ∙ r.1 in
        let own : List Event = own_of i (run s₁ rest) in
        let b₁ : book_of empty_book (run s₀ (before ++ o ∷ [])) ≡ pages s₁ = shows (before ++ o ∷ []) ∙ ap pages (end_append s₀ before (o ∷ [])) in
        let again : run s₁ (map command_of own) ≡ own
        = apart s₁ s₁ i rest k₁ k₁ (record { the_row = r.0; row₁ = row; row₂ = row; page = refl; version = refl; mtu = refl }) (subst (λ (b : Book). Modest i b (run s₁ (map command_of own))) b₁ m) in
        run_append s₀ before (o ∷ map command_of own) ∙ ap (λ (y : List Event). run s₀ before ++ event_of s o ∷ y) again
        ∙ sym (ap (λ (y : List Event). y ++ own) (run_append s₀ before (o ∷ [])) ∙ append_assoc (run s₀ before) (event_of s o ∷ []) own)

    -- the demand
    pub demanded : (cs : List Command) → Demand s₀ cs
    demanded cs =
        let k : Sane (state_after_all s₀ cs) = all_sane s₀ cs k₀ in
        record {
          sessions = λ i. L.shown (state_after_all s₀ cs) i k ∙ ap (λ (b : Book). there (b i)) (sym (shows cs));
          room = λ i p q. L.holds (state_after_all s₀ cs) i p k (ap (λ (b : Book). b i) (sym (shows cs)) ∙ q);
          blocks = subst (λ (b : Book). needs_in_all b 255 1 + free_in (state_after_all s₀ cs).link.owners ≡ 256) (sym (shows cs)) (L.all_blocks (state_after_all s₀ cs) k);
          delivered = subst (λ (b : Book). AllDelivered b (run s₀ cs)) e₀ (all_delivered s₀ cs k₀);
          isolated = λ before rest o q v a m. alone before rest o v a m;
        }
