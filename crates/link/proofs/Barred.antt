-- Demand 3 where settings are out of range or the pool is not of 65,536 bytes: every call answers 10 and leaves all as it was, so the book stays empty.
-- Assumes nothing.
use Prim.Native.Nat.{ℕ, zero, suc}
use mathlib.Core.Path.{◌≡◌, refl, ap, sym, subst, ◌∙◌, fun_ext}
use mathlib.Core.Bool.{false, and-false}
use mathlib.Core.Option.{Option, none}
use mathlib.Core.List.{List, [], ◌∷◌}
use native.Mathlib.Omega.{arith}
use lib.Dec.{T, eqb}
use lib.ListN.{length}
use Rattle.numbers.proofs.Choices.{either}
use Rattle.blocks.specs.Map.{held_by, free_in, free_map}
use Rattle.payload.specs.declared.version.Version.{Version}
use Rattle.link.specs.declared.Link.{Link}
use Rattle.link.specs.declared.Grant.{Grant}
use Rattle.link.specs.declared.Answer.{Answer}
use Rattle.link.specs.declared.Answer.TheVariants as answer
use Rattle.link.specs.State.{settings_fit, guard_of}
use Rattle.link.specs.Call.{After, after, call_of}
use Rattle.link.specs.Book.{Request, Command, call, Seen, opening, within, nothing, seen_of, is_accepted, is_ack, Page, Book, empty_book, needs_in_all, noted, book_after, book_of}
use Rattle.link.specs.Claim.{State, stepped, state_after, event_of, run, state_after_all, created, AllDelivered, Demand}
use Rattle.link.proofs.Created.{created_closed}

-- ---- when 10 is given whatever the offer

pub other_pool : (l : Link) (pool : ℕ) → eqb pool 65536 ≡ false → (g : Grant) → guard_of l pool g ≡ false
unfolding guard_of
other_pool l pool e g = rw e

pub other_settings : (l : Link) (pool : ℕ) → settings_fit l.version l.mtu ≡ false → (g : Grant) → guard_of l pool g ≡ false
unfolding guard_of
other_settings l pool e g = rw (e, and-false)

-- ---- the book

-- 10 notes nothing in a book without sessions
noted_none : (g : Grant) (x : Seen) → noted empty_book g (answer.Refused 10) x ≡ empty_book
noted_none g opening = refl
noted_none g (within i q) = fun_ext (λ (j : ℕ). either (λ (p : Option Page). p ≡ none) (eqb i j) none none (λ _. refl) (λ _. refl))
noted_none g nothing = refl

none_needed : (n k : ℕ) → needs_in_all empty_book n k ≡ 0
unfolding needs_in_all
none_needed zero k = refl
none_needed (suc n) k = omega (arith, none_needed n (suc k))

-- ---- the calls

module _ (s : State) (barred : (g : Grant) → guard_of s.link (length s.pool) g ≡ false) where
  is_ten : (q : Request) → stepped s q ≡ after (answer.Refused 10) s.link s.pool q.out
  unfolding call_of
  is_ten q = rw (barred q.grant)

  answers_ten : (c : Command) → (event_of s c).answer ≡ answer.Refused 10
  answers_ten (call q) = ap (λ (w : After). w.answer) (is_ten q)

  stays : (c : Command) → state_after s c ≡ s
  stays (call q) = ap (λ (w : After). record { link = w.link; pool = w.pool }) (is_ten q)

  stays_all : (cs : List Command) → state_after_all s cs ≡ s
  unfolding state_after_all
  stays_all [] = refl
  stays_all (c ∷ cs) = ap (λ (t : State). state_after_all t cs) (stays c) ∙ stays_all cs

  empty_after : (c : Command) → book_after empty_book (event_of s c).command (event_of s c).answer ≡ empty_book
  empty_after (call q) = ap (book_after empty_book (call q)) (answers_ten (call q)) ∙ noted_none q.grant (seen_of q.input)

  empty_all : (cs : List Command) → book_of empty_book (run s cs) ≡ empty_book
  unfolding book_of run
  empty_all [] = refl
  empty_all (c ∷ cs) = ap (λ (b : Book). book_of b (run (state_after s c) cs)) (empty_after c) ∙ ap (λ (t : State). book_of empty_book (run t cs)) (stays c) ∙ empty_all cs

  none_delivered : (cs : List Command) → AllDelivered empty_book (run s cs)
  unfolding AllDelivered run
  none_delivered [] = tt
  none_delivered (c ∷ cs) = (
    (λ t. absurd (subst (λ (a : Answer). T (is_accepted a)) (answers_ten c) t)),
    subst (λ (b : Book). AllDelivered b (run (state_after s c) cs)) (sym (empty_after c))
        (subst (λ (t : State). AllDelivered empty_book (run t cs)) (sym (stays c)) (none_delivered cs)),
  )

  no_ack : (before : List Command) (o : Command) → T (is_ack (event_of (state_after_all s before) o).answer) → ⊥
  no_ack before o t =
      let z : (event_of (state_after_all s before) o).answer ≡ answer.Refused 10 = ap (λ (x : State). (event_of x o).answer) (stays_all before) ∙ answers_ten o in
      subst (λ (a : Answer). T (is_ack a)) z t

all_free : free_in free_map ≡ 256
unfolding held_by free_map
all_free = refl

-- the demand
pub demanded_barred : (v : Version) (mtu : ℕ) (pool : List ℕ) → ((g : Grant) → guard_of (created v mtu pool).link (length pool) g ≡ false) → (cs : List Command)
    → Demand (created v mtu pool) cs
demanded_barred v mtu pool barred cs =
    let s : State = created v mtu pool in
    let book : book_of empty_book (run s cs) ≡ empty_book = empty_all s barred cs in
    let stay : state_after_all s cs ≡ s = stays_all s barred cs in
    record {
      sessions = λ i. rw (stay, book) (created_closed v mtu pool i);
      room = λ i p e. let z : ◌≡◌ {A = ℕ} 0 1 = cc (ap (λ (b : Book). b i) book) in absurd (omega arith);
      blocks = rw (stay, book) (omega (arith, none_needed 255 1, all_free));
      delivered = none_delivered s barred cs;
      isolated = λ before rest o q v a. absurd (no_ack s barred before o a);
    }
