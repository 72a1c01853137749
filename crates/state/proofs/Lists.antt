-- Lists of calls on a state's bytes: they are the link's calls, call by call, and what holds of these holds of them.
-- Assumes nothing.
use Prim.Native.Nat.{ℕ, ◌≤◌}
use mathlib.Core.Path.{◌≡◌, refl, ap, ◌∙◌, sym, subst}
use mathlib.Core.Logic.{inl, inr}
use mathlib.Core.Bool.{true, false, ◌&&◌}
use mathlib.Core.List.{List, [], ◌∷◌, ◌++◌, map}
use native.Mathlib.Omega.{arith}
use lib.Dec.{T, eqb, leb}
use lib.ListN.{length, get_or}
use borrow.Author.Tests.{leb-true}
use Rattle.numbers.proofs.Choices.{split, either, unless_elim, and_both}
use Rattle.payload.specs.declared.version.Version.{Version}
use Rattle.session.specs.declared.Row.{Row}
use Rattle.session.specs.Rows.{no_row, dropped_row}
use Rattle.session.specs.Decide.{place_of}
use Rattle.link.specs.declared.Link.{Link}
use Rattle.link.specs.declared.Grant.{Grant}
use Rattle.link.specs.declared.Answer.{Answer}
use Rattle.link.specs.declared.Answer.TheVariants as answer
use Rattle.link.specs.State.{index_of, owner_of, settings_fit, guard_of}
use Rattle.link.specs.Call.{After, call_of}
use Rattle.link.specs.Refusal.{Unchanged, KeepsOn, DropsNamed}
use Rattle.link.specs.Book.{Request, Command, call, Event, is_accepted, is_ack, empty_book, lowest_not_in, book_of, names, shuts, until_closed, naming, own_of}
use Rattle.link.specs.Claim.{State, state_after, event_of, run, state_after_all, command_of, Demand, created}
use Rattle.link.specs.Arrival.{last_event, Arrives}
use Rattle.link.specs.Sizes.{Small}
use Rattle.link.specs.Pages.{Sane}
use Rattle.link.specs.Search.{Shaped}
use Rattle.link.proofs.Search.{guard_sane}
use Rattle.link.proofs.Refusals.{refusal_keeps}
use Rattle.link.proofs.Sizes.{answers_small}
use Rattle.link.proofs.Arrival.{arrives_whole}
use Rattle.link.proofs.Demand.{demand_three}
use Rattle.state.specs.Layout.{link_of}
use Rattle.state.specs.Calls.{is_state, stored_in, Left, left, left_by, call_in, created_bytes, Made, made, create_in}
use Rattle.state.specs.Lists.{Lent, state_of, lent_after, event_in, run_in, lent_after_all, last_in, Typed, AllTyped, TypedVersion, StateBytes, AsRun, RunsAsLink, IsolatedIn, DemandThreeIn, UnchangedIn, as_link, KeepsIn, RefusalKeepsIn, AnswersSmallIn, ArrivesWholeIn}
use Rattle.state.proofs.Stored.{stored_same, created_is, created_state, created_bytes_lem}
use Rattle.state.proofs.Fitting.{number_below, dropped_fitting}
use Rattle.state.proofs.Steps.{state_length, owners_length, freed, reads_back, own_fitting, call_in_lem, event_as, state_as, still_bytes}

-- ---- calls on bytes are the link's calls

pub runs_as_link : RunsAsLink
unfolding run_in lent_after_all run state_after_all
runs_as_link b k [] t = record { events = refl; leads = refl; still = k }
runs_as_link b k (call q ∷ cs) t =
    let c : Command = call q in
    let e = state_as b k q t.0 in
    let r = runs_as_link (lent_after b c) (still_bytes b k q t.0) cs t.1 in
    record {
      events =
          ap (λ (x : Event). x ∷ run_in (lent_after b c) cs) (event_as b k q)
          ∙ ap (λ (l : List Event). event_of (state_of b) c ∷ l) (r.events ∙ ap (λ (s : State). run s cs) e);
      leads = r.leads ∙ ap (λ (s : State). state_after_all s cs) e;
      still = r.still;
    }

-- the same of the last of some calls
last_as : (b : Lent) → StateBytes b.state → (c : Command) (cs : List Command) → AllTyped (c ∷ cs) → last_in b c cs ≡ last_event (state_of b) c cs
last_as b k (call q) [] t = event_as b k q
last_as b k (call q) (d ∷ cs) t =
    last_as (lent_after b (call q)) (still_bytes b k q t.0) d cs t.1 ∙ ap (λ (s : State). last_event s d cs) (state_as b k q t.0)

-- ---- demand 3

typed_append : (cs ds : List Command) → AllTyped cs → AllTyped ds → AllTyped (cs ++ ds)
typed_append [] ds t u = u
typed_append (c ∷ cs) ds t u = (t.0, typed_append cs ds t.1 u)

typed_first : (cs ds : List Command) → AllTyped (cs ++ ds) → AllTyped cs
typed_first [] ds t = tt
typed_first (c ∷ cs) ds t = (t.0, typed_first cs ds t.1)

typed_second : (cs ds : List Command) → AllTyped (cs ++ ds) → AllTyped ds
typed_second [] ds t = t
typed_second (c ∷ cs) ds t = typed_second cs ds t.1

-- the calls of what a list answers, cut and left out as the shorter list is
run_typed : (s : State) (cs : List Command) → AllTyped cs → AllTyped (map command_of (run s cs))
unfolding run
run_typed s [] t = tt
run_typed s (call q ∷ cs) t = (t.0, run_typed (state_after s (call q)) cs t.1)

until_typed : (i : ℕ) (es : List Event) → AllTyped (map command_of es) → AllTyped (map command_of (until_closed i es))
unfolding until_closed
until_typed i [] t = tt
until_typed i (e ∷ es) t =
    (t.0, either (λ (l : List Event). AllTyped (map command_of l)) (shuts i e) [] (until_closed i es) (λ _. tt) (λ _. until_typed i es t.1))

naming_typed : (i : ℕ) (es : List Event) → AllTyped (map command_of es) → AllTyped (map command_of (naming i es))
unfolding naming
naming_typed i [] t = tt
naming_typed i (e ∷ es) t =
    either (λ (l : List Event). AllTyped (map command_of l)) (names i e.command) (e ∷ naming i es) (naming i es)
    (λ _. (t.0, naming_typed i es t.1)) (λ _. naming_typed i es t.1)

own_typed : (i : ℕ) (es : List Event) → AllTyped (map command_of es) → AllTyped (map command_of (own_of i es))
unfolding own_of
own_typed i es t = naming_typed i (until_closed i es) (until_typed i es t)

-- what a creation that is not refused leaves
created_from : (s s₁ : List ℕ) (v : Version) (mtu : ℕ) → create_in s v mtu ≡ made 0 s₁ → (settings_fit v mtu ≡ true) × (s₁ ≡ created_bytes v mtu)
unfolding create_in
created_from s s₁ v mtu =
    unless_elim (λ (w : Made). w ≡ made 0 s₁ → (settings_fit v mtu ≡ true) × (s₁ ≡ created_bytes v mtu)) (eqb (length s) 2688 && settings_fit v mtu) _ _
    (λ _ e. absurd (omega (arith, ap (λ (w : Made). w.refused) e)))
    (λ t e. ((and_both (eqb (length s) 2688) (settings_fit v mtu) t).1, sym (ap (λ (w : Made). w.state) e)))

mtu_most : (v : Version) (mtu : ℕ) → settings_fit v mtu ≡ true → mtu ≤ 131084
unfolding settings_fit
mtu_most v mtu t =
    let a = and_both (leb 1 v.major) _ t in
    let b = and_both (leb v.major 5) _ a.1 in
    leb-true mtu 131084 (and_both (leb 1500 mtu) (leb mtu 131084) b.1).1

module _ (v : Version) (mtu : ℕ) (typed : TypedVersion v) (fit : settings_fit v mtu ≡ true) (pool : List ℕ) where
  abbrev lent : Lent
  lent = record { state = created_bytes v mtu; pool = pool }

  created_as : (cs : List Command) → AllTyped cs → AsRun lent (created v mtu pool) cs
  created_as cs t =
      let k : StateBytes (created_bytes v mtu)
      = record { bytes = created_bytes_lem v mtu typed.major typed.minor typed.patch; state = created_state v mtu } in
      let e : link_of (created_bytes v mtu) ≡ (created v mtu pool).link = created_is v mtu (omega (arith, mtu_most v mtu fit)) in
      subst (λ (l : Link). AsRun lent (record { link = l; pool = pool }) cs) e (runs_as_link lent k cs t)

-- the calls before an opening, the opening, and any calls after it
module _ (b : Lent) (s₀ : State) (before : List Command) (q : Request) (a : AsRun b s₀ before) (typed : Typed q) where
  abbrev bo : Lent
  bo = lent_after_all b before

  abbrev so : State
  so = state_after_all s₀ before

  opening_as : event_in bo (call q) ≡ event_of so (call q)
  opening_as = event_as bo a.still q ∙ ap (λ (s : State). event_of s (call q)) a.leads

  later_as : (ds : List Command) → AllTyped ds → run_in (lent_after bo (call q)) ds ≡ run (state_after so (call q)) ds
  later_as ds t =
      (runs_as_link (lent_after bo (call q)) (still_bytes bo a.still q typed) ds t).events
      ∙ ap (λ (s : State). run s ds) (state_as bo a.still q typed ∙ ap (λ (s : State). state_after s (call q)) a.leads)

-- demand 3's part about a shorter list, from the link to the bytes: the shorter list's calls are calls of the list
isolated_in : (b : Lent) (s₀ : State) (cs : List Command) → AllTyped cs → ((ds : List Command) → AllTyped ds → AsRun b s₀ ds) → Demand s₀ cs → IsolatedIn b cs
isolated_in b s₀ cs t from d before rest (call q) cut seen ack =
    let all : AllTyped (before ++ call q ∷ rest) = subst AllTyped cut t in
    let front : AllTyped before = typed_first before (call q ∷ rest) all in
    let behind : AllTyped (call q ∷ rest) = typed_second before (call q ∷ rest) all in
    let a = from before front in
    let i : ℕ = lowest_not_in (book_of empty_book (run s₀ before)) 255 1 in
    let own : List Event = own_of i (run (state_after (state_after_all s₀ before) (call q)) rest) in
    let own-calls : AllTyped (map command_of own) = own_typed i _ (run_typed _ rest behind.1) in
    let later = later_as b s₀ before q a behind.0 in
    rw (
      a.events,
      later rest behind.1,
      later (map command_of own) own-calls,
      (from (before ++ call q ∷ []) (typed_append before (call q ∷ []) front (behind.0, tt))).events,
      (from (before ++ call q ∷ map command_of own) (typed_append before (call q ∷ map command_of own) front (behind.0, own-calls))).events,
    )
    (d.isolated before rest (call q) cut seen (subst (λ (x : Event). T (is_ack x.answer)) (opening_as b s₀ before q a behind.0) ack))

pub demand_three_in : DemandThreeIn
demand_three_in s s₁ v mtu typed e pool cs t =
    let c = created_from s s₁ v mtu e in
    let s₀ : State = created v mtu pool in
    let from : (ds : List Command) → AllTyped ds → AsRun (record { state = s₁; pool = pool }) s₀ ds
    = λ ds u. subst (λ (x : List ℕ). AsRun (record { state = x; pool = pool }) s₀ ds) (sym c.1) (created_as v mtu typed c.0 pool ds u) in
    let demand : Demand s₀ cs = demand_three v mtu pool cs in
    record { calls = from cs t; demand = demand; isolated = isolated_in (record { state = s₁; pool = pool }) s₀ cs t from demand }

-- ---- refusals

module _ (s : List ℕ) (k : StateBytes s) (p input o : List ℕ) where
  -- the link without a message, laid over the bytes, is read back
  dropped : (w : After) → DropsNamed (link_of s) p input o w → DropsNamed (link_of s) p input o (as_link (left_by s w))
  dropped w d =
      let i : ℕ = index_of d.header.session.0 (link_of s).rows in
      let place : ℕ = place_of d.header.service.0 in
      let owner : ℕ = owner_of i place in
      let r : Row = dropped_row (get_or (link_of s).rows i no_row) place in
      record {
        header = d.header;
        extent = d.extent;
        read = d.read;
        some-session = d.some-session;
        found = d.found;
        live = d.live;
        named = d.named;
        link =
            ap (λ (l : Link). link_of (stored_in s l)) d.link
            ∙ (reads_back s k (freed s k i owner owner r d.found (dropped_fitting _ place (own_fitting s k i d.found)))).link;
        pool = d.pool;
        out = d.out;
      }

  unchanged : (w : After) → Unchanged (link_of s) p input o w → UnchangedIn s p input o (left_by s w)
  unchanged w u = (ap (stored_in s) u.0 ∙ stored_same s k.bytes (state_length s k.state), u.1, u.2)

  kept_in : (w : After) (a : Answer) → KeepsOn (link_of s) p input o w a → KeepsIn s p input o (left_by s w) a
  kept_in w (answer.Short n) u = unchanged w u
  kept_in w (answer.Refused n) (inl u) = inl (u.0, u.1, unchanged w u.2)
  kept_in w (answer.Refused n) (inr u) = inr (u.0, dropped w u.1)
  kept_in w (answer.Acked c n) u = tt
  kept_in w (answer.Nacked c n) u = tt
  kept_in w (answer.Beat c n) u = tt
  kept_in w (answer.Accepted c) u = tt
  kept_in w (answer.Delivered c v n) u = tt

-- bytes that are no state
no_state : (s p input o : List ℕ) (g : Grant) → is_state s ≡ false → call_in s p input o g ≡ left (answer.Refused 10) s p o
unfolding call_in
no_state s p input o g t = rw t

pub refusal_keeps_in : RefusalKeepsIn
refusal_keeps_in s b p input o g =
    let P : Left → Type 0 = λ w. KeepsIn s p input o w w.answer in
    let w : After = call_of (link_of s) p input o g in
    split (is_state s)
    (λ t. subst P (sym (call_in_lem s p input o g t)) (kept_in s (record { bytes = b; state = t }) p input o w w.answer (refusal_keeps (link_of s) p input o g)))
    (λ t. subst P (sym (no_state s p input o g t)) (inl ((λ e. omega arith), (λ e. omega arith), (refl, refl, refl))))

-- ---- an answer's numbers

-- a state's bytes are a link as code gives it
shaped : (s : List ℕ) → StateBytes s → Shaped (link_of s)
shaped s k = record {
  rows = refl;
  five = (refl, (refl, (refl, (refl, (refl, (refl, (refl, (refl, tt))))))));
  ids = λ i h. omega (arith, (own_fitting s k i h).id);
  owners = owners_length s (state_length s k.state);
}

pub answers_small_in : AnswersSmallIn
answers_small_in s b p input o g =
    let P : Left → Type 0 = λ w. Small w.answer in
    split (is_state s)
    (λ t.
    let long : length s ≡ 2688 = state_length s t in
    subst P (sym (call_in_lem s p input o g t))
    (answers_small (link_of s) (shaped s (record { bytes = b; state = t })) (number_below s 2 1 b (omega arith)) (number_below s 3 1 b (omega arith)) p input o g))
    (λ t. subst P (sym (no_state s p input o g t)) (omega arith, omega arith))

-- ---- a message arrives whole

-- what an accepted call says of state and pool
accepted_state : (s p input o : List ℕ) (g : Grant) → T (is_accepted (call_in s p input o g).answer) → is_state s ≡ true
unfolding call_in
accepted_state s p input o g = unless_elim (λ (w : Left). T (is_accepted w.answer) → is_state s ≡ true) (is_state s) _ _ (λ _ a. absurd a) (λ t _. t)

accepted_guard : (l : Link) (p input o : List ℕ) (g : Grant) → T (is_accepted (call_of l p input o g).answer) → guard_of l (length p) g ≡ true
unfolding call_of
accepted_guard l p input o g =
    unless_elim (λ (w : After). T (is_accepted w.answer) → guard_of l (length p) g ≡ true) (guard_of l (length p) g) _ _ (λ _ a. absurd a) (λ t _. t)

pub arrives_whole_in : ArrivesWholeIn
arrives_whole_in b bytes o m small opened mtu first f accepted rest order typed =
    let k : StateBytes b.state = record { bytes = bytes; state = accepted_state b.state b.pool first.input first.out first.grant accepted } in
    let here : T (is_accepted (event_of (state_of b) (call first)).answer) = subst (λ (x : Event). T (is_accepted x.answer)) (event_as b k first) accepted in
    let sane : Sane (state_of b)
    = guard_sane (link_of b.state) b.pool first.grant (shaped b.state k)
    (accepted_guard (link_of b.state) b.pool first.input first.out first.grant here) in
    subst (Arrives o m) (sym (last_as b k (call first) rest typed)) (arrives_whole (state_of b) sane o m small opened mtu first f here rest order)
