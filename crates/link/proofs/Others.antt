-- A call that does not name a session leaves its row and its page: the call touches one other row and that row's blocks.
-- Assumes nothing.
use Prim.Native.Nat.{ℕ, suc, ◌+◌, ◌-◌, ◌≤◌, ◌<◌}
use mathlib.Core.Path.{◌≡◌, refl, ap, ◌∙◌, sym, subst}
use mathlib.Core.Logic.{◌⊎◌, inl, inr, ⊎_elim}
use mathlib.Core.Bool.{true, not}
use mathlib.Core.Option.{Option, some}
use mathlib.Core.List.{List, [], ◌∷◌}
use native.Mathlib.Omega.{arith}
use lib.Dec.{T, eqb}
use lib.ListN.{length, get_or, set, length-set}
use lib.Seq.{get_or-set_other, set-get_or}
use borrow.Author.Tests.{lt-ltb, eq-eqb}
use Rattle.numbers.specs.Bytes.{part}
use Rattle.numbers.proofs.Choices.{either}
use Rattle.frame.specs.declared.Header.{Header}
use Rattle.frame.specs.declared.ServiceType.{ServiceType}
use Rattle.frame.proofs.Answers.{is_frame_lem, session_fourth}
use Rattle.blocks.specs.Map.{released}
use Rattle.blocks.specs.Pool.{block_bytes, appended}
use Rattle.blocks.proofs.Contents.{append_others, claim_bytes, release_bytes}
use Rattle.session.specs.declared.Reassembly.{Reassembly}
use Rattle.session.specs.declared.Running.{Running}
use Rattle.session.specs.declared.Row.{Row}
use Rattle.session.specs.declared.Act.{Act}
use Rattle.session.specs.declared.Act.TheVariants.{Refuse, Drop, Accept, Beat, Start, NoStart, Stop, Close, NoEnd, Claim, Append, Deliver, Single}
use Rattle.session.specs.Rows.{no_row, with_message_at, settled_row, with_service}
use Rattle.session.specs.Decide.{place_of, row_after}
use Rattle.link.specs.declared.Link.{Link}
use Rattle.link.specs.declared.Grant.{Grant}
use Rattle.link.specs.declared.Answer.{Answer}
use Rattle.link.specs.State.{index_of, owner_of, with_rows, with_row, with_owners}
use Rattle.link.specs.Call.{After, after, decision_of, admits, applied}
use Rattle.link.specs.Book.{Request, Command, call, Seen, Note, names}
use Rattle.link.specs.Claim.{State, state_after, is_open}
use Rattle.link.specs.Pages.{row_of, note_of, notes_from, page_if, pages, Sane}
use Rattle.link.proofs.Shown.{is_open_lem, open_row, row_open, page_of_lem}
use Rattle.link.proofs.Holdings.{open_index, five_at}
use Rattle.link.proofs.Table.{index_set_other, lowest_of_eight, index_row, owner_some, owner_apart, owner_outside}
use Rattle.link.proofs.Calls.{admitted, entered, Called, short, refused, nacked, acked, in_row, called}
use Rattle.link.proofs.RowFacts.{place_below}
use Rattle.link.proofs.RowRules.{message_at_is}

-- ---- rows

-- what a row shows besides its services, version and counter
pub record Sizes : Type 0 where
  pub id : ℕ
  pub guarantee : ℕ
  pub cap : ℕ
  pub messages : List Reassembly

-- those of a row with other messages
abbrev pub sizes_with : Row → List Reassembly → Sizes
sizes_with r ms = record { id = r.id.0; guarantee = r.guarantee; cap = r.cap; messages = ms }

abbrev pub sizes : Row → Sizes
sizes r = sizes_with r r.messages

pub set_sizes : (r : Row) (place : ℕ) (m : Reassembly) → place < 5 → sizes (with_message_at r place m) ≡ sizes_with r (set r.messages place m)
set_sizes r place m b = ap sizes (message_at_is r place m b)

pub settled_sizes : (r : Row) (v : ℕ) → sizes (settled_row r v) ≡ sizes r
unfolding settled_row
settled_sizes r v = either (λ (x : Row). sizes x ≡ sizes r) (eqb r.version 0) _ r (λ _. refl) (λ _. refl)

pub service_sizes : (r : Row) (s : ServiceType) (x : Running) → sizes (with_service r s x) ≡ sizes r
unfolding with_service
service_sizes r s x =
    let P : Row → Type 0 = λ y. sizes y ≡ sizes r in
    either P (eqb s.0 0x0A) _ _ (λ _. refl) λ _. either P (eqb s.0 0x0B) _ r (λ _. refl) (λ _. refl)

-- the id after a decision: the same, or 0
module _ (r : Row) (h : Header) (hash : ℕ) where
  set_id : (m : Reassembly) → (with_message_at r (place_of h.service.0) m).id.0 ≡ r.id.0
  set_id m = ap (λ (x : Sizes). x.id) (set_sizes r (place_of h.service.0) m (place_below h.service.0))

  pub after_id : (act : Act) → ((row_after r h hash act).id.0 ≡ r.id.0) ⊎ ((row_after r h hash act).id.0 ≡ 0)
  after_id (Refuse n) = inl refl
  after_id (Drop n) = inl (set_id _)
  after_id Accept = inl refl
  after_id Beat = inl refl
  after_id Start = inl (ap (λ (x : Sizes). x.id) (service_sizes r h.service _))
  after_id NoStart = inl refl
  after_id Stop = inl (ap (λ (x : Sizes). x.id) (service_sizes _ h.service _) ∙ set_id _)
  after_id Close = inr refl
  after_id (NoEnd named) = inl refl
  after_id (Claim total count) = inl (ap (λ (x : Sizes). x.id) (settled_sizes _ h.version) ∙ set_id _)
  after_id Append = inl (set_id _)
  after_id Deliver = inl (set_id _)
  after_id Single = inl (ap (λ (x : Sizes). x.id) (settled_sizes r h.version))

-- ---- what a decision moves

-- what a decision on row m makes of link and pool: its row after, and a map and a pool in which no other row's blocks read otherwise
pub record Moves (l : Link) (m : ℕ) (p : List ℕ) (after : Row) (w : After) : Type 0 where
  pub owners : List ℕ
  pub link : w.link ≡ with_owners (with_row l m after) owners
  pub bytes : (n q : ℕ) → (n ≡ m → ⊥) → q < 5 → block_bytes (owner_of n q) owners w.pool ≡ block_bytes (owner_of n q) l.owners p

module _ (l : Link) (m : ℕ) (p out : List ℕ) (h : Header) (consumed : ℕ) (payload : List ℕ) (g : Grant) where
  abbrev owner : ℕ
  owner = owner_of m (place_of h.service.0)

  other_owner : (n q : ℕ) → (n ≡ m → ⊥) → q < 5 → owner_of n q ≡ owner → ⊥
  other_owner n q d b = owner_apart m n (place_of h.service.0) q (place_below h.service.0) b (λ z. d z.0)

  freed : (pool : List ℕ) (n q : ℕ) → (n ≡ m → ⊥) → q < 5 → block_bytes (owner_of n q) (released owner owner l.owners) pool ≡ block_bytes (owner_of n q) l.owners pool
  freed pool n q d b = release_bytes owner owner (owner_of n q) l.owners pool (owner_some n q) (λ low high. other_owner n q d b (omega arith))

  joined : (at n q : ℕ) → (n ≡ m → ⊥) → q < 5 → block_bytes (owner_of n q) l.owners (appended owner at payload l.owners p) ≡ block_bytes (owner_of n q) l.owners p
  joined at n q d b = append_others (owner_of n q) owner at payload l.owners p (other_owner n q d b)

  -- nothing is done
  still : (a : Answer) (o : List ℕ) → Moves l m p (get_or l.rows m no_row) (after a l p o)
  still a o = record { owners = l.owners; link = ap (with_rows l) (sym (set-get_or l.rows m no_row)); bytes = λ n q d b. refl }

  pub moves : (act : Act) → Moves l m p (row_after (get_or l.rows m no_row) h g.hash act) (applied l m p out h consumed payload g act)
  moves (Refuse c) = still _ _
  moves (Drop c) = record { owners = _; link = refl; bytes = freed p }
  moves Accept = still _ _
  moves Beat = still _ _
  moves Start = record { owners = l.owners; link = refl; bytes = λ n q d b. refl }
  moves NoStart = still _ _
  moves Stop = record { owners = _; link = refl; bytes = freed p }
  moves Close = record {
    owners = _;
    link = refl;
    bytes = λ n q d b. release_bytes (owner_of m 0) (owner_of m 4) (owner_of n q) l.owners p (owner_some n q) (owner_outside m n q b d);
  }
  moves (NoEnd named) = still _ _
  moves (Claim total count) = record {
    owners = _;
    link = refl;
    bytes = λ n q d b. claim_bytes (owner_of n q) owner _ l.owners p (other_owner n q d b) (owner_some n q);
  }
  moves Append = record { owners = l.owners; link = refl; bytes = joined _ }
  moves Deliver = record { owners = _; link = refl; bytes = λ n q d b. freed _ n q d b ∙ joined _ n q d b }
  moves Single = record { owners = l.owners; link = refl; bytes = λ n q d b. refl }

-- ---- what stays of a session that is not named

-- notes that read the same bytes are the same
pub notes_same : (s t : State) (n from : ℕ) (ms : List Reassembly)
    → ((q : ℕ) → from ≤ q → q < from + length ms → block_bytes (owner_of n q) t.link.owners t.pool ≡ block_bytes (owner_of n q) s.link.owners s.pool)
    → notes_from t n from ms ≡ notes_from s n from ms
unfolding notes_from note_of
notes_same s t n from [] f = refl
notes_same s t n from (m ∷ ms) f = rw (f from (omega arith) (omega arith), notes_same s t n (suc from) ms (λ q a b. f q (omega arith) (omega arith)))

-- what a call leaves of a session: its row and its page
abbrev pub Leaves : State → ℕ → Link → List ℕ → Type 0
Leaves s i l p = (row_of (record { link = l; pool = p }) i ≡ row_of s i) × (pages (record { link = l; pool = p }) i ≡ pages s i)

-- rows that keep the session's place keep its row
row_same : (s t : State) (i : ℕ) → (let n : ℕ = index_of i s.link.rows in
    index_of i t.link.rows ≡ n → length t.link.rows ≡ length s.link.rows → get_or t.link.rows n no_row ≡ get_or s.link.rows n no_row → row_of t i ≡ row_of s i)
unfolding row_of is_open
row_same s t i e f g = rw (e, f, g)

-- a call on another row
module _ (s : State) (i : ℕ) (k : Sane s) (opened : is_open s i ≡ true) where
  abbrev n : ℕ
  n = index_of i s.link.rows

  stored : (m : ℕ) (a : Row) (owners pool : List ℕ) → ((get_or s.link.rows m no_row).id.0 ≡ i → ⊥) → (a.id.0 ≡ i → ⊥)
      → ((n : ℕ) (q : ℕ) → (n ≡ m → ⊥) → q < 5 → block_bytes (owner_of n q) owners pool ≡ block_bytes (owner_of n q) s.link.owners s.pool)
      → Leaves s i (with_owners (with_row s.link m a) owners) pool
  unfolding pages
  stored m a owners pool x y bytes =
      let rs : List Row = s.link.rows in
      let t : State = record { link = with_owners (with_row s.link m a) owners; pool = pool } in
      let r : Row = get_or rs n no_row in
      let at : n < length rs = (open_index s i opened).1 in
      let d : n ≡ m → ⊥ = λ e. x (ap (λ (j : ℕ). (get_or rs j no_row).id.0) (sym e) ∙ index_row i rs at) in
      let e : index_of i (set rs m a) ≡ n = index_set_other i rs m a x y in
      let row : row_of t i ≡ row_of s i = row_same s t i e (length-set rs m a) (get_or-set_other rs m n a no_row d) in
      let notes : notes_from t n 0 r.messages ≡ notes_from s n 0 r.messages = notes_same s t n 0 r.messages (λ q _ b. bytes n q d (omega (arith, five_at rs n k.five at))) in (
        row,
        ap (λ (j : ℕ). page_if t j (row_of t i)) e ∙ ap (λ (o : Option Row). page_if t n o) (row ∙ open_row s i opened)
            ∙ ap (λ (ns : List Note). some (record { guarantee = r.guarantee; cap = r.cap; notes = ns })) notes ∙ sym (page_of_lem s i opened),
      )

  -- what is done about a frame of another row
  pub applied_leaves : (m : ℕ) (h : Header) (consumed : ℕ) (payload : List ℕ) (g : Grant) (out : List ℕ) (act : Act) → ((get_or s.link.rows m no_row).id.0 ≡ i → ⊥)
      → (let w : After = applied s.link m s.pool out h consumed payload g act in Leaves s i w.link w.pool)
  applied_leaves m h consumed payload g out act x =
      let w : After = applied s.link m s.pool out h consumed payload g act in
      let v = moves s.link m s.pool out h consumed payload g act in
      subst (λ (l : Link). Leaves s i l w.pool) (sym v.link) (stored m _ v.owners w.pool x
      (λ e. ⊎_elim (λ a. x (sym a ∙ e)) (λ b. (open_index s i opened).0 (sym e ∙ b)) (after_id (get_or s.link.rows m no_row) h g.hash act)) v.bytes)

  -- an opening takes a free row and an id that is not open
  pub entered_leaves : (g : Grant) (v : ℕ) → admits s.link.rows g ≡ true → Leaves s i (entered s.link g v) s.pool
  entered_leaves g v e =
      let rs : List Row = s.link.rows in
      let o = open_index s i opened in
      stored (index_of 0 rs) _ s.link.owners s.pool (λ z. o.0 (sym z ∙ index_row 0 rs (admitted rs g e).0))
      (λ z. let u : index_of i rs ≡ length rs = ap (λ (j : ℕ). index_of j rs) (sym z) ∙ (lowest_of_eight rs k.rows).unused in omega (arith, o.1)) (λ n q d b. refl)

  call_leaves : (q : Request) → T (not (names i (call q))) → {x : Seen} {w : After} → Called s.link s.pool q.input q.out q.grant x w → Leaves s i w.link w.pool
  call_leaves q t short = (refl, refl)
  call_leaves q t (refused b) = (refl, refl)
  call_leaves q t nacked = (refl, refl)
  call_leaves q t (acked g a v) = entered_leaves q.grant _ a
  call_leaves q t (in_row h e f g b o) =
      let m : ℕ = index_of h.session.0 s.link.rows in
      let at : m < length s.link.rows = (open_index s h.session.0 (is_open_lem s h.session.0 o)).1 in
      let payload : List ℕ = part q.input e.start (e.end - e.start) in
      applied_leaves m h e.consumed payload q.grant q.out (decision_of s.link m h payload (length q.out)) (λ z. other-session (sym (index_row h.session.0 s.link.rows at) ∙ z))
    where
      -- the fourth byte is the session id
      other-session : h.session.0 ≡ i → ⊥
      other-session z =
          rw (lt-ltb 3 (length q.input) (omega (arith, (is_frame_lem q.input h e f).long)), eq-eqb (get_or q.input 3 0) i (sym (session_fourth q.input h e f) ∙ z)) at t

-- the two laws
pub other_row : (s : State) (c : Command) (i : ℕ) (r : Row) → Sane s → row_of s i ≡ some r → T (not (names i c)) → row_of (state_after s c) i ≡ some r
other_row s (call q) i r k e t = (call_leaves s i k (row_open s i r e) q t (called s.link s.pool q.input q.out q.grant)).0 ∙ e

pub other_page : (s : State) (c : Command) (i : ℕ) (r : Row) → Sane s → row_of s i ≡ some r → T (not (names i c)) → pages (state_after s c) i ≡ pages s i
other_page s (call q) i r k e t = (call_leaves s i k (row_open s i r e) q t (called s.link s.pool q.input q.out q.grant)).1
