-- What is due is delivered: by the frame's kind, the decision on it and what the book has of its message.
-- Assumes nothing.
use Prim.Native.Nat.{ℕ, zero, suc, ◌+◌, ◌-◌, ◌*◌, ◌/◌, ◌≤◌, ◌<◌}
use mathlib.Core.Path.{◌≡◌, refl, ap, ◌∙◌, sym}
use mathlib.Core.Bool.{true}
use mathlib.Core.Option.{Option, none, some}
use mathlib.Core.List.{List, [], ◌∷◌, ◌++◌}
use native.Mathlib.Omega.{arith}
use lib.Dec.{T, eqb, leb}
use lib.ListN.{length, get_or, take, length-append}
use lib.Seq.{length-take-le}
use borrow.Author.Tests.{eqb-true, eq-eqb, ne_eqb}
use Rattle.numbers.specs.Bytes.{laid}
use Rattle.numbers.proofs.Choices.{and_both}
use Rattle.blocks.specs.Map.{held_by}
use Rattle.frame.specs.declared.Header.{Header}
use Rattle.frame.specs.declared.Extent.{Extent}
use Rattle.frame.specs.declared.Reading.TheVariants as reading
use Rattle.frame.specs.Read.{read_of}
use Rattle.frame.proofs.Laws.{fault_none}
use Rattle.frame.proofs.Answers.{frame_sound}
use Rattle.frame.proofs.ThereAndBack.{payload_length}
use Rattle.blocks.specs.Pool.{block_bytes, appended}
use Rattle.blocks.proofs.Contents.{append_fits, bytes_length}
use Rattle.session.specs.declared.Reassembly.{Reassembly}
use Rattle.session.specs.declared.Row.{Row}
use Rattle.session.specs.declared.Act.{Act}
use Rattle.session.specs.Rows.{no_row, no_reassembly, message_at}
use Rattle.session.specs.Decide.{place_of, need_of, message_blocks, sized}
use Rattle.link.specs.State.{index_of, owner_of, service_at}
use Rattle.link.specs.Call.{After, applied}
use Rattle.link.specs.Book.{Request, Command, call, Ask, Seen, ask_of, is_accepted, no_note, Due, due_at, due_for, due_on, due_in, due_of}
use Rattle.link.specs.Claim.{State, event_of, is_open, consumed_by, DeliversDue}
use Rattle.link.specs.Pages.{note_of, notes_from, page_of, pages, Sane}
use Rattle.link.proofs.Calls.{payload_in, row_call, Called, short, refused, nacked, acked, in_row, called}
use Rattle.link.proofs.Decisions.{Decided, refuses, accepts, beats, starts, starts-not, stops, closes, ends_not, hands-over, claims, drops, appends, delivers, decided}
use Rattle.link.proofs.Shown.{is_open_lem, page_of_lem}
use Rattle.link.proofs.RowFacts.{place_below, service_place, OpenFacts, open_facts}
use Rattle.link.proofs.Each.{or_then}

-- the note at a place is read off the message there
notes_at : (s : State) (n from : ℕ) (ms : List Reassembly) (k : ℕ) → k < length ms → get_or (notes_from s n from ms) k no_note ≡ note_of s n (from + k) (get_or ms k no_reassembly)
unfolding notes_from
notes_at s n from [] k h = absurd (omega arith)
notes_at s n from (m ∷ ms) zero h = let z : from + 0 ≡ from = omega arith in rw z
notes_at s n from (m ∷ ms) (suc k) h = let z : from + suc k ≡ suc from + k = omega arith in rw z (notes_at s n (suc from) ms k (omega arith))

pub note_at_lem : (s : State) (n : ℕ) (r : Row) (place : ℕ) → place < length r.messages → get_or (notes_from s n 0 r.messages) place no_note ≡ note_of s n place (message_at r place)
note_at_lem s n r place h = let z : 0 + place ≡ place = omega arith in rw z at (notes_at s n 0 r.messages place h)

-- what a call owes for what is due
abbrev pub Gives : Request → Option Due → After → Type 0
Gives q due w = T (is_accepted w.answer) → DeliversDue due (record { command = call q; answer = w.answer; out = w.out })

last_size : (m : Reassembly) (size : ℕ) → sized m size ≡ true → m.frames ≡ 1 → m.missing ≡ size
unfolding sized
last_size m size e f =
    let p = and_both (leb size m.missing) _ e in
    let q = and_both (leb (m.frames - 1) (m.missing - size)) _ p.1 in
    eqb-true m.missing size (or_then (eqb m.frames 1) _ q.1 (eq-eqb m.frames 1 f))

-- the note of an open message under the frame's id: what its frame completes
module _ (s : State) (n place : ℕ) (m : Reassembly) (id : ℕ) (payload : List ℕ) (live : m.live ≡ true) (mine : id ≡ m.id.0) where
  due_none : (m.frames ≡ 1 → ⊥) → 1 ≤ m.frames → m.frames ≤ m.count → due_for place (note_of s n place m) id payload ≡ none
  unfolding due_for note_of
  due_none f a b = rw (live, eq-eqb m.id.0 id (sym mine), ne_eqb (suc (m.count - m.frames)) m.count (λ z. f (omega arith)))

  due_whole : m.frames ≡ 1 → m.frames ≤ m.count
      → due_for place (note_of s n place m) id payload ≡ some (due_at place (take (m.total - m.missing) (block_bytes (owner_of n place) s.link.owners s.pool) ++ payload))
  unfolding due_for note_of
  due_whole f b = rw (live, eq-eqb m.id.0 id (sym mine), eq-eqb (suc (m.count - m.frames)) m.count (omega arith))

-- a frame of an open message: the bytes that were there and the payload are the first of its blocks
module _ (s : State) (k : Sane s) (n place : ℕ) (m : Reassembly) (payload : List ℕ) (live : m.live ≡ true) (most : m.missing ≤ m.total) (fit : length payload ≤ m.missing)
    (held : held_by (owner_of n place) s.link.owners ≡ message_blocks m) where
  abbrev came : List ℕ
  came = take (m.total - m.missing) (block_bytes (owner_of n place) s.link.owners s.pool)

  has_room : m.total ≤ 256 * held_by (owner_of n place) s.link.owners
  unfolding message_blocks need_of
  has_room = let z : held_by (owner_of n place) s.link.owners ≡ (m.total + 255) / 256 = held ∙ rw live in omega arith

  pub joined : take (m.total - (m.missing - length payload)) (block_bytes (owner_of n place) s.link.owners (appended (owner_of n place) (m.total - m.missing) payload s.link.owners s.pool))
      ≡ came ++ payload
  joined =
      let z : m.total - m.missing + length payload ≡ m.total - (m.missing - length payload) = omega arith in
      rw z at (append_fits (owner_of n place) (m.total - m.missing) payload s.link.owners s.pool (omega (arith, k.owners, k.pool)) (omega (arith, has_room)))

  -- with the last one they are all
  whole : m.missing ≡ length payload → length (came ++ payload) ≡ m.total
  whole last =
      let b = bytes_length (owner_of n place) s.link.owners s.pool (omega (arith, k.owners, k.pool)) in
      let t : length came ≡ m.total - m.missing = length-take-le (m.total - m.missing) (block_bytes (owner_of n place) s.link.owners s.pool) (omega (arith, has_room)) in
      length-append came payload ∙ omega arith

-- a frame of an open session
module _ (s : State) (q : Request) (k : Sane s) (h : Header) (e : Extent) (f : read_of q.input ≡ reading.Frame h e) (opened : is_open s h.session.0 ≡ true) where
  abbrev n : ℕ
  n = index_of h.session.0 s.link.rows

  abbrev place : ℕ
  place = place_of h.service.0

  abbrev m : Reassembly
  m = message_at (get_or s.link.rows n no_row) place

  facts : OpenFacts s h.session.0 n
  facts = open_facts s h.session.0 k opened

  abbrev Owes : Ask → Act → Type 0
  Owes ask act =
      Gives q (due_on (some (page_of s n (get_or s.link.rows n no_row))) ask) (applied s.link n s.pool q.out h e.consumed (payload_in q e) q.grant act)

  -- the note at the frame's place
  note_here : get_or (notes_from s n 0 (get_or s.link.rows n no_row).messages) place no_note ≡ note_of s n place m
  note_here = note_at_lem s n (get_or s.link.rows n no_row) place (omega (arith, facts.five, place_below h.service.0))

  -- the frame's bytes, and the service that its place stands for
  size : e.consumed ≡ consumed_by (read_of q.input)
  size = sym (ap consumed_by f)

  service : h.service.0 ∷ [] ≡ service_at place ∷ []
  service = ap (λ (x : ℕ). x ∷ []) (sym (service_place h.service (fault_none h (frame_sound q.input h e f)).service))

  -- every decision gives what is due
  gives : {ask : Ask} {act : Act} → Decided s.link n h (payload_in q e) ask act → Owes ask act
  gives (refuses b) = λ z. absurd z
  gives accepts = λ _. refl
  gives beats = λ _. refl
  gives starts = λ _. refl
  gives starts-not = λ _. refl
  gives (stops d) = λ _. refl
  gives (closes d) = λ _. refl
  gives ends_not = λ _. refl
  gives (hands-over p) = λ _. record { kind = refl; frame = size; on = service; whole = refl; bytes = refl }
  gives (claims p a b c d e) = λ _. refl
  gives (drops d o) = λ z. absurd z
  gives (appends c sizes more) =
      let o = (facts.fits place (place_below h.service.0)).1 c.live in
      λ _. rw (note_here, due_none s n place m h.message.0 (payload_in q e) c.live c.same more o.some_frames o.frames_most)
  gives (delivers c sizes one) =
      let payload : List ℕ = payload_in q e in
      let o = (facts.fits place (place_below h.service.0)).1 c.live in
      let held = facts.room place (place_below h.service.0) in
      let last : m.missing ≡ length payload = last_size m h.size sizes one ∙ sym (payload_length q.input h e f) in
      let all : m.total - (m.missing - length payload) ≡ m.total = omega arith in
      λ _. rw (note_here, due_whole s n place m h.message.0 payload c.live c.same one o.frames_most) (record {
        kind = refl;
        frame = size;
        on = service;
        whole = sym (whole s k n place m payload c.live o.missing_most (omega arith) held last);
        bytes = ap (λ (x : List ℕ). laid x q.out) (rw all at (joined s k n place m payload c.live o.missing_most (omega arith) held));
      })

  pub row_gives : Gives q (due_on (pages s h.session.0) (ask_of h (payload_in q e))) (row_call s q h e)
  row_gives = rw (page_of_lem s h.session.0 opened) (gives (decided s.link n h (payload_in q e) (length q.out)))

call_gives : (s : State) (q : Request) → Sane s → {x : Seen} {w : After} → Called s.link s.pool q.input q.out q.grant x w → Gives q (due_in (pages s) x) w
call_gives s q k short = λ z. absurd z
call_gives s q k (refused b) = λ z. absurd z
call_gives s q k nacked = λ _. refl
call_gives s q k (acked t a v) = λ _. refl
call_gives s q k (in_row h e f t b a) = row_gives s q k h e f (is_open_lem s h.session.0 a)

-- the law
pub hands : (s : State) (c : Command) → Sane s → T (is_accepted (event_of s c).answer) → DeliversDue (due_of (pages s) c) (event_of s c)
hands s (call q) k t = call_gives s q k (called s.link s.pool q.input q.out q.grant) t
