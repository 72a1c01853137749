-- What our sender cuts arrives whole: after each frame the session's row and page are those of so many frames come, so that the next one is
-- accepted; other sessions' calls leave both. By induction along the list of calls.
-- Assumes nothing.
use Prim.Native.Nat.{ℕ, suc, ◌+◌, ◌-◌, ◌*◌, ◌^◌, ◌≤◌, ◌<◌}
use mathlib.Core.Path.{◌≡◌, refl, ap, ◌∙◌, sym, subst}
use mathlib.Core.Logic.{⊎_elim}
use mathlib.Core.Bool.{Bool, true, false, ◌||◌, not}
use mathlib.Core.Option.{Option, some}
use mathlib.Core.List.{List, [], ◌∷◌}
use native.Mathlib.Omega.{arith}
use lib.Dec.{T, eqb, leb}
use lib.ListN.{length, get_or, length-set}
use lib.Seq.{get_or-set_same}
use borrow.Author.Tests.{eqb-true, eqb-false, eq-eqb, ne_eqb, le-leb}
use Rattle.numbers.specs.Bytes.{pick}
use Rattle.numbers.proofs.Choices.{either, split}
use Rattle.frame.specs.declared.Header.{Header}
use Rattle.frame.specs.declared.Extent.{Extent}
use Rattle.frame.specs.declared.Reading.TheVariants as reading
use Rattle.frame.specs.Read.{extent_of, read_of}
use Rattle.frame.specs.Message.{frame_number}
use Rattle.frame.proofs.Laws.{version_range}
use Rattle.frame.proofs.Message.{totals_range}
use Rattle.sender.specs.declared.Outgoing.{Outgoing}
use Rattle.sender.specs.Sender.{fits_one, count_of, chunk_of, frame_at, bytes_of, last_place, joined}
use Rattle.sender.proofs.Counts.{joined_whole}
use Rattle.sender.proofs.Laws.{at_single}
use Rattle.sender.proofs.ReadBack.{totals}
use Rattle.session.specs.declared.Reassembly.{Reassembly}
use Rattle.session.specs.declared.Row.{Row}
use Rattle.session.specs.declared.Act.{Act}
use Rattle.session.specs.declared.Act.TheVariants.{Refuse, Claim, Append, Deliver}
use Rattle.session.specs.Rows.{no_row, no_reassembly, message_at, with_message_at, settled_row, announced}
use Rattle.session.specs.Rules.{version_fits, mtu_fits, is_running, service_fits, command_fits, barred_by}
use Rattle.session.specs.Decide.{place_of, need_of, next_for, content_of, row_after}
use Rattle.link.specs.declared.Link.{Link}
use Rattle.link.specs.declared.Answer.{Answer}
use Rattle.link.specs.declared.Answer.TheVariants as answer
use Rattle.link.specs.State.{index_of, service_at, grant_fits}
use Rattle.link.specs.Call.{After, opens, decision_of, applied, frame_of, call_of}
use Rattle.link.specs.Book.{Request, Command, call, Ask, single, first, next, Seen, within, ask_of, seen_of, names, is_accepted, Note, no_note, Page, Book, note_at, with_note, page_after_if, noted, Due, due_at, due_for, due_on, due_in, due_of}
use Rattle.link.specs.Claim.{State, stepped, state_after, event_of, is_open, consumed_by, front_size, DeliversIt, DeliversDue}
use Rattle.link.specs.Pages.{row_of, notes_from, page_of, pages, Sane}
use Rattle.link.specs.Arrival.{Fronts, Brings, InOrder, last_event, Arrives, ArrivesWhole}
use Rattle.link.proofs.Calls.{Called, short, refused, nacked, acked, in_row, called, guard_is, open_test, opens_zero, payload_in, row_act, row_call}
use Rattle.link.proofs.CutFrames.{Cut, heard_for, id_read, told_by, wide, some_bytes, last_is, front_reads, front-payload, front-size, lengths, first_frame, total_told, count_told, partly, after-header, after_frame, chunk_size, chunk_most, chunk_next, appends, delivers}
use Rattle.link.proofs.Holdings.{open_index}
use Rattle.link.proofs.Others.{Sizes, set_sizes, settled_sizes, other_row, other_page}
use Rattle.link.proofs.RowFacts.{RowFacts, place_below, service_place, open_facts}
use Rattle.link.proofs.RowRules.{fits_settled, message_at_is}
use Rattle.link.proofs.Each.{then_or}
use Rattle.link.proofs.Decisions.{Served, Decided, refuses, claims, decided}
use Rattle.link.proofs.PageAfter.{stored_row, added_on}
use Rattle.link.proofs.BookAfter.{told}
use Rattle.link.proofs.AllSane.{sane}
use Rattle.link.proofs.Settings.{settings}
use Rattle.link.proofs.Deliveries.{hands}
use Rattle.link.proofs.Shown.{row_open, row_is, page_of_lem}

-- ---- one call with a frame of an open session

module _ (s : State) (q : Request) (k : Sane s) (h : Header) (e : Extent) (read : read_of q.input ≡ reading.Frame h e) (opened : is_open s h.session.0 ≡ true) where
  not_opening : opens h ≡ false
  not_opening = split (opens h) (λ t. absurd ((open_index s h.session.0 opened).0 (opens_zero h t))) (λ t. t)

  -- the book sees it as a frame of the session
  seen_is : seen_of q.input ≡ within h.session.0 (ask_of h (payload_in q e))
  unfolding seen_of
  seen_is = rw (read, not_opening)

  -- accepted, it came with an offer in range and 128 bytes of out
  brought : {x : Seen} {w : After} {ask : Ask} → Called s.link s.pool q.input q.out q.grant x w → x ≡ within h.session.0 ask → T (is_accepted w.answer)
      → (grant_fits q.grant ≡ true) × (128 ≤ length q.out)
  brought short z y = absurd y
  brought (refused b) z y = absurd y
  brought nacked z y = let u : ◌≡◌ {A = ℕ} 0 1 = cc in absurd (omega arith)
  brought (acked t a v) z y = let u : ◌≡◌ {A = ℕ} 0 1 = cc in absurd (omega arith)
  brought (in_row _ _ _ t b a) z y = (sym (guard_is s q.grant k) ∙ t, b)

  -- with these it is decided on the row
  call_is : grant_fits q.grant ≡ true → 128 ≤ length q.out → stepped s q ≡ row_call s q h e
  unfolding call_of frame_of
  call_is offer space = rw (guard_is s q.grant k, offer, read, le-leb 128 (length q.out) space, not_opening, open_test s h.session.0 opened)

-- the page of a session after a call that the book sees as a frame of it
told_at : (s : State) (q : Request) (i : ℕ) → Sane s → (ask : Ask) → seen_of q.input ≡ within i ask
    → pages (state_after s (call q)) i ≡ page_after_if (pages s i) ask (stepped s q).answer
told_at s q i k ask seen =
    let a : Answer = (stepped s q).answer in
    ap (λ (b : Book). b i) (sym (told s (call q) k))
    ∙ ap (λ (x : Seen). noted (pages s) q.grant a x i) seen
    ∙ ap (λ (t : Bool). pick t (page_after_if (pages s i) ask a) (pages s i)) (eq-eqb i i refl)

-- a message set in a row of five
set_message : (r : Row) (place : ℕ) (x : Reassembly) → place < 5 → length r.messages ≡ 5 → message_at (with_message_at r place x) place ≡ x
set_message r place x h five = rw (message_at_is r place x h) (get_or-set_same r.messages place x no_reassembly (omega arith))

notes_length : (s : State) (n from : ℕ) (ms : List Reassembly) → length (notes_from s n from ms) ≡ length ms
unfolding notes_from
notes_length s n from [] = refl
notes_length s n from (a ∷ ms) = ap suc (notes_length s n (suc from) ms)

-- a First Frame that is not refused claims its blocks
claims_only : (l : Link) (n : ℕ) (h : Header) (payload : List ℕ) {place id total count : ℕ} {act : Act} → Decided l n h payload (first place id total count) act
    → ((c : ℕ) → act ≡ Refuse c → ⊥) → Served l.version.major l.mtu (get_or l.rows n no_row) h × (act ≡ Claim total count)
claims_only l n h payload (refuses {n = c} b) f = absurd (f c refl)
claims_only l n h payload (claims q _ _ _ _ _) f = (q, refl)

-- a message as it is due
abbrev message_due : Outgoing → List ℕ → Due
message_due o m = record { service = o.service.0; bytes = m }

-- what is handed over, by the last frame of a message
arrived : (o : Outgoing) (m : List ℕ) (s : State) (q : Request) → Sane s → T (is_accepted (stepped s q).answer) → due_of (pages s) (call q) ≡ some (message_due o m)
    → front_size (call q) ≡ length (bytes_of (frame_at o m (last_place o m))) → Arrives o m (event_of s (call q))
arrived o m s q k accepted due size =
    subst (λ (n : ℕ). DeliversIt (message_due o m) n q.out (stepped s q).out (stepped s q).answer) size
    (subst (λ (x : Option Due). DeliversDue x (event_of s (call q))) due (hands s (call q) k accepted))

-- ---- a cut message

module _ (o : Outgoing) (m : List ℕ) (cut : Cut o m) where
  abbrev i : ℕ
  i = o.session.0

  abbrev c : ℕ
  c = count_of o m

  abbrev place : ℕ
  place = place_of o.service.0

  -- the book's note when so many consecutive frames have come
  abbrev so_far : ℕ → Note
  so_far j = record { live = true; id = (id_read o).0; need = need_of (length m); count = c; came = j; bytes = joined (chunk_of o m) j }

  -- ---- between the frames

  -- j frames have come
  record Halfway (s : State) (j : ℕ) : Type 0 where
    pub sane-state : Sane s
    pub row : Row
    pub found : row_of s i ≡ some row
    pub version : row.version ≡ o.version
    pub message : message_at row place ≡ partly o m cut j
    pub page : Page
    pub shown : pages s i ≡ some page
    pub five : length page.notes ≡ 5
    pub note : note_at page place ≡ so_far j
    pub mtu : o.version ≡ 5 → o.chunk + 12 ≤ s.link.mtu

  -- another session's call leaves the session
  passes : (s : State) (j : ℕ) (d : Command) → Halfway s j → T (not (names i d)) → Halfway (state_after s d) j
  passes s j d w t = record {
    sane-state = sane s d w.sane-state;
    row = w.row;
    found = other_row s d i w.row w.sane-state w.found t;
    version = w.version;
    message = w.message;
    page = w.page;
    shown = other_page s d i w.row w.sane-state w.found t ∙ w.shown;
    five = w.five;
    note = w.note;
    mtu = λ e. rw (settings s d).1 (w.mtu e);
  }

  -- nothing bars the next frame
  module _ (s : State) (j : ℕ) (w : Halfway s j) (below : j < c) where
    abbrev r : Row
    r = w.row

    opened : is_open s i ≡ true
    opened = row_open s i r w.found

    is_row : get_or s.link.rows (index_of i s.link.rows) no_row ≡ r
    is_row = row_is s i r w.found

    runs : is_running r o.version o.service.0 ≡ true
    runs =
        let row-facts : RowFacts s.link.version.major r = subst (RowFacts s.link.version.major) is_row (open_facts s i w.sane-state opened).facts in
        let live : (message_at r place).live ≡ true = ap (λ (x : Reassembly). x.live) w.message in
        let running : is_running r r.version (service_at place) ≡ true = (row-facts.messages place (omega (arith, row-facts.five, place_below o.service.0)) live).running in
        ap (λ (v : ℕ). is_running r v o.service.0) (sym w.version)
        ∙ ap (λ (x : ℕ). is_running r r.version x) (sym (service_place o.service cut.accepted.ready.service)) ∙ running

    unbarred : (major : ℕ) → barred_by major s.link.mtu r (after-header o m cut j) ≡ 0
    unfolding barred_by version_fits mtu_fits service_fits command_fits
    unbarred major =
        let v = version_range o.version cut.accepted.ready.version in
        let size : ℕ = length (chunk_of o m (suc j)) in
        let within-mtu : not (eqb r.version 5) || leb size (s.link.mtu - 12) ≡ true
        = then_or (eqb r.version 5) (leb size (s.link.mtu - 12)) (λ t.
        le-leb size (s.link.mtu - 12) (omega (arith, chunk_most o m cut j below, w.mtu (sym w.version ∙ eqb-true r.version 5 t)))) in
        rw (ne_eqb r.version 0 (λ z. omega (arith, v.0, w.version)), eq-eqb o.version r.version (sym w.version), within-mtu, runs)

    -- so it is judged as the message's next: what a call with it comes to
    module _ (q : Request) (b : Brings o m (suc j) q) where
      abbrev h : Header
      h = after-header o m cut j

      abbrev piece : List ℕ
      piece = chunk_of o m (suc j)

      abbrev done : Act → After
      done act = applied s.link (index_of i s.link.rows) s.pool q.out h (extent_of h).consumed (payload_in q (extent_of h)) q.grant act

      reads : read_of q.input ≡ reading.Frame h (extent_of h)
      reads = front_reads o m cut.message q (suc j) b.frame 3 (frame_number (suc j) c) piece (after_frame o m cut j)

      comes-to : (act : Act) → next_for (partly o m cut j) (length q.out) h ≡ act → stepped s q ≡ done act
      unfolding decision_of content_of
      comes-to act e =
          let judged : row_act s q h (extent_of h) ≡ act = rw (is_row, unbarred s.link.version.major, w.message) e in
          call_is s q w.sane-state h (extent_of h) reads opened b.offer b.space ∙ ap done judged

      seen : seen_of q.input ≡ within i (next place (id_read o).0 piece)
      unfolding ask_of
      seen =
          seen_is s q w.sane-state h (extent_of h) reads opened
          ∙ ap (λ (x : List ℕ). within i (next place (id_read o).0 x)) (front-payload o m cut.message q (suc j) b.frame 3 (frame_number (suc j) c) piece (after_frame o m cut j))

      -- one of the inner frames
      module _ (inner : suc j < c) where
        is-append : stepped s q ≡ done Append
        is-append = comes-to Append (appends o m cut j (length q.out) inner)

        abbrev row_next : Row
        row_next = row_after r h q.grant.hash Append

        found-next : row_of (state_after s (call q)) i ≡ some row_next
        found-next =
            let old : Row = get_or s.link.rows (index_of i s.link.rows) no_row in
            ap (λ (x : After). row_of (record { link = x.link; pool = x.pool }) i) is-append
            ∙ stored_row s i w.sane-state opened (row_after old h q.grant.hash Append) _ _ (ap (λ (x : Sizes). x.id) (set_sizes old place _ (place_below o.service.0)))
            ∙ ap (λ (x : Row). some (row_after x h q.grant.hash Append)) is_row

        message-next : message_at row_next place ≡ partly o m cut (suc j)
        message-next =
            let five : length r.messages ≡ 5 = rw is_row at (open_facts s i w.sane-state opened).five in
            let size : length piece ≡ o.chunk = chunk_size o m cut j inner in
            let a : c - j - 1 ≡ c - suc j = omega arith in
            let d : length m - j * o.chunk - length piece ≡ length m - suc j * o.chunk = omega (arith, chunk_next o m cut j) in
            set_message r place _ (place_below o.service.0) five ∙ rw (w.message, a, d)

        shown-next : pages (state_after s (call q)) i ≡ some (with_note w.page place (so_far (suc j)))
        shown-next =
            told_at s q i w.sane-state (next place (id_read o).0 piece) seen
            ∙ ap (λ (x : After). page_after_if (pages s i) (next place (id_read o).0 piece) x.answer) is-append
            ∙ ap (λ (x : Option Page). page_after_if x (next place (id_read o).0 piece) (answer.Accepted (extent_of h).consumed)) w.shown
            ∙ ap some (added_on w.page place (id_read o).0 piece (so_far j) w.note (eq-eqb (id_read o).0 (id_read o).0 refl) (ne_eqb (suc j) c (λ z. omega arith)))

        feeds : Halfway (state_after s (call q)) (suc j)
        feeds = record {
          sane-state = sane s (call q) w.sane-state;
          row = row_next;
          found = found-next;
          version = ap (λ (x : Row). x.version) (message_at_is r place _ (place_below o.service.0)) ∙ w.version;
          message = message-next;
          page = with_note w.page place (so_far (suc j));
          shown = shown-next;
          five = length-set w.page.notes place (so_far (suc j)) ∙ w.five;
          note = get_or-set_same w.page.notes place (so_far (suc j)) no_note (omega (arith, w.five, place_below o.service.0));
          mtu = λ e. rw (settings s (call q)).1 (w.mtu e);
        }

      -- the last one: the message whole
      whole : suc j ≡ c → length m ≤ length q.out → Arrives o m (event_of s (call q))
      unfolding due_for
      whole last room =
          let is-deliver : stepped s q ≡ done Deliver = comes-to Deliver (delivers o m cut j (length q.out) last room) in
          let accepted : T (is_accepted (stepped s q).answer) = subst (λ (x : After). T (is_accepted x.answer)) (sym is-deliver) tt in
          let all : joined (chunk_of o m) (suc j) ≡ m = ap (joined (chunk_of o m)) last ∙ joined_whole o m (some_bytes o m cut) (wide o m cut) in
          let due : due_of (pages s) (call q) ≡ some (message_due o m)
          = ap (due_in (pages s)) seen ∙ ap (λ (x : Option Page). due_on x (next place (id_read o).0 piece)) w.shown
          ∙ due-last (note_at w.page place) j w.note last
          ∙ ap (λ (x : List ℕ). some (due_at place x)) all ∙ ap (λ (x : ℕ). some (record { service = x; bytes = m })) (service_place o.service cut.accepted.ready.service) in
          let size : front_size (call q) ≡ length (bytes_of (frame_at o m (last_place o m)))
          = ap consumed_by reads ∙ front-size o m cut.message q (suc j) b.frame 3 (frame_number (suc j) c) piece (after_frame o m cut j)
          ∙ ap (λ (k : ℕ). length (bytes_of (frame_at o m k))) (last ∙ sym (last_is o m cut)) in
          arrived o m s q w.sane-state accepted due size
        where
          due-last : (x : Note) (k : ℕ) → x ≡ so_far k → suc k ≡ c → due_for place x (id_read o).0 (chunk_of o m (suc k)) ≡ some (due_at place (joined (chunk_of o m) (suc k)))
          due-last x k e l = rw (e, eq-eqb (id_read o).0 (id_read o).0 refl, eq-eqb (suc k) c l)

  -- ---- the first frame

  module _ (s : State) (k : Sane s) (opened : is_open s i ≡ true) (mtu : o.version ≡ 5 → o.chunk + 12 ≤ s.link.mtu)
      (q : Request) (f : Fronts o m 0 q) (accepted : T (is_accepted (stepped s q).answer)) where
    abbrev first-header : Header
    first-header = heard_for o 2 0 (length (lengths o m cut))

    abbrev at : ℕ
    at = index_of i s.link.rows

    abbrev old : Row
    old = get_or s.link.rows at no_row

    abbrev claim : Act
    claim = Claim (length m) c

    abbrev claims-done : Act → After
    claims-done act = applied s.link at s.pool q.out first-header (extent_of first-header).consumed (payload_in q (extent_of first-header)) q.grant act

    first_reads : read_of q.input ≡ reading.Frame first-header (extent_of first-header)
    first_reads = front_reads o m cut.message q 0 f 2 0 (lengths o m cut) (first_frame o m cut)

    -- the book sees its total and its count
    first-ask : ask_of first-header (payload_in q (extent_of first-header)) ≡ first place (id_read o).0 (length m) c
    unfolding ask_of
    first-ask = rw (front-payload o m cut.message q 0 f 2 0 (lengths o m cut) (first_frame o m cut), total_told o m cut, count_told o m cut)

    first-seen : seen_of q.input ≡ within i (first place (id_read o).0 (length m) c)
    first-seen = seen_is s q k first-header (extent_of first-header) first_reads opened ∙ ap (within i) first-ask

    comes : stepped s q ≡ row_call s q first-header (extent_of first-header)
    comes =
        let b = brought s q k first-header (extent_of first-header) first_reads opened (called s.link s.pool q.input q.out q.grant) first-seen accepted in
        call_is s q k first-header (extent_of first-header) first_reads opened b.0 b.1

    -- accepted, it is served and claims its blocks
    claimed : Served s.link.version.major s.link.mtu old first-header × (row_act s q first-header (extent_of first-header) ≡ claim)
    claimed =
        let act : Act = row_act s q first-header (extent_of first-header) in
        let d : Decided s.link at first-header (payload_in q (extent_of first-header)) (first place (id_read o).0 (length m) c) act
        = rw first-ask at (decided s.link at first-header (payload_in q (extent_of first-header)) (length q.out)) in
        claims_only s.link at first-header (payload_in q (extent_of first-header)) d
        (λ n e. subst (λ (x : Act). T (is_accepted (claims-done x).answer)) e (subst (λ (x : After). T (is_accepted x.answer)) comes accepted))

    abbrev first-row : Row
    first-row = row_after old first-header q.grant.hash claim

    is-claim : stepped s q ≡ claims-done claim
    is-claim = comes ∙ ap claims-done claimed.1

    first_found : row_of (state_after s (call q)) i ≡ some first-row
    first_found =
        ap (λ (x : After). row_of (record { link = x.link; pool = x.pool }) i) is-claim
        ∙ stored_row s i k opened first-row _ _ (ap (λ (x : Sizes). x.id) (settled_sizes _ o.version) ∙ ap (λ (x : Sizes). x.id) (set_sizes old place _ (place_below o.service.0)))

    first-message : message_at first-row place ≡ partly o m cut 0
    first-message =
        let a : length m - 0 * o.chunk ≡ length m = omega arith in
        let b : c - 0 ≡ c = omega arith in
        ap (λ (x : Sizes). get_or x.messages place no_reassembly) (settled_sizes (with_message_at old place (announced (id_read o) (length m) c)) o.version)
        ∙ set_message old place (announced (id_read o) (length m) c) (place_below o.service.0) (open_facts s i k opened).five ∙ rw (a, b)

    first-version : first-row.version ≡ o.version
    unfolding settled_row
    first-version =
        let x : Row = with_message_at old place (announced (id_read o) (length m) c) in
        let same : x.version ≡ old.version = ap (λ (y : Row). y.version) (message_at_is old place (announced (id_read o) (length m) c) (place_below o.service.0)) in
        either (λ (y : Row). y.version ≡ o.version) (eqb x.version 0) _ x (λ _. refl) (λ e.
        same ∙ sym (fits_settled s.link.version.major old o.version claimed.0.version
        (ap (λ (v : ℕ). eqb v 0) (sym same) ∙ e)))

    first-shown : pages (state_after s (call q)) i ≡ some (with_note (page_of s at old) place (so_far 0))
    first-shown =
        told_at s q i k (first place (id_read o).0 (length m) c) first-seen
        ∙ ap (λ (x : After). page_after_if (pages s i) (first place (id_read o).0 (length m) c) x.answer) is-claim
        ∙ ap (λ (x : Option Page). page_after_if x (first place (id_read o).0 (length m) c) (answer.Accepted (extent_of first-header).consumed)) (page_of_lem s i opened)

    begins : Halfway (state_after s (call q)) 0
    begins =
        let five : length (notes_from s at 0 old.messages) ≡ 5 = notes_length s at 0 old.messages ∙ (open_facts s i k opened).five in
        record {
          sane-state = sane s (call q) k;
          row = first-row;
          found = first_found;
          version = first-version;
          message = first-message;
          page = with_note (page_of s at old) place (so_far 0);
          shown = first-shown;
          five = length-set (notes_from s at 0 old.messages) place (so_far 0) ∙ five;
          note = get_or-set_same (notes_from s at 0 old.messages) place (so_far 0) no_note (omega (arith, five, place_below o.service.0));
          mtu = λ e. rw (settings s (call q)).1 (mtu e);
        }

  -- ---- the calls after the first

  -- past the last frame no call is left
  over : (k : ℕ) (cs : List Command) → last_place o m < k → InOrder o m k cs → cs ≡ []
  over k [] h e = refl
  over k (call q ∷ cs) h e = ⊎_elim (λ x. absurd (omega (arith, x.1))) (λ x. absurd (omega (arith, (told_by o m cut.message q k x.0.frame).place))) e

  walks : (s : State) (d : Command) (j : ℕ) (cs : List Command) → Halfway (state_after s d) j → j < c → InOrder o m (suc j) cs → Arrives o m (last_event s d cs)
  walks s d j [] w below e = absurd (omega (arith, last_is o m cut))
  walks s d j (call q ∷ cs) w below e =
      let t : State = state_after s d in
      ⊎_elim
      (λ x. walks t (call q) j cs (passes t j (call q) w x.0) below x.2)
      (λ x. split (eqb (suc j) c)
      (λ y.
      let last : suc j ≡ c = eqb-true (suc j) c y in
      let none_left : cs ≡ [] = over (suc (suc j)) cs (omega (arith, last_is o m cut)) x.1 in
      subst (λ (ds : List Command). Arrives o m (last_event t (call q) ds)) (sym none_left) (whole t j w below q x.0 last (x.0.whole (last ∙ sym (last_is o m cut)))))
      (λ y.
      let inner : suc j < c = omega (arith, eqb-false (suc j) c y) in
      walks t (call q) (suc j) cs (feeds t j w below q x.0 inner) inner x.1)) e

-- ---- a message of one chunk: its one frame, accepted, delivers it

module _ (o : Outgoing) (m : List ℕ) (small : o.message.0 < 2 ^ 32) (one : fits_one o m ≡ true) (s : State) (k : Sane s) (opened : is_open s o.session.0 ≡ true)
    (q : Request) (f : Fronts o m 0 q) (accepted : T (is_accepted (stepped s q).answer)) where
  abbrev single-header : Header
  single-header = heard_for o 1 0 (length m)

  abbrev single-place : ℕ
  single-place = place_of o.service.0

  single_reads : read_of q.input ≡ reading.Frame single-header (extent_of single-header)
  single_reads = front_reads o m small q 0 f 1 0 m (at_single o 0 m one)

  single_seen : seen_of q.input ≡ within o.session.0 (single single-place m)
  unfolding ask_of
  single_seen =
      seen_is s q k single-header (extent_of single-header) single_reads opened
      ∙ ap (λ (x : List ℕ). within o.session.0 (single single-place x)) (front-payload o m small q 0 f 1 0 m (at_single o 0 m one))

  last_single : last_place o m ≡ 0
  unfolding last_place
  last_single = rw one

  handed : Arrives o m (event_of s (call q))
  handed =
      let due : due_of (pages s) (call q) ≡ some (message_due o m)
      = ap (due_in (pages s)) single_seen ∙ ap (λ (x : Option Page). due_on x (single single-place m)) (page_of_lem s o.session.0 opened)
      ∙ ap (λ (x : ℕ). some (record { service = x; bytes = m })) (service_place o.service (told_by o m small q 0 f).accepted.ready.service) in
      let size : front_size (call q) ≡ length (bytes_of (frame_at o m (last_place o m)))
      = ap consumed_by single_reads ∙ front-size o m small q 0 f 1 0 m (at_single o 0 m one) ∙ ap (λ (j : ℕ). length (bytes_of (frame_at o m j))) (sym last_single) in
      arrived o m s q k accepted due size

  -- no call follows it
  alone : (cs : List Command) → InOrder o m 1 cs → cs ≡ []
  alone [] e = refl
  alone (call p ∷ cs) e =
      let last = last_single in
      ⊎_elim (λ x. absurd (omega (arith, x.1))) (λ x. absurd (omega (arith, (told_by o m small p 1 x.0.frame).place))) e

-- the statement
pub arrives_whole : ArrivesWhole
arrives_whole s k o m small opened mtu q f accepted rest order =
    split (fits_one o m)
    (λ one. subst (λ (cs : List Command). Arrives o m (last_event s (call q) cs)) (sym (alone o m small one s k opened q f accepted rest order)) (handed o m small one s k opened q f accepted))
    (λ several.
    let cut : Cut o m = record { accepted = (told_by o m small q 0 f).accepted; several = several; message = small } in
    let some_frames : 1 ≤ count_of o m = (totals_range (length m) (count_of o m) (totals o m cut.accepted several)).some_frames in
    walks o m cut s (call q) 0 rest (begins o m cut s k opened mtu q f accepted) some_frames order)
