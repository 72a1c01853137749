-- The page of a session after a frame of it: what the book notes of the frame and its answer is what the row and its blocks then show.
-- By the decision's cases, each of which sets one message at most.
-- Assumes nothing.
use Prim.Native.Nat.{ℕ, zero, suc, ◌+◌, ◌-◌, ◌≤◌}
use mathlib.Core.Path.{◌≡◌, refl, ap, ◌∙◌, sym}
use mathlib.Core.Logic.{◌⊎◌, ⊎_elim}
use mathlib.Core.Bool.{true, false, ◌||◌}
use mathlib.Core.Option.{Option, none, some}
use mathlib.Core.List.{List, [], ◌∷◌, ◌++◌}
use native.Mathlib.Omega.{arith}
use lib.Dec.{eqb, leb}
use lib.ListN.{length, get_or, set, length-set, take}
use lib.Seq.{get_or-set_same}
use borrow.Author.Tests.{leb-true, eq-eqb, ne_eqb, lt-ltb}
use Rattle.numbers.proofs.Choices.{and_both}
use Rattle.frame.specs.declared.Header.{Header}
use Rattle.frame.specs.declared.MessageId.{MessageId}
use Rattle.blocks.specs.Map.{claimed, released}
use Rattle.blocks.specs.Pool.{block_bytes, appended}
use Rattle.blocks.proofs.Contents.{append_others, claim_bytes, release_bytes}
use Rattle.session.specs.declared.Reassembly.{Reassembly}
use Rattle.session.specs.declared.Row.{Row}
use Rattle.session.specs.declared.Act.{Act}
use Rattle.session.specs.declared.Act.TheVariants.{Drop, Claim, Append, Deliver}
use Rattle.session.specs.Rows.{no_row, free_row, no_reassembly, message_at, announced, shortened, dropped_row}
use Rattle.session.specs.Decide.{place_of, need_of, sized, row_after}
use Rattle.link.specs.declared.Answer.TheVariants as answer
use Rattle.link.specs.State.{index_of, owner_of, with_row, with_owners}
use Rattle.link.specs.Call.{After, applied}
use Rattle.link.specs.Book.{Request, Ask, single, first, next, end, other, Note, no_note, Page, note_at, with_note, is_under, added, struck, page_after}
use Rattle.link.specs.Claim.{State, is_open}
use Rattle.link.specs.Pages.{row_of, note_of, notes_from, page_of, page_if, pages, Sane}
use Rattle.link.proofs.Shown.{rules_say, page_of_lem, closed_page, missing_closed}
use Rattle.link.proofs.Table.{index_set_same, index_set_gone, owner_some}
use Rattle.link.proofs.RowFacts.{place_below, OpenFacts, open_facts}
use Rattle.session.proofs.Laws.{Continues}
use Rattle.link.proofs.Decisions.{Decided, refuses, accepts, beats, starts, starts-not, stops, closes, ends_not, hands-over, claims, drops, appends, delivers}
use Rattle.link.proofs.Deliveries.{note_at_lem, joined}
use Rattle.link.proofs.Others.{Sizes, sizes_with, sizes, set_sizes, settled_sizes, service_sizes, notes_same}

-- ---- notes

-- owners of two places of a row differ
owner_place : (n q place : ℕ) → (q ≡ place → ⊥) → owner_of n q ≡ owner_of n place → ⊥
unfolding owner_of
owner_place n q place d e = d (omega arith)

module _ (s t : State) (n : ℕ) where
  -- the blocks at a place read the same
  abbrev SameAt : ℕ → Type 0
  SameAt q = block_bytes (owner_of n q) t.link.owners t.pool ≡ block_bytes (owner_of n q) s.link.owners s.pool

  -- one message set, one note set
  notes_set : (from : ℕ) (ms : List Reassembly) (k : ℕ) (m : Reassembly) → ((q : ℕ) → (q ≡ from + k → ⊥) → SameAt q)
      → notes_from t n from (set ms k m) ≡ set (notes_from s n from ms) k (note_of t n (from + k) m)
  unfolding notes_from note_of
  notes_set from [] k m f = refl
  notes_set from (a ∷ ms) zero m f =
      let z : from + 0 ≡ from = omega arith in
      rw (z, notes_same s t n (suc from) ms (λ q a b. f q (λ e. omega arith)))
  notes_set from (a ∷ ms) (suc k) m f =
      let z : from + suc k ≡ suc from + k = omega arith in
      rw (z, note-same from a (f from (λ e. omega arith)), notes_set (suc from) ms k m (λ q d. f q (λ e. d (omega arith))))
    where
      note-same : (place : ℕ) (a : Reassembly) → SameAt place → note_of t n place a ≡ note_of s n place a
      note-same place a e = rw e

no_note_lem : (t : State) (n place : ℕ) → note_of t n place no_reassembly ≡ no_note
unfolding note_of
no_note_lem t n place = refl

-- ---- small facts

-- the note of a message of which nothing has come
announced_note : (t : State) (n place : ℕ) (id : MessageId) (total count : ℕ)
    → note_of t n place (announced id total count) ≡ record { live = true; id = id.0; need = need_of total; count = count; came = 0; bytes = [] }
unfolding note_of
announced_note t n place id total count =
    let a : count - count ≡ 0 = omega arith in
    let b : total - total ≡ 0 = omega arith in
    rw (a, b)

-- refusals but 24 and 25 are not noted
pub refused_page : (p : Page) (ask : Ask) (c : ℕ) → c ≤ 23 → page_after p ask (answer.Refused c) ≡ some p
refused_page p (single place x) c b = refl
refused_page p (first place id total count) c b = refl
refused_page p (next place id x) c b = rw (ne_eqb c 24 (λ e. omega arith), ne_eqb c 25 (λ e. omega arith))
refused_page p (end place) c b = refl
refused_page p other c b = refl

-- a frame is no longer than what is missing
sized_most : (m : Reassembly) (size : ℕ) → sized m size ≡ true → size ≤ m.missing
unfolding sized
sized_most m size e = leb-true size m.missing (and_both (leb size m.missing) _ e).0

-- a frame of an open message in the book: not the last, or the last
module _ (p : Page) (place id : ℕ) (payload : List ℕ) (x : Note) (e : note_at p place ≡ x) (u : is_under x id ≡ true) where
  pub added_on : eqb (suc x.came) x.count ≡ false
      → added p place id payload
      ≡ with_note p place (record { live = x.live; id = x.id; need = x.need; count = x.count; came = suc x.came; bytes = x.bytes ++ payload })
  unfolding added
  added_on f = rw (e, u, f)

  added_last : eqb (suc x.came) x.count ≡ true → added p place id payload ≡ with_note p place no_note
  unfolding added
  added_last f = rw (e, u, f)

-- ---- the page of an open session: n its row's place, r the row

module _ (s : State) (i : ℕ) (k : Sane s) (opened : is_open s i ≡ true) where
  abbrev n : ℕ
  n = index_of i s.link.rows

  abbrev r : Row
  r = get_or s.link.rows (index_of i s.link.rows) no_row

  facts : OpenFacts s i (index_of i s.link.rows)
  facts = open_facts s i k opened

  abbrev page : Page
  page = page_of s n r

  abbrev pub stored : Row → List ℕ → List ℕ → State
  stored x owners pool = record { link = with_owners (with_row s.link (index_of i s.link.rows) x) owners; pool = pool }

  -- the row stored is the session's
  pub stored_row : (x : Row) (owners pool : List ℕ) → x.id.0 ≡ r.id.0 → row_of (stored x owners pool) i ≡ some x
  unfolding row_of is_open
  stored_row x owners pool e =
      let rs : List Row = s.link.rows in
      rw (index_set_same i rs n x e, length-set rs n x, ne_eqb i 0 facts.some_id, lt-ltb n (length rs) facts.below, get_or-set_same rs n x no_row facts.below)

  abbrev page_with : State → Sizes → Option Page
  page_with t z = some (record { guarantee = z.guarantee; cap = z.cap; notes = notes_from t n 0 z.messages })

  stored_page : (x : Row) (ms : List Reassembly) (owners pool : List ℕ) → sizes x ≡ sizes_with r ms → pages (stored x owners pool) i ≡ page_with (stored x owners pool) (sizes_with r ms)
  unfolding pages
  stored_page x ms owners pool e =
      let t : State = stored x owners pool in
      let id : x.id.0 ≡ r.id.0 = ap (λ (z : Sizes). z.id) e in
      ap (λ (y : ℕ). page_if t y (row_of t i)) (index_set_same i s.link.rows n x id) ∙ ap (λ (o : Option Row). page_if t n o) (stored_row x owners pool id) ∙ ap (page_with t) e

  -- no message set, no block touched
  same_page : (x : Row) → sizes x ≡ sizes r → pages (stored x s.link.owners s.pool) i ≡ some page
  same_page x e =
      let t : State = stored x s.link.owners s.pool in
      stored_page x r.messages s.link.owners s.pool e
      ∙ ap (λ (y : List Note). some (record { guarantee = r.guarantee; cap = r.cap; notes = y })) (notes_same s t n 0 r.messages (λ q _ _. refl))

  -- one message set
  set_page : (x : Row) (place : ℕ) (m : Reassembly) (owners pool : List ℕ) (note : Note) → sizes x ≡ sizes_with r (set r.messages place m)
      → ((q : ℕ) → (q ≡ place → ⊥) → SameAt s (stored x owners pool) n q) → note_of (stored x owners pool) n place m ≡ note
      → pages (stored x owners pool) i ≡ some (with_note page place note)
  set_page x place m owners pool note e others f =
      let t : State = stored x owners pool in
      let z : 0 + place ≡ place = omega arith in
      stored_page x (set r.messages place m) owners pool e
      ∙ ap (λ (y : List Note). some (record { guarantee = r.guarantee; cap = r.cap; notes = y }))
      (notes_set s t n 0 r.messages place m (λ q d. others q (λ u. d (omega arith))) ∙ ap (λ (y : ℕ). set (notes_from s n 0 r.messages) place (note_of t n y m)) z
      ∙ ap (λ (y : Note). set (notes_from s n 0 r.messages) place y) f)

  -- a closed session has no page
  pub gone_page : (x : Row) (owners pool : List ℕ) → x.id.0 ≡ 0 → pages (stored x owners pool) i ≡ none
  gone_page x owners pool e =
      closed_page (stored x owners pool) i (missing_closed (stored x owners pool) i
      (index_set_gone i s.link.rows n x (rules_say s.link k.rules).ids facts.below facts.mine facts.some_id (λ z. facts.some_id (sym z ∙ e))))

  -- ---- after a decision: h the frame's header, payload its payload

  module _ (q : Request) (h : Header) (consumed : ℕ) (payload : List ℕ) (size : length payload ≡ h.size) where
    abbrev done : Act → After
    done act = applied s.link n s.pool q.out h consumed payload q.grant act

    abbrev after : Act → State
    after act = record { link = (done act).link; pool = (done act).pool }

    -- the book's page is the state's
    abbrev Tells : Ask → Act → Type 0
    Tells ask act = page_after page ask (done act).answer ≡ pages (after act) i

    abbrev place : ℕ
    place = place_of h.service.0

    abbrev m : Reassembly
    m = message_at r place

    -- where nothing is done
    open-page : pages s i ≡ some page
    open-page = page_of_lem s i opened

    -- blocks of other places: freed, filled, claimed at this one
    freed : (pool : List ℕ) (p : ℕ) → (p ≡ place → ⊥)
        → block_bytes (owner_of n p) (released (owner_of n place) (owner_of n place) s.link.owners) pool ≡ block_bytes (owner_of n p) s.link.owners pool
    freed pool p d = release_bytes (owner_of n place) (owner_of n place) (owner_of n p) s.link.owners pool (owner_some n p) (λ low high. owner_place n p place d (omega arith))

    filled : (start p : ℕ) → (p ≡ place → ⊥)
        → block_bytes (owner_of n p) s.link.owners (appended (owner_of n place) start payload s.link.owners s.pool) ≡ block_bytes (owner_of n p) s.link.owners s.pool
    filled start p d = append_others (owner_of n p) (owner_of n place) start payload s.link.owners s.pool (owner_place n p place d)

    -- the note at the frame's place
    here : note_at page place ≡ note_of s n place m
    here = note_at_lem s n r place (omega (arith, facts.five, place_below h.service.0))

    -- a message that goes
    dropped : (pool : List ℕ) → ((p : ℕ) → (p ≡ place → ⊥) → block_bytes (owner_of n p) s.link.owners pool ≡ block_bytes (owner_of n p) s.link.owners s.pool)
        → (x : Row) → sizes x ≡ sizes_with r (set r.messages place no_reassembly)
        → pages (stored x (released (owner_of n place) (owner_of n place) s.link.owners) pool) i ≡ some (with_note page place no_note)
    dropped pool f x e =
        set_page x place no_reassembly (released (owner_of n place) (owner_of n place) s.link.owners) pool no_note e
        (λ p d. freed pool p d ∙ f p d) (no_note_lem (stored x (released (owner_of n place) (owner_of n place) s.link.owners) pool) n place)

    drop-sizes : sizes (dropped_row r place) ≡ sizes_with r (set r.messages place no_reassembly)
    drop-sizes = set_sizes r place no_reassembly (place_below h.service.0)

    claim-tells : (total count : ℕ) → Tells (first place h.message.0 total count) (Claim total count)
    claim-tells total count =
        let x : Row = row_after r h q.grant.hash (Claim total count) in
        let owners : List ℕ = claimed (owner_of n place) (need_of total) s.link.owners in
        sym (set_page x place (announced h.message total count) owners s.pool _
        (settled_sizes _ h.version ∙ set_sizes r place (announced h.message total count) (place_below h.service.0))
        (λ p d. claim_bytes (owner_of n p) (owner_of n place) (need_of total) s.link.owners s.pool (owner_place n p place d) (owner_some n p))
        (announced_note (stored x owners s.pool) n place h.message total count))

    -- the note that a consecutive frame meets
    abbrev came : List ℕ
    came = take (m.total - m.missing) (block_bytes (owner_of n place) s.link.owners s.pool)

    abbrev open-note : Note
    open-note = record { live = true; id = m.id.0; need = need_of m.total; count = m.count; came = m.count - m.frames; bytes = came }

    met : m.live ≡ true → note_at page place ≡ open-note
    unfolding note_of
    met live = here ∙ rw live

    abbrev fed-pool : List ℕ
    fed-pool = appended (owner_of n place) (m.total - m.missing) payload s.link.owners s.pool

    -- and the one that it leaves if it is not the last
    fed-note : (x : Row) → Continues h m → sized m h.size ≡ true → note_of (stored x s.link.owners fed-pool) n place (shortened m h.size)
        ≡ record { live = true; id = m.id.0; need = need_of m.total; count = m.count; came = suc (m.count - m.frames); bytes = came ++ payload }
    unfolding note_of
    fed-note x c fits =
        let fit = (facts.fits place (place_below h.service.0)).1 c.live in
        let z : m.count - (m.frames - 1) ≡ suc (m.count - m.frames) = omega (arith, fit.some_frames, fit.frames_most) in
        let j : take (m.total - (m.missing - h.size)) (block_bytes (owner_of n place) s.link.owners fed-pool) ≡ came ++ payload
        = rw size at (joined s k n place m payload c.live fit.missing_most (omega (arith, sized_most m h.size fits)) (facts.room place (place_below h.service.0))) in
        rw (c.live, z, j)

    append-tells : Continues h m → sized m h.size ≡ true → (m.frames ≡ 1 → ⊥) → Tells (next place h.message.0 payload) Append
    append-tells c fits more =
        let fit = (facts.fits place (place_below h.service.0)).1 c.live in
        let x : Row = row_after r h q.grant.hash Append in
        ap some (added_on page place h.message.0 payload open-note (met c.live) (eq-eqb m.id.0 h.message.0 (sym c.same))
        (ne_eqb (suc (m.count - m.frames)) m.count (λ z. more (omega (arith, fit.some_frames, fit.frames_most)))))
        ∙ sym (set_page x place (shortened m h.size) s.link.owners fed-pool _ (set_sizes r place (shortened m h.size) (place_below h.service.0))
        (filled (m.total - m.missing)) (fed-note x c fits))

    -- the last one
    deliver-tells : Continues h m → m.frames ≡ 1 → Tells (next place h.message.0 payload) Deliver
    deliver-tells c one =
        let fit = (facts.fits place (place_below h.service.0)).1 c.live in
        ap some (added_last page place h.message.0 payload open-note (met c.live) (eq-eqb m.id.0 h.message.0 (sym c.same))
        (eq-eqb (suc (m.count - m.frames)) m.count (omega (arith, fit.frames_most))))
        ∙ sym (dropped fed-pool (filled (m.total - m.missing)) (dropped_row r place) drop-sizes)

    -- 24 and 25
    drop-tells : (c : ℕ) → (c ≡ 24) ⊎ (c ≡ 25) → Continues h m → Tells (next place h.message.0 payload) (Drop c)
    unfolding struck
    drop-tells c d o =
        let z : eqb c 24 || eqb c 25 ≡ true = ⊎_elim (λ e. rw e) (λ e. rw e) d in
        let under : is_under (note_at page place) h.message.0 ≡ true = ap (λ (x : Note). is_under x h.message.0) (met o.live) ∙ eq-eqb m.id.0 h.message.0 (sym o.same) in
        rw (z, under) (sym (dropped s.pool (λ _ _. refl) (dropped_row r place) drop-sizes))

    -- every decision is noted as it is
    pub tells : {ask : Ask} {act : Act} → Decided s.link n h payload ask act → Tells ask act
    tells {ask} (refuses {n = c} b) = refused_page page ask c b ∙ sym open-page
    tells accepts = sym open-page
    tells beats = sym open-page
    tells starts = sym (same_page _ (service_sizes r h.service _))
    tells starts-not = sym open-page
    tells (stops d) = rw (ne_eqb place 1 d) (sym (dropped s.pool (λ _ _. refl) _ (service_sizes _ h.service _ ∙ drop-sizes)))
    tells (closes d) = rw (eq-eqb place 1 d) (sym (gone_page free_row (released (owner_of n 0) (owner_of n 4) s.link.owners) s.pool refl))
    tells ends_not = sym open-page
    tells (hands-over p) = sym (same_page _ (settled_sizes r h.version))
    tells (claims p a b c d e) = claim-tells _ _
    tells (drops d o) = drop-tells _ d o
    tells (appends o fits more) = append-tells o fits more
    tells (delivers o fits one) = deliver-tells o one
