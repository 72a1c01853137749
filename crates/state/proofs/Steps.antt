-- One call on a state's bytes. What it makes of the link that they are is that link, with one row set, or with the owners set too; laid over the bytes, each of
-- these is read back as it is, and they stay a state. So a call on bytes is the call on the link.
-- Assumes nothing.
use Prim.Native.Nat.{ℕ, ◌-◌, ◌^◌, ◌≤◌, ◌<◌}
use mathlib.Core.Path.{◌≡◌, refl, ap, ◌∙◌, sym, subst}
use mathlib.Core.Logic.{⊎_elim}
use mathlib.Core.Bool.{true, not, ◌&&◌}
use mathlib.Core.List.{List, [], ◌∷◌}
use native.Mathlib.Omega.{arith}
use lib.Dec.{eqb, ltb, leb}
use lib.ListN.{length, get_or, drop, length-drop}
use lib.Seq.{length-take-le}
use borrow.Author.Tests.{eqb-true, eq-eqb, ltb-true}
use Rattle.numbers.specs.Bytes.{AreBytes, part}
use Rattle.numbers.specs.Numbers.{value_le}
use Rattle.numbers.proofs.Choices.{either, and_both, and_yes}
use Rattle.numbers.proofs.Laws.{bytes_take, bytes_drop}
use Rattle.frame.specs.declared.Header.{Header}
use Rattle.frame.proofs.Laws.{fault_none, version_range}
use Rattle.frame.proofs.Answers.{frame_sound, message_bound}
use Rattle.blocks.specs.Map.{free, claimed, released}
use Rattle.blocks.proofs.Counts.{claim_length, release_length}
use Rattle.session.specs.declared.Row.{Row}
use Rattle.session.specs.declared.Act.{Act}
use Rattle.session.specs.Rows.{no_row}
use Rattle.session.specs.Decide.{place_of, need_of, row_after}
use Rattle.link.specs.declared.Link.{Link}
use Rattle.link.specs.declared.Grant.{Grant}
use Rattle.link.specs.State.{index_of, owner_of, with_row, with_owners}
use Rattle.link.specs.Call.{After, old_version, applied, call_of}
use Rattle.link.specs.Book.{Request, call, Ask, Seen}
use Rattle.link.specs.Claim.{state_after, event_of}
use Rattle.link.proofs.Table.{lowest_between}
use Rattle.link.proofs.RowFacts.{place_below}
use Rattle.link.proofs.Decisions.{Decided, refuses, accepts, beats, starts, starts-not, stops, closes, ends_not, hands-over, claims, drops, appends, delivers, decided}
use Rattle.link.proofs.Calls.{new_row, admitted, Called, short, refused, nacked, acked, in_row, called}
use Rattle.state.specs.Fields.{number_at}
use Rattle.state.specs.Layout.{link_of, with_row_bytes}
use Rattle.state.specs.Calls.{is_state, with_owners_bytes, stored_in, Left, left_by, call_in}
use Rattle.state.specs.Lists.{Lent, state_of, lent_after, event_in, Typed, StateBytes}
use Rattle.state.proofs.Rows.{row_of_link, front_kept, link_put}
use Rattle.state.proofs.Stored.{row_put_length, row_put_bytes, owners_put_length, owners_put_bytes, owners_put_before, owners_put, stored_same, stored_row, stored_both}
use Rattle.state.proofs.Fitting.{Fitting, row_fitting, row_fits, fitting_opened, after_fitting}

-- ---- the owners stay bytes

claimed_bytes : (owner n : ℕ) (map : List ℕ) → owner < 256 → AreBytes map → AreBytes (claimed owner n map)
unfolding claimed
claimed_bytes owner n [] h b = tt
claimed_bytes owner n (o ∷ map) h b =
    either AreBytes (eqb o free && ltb 0 n) _ _ (λ _. (h, claimed_bytes owner (n - 1) map h b.1)) (λ _. (b.0, claimed_bytes owner n map h b.1))

pub released_bytes : (low high : ℕ) (map : List ℕ) → AreBytes map → AreBytes (released low high map)
unfolding released
released_bytes low high [] b = tt
released_bytes low high (o ∷ map) b =
    (either (λ (x : ℕ). x < 256) (leb low o && leb o high) free o (λ _. omega arith) (λ _. b.0), released_bytes low high map b.1)

owner_byte : (i place : ℕ) → i < 8 → place < 5 → owner_of i place < 256
unfolding owner_of
owner_byte i place h k = omega arith

-- ---- what a call makes of a link

module _ (l : Link) where
  pub data Changed : Link → Type 0 where
    as_it_was : Changed l
    one-row : (i : ℕ) (r : Row) → i < 8 → Fitting r → Changed (with_row l i r)
    row-and-owners : (i : ℕ) (r : Row) (os : List ℕ) → i < 8 → Fitting r → length os ≡ 256 → AreBytes os → Changed (with_owners (with_row l i r) os)

-- bytes that are a state, and the link that they are
pub record Reads (t : List ℕ) (l : Link) : Type 0 where
  pub link : link_of t ≡ l
  pub bytes : StateBytes t

pub state_length : (s : List ℕ) → is_state s ≡ true → length s ≡ 2688
unfolding is_state
state_length s t = eqb-true (length s) 2688 (and_both (eqb (length s) 2688) (eqb (number_at s 0 1) 1) t).0

-- the layout's number stays
still_state : (s t : List ℕ) → is_state s ≡ true → length t ≡ 2688 → part t 0 1 ≡ part s 0 1 → is_state t ≡ true
unfolding is_state
still_state s t k l e =
    let n : number_at s 0 1 ≡ 1 = eqb-true (number_at s 0 1) 1 (and_both (eqb (length s) 2688) (eqb (number_at s 0 1) 1) k).1 in
    and_yes (eqb (length t) 2688) (eqb (number_at t 0 1) 1) (eq-eqb (length t) 2688 l) (eq-eqb (number_at t 0 1) 1 (ap value_le e ∙ n))

-- the owners of a state
pub owners_length : (s : List ℕ) → length s ≡ 2688 → length (link_of s).owners ≡ 256
owners_length s l = length-take-le 256 (drop 544 s) (omega (arith, length-drop 544 s))

pub owners_bytes : (s : List ℕ) → AreBytes s → AreBytes (link_of s).owners
owners_bytes s b = bytes_take 256 (drop 544 s) (bytes_drop 544 s b)

module _ (s : List ℕ) (k : StateBytes s) where
  long : length s ≡ 2688
  long = state_length s k.state

  row_reads : (i : ℕ) (r : Row) → i < 8 → Fitting r → Reads (with_row_bytes s i r) (with_row (link_of s) i r)
  row_reads i r h f = record {
    link = link_put s i r long h (row_fits s i k.bytes long h r f);
    bytes = record {
      bytes = row_put_bytes s i r k.bytes long h;
      state = still_state s (with_row_bytes s i r) k.state (row_put_length s i r long h) (front_kept s i r long h 0 1 (omega arith));
    };
  }

  -- laid over the bytes, what a call makes of the link is read back as it is
  pub reads_back : {l : Link} → Changed (link_of s) l → Reads (stored_in s l) l
  reads_back as_it_was = subst (λ (t : List ℕ). Reads t (link_of s)) (sym (stored_same s k.bytes long)) (record { link = refl; bytes = k })
  reads_back (one-row i r h f) = subst (λ (t : List ℕ). Reads t (with_row (link_of s) i r)) (sym (stored_row s i r k.bytes long h)) (row_reads i r h f)
  reads_back (row-and-owners i r os h f n b) =
      let t = with_row_bytes s i r in
      let q : length t ≡ 2688 = row_put_length s i r long h in
      let w = row_reads i r h f in
      subst (λ (u : List ℕ). Reads u (with_owners (with_row (link_of s) i r) os)) (sym (stored_both s i r os k.bytes long h n))
      (record {
        link = owners_put t os q n ∙ ap (λ (l : Link). with_owners l os) w.link;
        bytes = record {
          bytes = owners_put_bytes t os w.bytes.bytes b q n;
          state = still_state t (with_owners_bytes t os) w.bytes.state (owners_put_length t os q n) (owners_put_before t os q n 0 1 (omega arith));
        };
      })

  -- a row of the link
  pub own_fitting : (i : ℕ) → i < 8 → Fitting (get_or (link_of s).rows i no_row)
  own_fitting i h = subst Fitting (sym (row_of_link s no_row i h)) (row_fitting s i k.bytes long h)

  -- a row set, and the blocks of some owners freed
  pub freed : (i low high : ℕ) (r : Row) → i < 8 → Fitting r → Changed (link_of s) (with_owners (with_row (link_of s) i r) (released low high (link_of s).owners))
  freed i low high r h f =
      let os : List ℕ = (link_of s).owners in
      row-and-owners i r (released low high os) h f (release_length low high os ∙ owners_length s long) (released_bytes low high os (owners_bytes s k.bytes))

  -- ---- the cases of a call

  module _ (p input o : List ℕ) (g : Grant) where
    abbrev l : Link
    l = link_of s

    module _ (i : ℕ) (below : i < 8) (h : Header) (version : h.version < 256) (message : h.message.0 < 2 ^ 32) (hash : g.hash < 2 ^ 32)
        (consumed : ℕ) (payload : List ℕ) where
      abbrev row : Act → Row
      row act = row_after (get_or l.rows i no_row) h g.hash act

      abbrev owner : ℕ
      owner = owner_of i (place_of h.service.0)

      fits : {ask : Ask} {act : Act} → Decided l i h payload ask act → Fitting (row act)
      fits d = after_fitting l i h payload g.hash (own_fitting i below) version message hash d

      applied-changed : {ask : Ask} {act : Act} → Decided l i h payload ask act → Changed l (applied l i p o h consumed payload g act).link
      applied-changed (refuses b) = as_it_was
      applied-changed accepts = as_it_was
      applied-changed beats = as_it_was
      applied-changed starts = one-row i _ below (fits starts)
      applied-changed starts-not = as_it_was
      applied-changed (stops d) = freed i owner owner _ below (fits (stops d))
      applied-changed (closes d) = freed i (owner_of i 0) (owner_of i 4) _ below (fits (closes d))
      applied-changed ends_not = as_it_was
      applied-changed (hands-over q) = one-row i _ below (fits (hands-over q))
      applied-changed (claims {total = total} q n a b c d) =
          let need : ℕ = need_of total in
          row-and-owners i _ (claimed owner need l.owners) below (fits (claims q n a b c d)) (claim_length owner need l.owners ∙ owners_length s long)
          (claimed_bytes owner need l.owners (owner_byte i _ below (place_below h.service.0)) (owners_bytes s k.bytes))
      applied-changed (drops d c) = freed i owner owner _ below (fits (drops d c))
      applied-changed (appends c a b) = one-row i _ below (fits (appends c a b))
      applied-changed (delivers c a b) = freed i owner owner _ below (fits (delivers c a b))

    module _ (bytes : AreBytes input) (guarantee : g.guarantee < 2 ^ 16) (cap : g.cap < 2 ^ 16) (hash : g.hash < 2 ^ 32) where
      old_below : (major : ℕ) → old_version major < 256
      unfolding old_version
      old_below major = either (λ (v : ℕ). v < 256) (eqb major 1) 1 0 (λ _. omega arith) (λ _. omega arith)

      call-changed : {x : Seen} {w : After} → Called l p input o g x w → Changed l w.link
      call-changed short = as_it_was
      call-changed (refused b) = as_it_was
      call-changed nacked = as_it_was
      call-changed (acked {v = v} t a u) =
          let version : v < 256 = ⊎_elim (λ e. rw e (old_below l.version.major)) (λ e. omega (arith, e.0)) u in
          one-row (index_of 0 l.rows) (new_row l g v) (admitted l.rows g a).0
          (fitting_opened _ g.guarantee g.cap v g.hash (omega (arith, (lowest_between l.rows refl).1)) guarantee cap version hash)
      call-changed (in_row h e f t space a) =
          let i : ℕ = index_of h.session.0 l.rows in
          let payload : List ℕ = part input e.start (e.end - e.start) in
          let below : i < 8 = ltb-true i 8 (and_both (not (eqb h.session.0 0)) (ltb i 8) a).1 in
          let known : h.version ≤ 5 = (version_range h.version (fault_none h (frame_sound input h e f)).version).1 in
          applied-changed i below h (omega arith) (message_bound input h e bytes f) hash e.consumed payload (decided l i h payload (length o))

      pub link-changed : Changed (link_of s) (call_of (link_of s) p input o g).link
      link-changed = call-changed (called l p input o g)

-- ---- a call on bytes is the call on the link

pub call_in_lem : (s p input o : List ℕ) (g : Grant) → is_state s ≡ true → call_in s p input o g ≡ left_by s (call_of (link_of s) p input o g)
unfolding call_in
call_in_lem s p input o g t = rw t

module _ (b : Lent) (k : StateBytes b.state) (q : Request) where
  abbrev w : After
  w = call_of (link_of b.state) b.pool q.input q.out q.grant

  in_link : call_in b.state b.pool q.input q.out q.grant ≡ left_by b.state w
  in_link = call_in_lem b.state b.pool q.input q.out q.grant k.state

  pub event_as : event_in b (call q) ≡ event_of (state_of b) (call q)
  event_as = ap (λ (x : Left). record { command = call q; answer = x.answer; out = x.out }) in_link

  back : Typed q → Reads (stored_in b.state w.link) w.link
  back t = reads_back b.state k (link-changed b.state k b.pool q.input q.out q.grant t.input t.guarantee t.cap t.hash)

  pub state_as : Typed q → state_of (lent_after b (call q)) ≡ state_after (state_of b) (call q)
  state_as t =
      ap (λ (x : Left). state_of (record { state = x.state; pool = x.pool })) in_link
      ∙ ap (λ (l : Link). record { link = l; pool = w.pool }) (back t).link

  pub still_bytes : Typed q → StateBytes (lent_after b (call q)).state
  still_bytes t = subst (λ (x : Left). StateBytes x.state) (sym in_link) (back t).bytes
