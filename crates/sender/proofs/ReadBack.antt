-- What our sender cuts is read back: each frame has no fault, so the writer puts it and the reader reads it back; the chunks join to the message.
-- Assumes nothing.
use Prim.Native.Nat.{ℕ, zero, suc, ◌^◌, ◌≤◌, ◌<◌}
use mathlib.Core.Path.{◌≡◌, refl, ap, ◌∙◌}
use mathlib.Core.Bool.{Bool, true, false, ◌||◌}
use mathlib.Core.List.{List, ◌++◌}
use native.Mathlib.Omega.{arith}
use lib.Dec.{eqb, leb}
use lib.ListN.{length, take}
use lib.Seq.{take_at, drop_at}
use borrow.Author.Tests.{le-leb, leb-true, eqb-true, eqb-false}
use Rattle.std.specs.Prelude.{Ok}
use Rattle.numbers.specs.Numbers.{bytes_be}
use Rattle.numbers.proofs.Laws.{length_be, read_written_be}
use Rattle.numbers.specs.Bytes.{unless}
use Rattle.numbers.proofs.Choices.{split, either, unless_elim}
use Rattle.frame.specs.Rules.{known_version, listed_service, fault_of}
use Rattle.frame.specs.Message.{frame_number, totals_fit}
use Rattle.frame.specs.Write.{Wrote, wrote, put_of}
use Rattle.frame.proofs.Message.{totals_range, number_inner, number_last}
use Rattle.frame.proofs.ThereAndBack.{read_back, not_done, put_told}
use Rattle.sender.specs.declared.Outgoing.{Outgoing}
use Rattle.sender.specs.Sender.{chunk_fits, fits_one, count_of, chunk_of, Planned, plan, single_plan, first_plan, next_plan, frame_at, last_place, bytes_of, joined, refused, send_of, Accepted}
use Rattle.sender.specs.ReadBack.{SentFrame, InPieces, SentReadBack}
use Rattle.sender.proofs.Counts.{chunk_range, several_length, whole_chunk, some_chunk, joined_whole}
use Rattle.sender.proofs.Laws.{single_fault, first_fault, next_fault, totals_length, at_single, at_first, at_next}

or_right : (b c : Bool) → b || c ≡ true → b ≡ false → c ≡ true
or_right true c e f = cc
or_right false c e f = e

module _ (o : Outgoing) (m : List ℕ) (a : Accepted o m) where
  fits_length : fits_one o m ≡ true → length m ≤ o.chunk
  unfolding fits_one
  fits_length e = leb-true (length m) o.chunk e

  last_single : fits_one o m ≡ true → last_place o m ≡ 0
  unfolding last_place
  last_single e = rw e

  pub last_several : fits_one o m ≡ false → last_place o m ≡ count_of o m
  unfolding last_place
  last_several e = rw e

  wide : 1 ≤ o.chunk
  wide = (chunk_range o.version o.chunk a.ready.chunk).0

  pub totals : fits_one o m ≡ false → totals_fit (length m) (count_of o m) ≡ true
  totals e = or_right (fits_one o m) (totals_fit (length m) (count_of o m)) a.totals e

  -- no frame has a fault
  sound : (k : ℕ) → k ≤ last_place o m → fault_of (frame_at o m k).header ≡ 0
  sound k h =
      split (fits_one o m)
      (λ e. rw (at_single o k m e) (single_fault o a.ready (length m) (fits_length e)))
      (λ e. split (eqb k 0)
      (λ z. rw (at_first o k m e (eqb-true k 0 z), totals_length (length m) (count_of o m)) (first_fault o a.ready))
      (λ z.
      let n : k ≡ 0 → ⊥ = eqb-false k 0 z in
      let l = some_chunk o m (several_length o m e) wide k (omega arith) (omega (arith, last_several e)) in
      rw (at_next o k m e n) (next_fault o a.ready (frame_number k (count_of o m)) (length (chunk_of o m k)) l.0 l.1)))

  -- past 1, 3, 10, 18 and 26, the frame's bytes are put
  send_puts : (k : ℕ) (out : List ℕ) → k ≤ last_place o m → send_of o k m out ≡ put_of (bytes_of (frame_at o m k)) out
  unfolding send_of
  send_puts k out h = rw (a.ready.version, a.ready.service, a.ready.chunk, a.totals, le-leb k (last_place o m) h)

  -- more than one chunk
  module _ (e : fits_one o m ≡ false) where
    some : 1 ≤ length m
    some = several_length o m e

    payload-at : (k : ℕ) → 1 ≤ k → (frame_at o m k).payload ≡ chunk_of o m k
    payload-at k h = ap (λ (f : Planned). f.payload) (at_next o k m e (λ z. omega arith))

    joined_same : (n : ℕ) → joined (λ (k : ℕ). (frame_at o m k).payload) n ≡ joined (chunk_of o m) n
    joined_same zero = refl
    joined_same (suc n) = rw (joined_same n, payload-at (suc n) (omega arith))

    in_pieces : InPieces o m
    in_pieces =
        let c : ℕ = count_of o m in
        let range = totals_range (length m) c (totals e) in
        let p : (frame_at o m 0).payload ≡ bytes_be 4 (length m) ++ bytes_be 4 c = ap (λ (f : Planned). f.payload) (at_first o 0 m e refl) in
        let info-at : (k : ℕ) → 1 ≤ k → (frame_at o m k).header.info ≡ frame_number k c
        = λ k h. ap (λ (f : Planned). f.header.info) (at_next o k m e (λ z. omega arith)) in
        record {
          first = ap (λ (f : Planned). f.header.kind) (at_first o 0 m e refl);
          total = rw (p, take_at (bytes_be 4 (length m)) (bytes_be 4 c) 4 (length_be 4 (length m)))
              (read_written_be 4 (length m) (omega (arith, range.most_bytes)));
          count = rw (p, drop_at (bytes_be 4 (length m)) (bytes_be 4 c) 4 (length_be 4 (length m)))
              (read_written_be 4 c (omega (arith, range.most_bytes, range.most_frames)));
          next = λ k h g. ap (λ (f : Planned). f.header.kind) (at_next o k m e (λ z. omega arith));
          whole = joined_same c ∙ joined_whole o m some wide;
          chunks = λ k h g. ap length (payload-at k h) ∙ whole_chunk o m some wide k h g;
          numbers = λ k h g. info-at k h ∙ number_inner k c g;
          last = info-at c range.some_frames ∙ number_last c;
        }

  -- the data size is the payload's length, and version and message id are the message's
  planned : (P : Planned → Type 0) → ((kind info : ℕ) (payload : List ℕ) → P (plan o kind info payload)) → (k : ℕ) → P (frame_at o m k)
  unfolding frame_at
  planned P f k =
      either P (fits_one o m) (single_plan o m) _ (λ e. f 1 0 m)
      (λ e. either P (eqb k 0) (first_plan o m) (next_plan o m k) (λ z. f 2 0 _) (λ z. f 3 _ _))

  frame_sent : o.message.0 < 2 ^ 32 → (k : ℕ) → k ≤ last_place o m → SentFrame o m k
  frame_sent small k h =
      let f : Planned = frame_at o m k in
      let size : f.header.size ≡ length f.payload = planned (λ (g : Planned). g.header.size ≡ length g.payload) (λ kind info p. refl) k in
      let id : f.header.message.0 ≡ o.message.0 = planned (λ (g : Planned). g.header.message.0 ≡ o.message.0) (λ kind info p. refl) k in
      record {
        sent = λ out l. send_puts k out h ∙ rw (le-leb (length (bytes_of f)) (length out) l);
        back = read_back f.header f.payload (sound k h) size (rw id small);
      }

pub sent_read_back : SentReadBack
sent_read_back o m a small = record {
  each = frame_sent o m a small;
  single = λ e. rw (at_single o 0 m e) (refl, refl);
  pieces = λ e. in_pieces o m a e;
}

-- what the sender's own answer tells: it accepts the message, the place has a frame, and the bytes that it left are that frame's
pub record Told (o : Outgoing) (k : ℕ) (m : List ℕ) (n : ℕ) (left : List ℕ) : Type 0 where
  pub accepted : Accepted o m
  pub place : k ≤ last_place o m
  pub bytes : take n left ≡ bytes_of (frame_at o m k)

pub sent_told : (o : Outgoing) (k : ℕ) (m out left : List ℕ) (n : ℕ) → send_of o k m out ≡ wrote (Ok n) left → Told o k m n left
unfolding send_of
sent_told o k m out left n e =
    past (known_version o.version) 1 _ (λ version.
    past (listed_service o.service) 3 _ (λ service.
    past (chunk_fits o.version o.chunk) 10 _ (λ chunk.
    past (fits_one o m || totals_fit (length m) (count_of o m)) 18 _ (λ totals.
    past (leb k (last_place o m)) 26 _ (λ place d. record {
      accepted = record { ready = record { version = version; service = service; chunk = chunk }; totals = totals };
      place = leb-true k (last_place o m) place;
      bytes = put_told (bytes_of (frame_at o m k)) out left n d;
    }))))) e
  where
    past : (test : Bool) (number : ℕ) (rest : Wrote) → (test ≡ true → rest ≡ wrote (Ok n) left → Told o k m n left)
        → unless test (refused number out) rest ≡ wrote (Ok n) left → Told o k m n left
    past test number rest f =
        unless_elim (λ (w : Wrote). w ≡ wrote (Ok n) left → Told o k m n left) test (refused number out) rest (λ t d. absurd (not_done number out left n d)) f
