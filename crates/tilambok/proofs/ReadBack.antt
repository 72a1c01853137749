-- What a C caller writes is read back by a C caller: by the laws of frames, since results tell answers, and fields tell headers.
-- Assumes nothing.
use Rattle.std.proofs.Common.{Result as Answer, Ok, Err}
use Prim.Native.Nat.{ℕ, ◌^◌, ◌≤◌, ◌<◌}
use mathlib.Core.Path.{◌≡◌, ap, ◌∙◌, sym, subst}
use mathlib.Core.List.{List, ◌++◌}
use native.Mathlib.Omega.{arith}
use lib.Dec.{eqb}
use lib.ListN.{length, take}
use borrow.Author.Tests.{le-leb}
use Rattle.numbers.proofs.Choices.{either}
use Rattle.frame.specs.declared.Header.{Header}
use Rattle.frame.specs.declared.MessageId.{MessageId}
use Rattle.frame.specs.declared.Reading.{Reading}
use Rattle.frame.specs.declared.Reading.TheVariants.{Frame}
use Rattle.frame.specs.Read.{extent_of, read_of}
use Rattle.frame.specs.Write.{Wrote, wrote, write_header_of, write_of}
use Rattle.frame.specs.ReadBack.{as_read, ReadsAs}
use Rattle.frame.proofs.Answers.{size_bound}
use Rattle.frame.proofs.ThereAndBack.{frame_read_back, header_read_back}
use Rattle.sender.specs.declared.Outgoing.{Outgoing}
use Rattle.sender.specs.Sender.{Planned, fits_one, single_plan, first_plan, next_plan, frame_at, send_of}
use Rattle.sender.proofs.ReadBack.{sent_told, sent_read_back}
use Rattle.tilambok.specs.Status.{Result}
use Rattle.tilambok.specs.Frames.{header_in, heard, fields_after, tilambok_read_frame, tilambok_write_header, tilambok_write_frame}
use Rattle.tilambok.specs.Sending.{tilambok_send}
use Rattle.tilambok.specs.ReadBack.{FieldsSay, HeaderThroughC, FrameThroughC, SentThroughC}
use Rattle.tilambok.proofs.FrameResults.{TellsReading, TellsWritten, read_frame_told, write_header_told, write_frame_told, send_told, fields_back}

-- bytes that the reader reads are so told to a C caller
fields_say : (bytes : List ℕ) (h : Header) (payload : List ℕ) → h.message.0 < 2 ^ 32 → ReadsAs bytes h payload → FieldsSay bytes h
fields_say bytes h payload small r = record {
  status = λ behind fields value room. (told behind fields value room).0;
  value = λ behind fields value room. (told behind fields value room).1 ∙ r.consumed;
  header = λ behind fields value room.
      ap (λ (x : Reading). header_in (fields_after fields x)) (frame-heard behind fields room)
      ∙ fields_back h (extent_of h).start fields (omega (arith, size_bound (bytes ++ behind) h (extent_of h) (r.read behind))) small;
}
  where
    frame-heard : (behind fields : List ℕ) → 16 ≤ length fields → heard fields (read_of (bytes ++ behind)) ≡ Frame h (extent_of h)
    frame-heard behind fields room = rw (r.read behind, le-leb 16 (length fields) room)

    told : (behind fields : List ℕ) (value : ℕ) → 16 ≤ length fields
        → TellsReading value (Frame h (extent_of h)) (tilambok_read_frame (bytes ++ behind) fields value).result
    told behind fields value room =
        subst (λ (x : Reading). TellsReading value x (tilambok_read_frame (bytes ++ behind) fields value).result) (frame-heard behind fields room)
        (read_frame_told (bytes ++ behind) fields value)

-- 0 is told of a writer that is done, with the bytes written as its value
done_told : (value : ℕ) (w : Answer ℕ ℕ) (r : Result) → TellsWritten value w r → r.status ≡ 0 → w ≡ Ok r.value
done_told value (Ok n) r t e = ap Ok (sym t.1)
done_told value (Err n) r t e = absurd (omega (arith, t.0, t.1.1.0, e))

-- the message id that is read has 32 bits
id_read : (h : Header) → h.message.0 < 2 ^ 32 → (as_read h).message.0 < 2 ^ 32
id_read h small = either (λ (m : MessageId). m.0 < 2 ^ 32) (eqb h.version 1) (record { 0 = 0 }) h.message (λ e. omega arith) (λ e. small)

-- all frames of a message have its id
sent_id : (o : Outgoing) (m : List ℕ) (k : ℕ) → o.message.0 < 2 ^ 32 → (frame_at o m k).header.message.0 < 2 ^ 32
unfolding frame_at
sent_id o m k small =
    let P : Planned → Type 0 = λ f. f.header.message.0 < 2 ^ 32 in
    either P (fits_one o m) (single_plan o m) _ (λ t. small) (λ t. either P (eqb k 0) (first_plan o m) (next_plan o m k) (λ u. small) (λ u. small))

pub header_through_c : HeaderThroughC
header_through_c h payload out value small done size =
    let w : Wrote = write_header_of h out in
    let r : Result = (tilambok_write_header h out value).result in
    let answer : w.answer ≡ Ok r.value = done_told value w.answer r (write_header_told h out value) done in
    fields_say (take r.value w.out ++ payload) (as_read h) payload (id_read h small)
    (header_read_back h payload out w.out r.value small (ap (λ (a : Answer ℕ ℕ). wrote a w.out) answer) size)

pub frame_through_c : FrameThroughC
frame_through_c h payload out value small done =
    let w : Wrote = write_of h payload out in
    let r : Result = (tilambok_write_frame h payload out value).result in
    let answer : w.answer ≡ Ok r.value = done_told value w.answer r (write_frame_told h payload out value) done in
    fields_say (take r.value w.out) (as_read h) payload (id_read h small)
    (frame_read_back h payload out w.out r.value small (ap (λ (a : Answer ℕ ℕ). wrote a w.out) answer))

pub sent_through_c : SentThroughC
sent_through_c o k message out value small done =
    let w : Wrote = send_of o k message out in
    let r : Result = (tilambok_send o k message out value).result in
    let answer : w.answer ≡ Ok r.value = done_told value w.answer r (send_told o k message out value small) done in
    let sent = sent_told o k message out w.out r.value (ap (λ (a : Answer ℕ ℕ). wrote a w.out) answer) in
    let back = ((sent_read_back o message sent.accepted small).each k sent.place).back in
    rw sent.bytes (fields_say _ _ _ (id_read (frame_at o message k).header (sent_id o message k small)) back)
