-- Every answer of the reader, the writers and the sender has room in its result; so the status tells which answer it was, and the value what goes with it.
-- A frame's fields tell its header. By the tests of those functions, and by numbers written and read back. Assumes nothing.
use Rattle.std.proofs.Common.{Result as Answer, Ok, Err}
use Prim.Native.Nat.{ℕ, ◌^◌, ◌≤◌, ◌<◌}
use mathlib.Core.Path.{◌≡◌, refl, ap, sym, ◌∙◌}
use mathlib.Core.Bool.{Bool, true, false, not, ◌||◌}
use mathlib.Core.List.{List, [], ◌++◌, append_assoc}
use native.Mathlib.Omega.{arith}
use lib.Dec.{eqb, leb}
use lib.ListN.{length, take, drop}
use lib.Seq.{take_at, drop_at}
use borrow.Author.Tests.{le-leb, leb-true, eqb-true, eqb-false}
use Rattle.numbers.specs.Bytes.{pick, AreBytes, laid}
use Rattle.numbers.specs.Numbers.{bytes_be}
use Rattle.numbers.proofs.Laws.{length_be, read_written_be}
use Rattle.numbers.proofs.Choices.{unless_elim}
use Rattle.frame.specs.declared.Header.{Header}
use Rattle.frame.specs.declared.Extent.{Extent}
use Rattle.frame.specs.declared.Reading.{Reading}
use Rattle.frame.specs.declared.Reading.TheVariants.{Frame, Refused, Short}
use Rattle.frame.specs.Rules.{header_size, fault_of, known_version, listed_service}
use Rattle.frame.specs.Message.{totals_fit}
use Rattle.frame.specs.Read.{front_of, read_of}
use Rattle.frame.specs.Write.{Wrote, wrote, header_bytes, frame_bytes, put_of, write_header_of, write_of}
use Rattle.frame.proofs.Laws.{header_range, header_length, frame_length, fault_most, frame_most}
use Rattle.frame.proofs.Answers.{is_refused, is_short, frame_sound, extent_is, consumed_is, size_bound, message_bound}
use Rattle.sender.specs.declared.Outgoing.{Outgoing}
use Rattle.sender.specs.Sender.{chunk_fits, fits_one, count_of, frame_at, last_place, bytes_of, refused, send_of, Accepted}
use Rattle.sender.proofs.ReadBack.{sent_read_back}
use Rattle.tilambok.specs.Status.{Result, IsRefusal, WrittenFits, written_result}
use Rattle.tilambok.specs.Frames.{reading_result, ReadingFits, field_bytes, header_in, heard, tilambok_read_frame, tilambok_write_header, tilambok_write_frame}
use Rattle.tilambok.specs.Sending.{tilambok_send}

-- ---- every answer has room

-- the reader's
pub reading_fits : (s : List ℕ) → ReadingFits (read_of s)
reading_fits s = fits (read_of s) refl
  where
    fits : (r : Reading) → read_of s ≡ r → ReadingFits r
    fits (Frame h e) p =
        let most = frame_most h (frame_sound s h e p) in
        let start : e.start ≡ header_size h.version = ap (λ (x : Extent). x.start) (extent_is s h e p) in
        (omega (arith, consumed_is s h e p), omega (arith, header_range h.version))
    fits (Refused n) p =
        let q = is_refused s n p in
        let some : n ≡ 0 → ⊥ = λ e. q.some (sym q.fault ∙ e) in
        (omega arith, omega (arith, q.fault, fault_most (front_of s)))
    fits (Short n) p = omega (arith, (is_short s n p).most)

pub heard_fits : (fields : List ℕ) (r : Reading) → ReadingFits r → ReadingFits (heard fields r)
heard_fits fields (Frame h e) f = unless_elim ReadingFits (leb 16 (length fields)) (Refused 11) (Frame h e) (λ t. (omega arith, omega arith)) (λ t. f)
heard_fits fields (Refused n) f = f
heard_fits fields (Short n) f = f

-- the writers' and the sender's, and where they refuse, out is as it was
abbrev pub AnswerFits : List ℕ → Answer ℕ ℕ → List ℕ → Type 0
AnswerFits out (Ok n) b = n < 2 ^ 32
AnswerFits out (Err n) b = IsRefusal n × (b ≡ out)

abbrev pub Answers : List ℕ → Wrote → Type 0
Answers out w = AnswerFits out w.answer w.out

with_room : (out : List ℕ) (w : Wrote) → Answers out w → WrittenFits w.answer
with_room out w f = room w.answer f
  where
    room : (a : Answer ℕ ℕ) → AnswerFits out a w.out → WrittenFits a
    room (Ok n) g = g
    room (Err n) g = g.0

put_answers : (bytes out : List ℕ) → length bytes ≤ 131084 → Answers out (put_of bytes out)
put_answers bytes out l =
    unless_elim (Answers out) (leb (length bytes) (length out)) (wrote (Err 11) out) (wrote (Ok (length bytes)) (laid bytes out))
    (λ t. ((omega arith, omega arith), refl)) (λ t. omega arith)

fault_refused : (h : Header) → eqb (fault_of h) 0 ≡ false → IsRefusal (fault_of h)
fault_refused h t = (omega (arith, eqb-false (fault_of h) 0 t), omega (arith, fault_most h))

pub header_answers : (h : Header) (out : List ℕ) → Answers out (write_header_of h out)
unfolding write_header_of
header_answers h out =
    unless_elim (Answers out) (eqb (fault_of h) 0) (wrote (Err (fault_of h)) out) (put_of (header_bytes h) out) (λ t. (fault_refused h t, refl))
    (λ t. put_answers (header_bytes h) out (omega (arith, header_length h, header_range h.version)))

pub frame_answers : (h : Header) (p out : List ℕ) → Answers out (write_of h p out)
unfolding write_of
frame_answers h p out =
    unless_elim (Answers out) (eqb (fault_of h) 0) (wrote (Err (fault_of h)) out) _ (λ t. (fault_refused h t, refl)) λ t.
    unless_elim (Answers out) (eqb h.size (length p)) (wrote (Err 6) out) (put_of (frame_bytes h p) out)
    (λ u. ((omega arith, omega arith), refl))
    (λ u.
    let same : h.size ≡ length p = eqb-true h.size (length p) u in
    put_answers (frame_bytes h p) out (omega (arith, frame_length h p, frame_most h (eqb-true (fault_of h) 0 t))))

-- each frame of a message that the sender accepts is one that the reader reads
frame_small : (o : Outgoing) (m : List ℕ) (k : ℕ) → Accepted o m → o.message.0 < 2 ^ 32 → k ≤ last_place o m → length (bytes_of (frame_at o m k)) ≤ 131084
frame_small o m k a small le =
    let back = ((sent_read_back o m a small).each k le).back in
    let read = back.read [] in
    omega (arith, back.consumed, consumed_is _ _ _ read, frame_most _ (frame_sound _ _ _ read))

pub send_answers : (o : Outgoing) (k : ℕ) (m out : List ℕ) → o.message.0 < 2 ^ 32 → Answers out (send_of o k m out)
unfolding send_of
send_answers o k m out small =
    let P : Wrote → Type 0 = Answers out in
    unless_elim P (known_version o.version) (refused 1 out) _ (λ t. ((omega arith, omega arith), refl)) λ v.
    unless_elim P (listed_service o.service) (refused 3 out) _ (λ t. ((omega arith, omega arith), refl)) λ s.
    unless_elim P (chunk_fits o.version o.chunk) (refused 10 out) _ (λ t. ((omega arith, omega arith), refl)) λ c.
    unless_elim P (fits_one o m || totals_fit (length m) (count_of o m)) (refused 18 out) _ (λ t. ((omega arith, omega arith), refl)) λ t.
    unless_elim P (leb k (last_place o m)) (refused 26 out) _ (λ l. ((omega arith, omega arith), refl)) λ l.
    put_answers (bytes_of (frame_at o m k)) out
    (frame_small o m k (record { ready = record { version = v; service = s; chunk = c }; totals = t }) small (leb-true k (last_place o m) l))

pub header_fits : (h : Header) (out : List ℕ) → WrittenFits (write_header_of h out).answer
header_fits h out = with_room out (write_header_of h out) (header_answers h out)

pub frame_fits : (h : Header) (p out : List ℕ) → WrittenFits (write_of h p out).answer
frame_fits h p out = with_room out (write_of h p out) (frame_answers h p out)

pub send_fits : (o : Outgoing) (k : ℕ) (m out : List ℕ) → o.message.0 < 2 ^ 32 → WrittenFits (send_of o k m out).answer
send_fits o k m out small = with_room out (send_of o k m out) (send_answers o k m out small)

-- ---- what a result says of an answer, where the lent number was value

abbrev pub TellsReading : ℕ → Reading → Result → Type 0
TellsReading value (Frame h e) r = (r.status ≡ 0) × (r.value ≡ e.consumed)
TellsReading value (Refused n) r = (r.status ≡ n) × ((r.value ≡ value) × IsRefusal n)
TellsReading value (Short n) r = (r.status ≡ 128) × (r.value ≡ n)

abbrev pub TellsWritten : ℕ → Answer ℕ ℕ → Result → Type 0
TellsWritten value (Ok n) r = (r.status ≡ 0) × (r.value ≡ n)
TellsWritten value (Err n) r = (r.status ≡ n) × ((r.value ≡ value) × IsRefusal n)

reading_told : (value : ℕ) (r : Reading) → ReadingFits r → TellsReading value r (reading_result value r)
reading_told value (Frame h e) f = (refl, refl)
reading_told value (Refused n) f = (refl, (refl, f))
reading_told value (Short n) f = (refl, refl)

written_told : (value : ℕ) (w : Answer ℕ ℕ) → WrittenFits w → TellsWritten value w (written_result value w)
written_told value (Ok n) f = (refl, refl)
written_told value (Err n) f = (refl, (refl, f))

pub read_frame_told : (bytes fields : List ℕ) (value : ℕ) → TellsReading value (heard fields (read_of bytes)) (tilambok_read_frame bytes fields value).result
read_frame_told bytes fields value = reading_told value (heard fields (read_of bytes)) (heard_fits fields (read_of bytes) (reading_fits bytes))

pub write_header_told : (h : Header) (out : List ℕ) (value : ℕ) → TellsWritten value (write_header_of h out).answer (tilambok_write_header h out value).result
write_header_told h out value = written_told value (write_header_of h out).answer (header_fits h out)

pub write_frame_told : (h : Header) (p out : List ℕ) (value : ℕ) → TellsWritten value (write_of h p out).answer (tilambok_write_frame h p out value).result
write_frame_told h p out value = written_told value (write_of h p out).answer (frame_fits h p out)

pub send_told : (o : Outgoing) (k : ℕ) (m out : List ℕ) (value : ℕ) → o.message.0 < 2 ^ 32
    → TellsWritten value (send_of o k m out).answer (tilambok_send o k m out value).result
send_told o k m out value small = written_told value (send_of o k m out).answer (send_fits o k m out small)

-- ---- fields taken apart again are the header

flag_back : (b : Bool) → not (eqb (pick b 1 0) 0) ≡ b
flag_back true = refl
flag_back false = refl

pub fields_back : (h : Header) (start : ℕ) (o : List ℕ) → h.size < 2 ^ 32 → h.message.0 < 2 ^ 32 → header_in (laid (field_bytes h start) o) ≡ h
unfolding field_bytes header_in
fields_back h start o f g =
    let a : List ℕ = bytes_be 4 h.size in
    let b : List ℕ = bytes_be 4 h.message.0 in
    let rest : List ℕ = drop (length (field_bytes h start)) o in
    let s : take 4 ((a ++ b) ++ rest) ≡ a = rw append_assoc (take_at a (b ++ rest) 4 (length_be 4 h.size)) in
    let d : drop 4 ((a ++ b) ++ rest) ≡ b ++ rest = rw append_assoc (drop_at a (b ++ rest) 4 (length_be 4 h.size)) in
    rw (flag_back h.flag, s, d, take_at b rest 4 (length_be 4 h.message.0), read_written_be 4 h.size f, read_written_be 4 h.message.0 g)

-- the fields that a frame leaves tell its header
pub read_frame_fields : (bytes fields : List ℕ) (value : ℕ) (h : Header) (e : Extent) → AreBytes bytes → read_of bytes ≡ Frame h e → 16 ≤ length fields
    → header_in (tilambok_read_frame bytes fields value).lent ≡ h
read_frame_fields bytes fields value h e b r l =
    let size : h.size < 2 ^ 32 = omega (arith, size_bound bytes h e r) in
    rw (r, le-leb 16 (length fields) l) (fields_back h e.start fields size (message_bound bytes h e b r))
