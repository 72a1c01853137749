-- Reader and writer undo each other: what is written is read back, and what was read, written again, is the bytes consumed.
-- Assumes nothing.
use Prim.Native.Nat.{ℕ, suc, ◌+◌, ◌-◌, ◌*◌, ◌/◌, ◌%◌, ◌^◌, ◌≤◌, ◌<◌}
use mathlib.Core.Path.{◌≡◌, refl, ap, ◌∙◌, sym}
use mathlib.Core.Bool.{Bool, true, false}
use mathlib.Core.List.{List, [], ◌∷◌, ◌++◌, append_assoc, append-nil}
use native.Mathlib.Omega.{arith}
use lib.Dec.{eqb, leb}
use lib.ListN.{length, take, drop, length-append, length-take, length-drop}
use lib.Seq.{take_at, drop_at, take-add, drop-drop, length-take-le}
use borrow.Author.Tests.{leb-true, leb-false, eqb-true, le-leb, lt-leb}
use Rattle.std.specs.Prelude.{Result, Ok, Err}
use Rattle.numbers.specs.Bytes.{part, pick, AreBytes, laid}
use Rattle.numbers.specs.Numbers.{value_be, bytes_be}
use Rattle.numbers.proofs.Laws.{length_be, read_written_be, written_read_be, bytes_take, bytes_drop}
use Rattle.numbers.proofs.Choices.{unless_elim}
use Rattle.frame.specs.declared.Header.{Header}
use Rattle.frame.specs.declared.MessageId.{MessageId}
use Rattle.frame.specs.declared.Extent.{Extent}
use Rattle.frame.specs.declared.Reading.TheVariants.{Frame}
use Rattle.frame.specs.Rules.{fault_of, header_size}
use Rattle.frame.specs.Read.{front_of, message_of, with_message, frame_size, read_of}
use Rattle.frame.specs.Write.{message_bytes, header_bytes, frame_bytes, Wrote, wrote, put_of, write_header_of, write_of}
use Rattle.frame.specs.ReadBack.{as_read, payload_part, ReadsAs, FrameReadBack, HeaderReadBack, WrittenAgain}
use Rattle.frame.proofs.Laws.{fault_none, size_most, largest_range, header_range, header_length, frame_length, write_puts}
use Rattle.frame.proofs.Answers.{read_frame, is_frame_lem, fault_front, frame_sound, consumed_there}

-- the first byte holds version, flag and type, and nothing else
bits_back : (v k : ℕ) (b : Bool) → k ≤ 3 → ((v * 16 + pick b 8 0 + k) / 16 ≡ v) × (leb 8 ((v * 16 + pick b 8 0 + k) % 16) ≡ b) × ((v * 16 + pick b 8 0 + k) % 8 ≡ k)
bits_back v k true h = (omega arith, le-leb 8 ((v * 16 + 8 + k) % 16) (omega arith), omega arith)
bits_back v k false h = (omega arith, lt-leb 8 ((v * 16 + 0 + k) % 16) (omega arith), omega arith)

bits_there : (n : ℕ) → n / 16 * 16 + pick (leb 8 (n % 16)) 8 0 + n % 8 ≡ n
bits_there n = by_flag (leb 8 (n % 16)) refl
  where
    by_flag : (b : Bool) → leb 8 (n % 16) ≡ b → n / 16 * 16 + pick b 8 0 + n % 8 ≡ n
    by_flag true e = omega (arith, leb-true 8 (n % 16) e)
    by_flag false e = omega (arith, leb-false 8 (n % 16) e)

-- what is written is read back
module _ (h : Header) (p t : List ℕ) (sound : fault_of h ≡ 0) where
  size_back : value_be (part (frame_bytes h p ++ t) 4 4) ≡ h.size
  size_back =
      let s = fault_none h sound in
      let small : h.size < 256 ^ 4 = omega (arith, size_most h.version h.kind h.size s.size, largest_range h.version) in
      let e : bytes_be 4 h.size ++ message_bytes h ++ p ++ t ≡ bytes_be 4 h.size ++ (message_bytes h ++ (p ++ t)) = simp append_assoc in
      let q : take 4 (bytes_be 4 h.size ++ message_bytes h ++ p ++ t) ≡ bytes_be 4 h.size = rw e (take_at (bytes_be 4 h.size) (message_bytes h ++ (p ++ t)) 4 (length_be 4 h.size)) in
      ap value_be q ∙ read_written_be 4 h.size small

  front_back : front_of (frame_bytes h p ++ t) ≡ with_message h (record { 0 = 0 })
  unfolding front_of
  front_back =
      let b = bits_back h.version h.kind h.flag (fault_none h sound).kind in
      rw (b.0, b.1, b.2, size_back)

  message_back : h.message.0 < 2 ^ 32 → message_of (frame_bytes h p ++ t) h.version ≡ (as_read h).message
  unfolding message_of message_bytes
  message_back small = by_version (eqb h.version 1) refl
    where
      by_version : (one : Bool) → eqb h.version 1 ≡ one
          → pick {A = MessageId} one (record { 0 = 0 }) (record { 0 = value_be (part (frame_bytes h p ++ t) 8 4) }) ≡ pick one (record { 0 = 0 }) h.message
      by_version true e = refl
      by_version false e =
          let m : message_bytes h ≡ bytes_be 4 h.message.0 = rw e in
          let a : bytes_be 4 h.size ++ message_bytes h ++ p ++ t ≡ bytes_be 4 h.size ++ (bytes_be 4 h.message.0 ++ (p ++ t)) = rw m (simp append_assoc) in
          let d : drop 4 (bytes_be 4 h.size ++ message_bytes h ++ p ++ t) ≡ bytes_be 4 h.message.0 ++ (p ++ t)
          = rw a (drop_at (bytes_be 4 h.size) (bytes_be 4 h.message.0 ++ (p ++ t)) 4 (length_be 4 h.size)) in
          let q : part (frame_bytes h p ++ t) 8 4 ≡ bytes_be 4 h.message.0
          = ap (λ (l : List ℕ). take 4 l) d ∙ take_at (bytes_be 4 h.message.0) (p ++ t) 4 (length_be 4 h.message.0) in
          ap (λ (n : ℕ). record { 0 = n }) (ap value_be q ∙ read_written_be 4 h.message.0 small)

-- a frame's bytes are read as its header and payload, whatever follows
pub read_back : (h : Header) (p : List ℕ) → fault_of h ≡ 0 → h.size ≡ length p → h.message.0 < 2 ^ 32 → ReadsAs (frame_bytes h p) (as_read h) p
read_back h p sound size small = record {
  read = λ t.
      let s = frame_bytes h p ++ t in
      let f = front_back h p t sound in
      let l : length s ≡ header_size h.version + length p + length t = length-append (frame_bytes h p) t ∙ ap (λ (n : ℕ). n + length t) (frame_length h p) in
      let g : fault_of (front_of s) ≡ 0 = rw f (fault_front h (record { 0 = 0 }) ∙ sound) in
      let k : frame_size (front_of s) ≤ length s = rw (f, l) (omega arith) in
      read_frame s (omega (arith, header_range h.version)) g k ∙ rw (f, message_back h p t sound small);
  consumed = omega (arith, frame_length h p);
  carried = λ t.
      let z : header_size h.version + h.size - header_size h.version ≡ length p = omega arith in
      let d : drop (header_size h.version) (header_bytes h ++ (p ++ t)) ≡ p ++ t = drop_at (header_bytes h) (p ++ t) (header_size h.version) (header_length h) in
      rw (z, append_assoc (header_bytes h) p t, d) (take_at p t (length p) refl);
}

-- four bytes, read as a number and written again
number_again : (r : List ℕ) → AreBytes r → 4 ≤ length r → bytes_be 4 (value_be (take 4 r)) ≡ take 4 r
number_again r b l =
    let n : length (take 4 r) ≡ 4 = length-take-le 4 r l in
    ap (λ (w : ℕ). bytes_be w (value_be (take 4 r))) (sym n) ∙ written_read_be (take 4 r) (bytes_take 4 r b)

-- the bytes behind the fourth: data size and payload, without and with a message id between them
behind_one : (r : List ℕ) (n : ℕ) → AreBytes r → 4 ≤ length r → bytes_be 4 (value_be (take 4 r)) ++ [] ++ take n (drop 4 r) ≡ take (4 + n) r
behind_one r n b l = rw (number_again r b l, append-nil) (sym (take-add 4 n r))

behind_more : (r : List ℕ) (n : ℕ) → AreBytes r → 8 ≤ length r
    → bytes_be 4 (value_be (take 4 r)) ++ bytes_be 4 (value_be (take 4 (drop 4 r))) ++ take n (drop 8 r) ≡ take (8 + n) r
behind_more r n b l =
    let z : 4 + (4 + n) ≡ 8 + n = omega arith in
    let d : drop 4 (drop 4 r) ≡ drop 8 r = drop-drop 4 4 r in
    let a : take (8 + n) r ≡ take 4 r ++ take (4 + n) (drop 4 r) = rw (← z) (take-add 4 (4 + n) r) in
    let c : take (4 + n) (drop 4 r) ≡ take 4 (drop 4 r) ++ take n (drop 8 r) = take-add 4 n (drop 4 r) ∙ ap (λ (x : List ℕ). take 4 (drop 4 r) ++ take n x) d in
    rw (number_again r b (omega arith), number_again (drop 4 r) (bytes_drop 4 r b) (omega (arith, length-drop 4 r)), a, c, append_assoc)

-- the header that the reader makes of a list, with its message id
abbrev header_of : List ℕ → Header
header_of s = with_message (front_of s) (message_of s (front_of s).version)

-- a list of at least 8 bytes, read and written again, by the two forms of a header
module _ (a b c d : ℕ) (r : List ℕ) (bytes : AreBytes r) where
  abbrev again-holds : Type 0
  again-holds =
      let s : List ℕ = a ∷ b ∷ c ∷ d ∷ r in
      frame_bytes (header_of s) (part s (header_size (front_of s).version) (front_of s).size) ≡ take (frame_size (front_of s)) s

  again_one : 4 ≤ length r → eqb (a / 16) 1 ≡ true → again-holds
  unfolding front_of message_of message_bytes header_size
  again_one l e =
      let n : ℕ = value_be (take 4 r) in
      let z : 8 + n ≡ suc (suc (suc (suc (4 + n)))) = omega arith in
      rw (e, bits_there a, behind_one r n bytes l, z)

  again_more : 8 ≤ length r → eqb (a / 16) 1 ≡ false → again-holds
  unfolding front_of message_of message_bytes header_size
  again_more l e =
      let n : ℕ = value_be (take 4 r) in
      let z : 12 + n ≡ suc (suc (suc (suc (8 + n)))) = omega arith in
      rw (e, bits_there a, behind_more r n bytes l, z)

  again : 4 ≤ length r → header_size (a / 16) ≤ 4 + length r → again-holds
  unfolding header_size
  again l h = by_version (eqb (a / 16) 1) refl h
    where
      by_version : (k : Bool) → eqb (a / 16) 1 ≡ k → pick k 8 12 ≤ 4 + length r → again-holds
      by_version true e g = again_one l e
      by_version false e g = again_more (omega arith) e

read_again : (s : List ℕ) → AreBytes s → 8 ≤ length s → header_size (front_of s).version ≤ length s
    → frame_bytes (header_of s) (part s (header_size (front_of s).version) (front_of s).size) ≡ take (frame_size (front_of s)) s
unfolding front_of
read_again (a ∷ b ∷ c ∷ d ∷ r) bytes l h = again a b c d r bytes.1.1.1.1 (omega arith) (omega arith)
read_again [] bytes l h = absurd (omega arith)
read_again (a ∷ []) bytes l h = absurd (omega arith)
read_again (a ∷ b ∷ []) bytes l h = absurd (omega arith)
read_again (a ∷ b ∷ c ∷ []) bytes l h = absurd (omega arith)

-- a frame that was read, written again, is the bytes consumed
pub written_again : (s : List ℕ) (h : Header) (e : Extent) → AreBytes s → read_of s ≡ Frame h e → frame_bytes h (part s e.start (e.end - e.start)) ≡ take e.consumed s
written_again s h e bytes p =
    let q = is_frame_lem s h e p in
    let f : Header = front_of s in
    let z : header_size f.version + f.size - header_size f.version ≡ f.size = omega arith in
    rw (q.extent, q.header, z) (read_again s bytes q.long (omega (arith, q.there)))

-- the writer takes it: no fault, and the data size is the payload's length
pub payload_length : (s : List ℕ) (h : Header) (e : Extent) → read_of s ≡ Frame h e → length (part s e.start (e.end - e.start)) ≡ h.size
payload_length s h e p =
    let q = is_frame_lem s h e p in
    let f : Header = front_of s in
    let z : header_size f.version + f.size - header_size f.version ≡ f.size = omega arith in
    rw (q.extent, q.header, z) (length-take f.size (drop (header_size f.version) s) ∙ omega (arith, length-drop (header_size f.version) s, q.there))

-- ---- from a writer's own answer

-- a refusal is no such answer
pub not_done : (k : ℕ) (out left : List ℕ) (n : ℕ) → wrote (Err k) out ≡ wrote (Ok n) left → ⊥
not_done k out left n d =
    let a : ◌≡◌ {A = Result ℕ ℕ} (Err k) (Ok n) = ap (λ (w : Wrote). w.answer) d in
    let z : ◌≡◌ {A = ℕ} 0 1 = cc in
    omega arith

-- bytes that a writer put: it answers how many, and they stand at the front
pub put_told : (bytes out left : List ℕ) (n : ℕ) → put_of bytes out ≡ wrote (Ok n) left → take n left ≡ bytes
put_told bytes out left n e =
    unless_elim (λ (w : Wrote). w ≡ wrote (Ok n) left → take n left ≡ bytes) (leb (length bytes) (length out)) (wrote (Err 11) out)
    (wrote (Ok (length bytes)) (laid bytes out)) (λ t d. absurd (not_done 11 out left n d))
    (λ t d.
    let a : ◌≡◌ {A = Result ℕ ℕ} (Ok (length bytes)) (Ok n) = ap (λ (w : Wrote). w.answer) d in
    let k : length bytes ≡ n = cc in
    let l : laid bytes out ≡ left = ap (λ (w : Wrote). w.out) d in
    rw (← k, ← l) (take_at bytes (drop (length bytes) out) (length bytes) refl)) e

pub frame_read_back : FrameReadBack
unfolding write_of
frame_read_back h p out left n small e =
    unless_elim (λ (w : Wrote). w ≡ wrote (Ok n) left → ReadsAs (take n left) (as_read h) p) (eqb (fault_of h) 0) (wrote (Err (fault_of h)) out) _
    (λ t d. absurd (not_done (fault_of h) out left n d)) (λ t.
    unless_elim (λ (w : Wrote). w ≡ wrote (Ok n) left → ReadsAs (take n left) (as_read h) p) (eqb h.size (length p)) (wrote (Err 6) out) (put_of (frame_bytes h p) out)
    (λ u d. absurd (not_done 6 out left n d))
    (λ u d. rw (put_told (frame_bytes h p) out left n d) (read_back h p (eqb-true (fault_of h) 0 t) (eqb-true h.size (length p) u) small))) e

pub header_read_back : HeaderReadBack
unfolding write_header_of
header_read_back h p out left n small e size =
    unless_elim (λ (w : Wrote). w ≡ wrote (Ok n) left → ReadsAs (take n left ++ p) (as_read h) p) (eqb (fault_of h) 0) (wrote (Err (fault_of h)) out) (put_of (header_bytes h) out)
    (λ t d. absurd (not_done (fault_of h) out left n d))
    (λ t d. rw (put_told (header_bytes h) out left n d) (read_back h p (eqb-true (fault_of h) 0 t) (sym size) small)) e

pub again_written : WrittenAgain
again_written s h e out bytes p room =
    let sound : fault_of h ≡ 0 = frame_sound s h e p in
    let f : frame_bytes h (payload_part s e) ≡ take e.consumed s = written_again s h e bytes p in
    let n : length (take e.consumed s) ≡ e.consumed = length-take-le e.consumed s (consumed_there s h e p) in
    write_puts h (payload_part s e) out sound (sym (payload_length s h e p)) ∙ ap (λ (l : List ℕ). put_of l out) f ∙ rw (n, le-leb e.consumed (length out) room)
