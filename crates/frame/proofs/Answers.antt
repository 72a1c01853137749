-- The reader's laws: what each of its answers says of the bytes, and that bytes behind the front never change a frame or a refusal.
-- Assumes nothing.
use Prim.Native.Nat.{ℕ, ◌+◌, ◌^◌, ◌≤◌, ◌<◌}
use mathlib.Core.Path.{◌≡◌, refl, ap, ◌∙◌, sym, subst}
use mathlib.Core.Bool.{Bool, true, false}
use mathlib.Core.List.{List, ◌++◌}
use native.Mathlib.Omega.{arith}
use lib.Dec.{eqb, leb}
use lib.ListN.{length, get_or, drop, length-append, length-take, length-drop, get_or-append}
use lib.Seq.{take-append-le, drop-append-le}
use borrow.Author.Tests.{leb-true, leb-false, eqb-true, eqb-false, eq-eqb, ne_eqb, le-leb, lt-leb}
use Rattle.numbers.specs.Bytes.{part, pick, AreBytes}
use Rattle.numbers.specs.Numbers.{value_be}
use Rattle.numbers.proofs.Laws.{value_below_be, bytes_take, bytes_drop}
use Rattle.numbers.proofs.Choices.{unless_elim}
use Rattle.frame.specs.declared.Header.{Header}
use Rattle.frame.specs.declared.MessageId.{MessageId}
use Rattle.frame.specs.declared.Extent.{Extent}
use Rattle.frame.specs.declared.Reading.{Reading}
use Rattle.frame.specs.declared.Reading.TheVariants.{Frame, Refused, Short}
use Rattle.frame.specs.Rules.{fault_of, header_size}
use Rattle.frame.specs.Read.{front_of, message_of, with_message, frame_size, extent_of, whole_of, read_of}
use Rattle.frame.proofs.Laws.{fault_none, largest_range, size_most, frame_most}

-- the four ways of the reader, each from its tests
module _ (s : List ℕ) where
  pub read_few : length s < 8 → read_of s ≡ Short 8
  unfolding read_of
  read_few h = rw (lt-leb 8 (length s) h)

  pub read_refused : 8 ≤ length s → (fault_of (front_of s) ≡ 0 → ⊥) → read_of s ≡ Refused (fault_of (front_of s))
  unfolding read_of
  read_refused h f = rw (le-leb 8 (length s) h, ne_eqb (fault_of (front_of s)) 0 f)

  pub read_short : 8 ≤ length s → fault_of (front_of s) ≡ 0 → length s < frame_size (front_of s) → read_of s ≡ Short (frame_size (front_of s))
  unfolding read_of
  read_short h f g = rw (le-leb 8 (length s) h, eq-eqb (fault_of (front_of s)) 0 f, lt-leb (frame_size (front_of s)) (length s) g)

  pub read_frame : 8 ≤ length s → fault_of (front_of s) ≡ 0 → frame_size (front_of s) ≤ length s
      → read_of s ≡ Frame (with_message (front_of s) (message_of s (front_of s).version)) (extent_of (front_of s))
  unfolding read_of
  read_frame h f g = rw (le-leb 8 (length s) h, eq-eqb (fault_of (front_of s)) 0 f, le-leb (frame_size (front_of s)) (length s) g)

-- what an answer says of the bytes
pub record IsFrame (s : List ℕ) (h : Header) (e : Extent) : Type 0 where
  pub long : 8 ≤ length s
  pub sound : fault_of (front_of s) ≡ 0
  pub there : frame_size (front_of s) ≤ length s
  pub header : h ≡ with_message (front_of s) (message_of s (front_of s).version)
  pub extent : e ≡ extent_of (front_of s)

pub record IsRefused (s : List ℕ) (n : ℕ) : Type 0 where
  pub long : 8 ≤ length s
  pub fault : n ≡ fault_of (front_of s)
  pub some : fault_of (front_of s) ≡ 0 → ⊥

-- "a Short names more bytes than are there", and never more than the largest frame has
pub record IsShort (s : List ℕ) (n : ℕ) : Type 0 where
  pub more : length s < n
  pub most : n ≤ 131084

abbrev pub Says : List ℕ → Reading → Type 0
Says s (Frame h e) = IsFrame s h e
Says s (Refused n) = IsRefused s n
Says s (Short n) = IsShort s n

pub read_says : (s : List ℕ) → Says s (read_of s)
unfolding read_of
read_says s =
    unless_elim (Says s) (leb 8 (length s)) (Short 8) _ (λ t. record { more = leb-false 8 (length s) t; most = omega arith }) λ t.
    let long : 8 ≤ length s = leb-true 8 (length s) t in
    unless_elim (Says s) (eqb (fault_of (front_of s)) 0) (Refused (fault_of (front_of s))) (whole_of s (front_of s))
    (λ t₂. record { long = long; fault = refl; some = eqb-false (fault_of (front_of s)) 0 t₂ }) λ t₂.
    unless_elim (Says s) (leb (frame_size (front_of s)) (length s)) (Short (frame_size (front_of s)))
    (Frame (with_message (front_of s) (message_of s (front_of s).version)) (extent_of (front_of s)))
    (λ t₃. record { more = leb-false (frame_size (front_of s)) (length s) t₃; most = frame_most (front_of s) (eqb-true (fault_of (front_of s)) 0 t₂) })
    (λ t₃. record {
      long = long;
      sound = eqb-true (fault_of (front_of s)) 0 t₂;
      there = leb-true (frame_size (front_of s)) (length s) t₃;
      header = refl;
      extent = refl;
    })

pub is_frame_lem : (s : List ℕ) (h : Header) (e : Extent) → read_of s ≡ Frame h e → IsFrame s h e
is_frame_lem s h e p = subst (Says s) p (read_says s)

pub is_refused : (s : List ℕ) (n : ℕ) → read_of s ≡ Refused n → IsRefused s n
is_refused s n p = subst (Says s) p (read_says s)

pub is_short : (s : List ℕ) (n : ℕ) → read_of s ≡ Short n → IsShort s n
is_short s n p = subst (Says s) p (read_says s)

-- the message id takes no part in 1 to 6
pub fault_front : (h : Header) (m : MessageId) → fault_of (with_message h m) ≡ fault_of h
unfolding fault_of
fault_front h m = refl

-- what a frame is: its header has no fault, its session id is the fourth byte, it takes header plus data size, and all of that is there
module _ (s : List ℕ) (h : Header) (e : Extent) (p : read_of s ≡ Frame h e) where
  pub frame_sound : fault_of h ≡ 0
  frame_sound = let q = is_frame_lem s h e p in ap fault_of q.header ∙ fault_front (front_of s) _ ∙ q.sound

  pub session_fourth : h.session.0 ≡ get_or s 3 0
  unfolding front_of
  session_fourth = ap (λ (k : Header). k.session.0) (is_frame_lem s h e p).header

  pub extent_is : e ≡ extent_of h
  extent_is = let q = is_frame_lem s h e p in q.extent ∙ sym (ap extent_of q.header)

  pub consumed_is : e.consumed ≡ header_size h.version + h.size
  consumed_is = ap (λ (x : Extent). x.consumed) extent_is

  pub consumed_there : e.consumed ≤ length s
  consumed_there = let q = is_frame_lem s h e p in subst (λ (x : Extent). x.consumed ≤ length s) (sym q.extent) q.there

  pub size_bound : h.size ≤ 131072
  size_bound = omega (arith, size_most h.version h.kind h.size (fault_none h frame_sound).size, largest_range h.version)

-- a message id that was read from bytes has room in 4 of them
message_below : (s : List ℕ) (v : ℕ) → AreBytes s → header_size v ≤ length s → (message_of s v).0 < 2 ^ 32
unfolding message_of header_size
message_below s v b l = below (eqb v 1) l
  where
    below : (k : Bool) → pick k 8 12 ≤ length s → (pick {A = MessageId} k (record { 0 = 0 }) (record { 0 = value_be (part s 8 4) })).0 < 2 ^ 32
    below true g = omega arith
    below false g =
        let four : length (part s 8 4) ≡ 4 = length-take 4 (drop 8 s) ∙ omega (arith, length-drop 8 s) in
        rw four at (value_below_be (part s 8 4) (bytes_take 4 (drop 8 s) (bytes_drop 8 s b)))

pub message_bound : (s : List ℕ) (h : Header) (e : Extent) → AreBytes s → read_of s ≡ Frame h e → h.message.0 < 2 ^ 32
message_bound s h e b p =
    let q = is_frame_lem s h e p in
    subst (λ (k : Header). k.message.0 < 2 ^ 32) (sym q.header) (message_below s (front_of s).version b (omega (arith, q.there)))

-- bytes behind the front
part_front : (s t : List ℕ) (at w : ℕ) → at + w ≤ length s → part (s ++ t) at w ≡ part s at w
part_front s t at w h =
    let d : drop at (s ++ t) ≡ drop at s ++ t = drop-append-le at s t (omega arith) in
    rw d (take-append-le w (drop at s) t (omega (arith, length-drop at s)))

pub front_behind : (s t : List ℕ) → 8 ≤ length s → front_of (s ++ t) ≡ front_of s
unfolding front_of
front_behind s t h =
    rw (
      get_or-append s t 0 0 (omega arith),
      get_or-append s t 0 1 (omega arith),
      get_or-append s t 0 2 (omega arith),
      get_or-append s t 0 3 (omega arith),
      part_front s t 4 4 (omega arith),
    )

message_behind : (s t : List ℕ) (v : ℕ) → header_size v ≤ length s → message_of (s ++ t) v ≡ message_of s v
unfolding message_of header_size
message_behind s t v h = by_version (eqb v 1) h
  where
    by_version : (b : Bool) → pick b 8 12 ≤ length s
        → pick {A = MessageId} b (record { 0 = 0 }) (record { 0 = value_be (part (s ++ t) 8 4) }) ≡ pick b (record { 0 = 0 }) (record { 0 = value_be (part s 8 4) })
    by_version true g = refl
    by_version false g = rw (part_front s t 8 4 (omega arith))

pub frame_behind : (s t : List ℕ) (h : Header) (e : Extent) → read_of s ≡ Frame h e → read_of (s ++ t) ≡ Frame h e
frame_behind s t h e p =
    let q = is_frame_lem s h e p in
    let f = front_behind s t q.long in
    let l : length (s ++ t) ≡ length s + length t = length-append s t in
    let m : message_of (s ++ t) (front_of s).version ≡ message_of s (front_of s).version = message_behind s t (front_of s).version (omega (arith, q.there)) in
    read_frame (s ++ t) (omega (arith, q.long)) (rw f q.sound) (rw f (omega (arith, q.there)))
    ∙ rw (f, m, q.header, q.extent)

pub refused_behind : (s t : List ℕ) (n : ℕ) → read_of s ≡ Refused n → read_of (s ++ t) ≡ Refused n
refused_behind s t n p =
    let q = is_refused s n p in
    let f = front_behind s t q.long in
    read_refused (s ++ t) (omega (arith, q.long, length-append s t)) (rw f q.some) ∙ rw (f, ← q.fault)
