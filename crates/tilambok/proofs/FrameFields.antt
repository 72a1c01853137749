-- The sixteen field bytes, two numbers put from the back and then eight bytes stored one by one, are `field_bytes` laid to the front.
-- By the frame crate's laws of bytes laid piece by piece. Assumes nothing.
use Prim.Native.Nat.{ℕ, ◌+◌, ◌≤◌}
use mathlib.Core.Path.{◌≡◌, ap, sym, ◌∙◌}
use mathlib.Core.List.{List, [], ◌∷◌, ◌++◌, append_assoc}
use native.Mathlib.Omega.{arith}
use lib.ListN.{length, get_or, take, drop, set, length-append}
use lib.Seq.{drop_at, length-take-le, take-take}
use borrow.Author.Tests.{eq-eqb, ne_eqb}
use Rattle.numbers.specs.Bytes.{part, pick, put_at, laid}
use Rattle.numbers.specs.Numbers.{bytes_be, value_be}
use Rattle.numbers.proofs.Laws.{length_be, put_fits}
use Rattle.frame.specs.declared.Header.{Header}
use Rattle.frame.specs.declared.Extent.{Extent}
use Rattle.frame.specs.declared.MessageId.{MessageId}
use Rattle.frame.specs.declared.Reading.TheVariants.{Frame}
use Rattle.frame.specs.Rules.{header_size}
use Rattle.frame.specs.Read.{front_of, message_of, with_message, read_of}
use Rattle.frame.proofs.Answers.{is_frame_lem}
use Rattle.frame.proofs.Buffers.{four_stored, pasted}
use Rattle.tilambok.specs.Frames.{field_bytes}

-- eight bytes stored one by one
abbrev pub stored : (o : List ℕ) (a b c d e f g h : ℕ) → List ℕ
stored o a b c d e f g h = set (set (set (set (set (set (set (set o 0 a) 1 b) 2 c) 3 d) 4 e) 5 f) 6 g) 7 h

eight_stored : (o : List ℕ) (a b c d e f g h : ℕ) → 8 ≤ length o → stored o a b c d e f g h ≡ laid (a ∷ b ∷ c ∷ d ∷ e ∷ f ∷ g ∷ h ∷ []) o
eight_stored (x ∷ y ∷ z ∷ w ∷ t) a b c d e f g h l = ap (λ (u : List ℕ). a ∷ b ∷ c ∷ d ∷ u) (four_stored t e f g h (omega arith))
eight_stored [] a b c d e f g h l = absurd (omega arith)
eight_stored (x ∷ []) a b c d e f g h l = absurd (omega arith)
eight_stored (x ∷ y ∷ []) a b c d e f g h l = absurd (omega arith)
eight_stored (x ∷ y ∷ z ∷ []) a b c d e f g h l = absurd (omega arith)

-- what stands from a place on where bytes were put
put_behind : (d s : List ℕ) (at w : ℕ) → length s ≡ w → at + w ≤ length d → drop at (put_at d at w s) ≡ s ++ drop (at + w) d
put_behind d s at w l h = rw (put_fits d at w s h, pasted d s at w l) (drop_at (take at d) (s ++ drop (at + w) d) at (length-take-le at d (omega arith)))

-- the last bytes first, then those before them, then eight bytes in front of both
all_put : (a b c d e f g h : ℕ) (n m o p q : List ℕ) → length n ≡ 4 → length m ≡ 4 → 16 ≤ length o → length p ≡ length o → length q ≡ length p
    → p ≡ put_at o 12 4 m
    → q ≡ put_at p 8 4 n
    → stored q a b c d e f g h ≡ laid (a ∷ b ∷ c ∷ d ∷ e ∷ f ∷ g ∷ h ∷ (n ++ m)) o
all_put a b c d e f g h n m o p q ln lm l lp lq u v =
    let all : List ℕ = a ∷ b ∷ c ∷ d ∷ e ∷ f ∷ g ∷ h ∷ (n ++ m) in
    let size : 16 ≡ length all = omega (arith, length-append n m) in
    let last : drop 12 p ≡ m ++ drop 16 o = ap (drop 12) u ∙ put_behind o m 12 4 lm (omega arith) in
    let rest : drop 8 q ≡ (n ++ m) ++ drop 16 o = ap (drop 8) v ∙ put_behind p n 8 4 ln (omega arith) ∙ rw (last, append_assoc) in
    eight_stored q a b c d e f g h (omega arith)
    ∙ ap (λ (t : List ℕ). a ∷ b ∷ c ∷ d ∷ e ∷ f ∷ g ∷ h ∷ t) rest
    ∙ ap (λ (k : ℕ). all ++ drop k o) size

-- a frame's bytes tell its service, info, session and size; b is the flag's byte, and x what is put for the payload's start
pub fields_put : (s : List ℕ) (h : Header) (start b n x : ℕ) (o p q : List ℕ) → h ≡ with_message (front_of s) h.message → b ≡ pick h.flag 1 0
    → x ≡ start
    → n ≡ value_be (part s 4 4)
    → 16 ≤ length o
    → length p ≡ length o
    → length q ≡ length p
    → p ≡ put_at o 12 4 (bytes_be 4 h.message.0)
    → q ≡ put_at p 8 4 (bytes_be 4 n)
    → stored q h.version b h.kind (get_or s 1 0) (get_or s 2 0) (get_or s 3 0) x 0 ≡ laid (field_bytes h start) o
unfolding field_bytes front_of
fields_put s h start b n x o p q e f i g l lp lq u v =
    let service : h.service.0 ≡ get_or s 1 0 = ap (λ (k : Header). k.service.0) e in
    let info : h.info ≡ get_or s 2 0 = ap (λ (k : Header). k.info) e in
    let session : h.session.0 ≡ get_or s 3 0 = ap (λ (k : Header). k.session.0) e in
    let size : h.size ≡ n = ap (λ (k : Header). k.size) e ∙ sym g in
    let same : h.version ∷ b ∷ h.kind ∷ get_or s 1 0 ∷ get_or s 2 0 ∷ get_or s 3 0 ∷ x ∷ 0 ∷ (bytes_be 4 n ++ bytes_be 4 h.message.0) ≡ field_bytes h start
    = rw (f, i, service, info, session, size) in
    all_put h.version b h.kind (get_or s 1 0) (get_or s 2 0) (get_or s 3 0) x 0 (bytes_be 4 n) (bytes_be 4 h.message.0) o p q
    (length_be 4 n) (length_be 4 h.message.0) l lp lq u v
    ∙ ap (λ (t : List ℕ). laid t o) same

-- a number put at the message id's place
pub at_id : (o p : List ℕ) (at n m : ℕ) → p ≡ put_at o at 4 (bytes_be 4 n) → at ≡ 12 → n ≡ m → p ≡ put_at o 12 4 (bytes_be 4 m)
at_id o p at n m e f g = rw (e, f, g)

-- ---- the message id, as it stands in the frame

module _ (s : List ℕ) (v : ℕ) (m : MessageId) (is : m ≡ message_of s v) where
  pub message_none : v ≡ 1 → 0 ≡ m.0
  unfolding message_of
  message_none e = let none : message_of s v ≡ record { 0 = 0 } = rw (eq-eqb v 1 e) in sym (ap (λ (x : MessageId). x.0) (is ∙ none))

  -- the four bytes were lent alone
  pub message_there : (v ≡ 1 → ⊥) → value_be (part (part s 8 4) 0 4) ≡ m.0
  unfolding message_of
  message_there n =
      let all = take-take 4 4 (drop 8 s) (omega arith) in
      let there : message_of s v ≡ record { 0 = value_be (part s 8 4) } = rw (ne_eqb v 1 n) in
      ap value_be all ∙ sym (ap (λ (x : MessageId). x.0) (is ∙ there))

-- what the reader says of a frame's header
pub header_there : (s : List ℕ) (h : Header) (e : Extent) → read_of s ≡ Frame h e
    → (header_size h.version ≤ length s) × (h ≡ with_message (front_of s) (message_of s h.version))
header_there s h e p =
    let f = is_frame_lem s h e p in
    let v : h.version ≡ (front_of s).version = ap (λ (k : Header). k.version) f.header in
    (rw v (omega (arith, f.there)), f.header ∙ ap (λ (n : ℕ). with_message (front_of s) (message_of s n)) (sym v))

pub header_own : (s : List ℕ) (h : Header) → h ≡ with_message (front_of s) (message_of s h.version) → h ≡ with_message (front_of s) h.message
header_own s h q = q ∙ ap (with_message (front_of s)) (sym (ap (λ (k : Header). k.message) q))
