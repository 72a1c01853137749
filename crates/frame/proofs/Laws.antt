-- What a header without fault says, and the sizes of headers: the laws of specs/Rules that all layers above cite.
-- Assumes nothing.
use Prim.Native.Nat.{ℕ, ◌+◌, ◌*◌, ◌≤◌}
use mathlib.Core.Path.{◌≡◌, refl, ap, ◌∙◌, sym}
use mathlib.Core.Bool.{Bool, true, false, ◌&&◌, ◌||◌, not}
use mathlib.Core.List.{List, []}
use native.Mathlib.Omega.{arith}
use lib.Dec.{eqb, leb}
use lib.ListN.{length, length-append}
use borrow.Author.Tests.{leb-true, eqb-true, eqb-false, eq-eqb, ne_eqb, le-leb}
use Rattle.std.specs.Prelude.{Result, Ok, Err}
use mir.Val.{bool_byte}
use Rattle.numbers.specs.Bytes.{pick, unless, laid}
use Rattle.numbers.specs.Numbers.{bytes_be}
use Rattle.numbers.proofs.Laws.{length_be}
use Rattle.numbers.proofs.Choices.{and_both, either, unless_elim}
use Rattle.frame.specs.declared.Header.{Header}
use Rattle.frame.specs.Rules.{known_version, listed_service, info_fits, flag_fits, largest, size_fits, fault_of, header_size}
use Rattle.frame.specs.Write.{message_bytes, header_bytes, frame_bytes, Wrote, wrote, put_of, write_header_of, write_of}

not_yes : (b : Bool) → not b ≡ true → b ≡ false
not_yes true e = sym e
not_yes false e = refl

-- a refusal is not 0, so where the whole is 0 the test holds
pub passed : (b : Bool) (n x : ℕ) → (n ≡ 0 → ⊥) → unless b n x ≡ 0 → (b ≡ true) × (x ≡ 0)
passed true n x h e = (refl, e)
passed false n x h e = absurd (h e)

-- what a header without fault says
pub record Sound (h : Header) : Type 0 where
  pub version : known_version h.version ≡ true
  pub kind : h.kind ≤ 3
  pub service : listed_service h.service ≡ true
  pub info : info_fits h.kind h.info ≡ true
  pub flag : flag_fits h.version h.kind h.flag ≡ true
  pub size : size_fits h.version h.kind h.size ≡ true

pub fault_none : (h : Header) → fault_of h ≡ 0 → Sound h
unfolding fault_of
fault_none h e =
    let p₁ = passed (known_version h.version) 1 _ (λ z. omega arith) e in
    let p₂ = passed (leb h.kind 3) 2 _ (λ z. omega arith) p₁.1 in
    let p₃ = passed (listed_service h.service) 3 _ (λ z. omega arith) p₂.1 in
    let p₄ = passed (info_fits h.kind h.info) 4 _ (λ z. omega arith) p₃.1 in
    let p₅ = passed (flag_fits h.version h.kind h.flag) 5 _ (λ z. omega arith) p₄.1 in
    let p₆ = passed (size_fits h.version h.kind h.size) 6 0 (λ z. omega arith) p₅.1 in
    record { version = p₁.0; kind = leb-true h.kind 3 p₂.0; service = p₃.0; info = p₄.0; flag = p₅.0; size = p₆.0 }

pub no_fault : (h : Header) → Sound h → fault_of h ≡ 0
unfolding fault_of
no_fault h s = rw (s.version, le-leb h.kind 3 s.kind, s.service, s.info, s.flag, s.size)

-- versions are 1 to 5
pub version_range : (v : ℕ) → known_version v ≡ true → (1 ≤ v) × (v ≤ 5)
unfolding known_version
version_range v e =
    let p = and_both (not (eqb v 0)) (leb v 5) e in
    let n : v ≡ 0 → ⊥ = eqb-false v 0 (not_yes (eqb v 0) p.0) in
    (omega arith, leb-true v 5 p.1)

pub known : (v : ℕ) → 1 ≤ v → v ≤ 5 → known_version v ≡ true
unfolding known_version
known v a b = rw (ne_eqb v 0 (λ z. omega arith), le-leb v 5 b)

-- the largest size is 1,488 or 131,072
pub largest_range : (v : ℕ) → (1488 ≤ largest v) × (largest v ≤ 131072)
unfolding largest
largest_range v = either (λ (n : ℕ). (1488 ≤ n) × (n ≤ 131072)) (leb v 2) 1488 131072 (λ e. omega arith) (λ e. omega arith)

-- what 6 leaves: at most the largest size, 8 in a First Frame, at least 1 in a consecutive frame
pub size_most : (v kind size : ℕ) → size_fits v kind size ≡ true → size ≤ largest v
unfolding size_fits
size_most v kind size e =
    let p = and_both (not (eqb kind 2) || eqb size 8) ((not (eqb kind 3) || not (eqb size 0)) && leb size (largest v)) e in
    let q = and_both (not (eqb kind 3) || not (eqb size 0)) (leb size (largest v)) p.1 in
    leb-true size (largest v) q.1

-- a header is 8 or 12 bytes
pub header_range : (v : ℕ) → (8 ≤ header_size v) × (header_size v ≤ 12)
unfolding header_size
header_range v = either (λ (n : ℕ). (8 ≤ n) × (n ≤ 12)) (eqb v 1) 8 12 (λ e. omega arith) (λ e. omega arith)

-- a header's bytes are as many as its size says
pub header_length : (h : Header) → length (header_bytes h) ≡ header_size h.version
unfolding header_size message_bytes
header_length h =
    either (λ (n : ℕ). length (header_bytes h) ≡ n) (eqb h.version 1) 8 12
    (λ e. rw (e, length-append (bytes_be 4 h.size) [], length_be 4 h.size))
    (λ e. rw (e, length-append (bytes_be 4 h.size) (bytes_be 4 h.message.0), length_be 4 h.size, length_be 4 h.message.0))

pub frame_length : (h : Header) (p : List ℕ) → length (frame_bytes h p) ≡ header_size h.version + length p
frame_length h p = length-append (header_bytes h) p ∙ ap (λ (n : ℕ). n + length p) (header_length h)

-- the flag's bit, as code makes it of a number, and what it is at most
pub flag_is : (b : Bool) → bool_byte b * 8 ≡ pick b 8 0
flag_is true = refl
flag_is false = refl

pub flag_most : (b : Bool) → pick b 8 0 ≤ 8
flag_most b = either (λ (n : ℕ). n ≤ 8) b 8 0 (λ e. omega arith) (λ e. omega arith)

-- sizes that 6 lets through, by frame type
module _ (v size : ℕ) (most : size ≤ largest v) where
  pub single_size : size_fits v 1 size ≡ true
  unfolding size_fits
  single_size = rw (le-leb size (largest v) most)

  pub next_size : 1 ≤ size → size_fits v 3 size ≡ true
  unfolding size_fits
  next_size h = rw (ne_eqb size 0 (λ z. omega arith), le-leb size (largest v) most)

pub first_size : (v : ℕ) → size_fits v 2 8 ≡ true
unfolding size_fits
first_size v = rw (le-leb 8 (largest v) (omega (arith, largest_range v)))

-- the writer of a header without fault and its payload does nothing but put the bytes
pub write_puts : (h : Header) (p o : List ℕ) → fault_of h ≡ 0 → h.size ≡ length p → write_of h p o ≡ put_of (frame_bytes h p) o
unfolding write_of
write_puts h p o f s = rw (eq-eqb (fault_of h) 0 f, eq-eqb h.size (length p) s)

-- a refusal is at most 6
pub fault_most : (h : Header) → fault_of h ≤ 6
unfolding fault_of
fault_most h =
    least (known_version h.version) 1 _ (omega arith)
    (least (leb h.kind 3) 2 _ (omega arith)
    (least (listed_service h.service) 3 _ (omega arith)
    (least (info_fits h.kind h.info) 4 _ (omega arith)
    (least (flag_fits h.version h.kind h.flag) 5 _ (omega arith)
    (least (size_fits h.version h.kind h.size) 6 0 (omega arith) (omega arith))))))
  where
    least : (b : Bool) (n m : ℕ) → n ≤ 6 → m ≤ 6 → unless b n m ≤ 6
    least true n m f g = g
    least false n m f g = f

-- a frame takes at most 131,084 bytes, 12 of them its header
pub frame_most : (h : Header) → fault_of h ≡ 0 → header_size h.version + h.size ≤ 131084
frame_most h e = omega (arith, header_range h.version, largest_range h.version, size_most h.version h.kind h.size (fault_none h e).size)

-- how large a writer's answer is
abbrev pub AnswerBound : Result ℕ ℕ → Type 0
AnswerBound (Ok n) = n ≤ 131084
AnswerBound (Err n) = n ≤ 11

put_bound : (bytes out : List ℕ) → length bytes ≤ 131084 → AnswerBound (put_of bytes out).answer
put_bound bytes out l =
    unless_elim (λ (w : Wrote). AnswerBound w.answer) (leb (length bytes) (length out)) (wrote (Err 11) out) (wrote (Ok (length bytes)) (laid bytes out))
    (λ t. omega arith) (λ t. l)

pub header_bound : (h : Header) (out : List ℕ) → AnswerBound (write_header_of h out).answer
unfolding write_header_of
header_bound h out =
    unless_elim (λ (w : Wrote). AnswerBound w.answer) (eqb (fault_of h) 0) (wrote (Err (fault_of h)) out) (put_of (header_bytes h) out)
    (λ t. omega (arith, fault_most h))
    (λ t. put_bound (header_bytes h) out (omega (arith, header_length h, header_range h.version)))

pub write_bound : (h : Header) (p out : List ℕ) → AnswerBound (write_of h p out).answer
unfolding write_of
write_bound h p out =
    unless_elim (λ (w : Wrote). AnswerBound w.answer) (eqb (fault_of h) 0) (wrote (Err (fault_of h)) out) _ (λ t. omega (arith, fault_most h)) λ t.
    unless_elim (λ (w : Wrote). AnswerBound w.answer) (eqb h.size (length p)) (wrote (Err 6) out) (put_of (frame_bytes h p) out)
    (λ u. omega arith)
    (λ u.
    let same : h.size ≡ length p = eqb-true h.size (length p) u in
    put_bound (frame_bytes h p) out (omega (arith, frame_length h p, frame_most h (eqb-true (fault_of h) 0 t))))
