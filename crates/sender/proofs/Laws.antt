-- What the sender plans has no fault, so that the writer does nothing but put its bytes; and each outcome of its definition.
-- Assumes nothing.
use Prim.Native.Nat.{ℕ, ◌≤◌, ◌<◌}
use mathlib.Core.Path.{◌≡◌, refl, ap, ◌∙◌, sym}
use mathlib.Core.Bool.{true, false}
use mathlib.Core.List.{List, [], ◌++◌, append-nil}
use native.Mathlib.Omega.{arith}
use lib.ListN.{length, drop, length-append, drop_of_length-le}
use borrow.Author.Tests.{eq-eqb, ne_eqb, le-leb, lt-leb}
use Rattle.numbers.specs.Bytes.{put_at, laid}
use Rattle.numbers.specs.Numbers.{bytes_be}
use Rattle.numbers.proofs.Choices.{split}
use Rattle.numbers.proofs.Laws.{length_be, put_fits}
use Rattle.frame.specs.Rules.{known_version, listed_service, info_fits, flag_fits, size_fits, fault_of}
use Rattle.frame.specs.Message.{totals_fit}
use Rattle.frame.specs.Write.{put_of}
use Rattle.frame.proofs.Buffers.{laid_more, laid_length, pasted}
use Rattle.frame.proofs.Message.{totals_range}
use Rattle.frame.proofs.Laws.{no_fault, single_size, first_size, next_size}
use Rattle.sender.specs.declared.Outgoing.{Outgoing}
use Rattle.sender.specs.Sender.{Ready, Planned, header_for, fits_one, count_of, single_plan, first_plan, next_plan, frame_at, last_place, bytes_of, chunk_fits, unready, refused, send_of}
use Rattle.sender.proofs.Counts.{chunk_range}

any_info : (kind info : ℕ) → (kind ≡ 0 → ⊥) → info_fits kind info ≡ true
unfolding info_fits
any_info kind info h = rw (ne_eqb kind 0 h)

no_flag : (v kind : ℕ) → flag_fits v kind false ≡ true
unfolding flag_fits
no_flag v kind = refl

module _ (o : Outgoing) (r : Ready o) where
  plan_fault : (kind info size : ℕ) → 1 ≤ kind → kind ≤ 3 → size_fits o.version kind size ≡ true → fault_of (header_for o kind info size) ≡ 0
  plan_fault kind info size a b s =
      no_fault (header_for o kind info size) (record {
        version = r.version;
        kind = b;
        service = r.service;
        info = any_info kind info (λ z. omega arith);
        flag = no_flag o.version kind;
        size = s;
      })

  -- a single frame of at most a chunk
  pub single_fault : (size : ℕ) → size ≤ o.chunk → fault_of (header_for o 1 0 size) ≡ 0
  single_fault size h = plan_fault 1 0 size (omega arith) (omega arith) (single_size o.version size (omega (arith, chunk_range o.version o.chunk r.chunk)))

  -- the First Frame's 8 bytes
  pub first_fault : fault_of (header_for o 2 0 8) ≡ 0
  first_fault = plan_fault 2 0 8 (omega arith) (omega arith) (first_size o.version)

  -- a consecutive frame of 1 byte to a chunk
  pub next_fault : (info size : ℕ) → 1 ≤ size → size ≤ o.chunk → fault_of (header_for o 3 info size) ≡ 0
  next_fault info size a h = plan_fault 3 info size (omega arith) (omega arith) (next_size o.version size (omega (arith, chunk_range o.version o.chunk r.chunk)) a)

pub totals_length : (t c : ℕ) → length (bytes_be 4 t ++ bytes_be 4 c) ≡ 8
totals_length t c = length-append (bytes_be 4 t) (bytes_be 4 c) ∙ rw (length_be 4 t, length_be 4 c)

-- the First Frame's payload, as it is made: two numbers put into 8 bytes
pub totals_put : (t c : ℕ) (z a b : List ℕ) → length z ≡ 8 → a ≡ put_at z 0 4 (bytes_be 4 t) → b ≡ put_at a 4 4 (bytes_be 4 c) → b ≡ bytes_be 4 t ++ bytes_be 4 c
totals_put t c z a b l e f =
    let one : a ≡ laid (bytes_be 4 t) z
    = laid_more [] (bytes_be 4 t) z z a 0 4 refl (length_be 4 t) refl (e ∙ put_fits z 0 4 (bytes_be 4 t) (omega arith) ∙ pasted z (bytes_be 4 t) 0 4 (length_be 4 t)) in
    let n : length a ≡ 8 = rw (one, laid_length (bytes_be 4 t) z (omega (arith, length_be 4 t))) l in
    let two : b ≡ laid (bytes_be 4 t ++ bytes_be 4 c) z
    = laid_more (bytes_be 4 t) (bytes_be 4 c) z a b 4 4 (length_be 4 t) (length_be 4 c) one (f ∙ put_fits a 4 4 (bytes_be 4 c) (omega arith) ∙ pasted a (bytes_be 4 c) 4 4 (length_be 4 c)) in
    let g : length z ≤ length (bytes_be 4 t ++ bytes_be 4 c) = omega (arith, totals_length t c) in
    let d : drop (length (bytes_be 4 t ++ bytes_be 4 c)) z ≡ [] = drop_of_length-le z {i = length (bytes_be 4 t ++ bytes_be 4 c)} g in
    two ∙ rw (d, append-nil)

-- which frame stands at a place
module _ (o : Outgoing) (k : ℕ) (m : List ℕ) where
  pub at_single : fits_one o m ≡ true → frame_at o m k ≡ single_plan o m
  unfolding frame_at
  at_single e = rw e

  pub at_first : fits_one o m ≡ false → k ≡ 0 → frame_at o m k ≡ first_plan o m
  unfolding frame_at
  at_first e z = rw (e, eq-eqb k 0 z)

  pub at_next : fits_one o m ≡ false → (k ≡ 0 → ⊥) → frame_at o m k ≡ next_plan o m k
  unfolding frame_at
  at_next e z = rw (e, ne_eqb k 0 z)

-- what is refused before anything is looked at but what all frames share
pub sends_unready : (o : Outgoing) (k : ℕ) (m out : List ℕ) {n : ℕ} → n ≡ unready o → 1 ≤ n → refused n out ≡ send_of o k m out
unfolding send_of
sends_unready o k m out {n} e h =
    split (known_version o.version)
    (λ v. split (listed_service o.service)
    (λ s. split (chunk_fits o.version o.chunk)
    (λ c. let none : n ≡ 0 = rw (v, s, c) at e in absurd (omega arith))
    (λ c. let ten : n ≡ 10 = rw (v, s, c) at e in rw (ten, v, s, c) refl))
    (λ s. let three : n ≡ 3 = rw (v, s) at e in rw (three, v, s) refl))
    (λ v. let one : n ≡ 1 = rw v at e in rw (one, v) refl)

-- what nothing is refused of is ready
pub ready_of : (o : Outgoing) → 0 ≡ unready o → Ready o
ready_of o e =
    split (known_version o.version)
    (λ v. split (listed_service o.service)
    (λ s. split (chunk_fits o.version o.chunk)
    (λ c. record { version = v; service = s; chunk = c })
    (λ c. let ten : 0 ≡ 10 = rw (v, s, c) at e in absurd (omega arith)))
    (λ s. let three : 0 ≡ 3 = rw (v, s) at e in absurd (omega arith)))
    (λ v. let one : 0 ≡ 1 = rw v at e in absurd (omega arith))

-- each outcome of the definition from its tests
module _ (o : Outgoing) (k : ℕ) (m out : List ℕ) (r : Ready o) where
  module _ (several : fits_one o m ≡ false) where
    pub sends-18 : totals_fit (length m) (count_of o m) ≡ false → refused 18 out ≡ send_of o k m out
    unfolding send_of
    sends-18 t = rw (r.version, r.service, r.chunk, several, t)

  module _ (single : fits_one o m ≡ true) where
    pub sends_none : 0 < k → refused 26 out ≡ send_of o k m out
    unfolding send_of last_place
    sends_none h = rw (r.version, r.service, r.chunk, single, lt-leb k 0 h)

    pub sends-single : k ≤ 0 → put_of (bytes_of (single_plan o m)) out ≡ send_of o k m out
    unfolding send_of last_place
    sends-single h = ap (λ (f : Planned). put_of (bytes_of f) out) (sym (at_single o k m single)) ∙ rw (r.version, r.service, r.chunk, single, le-leb k 0 h)

-- what the check needs to know of a message in one frame, and of one in several
pub ruleset single = (ready_of, sends_unready, sends_none, single_fault)

pub ruleset several = (chunk_range, totals_range)
