-- Laws that pages of docs/ name and that no proof needs since code and proofs were written in today's forms (docs/DESIGN-PASS.md): bytes turned round by
-- arithmetic, a boolean and a version's parts in a payload, the sender's First Frame and what 18 lets pass, a writer's answer for C. Each says what it said. Assumes nothing.
use Prim.Native.Nat.{ℕ, ◌+◌, ◌-◌, ◌*◌, ◌/◌, ◌%◌, ◌^◌, ◌<◌, ◌≤◌}
use mathlib.Core.Path.{◌≡◌, ap, ◌∙◌, sym, subst}
use mathlib.Core.Bool.{Bool, true, false}
use mathlib.Core.List.{List}
use native.Mathlib.Omega.{arith}
use lib.Dec.{leb}
use borrow.Author.Tests.{lt-ltb, le-leb, leb-true}
use lib.ListN.{length, get_or, drop, length-drop}
use lib.Seq.{length-take-le}
use Rattle.std.proofs.Common.{Some, None, Ok, Result as Answer}
use Rattle.numbers.specs.Bytes.{part, AreBytes}
use Rattle.numbers.specs.Numbers.{value_le, bytes_le, value_be}
use Rattle.numbers.proofs.Choices.{split}
use Rattle.numbers.proofs.Laws.{written_read_le, bytes_take, bytes_drop}
use Rattle.frame.specs.Message.{totals_fit}
use Rattle.frame.proofs.Message.{TotalsRange, totals_range}
use Rattle.frame.specs.Write.{Wrote, wrote, put_of}
use Rattle.payload.specs.Version.{part_value, version_from}
use Rattle.payload.specs.Walk.{boolean_of}
use Rattle.sender.specs.declared.Outgoing.{Outgoing}
use Rattle.sender.specs.Sender.{Ready, Planned, fits_one, count_of, first_plan, last_place, bytes_of, send_of}
use Rattle.sender.proofs.Laws.{at_first}
use Rattle.tilambok.specs.Status.{Result, written_result, answered}

-- what each of four bytes is worth in the other order
worth : (a b c d : ℕ) → a * 16777216 + b * 65536 + c * 256 + d ≡ d + 256 * (c + 256 * (b + 256 * (a + 256 * 0)))
worth a b c d = omega arith

sum_turned : (x : ℕ) → x < 2 ^ 32 → x % 256 * 16777216 + x / 256 % 256 * 65536 + x / 65536 % 256 * 256 + x / 16777216 ≡ value_be (bytes_le 4 x)
unfolding value_be value_le bytes_le
sum_turned x h =
    let third : x / 65536 ≡ x / 256 / 256 = omega arith in
    let fourth : x / 16777216 ≡ x / 256 / 256 / 256 = omega arith in
    let byte : x / 256 / 256 / 256 % 256 ≡ x / 256 / 256 / 256 = omega arith in
    rw (third, fourth, byte) (worth (x % 256) (x / 256 % 256) (x / 256 / 256 % 256) (x / 256 / 256 / 256))

pub four_turned : (x r : ℕ) → x < 2 ^ 32 → r ≡ x % 256 * 16777216 + x / 256 % 256 * 65536 + x / 65536 % 256 * 256 + x / 16777216 → r ≡ value_be (bytes_le 4 x)
four_turned x r h e = e ∙ sum_turned x h

-- bytes of a slice, read least significant first and written again, are themselves
part_again : (s : List ℕ) (at w : ℕ) → AreBytes s → w ≤ length s - at → bytes_le w (value_le (part s at w)) ≡ part s at w
part_again s at w h l =
    let n : length (part s at w) ≡ w = length-take-le w (drop at s) (omega (arith, length-drop at s)) in
    rw n at (written_read_le (part s at w) (bytes_take w (drop at s) (bytes_drop at s h)))

-- so their number in the other order is the one that they are most significant first
pub part_turned : (s : List ℕ) (at w : ℕ) → AreBytes s → w ≤ length s - at → value_be (bytes_le w (value_le (part s at w))) ≡ value_be (part s at w)
part_turned s at w h l = ap value_be (part_again s at w h l)

-- a boolean: 0 or 1 inside its document
pub boolean_good : (s : List ℕ) (v end : ℕ) → v < end → get_or s v 0 < 2 → Some (v + 1) ≡ boolean_of s v end
unfolding boolean_of
boolean_good s v end a b = rw (lt-ltb v end a, lt-ltb (get_or s v 0) 2 b)

-- three parts make no version where they are refuted
pub record InRange (a b c : ℕ) : Type 0 where
  pub one : 1 ≤ a
  pub major : a < 256
  pub minor : b < 256
  pub patch : c < 256

pub parts_bad : (a b c : ℕ) → (InRange a b c → ⊥) → None ≡ version_from (part_value (Ok a)) (part_value (Ok b)) (part_value (Ok c))
unfolding version_from
parts_bad a b c out =
    split (leb a 255)
    (λ x. split (leb b 255)
    (λ y. split (leb c 255)
    (λ z. split (leb 1 a)
    (λ w. absurd (out (record {
      one = leb-true 1 a w;
      major = omega (arith, leb-true a 255 x);
      minor = omega (arith, leb-true b 255 y);
      patch = omega (arith, leb-true c 255 z);
    })))
    (λ w. rw (x, y, z, w)))
    (λ z. rw (x, y, z)))
    (λ y. rw (x, y)))
    (λ x. rw x)

-- the sender's First Frame
pub sends-first : (o : Outgoing) (k : ℕ) (m out : List ℕ) → Ready o → fits_one o m ≡ false → totals_fit (length m) (count_of o m) ≡ true
    → k ≡ 0 → put_of (bytes_of (first_plan o m)) out ≡ send_of o k m out
unfolding send_of last_place
sends-first o k m out r several fits z =
    ap (λ (f : Planned). put_of (bytes_of f) out) (sym (at_first o k m several z)) ∙ rw (r.version, r.service, r.chunk, several, fits, le-leb k (count_of o m) (omega arith))

-- past 18 a message may be announced, and its bytes and frames have their ranges
pub fits : (o : Outgoing) (m : List ℕ) (count : ℕ) {b : Bool} → count ≡ count_of o m → b ≡ totals_fit (length m) count → b ≡ true
    → totals_fit (length m) (count_of o m) ≡ true
fits o m count e f t = subst (λ (x : ℕ). totals_fit (length m) x ≡ true) e (sym f ∙ t)

pub range : (o : Outgoing) (m : List ℕ) → totals_fit (length m) (count_of o m) ≡ true → TotalsRange (length m) (count_of o m)
range o m e = totals_range (length m) (count_of o m) e

-- what a writer's call leaves, from the answer that it got
pub as_answered : (value : ℕ) (r : Result) (a : Answer ℕ ℕ) (o : List ℕ) (w : Wrote) → r ≡ written_result value a → wrote a o ≡ w
    → record { result = r; lent = o } ≡ answered value w
as_answered value r a o w e f = rw e (ap (answered value) f)
