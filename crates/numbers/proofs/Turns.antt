-- What one turn of a reading or a writing loop does, over the width, and what a read of missing bytes counts.
-- Assumes nothing.
use Prim.Native.Nat.{ℕ, suc, ◌+◌, ◌-◌, ◌*◌, ◌/◌, ◌%◌, ◌^◌, ◌<◌, ◌≤◌}
use mathlib.Core.Path.{◌≡◌, refl, ap, ◌∙◌, sym}
use mathlib.Core.List.{List, [], ◌∷◌, ◌++◌, append-nil, append_assoc, reverse-append}
use mathlib.Core.Bool.{true}
use lib.Dec.{leb}
use borrow.Author.Tests.{leb-true}
use native.Mathlib.Omega.{arith}
use native.Mathlib.Nat.{pow-suc, pow-le-pow_right}
use native.Mathlib.Numerals.{add-one}
use lib.ListN.{length, get_or, set, take, drop, length-append, length-drop}
use lib.Seq.{take_all, length-take-le}
use borrow.Rule.Slice.PartMut.{put_mid}
use Rattle.std.proofs.lemmas.List.{length-take, take_more, take_more_set}
use Rattle.std.proofs.lemmas.Slice.{put_mid-paste}
use mir.Syntax.{w32}
use Rattle.std.specs.Int.{swap_bytes}
use Rattle.numbers.specs.Bytes.{part, fits_in, put_at, AreBytes}
use Rattle.numbers.specs.Numbers.{value_le, bytes_le, value_be, Fits}
use Rattle.numbers.proofs.Laws.{length_le, put_fits, written_read_le, bytes_take, bytes_drop}
use Rattle.numbers.proofs.Choices.{and_both}

-- a number of k bytes and one byte more
pub grown : (k r b : ℕ) → r < 256 ^ k → b < 256 → r * 256 + b < 256 ^ (k + 1)
grown k r b h g = rw (add-one k, pow-suc 256 k) (omega arith)

pub width_most : (k m : ℕ) → k ≤ m → 256 ^ k ≤ 256 ^ m
width_most k m h = pow-le-pow_right (omega arith) h

pub fits_64 : (k r b : ℕ) → k < 8 → r < 256 ^ k → b < 256 → r * 256 + b < 2 ^ 64
fits_64 k r b q h g = omega (arith, grown k r b h g, width_most (k + 1) 8 (omega arith))

-- a width below 8 has so many numbers, and at least one; their count has room in 64 bits
pub counted : (k : ℕ) → k < 8 → (0 < 256 ^ k) × (256 ^ k < 2 ^ 64)
counted k h = (omega (arith, width_most 0 k (omega arith)), omega (arith, width_most k 7 (omega arith)))

-- the bytes at the back that are passed make a number
pub record Behind (bytes rest : List ℕ) (r : ℕ) : Type 0 where
  pub tail : List ℕ
  pub parts : bytes ≡ rest ++ tail
  pub sum : Fits (length tail) (value_le tail) r

pub behind_none : (bytes rest : List ℕ) → rest ≡ bytes → Behind bytes rest 0
unfolding value_le
behind_none bytes rest e = record { tail = []; parts = sym e ∙ sym (append-nil rest); sum = record { is = refl; below = omega arith } }

last_byte : (front tail : List ℕ) (b : ℕ) → AreBytes ((front ++ b ∷ []) ++ tail) → b < 256
last_byte [] tail b h = h.0
last_byte (x ∷ front) tail b h = last_byte front tail b h.1

behind_byte : (bytes rest rest' : List ℕ) (r b : ℕ) → AreBytes bytes → Behind bytes rest r → rest ≡ rest' ++ b ∷ [] → b < 256
behind_byte bytes rest rest' r b a h e = last_byte rest' h.tail b (rw (h.parts, e) at a)

-- one byte more at the front, least significant first
pub behind_more : (bytes rest rest' : List ℕ) (r b : ℕ) → AreBytes bytes → Behind bytes rest r → rest ≡ rest' ++ b ∷ [] → Behind bytes rest' (r * 256 + b)
unfolding value_le
behind_more bytes rest rest' r b a h e = record {
  tail = b ∷ h.tail;
  parts = h.parts ∙ rw (e, append_assoc);
  sum = record {
    is = omega (arith, h.sum.is);
    below = rw (add-one (length h.tail)) at (grown (length h.tail) r b h.sum.below (behind_byte bytes rest rest' r b a h e));
  };
}

-- so that one byte more fits 64 bits
pub behind_fits : (bytes rest rest' : List ℕ) (r b : ℕ) → length bytes ≤ 8 → AreBytes bytes → Behind bytes rest r → rest ≡ rest' ++ b ∷ [] → r * 256 + b < 2 ^ 64
behind_fits bytes rest rest' r b n a h e =
    let few : length h.tail < 8 = omega (arith, ap length h.parts, ap length e, length-append rest h.tail, length-append rest' (b ∷ [])) in
    fits_64 (length h.tail) r b few h.sum.below (behind_byte bytes rest rest' r b a h e)

pub behind_all : (bytes rest : List ℕ) (r : ℕ) → Behind bytes rest r → length rest ≡ 0 → Fits (length bytes) (value_le bytes) r
behind_all bytes [] r h e = rw h.parts h.sum
behind_all bytes (b ∷ rest) r h e = absurd (omega arith)

-- one byte more at the back, most significant first
pub before_more : (bytes : List ℕ) (i r b : ℕ) → Fits i (value_be (take i bytes)) r → i < length bytes → b ≡ get_or bytes i 0 → b < 256
    → Fits (i + 1) (value_be (take (i + 1) bytes)) (r * 256 + b)
unfolding value_be value_le
before_more bytes i r b f h e g = record {
  is = rw (take_more bytes i 0 h, reverse-append) (omega (arith, f.is));
  below = grown i r b f.below g;
}

-- the writing loop, least significant first: the bytes written, and what the rest of the number writes behind them
pub written_more : (items : List ℕ) (n i x y : ℕ) → i < length items → length items ≡ n → take i items ++ bytes_le (n - i) y ≡ bytes_le n x
    → take (i + 1) (set items i (y % 256)) ++ bytes_le (n - (i + 1)) (y / 256) ≡ bytes_le n x
unfolding bytes_le
written_more items n i x y h l e =
    let k : n - i ≡ suc (n - (i + 1)) = omega arith in
    rw (take_more_set items i (y % 256) h, append_assoc) (rw k at e)

pub written_all : (items : List ℕ) (n i x y : ℕ) → n ≤ i → length items ≡ n → take i items ++ bytes_le (n - i) y ≡ bytes_le n x → items ≡ bytes_le n x
unfolding bytes_le
written_all items n i x y h l e =
    let k : n - i ≡ 0 = omega arith in
    rw (k, take_all i items (omega arith), append-nil items) at e

-- four bytes in the other order, as std turns them
sum_turned : (x : ℕ) → x < 2 ^ 32 → swap_bytes w32 x ≡ value_be (bytes_le 4 x)
unfolding value_be value_le bytes_le
sum_turned x h =
    let third : x / 65536 ≡ x / 256 / 256 = omega arith in
    let fourth : x / 16777216 ≡ x / 256 / 256 / 256 = omega arith in
    rw (third, fourth) (omega arith)

pub turned : (x r : ℕ) → x < 2 ^ 32 → r ≡ swap_bytes w32 x → r ≡ value_be (bytes_le 4 x)
turned x r h e = e ∙ sum_turned x h

-- what the test before a write shows
pub fits_room : (n at w : ℕ) → fits_in n at w ≡ true → at + w ≤ n
unfolding fits_in
fits_room n at w e =
    let p = and_both (leb at n) (leb w (n - at)) e in
    omega (arith, leb-true at n p.0, leb-true w (n - at) p.1)

-- the bytes of a part that code lent and wrote
pub part_written : (s : List ℕ) (at w x : ℕ) (p : List ℕ) → at + w ≤ length s → p ≡ bytes_le (length (take (at + w - at) (drop at s))) x
    → put_mid at (at + w - at) s p ≡ put_at s at w (bytes_le w x)
part_written s at w x p h e =
    let n : length (take (at + w - at) (drop at s)) ≡ w = omega (arith, length-take-le (at + w - at) (drop at s), length-drop at s) in
    put_mid-paste at (at + w - at) s p (bytes_le w x) w (rw n at e) (omega arith) (sym (length_le w x)) ∙ sym (put_fits s at w (bytes_le w x) h)

-- a part of fewer bytes is a number that fits the width too
pub part_fits : (s : List ℕ) (at w r : ℕ) → Fits (length (part s at w)) (value_le (part s at w)) r → Fits w (value_le (part s at w)) r
part_fits s at w r f = record { is = f.is; below = omega (arith, f.below, width_most (length (part s at w)) w (omega (arith, length-take w (drop at s)))) }

-- four bytes, read least significant first and turned, are their number most significant first
pub part_turned : (s : List ℕ) (at x r : ℕ) → AreBytes s → at + 4 ≤ length s → x < 2 ^ 32 → x ≡ value_le (part s at 4) → r ≡ swap_bytes w32 x → r ≡ value_be (part s at 4)
part_turned s at x r a h b e f =
    let n : length (part s at 4) ≡ 4 = length-take-le 4 (drop at s) (omega (arith, length-drop at s)) in
    turned x r b f ∙ rw e (ap value_be (rw n at (written_read_le (part s at 4) (bytes_take 4 (drop at s) (bytes_drop at s a)))))
