-- The laws of numbers as bytes, stated over the width: each order there and back. Most significant first cites the other.
-- Assumes nothing.
use Prim.Native.Nat.{ℕ, zero, suc, ◌+◌, ◌-◌, ◌*◌, ◌/◌, ◌%◌, ◌^◌, ◌<◌, ◌≤◌}
use mathlib.Core.Path.{◌≡◌, refl, ap, ◌∙◌, sym}
use mathlib.Core.Bool.{true}
use mathlib.Core.List.{List, [], ◌∷◌, ◌++◌, reverse, reverse-cons, reverse-reverse}
use native.Mathlib.Omega.{arith}
use native.Mathlib.Nat.{pow-suc}
use lib.ListN.{length, get_or, take, drop, length-reverse}
use borrow.Author.Tests.{le-leb}
use lib.Seq.{paste}
use Rattle.numbers.specs.Bytes.{fits_in, put_at, AreBytes}
use Rattle.numbers.specs.Numbers.{value_le, bytes_le, value_be, bytes_be}

-- so many bytes as the width says
pub length_le : (w n : ℕ) → length (bytes_le w n) ≡ w
unfolding bytes_le
length_le zero n = refl
length_le (suc w) n = ap suc (length_le w (n / 256))

pub length_be : (w n : ℕ) → length (bytes_be w n) ≡ w
unfolding bytes_be
length_be w n = length-reverse (bytes_le w n) ∙ length_le w n

-- a number below 256 ^ w, written in w bytes, reads back
pub read_written_le : (w n : ℕ) → n < 256 ^ w → value_le (bytes_le w n) ≡ n
unfolding value_le bytes_le
read_written_le zero n h = omega arith
read_written_le (suc w) n h =
    let q : n / 256 < 256 ^ w = omega (arith, pow-suc 256 w) in
    omega (arith, read_written_le w (n / 256) q)

-- bytes, read and written again, are the same bytes
pub written_read_le : (bs : List ℕ) → AreBytes bs → bytes_le (length bs) (value_le bs) ≡ bs
unfolding value_le bytes_le
written_read_le [] h = refl
written_read_le (b ∷ bs) h =
    let low : (b + 256 * value_le bs) % 256 ≡ b = omega arith in
    let high : (b + 256 * value_le bs) / 256 ≡ value_le bs = omega arith in
    rw (low, high, written_read_le bs h.1)

-- w bytes are a number below 256 ^ w
pub value_below_le : (bs : List ℕ) → AreBytes bs → value_le bs < 256 ^ length bs
unfolding value_le
value_below_le [] h = omega arith
value_below_le (b ∷ bs) h = omega (arith, pow-suc 256 (length bs), value_below_le bs h.1)

-- what is written is bytes
pub bytes_le_lem : (w n : ℕ) → AreBytes (bytes_le w n)
unfolding bytes_le
bytes_le_lem zero n = tt
bytes_le_lem (suc w) n = (omega arith, bytes_le_lem w (n / 256))

pub bytes_append : (a b : List ℕ) → AreBytes a → AreBytes b → AreBytes (a ++ b)
bytes_append [] b h g = g
bytes_append (x ∷ a) b h g = (h.0, bytes_append a b h.1 g)

pub bytes_reverse : (bs : List ℕ) → AreBytes bs → AreBytes (reverse bs)
bytes_reverse [] h = tt
bytes_reverse (b ∷ bs) h = rw (reverse-cons b bs) (bytes_append (reverse bs) (b ∷ []) (bytes_reverse bs h.1) (h.0, tt))

pub bytes_take : (n : ℕ) (bs : List ℕ) → AreBytes bs → AreBytes (take n bs)
bytes_take zero bs h = tt
bytes_take (suc n) [] h = tt
bytes_take (suc n) (b ∷ bs) h = (h.0, bytes_take n bs h.1)

pub bytes_drop : (n : ℕ) (bs : List ℕ) → AreBytes bs → AreBytes (drop n bs)
bytes_drop zero bs h = h
bytes_drop (suc n) [] h = tt
bytes_drop (suc n) (b ∷ bs) h = bytes_drop n bs h.1

-- most significant first, by the same laws
pub read_written_be : (w n : ℕ) → n < 256 ^ w → value_be (bytes_be w n) ≡ n
unfolding value_be bytes_be
read_written_be w n h = rw reverse-reverse (read_written_le w n h)

pub written_read_be : (bs : List ℕ) → AreBytes bs → bytes_be (length bs) (value_be bs) ≡ bs
unfolding value_be bytes_be
written_read_be bs h =
    ap (λ (n : ℕ). reverse (bytes_le n (value_le (reverse bs)))) (sym (length-reverse bs))
    ∙ ap reverse (written_read_le (reverse bs) (bytes_reverse bs h))
    ∙ reverse-reverse bs

pub value_below_be : (bs : List ℕ) → AreBytes bs → value_be bs < 256 ^ length bs
unfolding value_be
value_below_be bs h = rw (length-reverse bs) at (value_below_le (reverse bs) (bytes_reverse bs h))

pub bytes_be_lem : (w n : ℕ) → AreBytes (bytes_be w n)
unfolding bytes_be
bytes_be_lem w n = bytes_reverse (bytes_le w n) (bytes_le_lem w n)

-- a number's bytes as a number in the other order, written again
pub turned_written : (w n : ℕ) → bytes_le w (value_be (bytes_le w n)) ≡ bytes_be w n
unfolding value_be bytes_be
turned_written w n = rw (length_be w n) at (written_read_le (bytes_be w n) (bytes_be_lem w n))

-- what a slice of bytes holds are bytes
pub known_bytes : (bs : List ℕ) → ((i : ℕ) → get_or bs i 0 < 256) → AreBytes bs
known_bytes [] h = tt
known_bytes (b ∷ bs) h = (h 0, known_bytes bs (λ i. h (suc i)))

-- a write that fits
fits_in_lem : (n at w : ℕ) → at + w ≤ n → fits_in n at w ≡ true
unfolding fits_in
fits_in_lem n at w h = rw (le-leb at n (omega arith), le-leb w (n - at) (omega arith))

pub put_fits : (s : List ℕ) (at w : ℕ) (bs : List ℕ) → at + w ≤ length s → put_at s at w bs ≡ paste s at bs w
unfolding put_at
put_fits s at w bs h = rw (fits_in_lem (length s) at w h)
