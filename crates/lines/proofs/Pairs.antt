-- A text two characters at a time: its pairs, their bytes, and the groups of pairs that become bytes at once. By induction over pairs of characters, and by
-- the laws of take and drop. Assumes nothing.
use Prim.Native.Nat.{ℕ, zero, suc, ◌+◌, ◌-◌, ◌*◌, ◌/◌, ◌%◌, ◌<◌, ◌≤◌}
use mathlib.Core.Path.{◌≡◌, refl, ◌∙◌}
use mathlib.Core.List.{List, [], ◌∷◌, ◌++◌, map, append-nil}
use mathlib.Core.Bool.{true}
use native.Mathlib.Omega.{arith}
use lib.ListN.{length, take, drop, get_or, length-drop, drop_of_length-le}
use lib.Seq.{take-nil, drop-nil, take_at, length-take-le}
use borrow.Rule.Slice.PartMut.{put_mid}
use Rattle.numbers.specs.Bytes.{laid}
use Rattle.lines.specs.Text.{every}
use Rattle.lines.specs.Hex.{is_hex, bytes_of, pairs_of, is_pair, pair_byte}
use Rattle.lines.proofs.Turns.{both, front_part}
use Rattle.lines.proofs.Characters.{digit_byte, length_bytes}

-- half as many pairs as characters; the pair at i is of the characters at 2 i and 2 i + 1
pub length_pairs : (text : List ℕ) → length (pairs_of text) ≡ length text / 2
unfolding pairs_of
length_pairs [] = refl
length_pairs (a ∷ []) = refl
length_pairs (a ∷ b ∷ text) = omega (arith, length_pairs text)

pub pair_at : (text : List ℕ) (i : ℕ) → i < length text / 2 → get_or (pairs_of text) i 0 ≡ get_or text (2 * i) 0 + get_or text (2 * i + 1) 0 * 256
unfolding pairs_of
pair_at [] i h = absurd (omega arith)
pair_at (a ∷ []) i h = absurd (omega arith)
pair_at (a ∷ b ∷ text) zero h = refl
pair_at (a ∷ b ∷ text) (suc i) h =
    let e : 2 * suc i ≡ suc (suc (2 * i)) = omega arith in
    let f : 2 * suc i + 1 ≡ suc (suc (2 * i + 1)) = omega arith in
    rw (f, e) (pair_at text i (omega arith))

-- pairs of digits, and the bytes that they say
pub pairs_digits : (text : List ℕ) → every is_hex text ≡ true → (every is_pair (pairs_of text) ≡ true) × (map pair_byte (pairs_of text) ≡ bytes_of text)
unfolding pairs_of bytes_of
pairs_digits [] e = (refl, refl)
pairs_digits (a ∷ []) e = (refl, refl)
pairs_digits (a ∷ b ∷ text) e =
    let y = both (is_hex a) (every is_hex (b ∷ text)) e in
    let z = both (is_hex b) (every is_hex text) y.1 in
    let first : (a + b * 256) % 256 ≡ a = omega (arith, digit_byte a y.0) in
    let second : (a + b * 256) / 256 ≡ b = omega (arith, digit_byte a y.0) in
    let rest = pairs_digits text z.1 in
    (rw (first, second, y.0, z.0) rest.0, rw (first, second, rest.1))

-- the byte of the pair at a place
pub byte_at : (pairs : List ℕ) (i : ℕ) → i < length pairs → get_or (map pair_byte pairs) i 0 ≡ pair_byte (get_or pairs i 0)
byte_at [] i h = absurd (omega arith)
byte_at (p ∷ pairs) zero h = refl
byte_at (p ∷ pairs) (suc i) h = byte_at pairs i (omega arith)

-- the bytes of a part of the text that starts and ends between pairs
pub bytes_drop : (n : ℕ) (text : List ℕ) → bytes_of (drop (2 * n) text) ≡ drop n (bytes_of text)
unfolding bytes_of
bytes_drop zero text = refl
bytes_drop (suc n) [] = rw (drop-nil (2 * suc n))
bytes_drop (suc n) (a ∷ []) =
    let e : 2 * suc n ≡ suc (suc (2 * n)) = omega arith in
    rw (e, drop-nil (suc (2 * n)))
bytes_drop (suc n) (a ∷ b ∷ text) =
    let e : 2 * suc n ≡ suc (suc (2 * n)) = omega arith in
    rw e (bytes_drop n text)

pub bytes_take : (n : ℕ) (text : List ℕ) → bytes_of (take (2 * n) text) ≡ take n (bytes_of text)
unfolding bytes_of
bytes_take zero text = refl
bytes_take (suc n) [] = rw (take-nil (2 * suc n))
bytes_take (suc n) (a ∷ []) =
    let e : 2 * suc n ≡ suc (suc (2 * n)) = omega arith in
    rw (e, take-nil (suc (2 * n)))
bytes_take (suc n) (a ∷ b ∷ text) =
    let e : 2 * suc n ≡ suc (suc (2 * n)) = omega arith in
    rw (e, bytes_take n text)

-- the pairs of a group, as the code lends them from its array
pub group_pairs : (text zeros pairs : List ℕ) → pairs ≡ laid (pairs_of text) zeros → take (length text / 2 - 0) (drop 0 pairs) ≡ pairs_of text
group_pairs text zeros pairs e =
    let z : length text / 2 - 0 ≡ length text / 2 = omega arith in
    rw (z, e) (take_at (pairs_of text) (drop (length (pairs_of text)) zeros) (length text / 2) (length_pairs text))

-- a turn of the loop over groups: the n bytes from done on go behind those that are written
module _ (text before out r : List ℕ) (done n : ℕ) (inside : done + n ≤ length text / 2) (room : length text / 2 ≤ length before) where
  group_part : bytes_of (take (2 * (done + n) - 2 * done) (drop (2 * done) text)) ≡ take n (drop done (bytes_of text))
  group_part =
      let z : 2 * (done + n) - 2 * done ≡ 2 * n = omega arith in
      rw (z, bytes_take n (drop (2 * done) text), bytes_drop done text)

  group_length : length (take n (drop done (bytes_of text))) ≡ n
  group_length = length-take-le n (drop done (bytes_of text)) (omega (arith, length-drop done (bytes_of text), length_bytes text))

  pub group_turn : length out ≡ length before → out ≡ take done (bytes_of text) ++ drop done before
      → r ≡ laid (bytes_of (take (2 * (done + n) - 2 * done) (drop (2 * done) text))) (take (done + n - done) (drop done out))
      → put_mid done (done + n - done) out r ≡ take (done + n) (bytes_of text) ++ drop (done + n) before
  group_turn l e f =
      let z : done + n - done ≡ n = omega arith in
      let rest : List ℕ = take n (drop done out) in
      let all : length rest ≡ n = length-take-le n (drop done out) (omega (arith, length-drop done out)) in
      let none : drop n rest ≡ [] = drop_of_length-le rest {i = n} (omega arith) in
      let whole : r ≡ take n (drop done (bytes_of text)) = f ∙ rw (group_part, z, group_length, none) (append-nil _) in
      rw (z, e) (front_part (bytes_of text) before r done n (omega (arith, length_bytes text)) (omega arith) whole)
