-- What a draft's bytes are once more were put behind them: those before, and then the new ones. By the laws of take and drop. Assumes nothing.
use Prim.Native.Nat.{ℕ, ◌+◌, ◌-◌, ◌≤◌, ◌<◌}
use mathlib.Core.Path.{◌≡◌, refl}
use mathlib.Core.List.{List, ◌++◌, append_assoc}
use native.Mathlib.Omega.{arith}
use borrow.Rule.Slice.PartMut.{put_mid}
use lib.ListN.{length, take, drop, length-append}
use lib.Seq.{length-take-le, take_at}
use Rattle.std.specs.Prelude.{Option, Some, None, IsSome}
use Rattle.numbers.specs.Bytes.{part, put_at}
use Rattle.numbers.specs.Numbers.{bytes_le}
use Rattle.numbers.proofs.Laws.{length_le}
use Rattle.lines.specs.Text.{encoded, written_of}
use Rattle.lines.specs.Decimal.{decimal_of}
use Rattle.payload.specs.Append.{Appended}
use Rattle.payload.proofs.Appends.{number_put}
use Rattle.payload.proofs.Versions.{digits_most}
use Rattle.payload.proofs.Writers.{rest_count, rest_full, rest_put}

-- bytes that were put at a place
pub told : {at n : ℕ} {b o q : List ℕ} → at ≤ length o → Appended at b o n q → take n q ≡ take at o ++ b
told {at} {n} {b} {o} h e =
    let z = take at o ++ b in
    let l : length z ≡ n = omega (arith, length-append (take at o) b, length-take-le at o h, e.ends) in
    rw (e.puts, ← append_assoc (take at o) b (drop (at + length b) o)) (take_at z (drop (at + length b) o) n l)

-- a draft's bytes are as many as its length says
module _ (o : List ℕ) (l : length o ≡ 64) (at : ℕ) (inside : at ≤ 64) {v : List ℕ} (view : take at o ≡ v) where
  pub view_length : length v ≡ at
  view_length = rw (← view) (length-take-le at o (omega arith))

  -- a number of w bytes behind them
  pub number_told : (w x : ℕ) {q : List ℕ} → length v + w ≤ 64 → q ≡ put_at o at w (bytes_le w x) → take (at + w) q ≡ v ++ bytes_le w x
  number_told w x {q} room e = rw (← view) (told (omega arith) (number_put w (bytes_le w x) at o q (length_le w x) (omega (arith, view_length)) e))

  -- the digits of a byte's number behind them, which are three at most
  module _ (n : ℕ) (byte : n < 256) (room : length v + 3 ≤ 64) {a : Option ℕ} {r : List ℕ} (e : encoded a r ≡ written_of (decimal_of n) (part o at (64 - at))) where
    fits : at + length (decimal_of n) ≤ length o
    fits = omega (arith, digits_most n byte, view_length)

    rest : encoded a r ≡ written_of (decimal_of n) (part o at (length o - at))
    rest = rw l e

    pub digits_some : IsSome a
    digits_some = go a (rest_full (decimal_of n) o at fits rest)
      where
        go : (a : Option ℕ) → (a ≡ None → ⊥) → IsSome a
        go (Some k) h = refl
        go None h = absurd (h refl)

    pub digits_fit : {k : ℕ} → a ≡ Some k → at + k ≤ 64
    digits_fit f = omega (arith, digits_most n byte, view_length, rest_count (decimal_of n) o at fits rest f)

    pub digits_told : {k : ℕ} → a ≡ Some k → take (at + k) (put_mid at (64 - at) o r) ≡ v ++ decimal_of n
    digits_told f = rw (← view) (told (omega arith) (rest_put (decimal_of n) o at fits rest f (rw l)))

    pub digits_bound : {k : ℕ} → a ≡ Some k → length (take (at + k) (put_mid at (64 - at) o r)) ≤ length v + 3
    digits_bound f = rw (digits_told f) (omega (arith, length-append v (decimal_of n), digits_most n byte))
