-- What the writers of `lines` leave in the rest of a buffer, as a step of `Appended`. By the laws of take and drop. Assumes nothing.
use Prim.Native.Nat.{ℕ, ◌+◌, ◌-◌, ◌≤◌}
use mathlib.Core.Path.{◌≡◌, ap, ◌∙◌}
use mathlib.Core.List.{List, append-nil}
use native.Mathlib.Omega.{arith}
use lib.ListN.{length, drop, length-drop, drop_of_length-le}
use lib.Seq.{drop-drop}
use borrow.Author.Tests.{le-ltb}
use borrow.Rule.Slice.PartMut.{put_mid}
use Rattle.std.specs.Prelude.{Option, Some, None}
use Rattle.numbers.specs.Bytes.{part, laid}
use Rattle.numbers.proofs.Slices.{rest_lent}
use Rattle.lines.specs.Text.{Encoding, encoded, written_of}
use Rattle.payload.specs.Append.{Appended}

-- a writer of `lines` puts its text d to the front of what is left of a buffer, from at on, where there is room
module _ (d o : List ℕ) (at : ℕ) (room : at + length d ≤ length o) where
  whole : {a : Option ℕ} {r : List ℕ} → encoded a r ≡ written_of d (part o at (length o - at)) → encoded a r ≡ encoded (Some (length d)) (laid d (drop at o))
  unfolding written_of
  whole e =
      let l : length d ≤ length (drop at o) = omega (arith, length-drop at o) in
      e ∙ rw (rest_lent o at, le-ltb (length (drop at o)) (length d) l)

  pub rest_count : {a : Option ℕ} {r : List ℕ} {n : ℕ} → encoded a r ≡ written_of d (part o at (length o - at)) → a ≡ Some n → n ≡ length d
  rest_count e f = let g = ap (λ (x : Encoding). x.answer) (whole e) in cc

  pub rest_full : {a : Option ℕ} {r : List ℕ} → encoded a r ≡ written_of d (part o at (length o - at)) → a ≡ None → ⊥
  rest_full e f =
      let g = ap (λ (x : Encoding). x.answer) (whole e) in
      let z : ◌≡◌ {A = ℕ} 0 1 = cc in
      omega arith

  pub rest_put : {a : Option ℕ} {r q : List ℕ} {n : ℕ} → encoded a r ≡ written_of d (part o at (length o - at)) → a ≡ Some n → q ≡ put_mid at (length o - at) o r
      → Appended at d o (at + n) q
  rest_put e f g =
      let b = ap (λ (x : Encoding). x.buffer) (whole e) in
      let n = drop_of_length-le (drop at o) {i = length o - at} (omega (arith, length-drop at o)) in
      record {
        ends = ap (λ (k : ℕ). at + k) (rest_count e f);
        puts = g ∙ rw (b, n, append-nil, drop-drop);
      }
