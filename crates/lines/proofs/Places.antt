-- The place of a byte in a list and in a part of it, by the library's search and its laws of take and drop. Assumes nothing.
use Prim.Native.Nat.{ℕ, ◌+◌, ◌-◌, ◌<◌, ◌≤◌, min}
use mathlib.Core.Path.{◌≡◌, refl, sym, ap, ◌∙◌}
use mathlib.Core.List.{List}
use native.Mathlib.Omega.{arith}
use lib.ListN.{length, take, drop, length-take, drop_of_length-le}
use lib.Seq.{slice}
use borrow.Author.Tests.{ltb-false}
use Rattle.std.specs.Option.{unwrap_or}
use Rattle.std.specs.List.{position, position_or_len, slice_range}
use Rattle.std.proofs.lemmas.List.{take_min}
use Rattle.std.proofs.lemmas.Slice.{between_is}
use Rattle.std.proofs.lemmas.List.Recursion.{is_position_or_len}
use Rattle.std.proofs.lemmas.List.Sums.{prefix_len-le-length}
use Rattle.numbers.proofs.Choices.{split}
use lib.Dec.{eqb, ltb}
use mathlib.Core.Bool.{Bool, not}
use Rattle.lines.specs.Place.{index_of}

-- the definition, by the library's search
index_first : (b : ℕ) (bytes : List ℕ) → index_of b bytes ≡ position_or_len (λ x. eqb x b) bytes
unfolding index_of
index_first b bytes = is_position_or_len (index_of b) (λ x. eqb x b) refl (λ x xs. split (eqb x b) (λ e. rw e) (λ e. rw e (omega arith))) bytes

pub first_place : (b : ℕ) (bytes : List ℕ) → unwrap_or (position (λ x. eqb x b) bytes) (length bytes) ≡ index_of b bytes
first_place b bytes =
    let p : ℕ → Bool = λ x. eqb x b in
    let n : ℕ = position_or_len p bytes in
    let e : index_of b bytes ≡ n = index_first b bytes in
    split (ltb n (length bytes)) (λ t. rw t (sym e)) (λ t.
    rw t (omega (arith, ltb-false n (length bytes) t, prefix_len-le-length (λ x. not (p x)) bytes)))

-- a byte stands among those that are looked through, or just behind them
pub index_within : (b : ℕ) (bytes : List ℕ) → index_of b bytes ≤ length bytes
index_within b bytes = rw (index_first b bytes) (prefix_len-le-length (λ x. not (eqb x b)) bytes)

-- what is looked through, as the code lends it, and where it lends nothing
module _ (b : ℕ) (bytes : List ℕ) (from to e : ℕ) (end : e ≡ min to (length bytes)) where
  pub part_place : index_of b (slice_range bytes from e) ≡ index_of b (slice from to bytes)
  part_place = ap (index_of b) (rw end (between_is bytes from (min to (length bytes)) ∙ ap (drop from) (take_min to bytes)))

  pub part_none : e < from → index_of b (slice from to bytes) ≡ 0
  unfolding index_of
  part_none h = rw (drop_of_length-le (take to bytes) {i = from} (omega (arith, length-take to bytes)))

  pub part_within : from ≤ e → from + index_of b (slice_range bytes from e) ≤ e
  part_within h =
      let l : length (slice_range bytes from e) ≤ e - from = omega (arith, length-take (e - from) (drop from bytes)) in
      omega (arith, index_within b (slice_range bytes from e))
