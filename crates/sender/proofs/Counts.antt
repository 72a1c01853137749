-- How a message is cut: the count of its chunks, where each starts, how long it is, and that they join to the message.
-- Assumes nothing.
use Prim.Native.Nat.{ℕ, zero, suc, ◌+◌, ◌-◌, ◌*◌, ◌/◌, ◌%◌, ◌≤◌, ◌<◌, min}
use mathlib.Core.Path.{◌≡◌, refl, ap, ◌∙◌, sym}
use mathlib.Core.Bool.{Bool, true, false}
use mathlib.Core.List.{List}
use native.Mathlib.Omega.{arith}
use native.Mathlib.Nat.{add-div_right, add-mul-div_right, div-eq_of_lt, div-add-mod', mod-lt, mul-le-mul_right, suc-mul}
use lib.Dec.{eqb, leb}
use lib.ListN.{length, take, drop, length-take, length-drop}
use lib.Seq.{take-add, take_all}
use borrow.Author.Tests.{leb-true, leb-false, eqb-true, eqb-false}
use Rattle.numbers.specs.Bytes.{part}
use Rattle.numbers.proofs.Choices.{and_both}
use Rattle.frame.specs.Rules.{largest}
use Rattle.sender.specs.declared.Outgoing.{Outgoing}
use Rattle.sender.specs.Sender.{chunk_fits, fits_one, count_of, chunk_of, joined}

-- rounded up, as the library says it and as document 01 does
pub rounded_up : (x y : ℕ) → 1 ≤ y → x / y + min 1 (x % y) ≡ (x + (y - 1)) / y
rounded_up x y wide = by_rest (eqb (x % y) 0) refl
  where
    all : x / y * y + x % y ≡ x
    all = div-add-mod' x y

    by_rest : (b : Bool) → eqb (x % y) 0 ≡ b → x / y + min 1 (x % y) ≡ (x + (y - 1)) / y
    by_rest true t =
        let none : x % y ≡ 0 = eqb-true (x % y) 0 t in
        let sum : x + (y - 1) ≡ y - 1 + x / y * y = omega arith in
        rw (none, sum, add-mul-div_right (y - 1) (x / y) wide, div-eq_of_lt {n = y - 1} {m = y} (omega arith)) (omega arith)
    by_rest false t =
        let some : x % y ≡ 0 → ⊥ = eqb-false (x % y) 0 t in
        let below : x % y < y = mod-lt x wide in
        let one : min 1 (x % y) ≡ 1 = omega arith in
        let next : suc (x / y) * y ≡ x / y * y + y = suc-mul (x / y) y in
        let sum : x + (y - 1) ≡ x % y - 1 + suc (x / y) * y = omega arith in
        rw (one, sum, add-mul-div_right (x % y - 1) (suc (x / y)) wide, div-eq_of_lt {n = x % y - 1} {m = y} (omega arith)) (omega arith)

-- where a chunk starts, and a place at most a chunk behind, are numbers of 64 bits
pub small_start : (x y : ℕ) → x ≤ 65536 → y ≤ 131072 → x * y < 18446744073709551616
small_start x y a b = let l : x * y ≤ 65536 * y = mul-le-mul_right y a in omega arith

pub small_end : (x y z : ℕ) → x ≤ 65536 → y ≤ 131072 → z ≤ 131072 → x * y + z < 18446744073709551616
small_end x y z a b c = let l : x * y ≤ 65536 * y = mul-le-mul_right y a in omega arith

-- what 10 leaves
pub chunk_range : (v chunk : ℕ) → chunk_fits v chunk ≡ true → (1 ≤ chunk) × (chunk ≤ largest v)
unfolding chunk_fits
chunk_range v chunk e =
    let p = and_both (leb 1 chunk) (leb chunk (largest v)) e in
    (leb-true 1 chunk p.0, leb-true chunk (largest v) p.1)

-- more than one chunk is at least one byte
pub several_length : (o : Outgoing) (m : List ℕ) → fits_one o m ≡ false → 1 ≤ length m
unfolding fits_one
several_length o m e = omega (arith, leb-false (length m) o.chunk e)

-- a chunk, cut at the message's end
pub chunk_cut : (o : Outgoing) (m : List ℕ) (k e : ℕ) → e ≡ min ((k - 1) * o.chunk + o.chunk) (length m) → (k - 1) * o.chunk ≤ length m
    → part m ((k - 1) * o.chunk) (e - (k - 1) * o.chunk) ≡ chunk_of o m k
unfolding chunk_of
chunk_cut o m k e q h = by_end (leb ((k - 1) * o.chunk + o.chunk) (length m)) refl
  where
    by_end : (b : Bool) → leb ((k - 1) * o.chunk + o.chunk) (length m) ≡ b → part m ((k - 1) * o.chunk) (e - (k - 1) * o.chunk) ≡ part m ((k - 1) * o.chunk) o.chunk
    by_end true t =
        let l : (k - 1) * o.chunk + o.chunk ≤ length m = leb-true ((k - 1) * o.chunk + o.chunk) (length m) t in
        let z : e - (k - 1) * o.chunk ≡ o.chunk = omega arith in
        rw z
    by_end false t =
        let l : length m < (k - 1) * o.chunk + o.chunk = leb-false ((k - 1) * o.chunk + o.chunk) (length m) t in
        let d = length-drop ((k - 1) * o.chunk) m in
        take_all (e - (k - 1) * o.chunk) (drop ((k - 1) * o.chunk) m) (omega arith) ∙ sym (take_all o.chunk (drop ((k - 1) * o.chunk) m) (omega arith))

module _ (o : Outgoing) (m : List ℕ) (some : 1 ≤ length m) (wide : 1 ≤ o.chunk) where
  pub count_is : (length m - 1) / o.chunk + 1 ≡ count_of o m
  unfolding count_of
  count_is =
      let z : length m + (o.chunk - 1) ≡ length m - 1 + o.chunk = omega arith in
      rw z (sym (add-div_right (length m - 1) wide))

  -- each chunk starts inside the message
  pub starts : (j : ℕ) → j < count_of o m → j * o.chunk < length m
  starts j h =
      let q : ℕ = (length m - 1) / o.chunk in
      let e : q + 1 ≡ count_of o m = count_is in
      let l : j * o.chunk ≤ q * o.chunk = mul-le-mul_right o.chunk (omega arith) in
      omega (arith, div-add-mod' (length m - 1) o.chunk)

  -- and together they reach its end
  pub ends : length m ≤ count_of o m * o.chunk
  ends =
      let q : ℕ = (length m - 1) / o.chunk in
      let e : count_of o m ≡ suc q = omega (arith, count_is) in
      let r : (length m - 1) % o.chunk < o.chunk = mod-lt (length m - 1) wide in
      rw (e, suc-mul q o.chunk) (omega (arith, div-add-mod' (length m - 1) o.chunk))

  chunk_length : (k : ℕ) → length (chunk_of o m k) ≡ min o.chunk (length m - (k - 1) * o.chunk)
  unfolding chunk_of
  chunk_length k = length-take o.chunk (drop ((k - 1) * o.chunk) m) ∙ ap (min o.chunk) (length-drop ((k - 1) * o.chunk) m)

  -- each but the last is a whole chunk
  pub whole_chunk : (k : ℕ) → 1 ≤ k → k < count_of o m → length (chunk_of o m k) ≡ o.chunk
  whole_chunk k a b =
      let z : suc (k - 1) ≡ k = omega arith in
      let e : k * o.chunk ≡ (k - 1) * o.chunk + o.chunk = ap (λ (n : ℕ). n * o.chunk) (sym z) ∙ suc-mul (k - 1) o.chunk in
      omega (arith, chunk_length k, starts k b)

  -- none is empty or larger
  pub some_chunk : (k : ℕ) → 1 ≤ k → k ≤ count_of o m → (1 ≤ length (chunk_of o m k)) × (length (chunk_of o m k) ≤ o.chunk)
  some_chunk k a b = (omega (arith, chunk_length k, starts (k - 1) (omega arith)), omega (arith, chunk_length k))

  -- the first n chunks are the first n * chunk bytes
  joined_front : (n : ℕ) → joined (chunk_of o m) n ≡ take (n * o.chunk) m
  unfolding chunk_of
  joined_front zero = let z : 0 * o.chunk ≡ 0 = omega arith in rw z
  joined_front (suc n) =
      let z : suc n - 1 ≡ n = omega arith in
      rw (joined_front n, suc-mul n o.chunk, z) (sym (take-add (n * o.chunk) o.chunk m))

  -- all of them are the message
  pub joined_whole : joined (chunk_of o m) (count_of o m) ≡ m
  joined_whole = joined_front (count_of o m) ∙ take_all (count_of o m * o.chunk) m ends
