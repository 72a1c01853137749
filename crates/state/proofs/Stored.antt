-- A link that is read off a state and laid over it leaves every byte; with one row set, that row's bytes are put, and the owners' where they are set too.
-- What is put are bytes and leaves the length. Creation's bytes are creation's link.
-- Assumes nothing.
use Prim.Native.Nat.{ℕ, zero, suc, ◌+◌, ◌*◌, ◌^◌, ◌≤◌, ◌<◌}
use mathlib.Core.Path.{◌≡◌, refl, ap, ◌∙◌, sym}
use mathlib.Core.Bool.{true}
use mathlib.Core.List.{List, [], ◌∷◌, ◌++◌, map}
use native.Mathlib.Omega.{arith}
use lib.ListN.{length, get_or, take, drop, set, replicate, length-append, length-drop, take-append-drop, length-replicate, get_or-replicate}
use lib.Seq.{take_all, ext_get_or, drop-drop, get_or-take, get_or-drop, length-take-le}
use lib.Dec.{eqb}
use borrow.Author.Tests.{eq-eqb}
use Rattle.numbers.specs.Bytes.{AreBytes, part, put_at}
use Rattle.numbers.specs.Numbers.{value_le, bytes_le}
use Rattle.numbers.proofs.Choices.{and_yes}
use Rattle.numbers.proofs.Laws.{length_le, read_written_le, bytes_le_lem, bytes_append, bytes_take, bytes_drop}
use Rattle.blocks.specs.Map.{free_map}
use Rattle.payload.specs.declared.version.Version.{Version}
use Rattle.session.specs.declared.Row.{Row}
use Rattle.session.specs.Rows.{no_row, free_row}
use Rattle.link.specs.State.{with_row, with_owners, created_link}
use Rattle.state.specs.Fields.{Field, packed, number_at}
use Rattle.state.specs.Layout.{flags_in, row_of, row_fields, row_bytes, row_place, row_in, eight, link_of, with_row_bytes}
use Rattle.state.specs.Calls.{is_state, with_rows_bytes, with_owners_bytes, stored_in, created_bytes}
use Rattle.state.proofs.Packed.{put_is, put_length, part_first, part_second, part_same, part_before, part_behind}
use Rattle.state.proofs.Rows.{row_length, row_of_link, row_other, front_kept, row_unchanged}

-- ---- what is put are bytes, and leaves the length

packed_bytes : (fs : List Field) → AreBytes (packed fs)
unfolding packed
packed_bytes [] = tt
packed_bytes (f ∷ fs) = bytes_append (bytes_le f.width f.value) (packed fs) (bytes_le_lem f.width f.value) (packed_bytes fs)

pub put_bytes : (s : List ℕ) (at w : ℕ) (bs : List ℕ) → length bs ≡ w → at + w ≤ length s → AreBytes s → AreBytes bs → AreBytes (put_at s at w bs)
put_bytes s at w bs l h b c =
    rw (put_is s at w bs l h)
    (bytes_append (take at s) (bs ++ drop (at + w) s) (bytes_take at s b) (bytes_append bs (drop (at + w) s) c (bytes_drop (at + w) s b)))

module _ (s : List ℕ) (i : ℕ) (r : Row) where
  abbrev old : List ℕ
  old = part s (row_place i) 129

  pub row_put_length : length s ≡ 2688 → i < 8 → length (with_row_bytes s i r) ≡ 2688
  row_put_length l h = put_length s (row_place i) 129 (row_bytes old r) (row_length old r) (omega arith) ∙ l

  pub row_put_bytes : AreBytes s → length s ≡ 2688 → i < 8 → AreBytes (with_row_bytes s i r)
  row_put_bytes b l h = put_bytes s (row_place i) 129 (row_bytes old r) (row_length old r) (omega arith) b (packed_bytes (row_fields (flags_in old) r))

  pub owners_of : length s ≡ 2688 → i < 8 → (link_of (with_row_bytes s i r)).owners ≡ (link_of s).owners
  owners_of l h = front_kept s i r l h 544 256 (omega arith)

module _ (s os : List ℕ) (l : length s ≡ 2688) (k : length os ≡ 256) where
  inside : 544 + 256 ≤ length s
  inside = omega arith

  pub owners_put_length : length (with_owners_bytes s os) ≡ 2688
  owners_put_length = put_length s 544 256 os k inside ∙ l

  -- before the owners nothing changes
  pub owners_put_before : (a n : ℕ) → a + n ≤ 544 → part (with_owners_bytes s os) a n ≡ part s a n
  owners_put_before a n h = part_before s 544 256 os k inside a n h

  row_kept : (j : ℕ) → row_in (with_owners_bytes s os) j ≡ row_in s j
  row_kept j = ap row_of (part_behind s 544 256 os k inside (row_place j) 129 (omega arith))

  rows_kept : (js : List ℕ) → map (row_in (with_owners_bytes s os)) js ≡ map (row_in s) js
  rows_kept [] = refl
  rows_kept (j ∷ js) = rw (row_kept j, rows_kept js)

  pub owners_put : link_of (with_owners_bytes s os) ≡ with_owners (link_of s) os
  owners_put =
      let kept : (a n : ℕ) → a + n ≤ 544 → part (with_owners_bytes s os) a n ≡ part s a n = owners_put_before in
      rw (rows_kept eight, part_same s 544 256 os k inside, kept 1 1 (omega arith), kept 2 1 (omega arith), kept 3 1 (omega arith), kept 4 4 (omega arith))

pub owners_put_bytes : (s os : List ℕ) → AreBytes s → AreBytes os → length s ≡ 2688 → length os ≡ 256 → AreBytes (with_owners_bytes s os)
owners_put_bytes s os b c l k = put_bytes s 544 256 os k (inside s os l k) b c

-- ---- rows laid over a state

-- rows from i on, each as it is read off the state, leave it
rows_stay : (rs : List Row) (i : ℕ) (s : List ℕ) → AreBytes s → length s ≡ 2688 → i + length rs ≤ 8
    → ((k : ℕ) → k < length rs → get_or rs k no_row ≡ row_in s (i + k)) → with_rows_bytes s i rs ≡ s
rows_stay [] i s b l h f = refl
rows_stay (r ∷ rs) i s b l h f =
    let z : i + 0 ≡ i = omega arith in
    let here : r ≡ row_in s i = f 0 (omega arith) ∙ ap (row_in s) z in
    let stays : with_row_bytes s i r ≡ s = ap (with_row_bytes s i) here ∙ row_unchanged s i b l (omega arith) in
    let next : (k : ℕ) → k < length rs → get_or rs k no_row ≡ row_in s (suc i + k)
    = λ k g. let e : i + suc k ≡ suc i + k = omega arith in f (suc k) (omega arith) ∙ ap (row_in s) e in
    ap (λ (t : List ℕ). with_rows_bytes t (suc i) rs) stays ∙ rows_stay rs (suc i) s b l (omega arith) next

-- the same with the k-th of them set: its bytes are put, and the later ones are still as they are read
rows_set : (rs : List Row) (i k : ℕ) (r : Row) (s : List ℕ) → AreBytes s → length s ≡ 2688 → i + length rs ≤ 8 → k < length rs
    → ((j : ℕ) → j < length rs → get_or rs j no_row ≡ row_in s (i + j)) → with_rows_bytes s i (set rs k r) ≡ with_row_bytes s (i + k) r
rows_set [] i k r s b l h g f = absurd (omega arith)
rows_set (a ∷ rs) i zero r s b l h g f =
    let z : i + 0 ≡ i = omega arith in
    let q : i < 8 = omega arith in
    let p = with_row_bytes s i r in
    let later : (j : ℕ) → j < length rs → get_or rs j no_row ≡ row_in p (suc i + j)
    = λ j w. let e : i + suc j ≡ suc i + j = omega arith in
    f (suc j) (omega arith) ∙ ap (row_in s) e ∙ sym (row_other s i r l q (suc i + j) (λ v. omega (arith, v))) in
    rows_stay rs (suc i) p (row_put_bytes s i r b l q) (row_put_length s i r l q) (omega arith) later ∙ ap (λ (n : ℕ). with_row_bytes s n r) (sym z)
rows_set (a ∷ rs) i (suc k) r s b l h g f =
    let z : i + 0 ≡ i = omega arith in
    let here : a ≡ row_in s i = f 0 (omega arith) ∙ ap (row_in s) z in
    let stays : with_row_bytes s i a ≡ s = ap (with_row_bytes s i) here ∙ row_unchanged s i b l (omega arith) in
    let next : (j : ℕ) → j < length rs → get_or rs j no_row ≡ row_in s (suc i + j)
    = λ j w. let e : i + suc j ≡ suc i + j = omega arith in f (suc j) (omega arith) ∙ ap (row_in s) e in
    let y : suc i + k ≡ i + suc k = omega arith in
    ap (λ (t : List ℕ). with_rows_bytes t (suc i) (set rs k r)) stays
    ∙ rows_set rs (suc i) k r s b l (omega arith) (omega arith) next
    ∙ ap (λ (n : ℕ). with_row_bytes s n r) y

-- the owners that are read off a state and put leave it
pub owners_stay : (s : List ℕ) → length s ≡ 2688 → with_owners_bytes s (part s 544 256) ≡ s
owners_stay s l =
    let k : length (part s 544 256) ≡ 256 = length-take-le 256 (drop 544 s) (omega (arith, length-drop 544 s)) in
    rw (put_is s 544 256 (part s 544 256) k (omega arith), ← drop-drop 256 544 s, take-append-drop 256 (drop 544 s)) (take-append-drop 544 s)

rows_read : (s : List ℕ) (k : ℕ) → k < 8 → get_or (link_of s).rows k no_row ≡ row_in s (0 + k)
rows_read s k h =
    let z : k ≡ 0 + k = omega arith in
    row_of_link s no_row k h ∙ ap (row_in s) z

pub stored_same : (s : List ℕ) → AreBytes s → length s ≡ 2688 → stored_in s (link_of s) ≡ s
unfolding stored_in
stored_same s b l =
    ap (λ (t : List ℕ). with_owners_bytes t (part s 544 256)) (rows_stay (link_of s).rows 0 s b l (omega arith) (rows_read s)) ∙ owners_stay s l

module _ (s : List ℕ) (i : ℕ) (r : Row) where
  rows_laid : AreBytes s → length s ≡ 2688 → i < 8 → with_rows_bytes s 0 (set (link_of s).rows i r) ≡ with_row_bytes s i r
  rows_laid b l h =
      let z : 0 + i ≡ i = omega arith in
      rows_set (link_of s).rows 0 i r s b l (omega arith) h (rows_read s) ∙ ap (λ (n : ℕ). with_row_bytes s n r) z

  pub stored_row : AreBytes s → length s ≡ 2688 → i < 8 → stored_in s (with_row (link_of s) i r) ≡ with_row_bytes s i r
  unfolding stored_in
  stored_row b l h =
      let e : part s 544 256 ≡ part (with_row_bytes s i r) 544 256 = sym (owners_of s i r l h) in
      ap (λ (t : List ℕ). with_owners_bytes t (part s 544 256)) (rows_laid b l h)
      ∙ ap (with_owners_bytes (with_row_bytes s i r)) e
      ∙ owners_stay (with_row_bytes s i r) (row_put_length s i r l h)

  pub stored_both : (os : List ℕ) → AreBytes s → length s ≡ 2688 → i < 8 → length os ≡ 256
      → stored_in s (with_owners (with_row (link_of s) i r) os) ≡ with_owners_bytes (with_row_bytes s i r) os
  unfolding stored_in
  stored_both os b l h k = ap (λ (t : List ℕ). with_owners_bytes t os) (rows_laid b l h)

-- ---- creation

abbrev zeros : ℕ → List ℕ
zeros n = replicate n 0

zeros_length : (n : ℕ) → length (zeros n) ≡ n
zeros_length n = length-replicate n 0

zeros_part : (n at w : ℕ) → at + w ≤ n → part (zeros n) at w ≡ zeros w
zeros_part n at w h =
    let long : length (part (zeros n) at w) ≡ w = length-take-le w (drop at (zeros n)) (omega (arith, length-drop at (zeros n), zeros_length n)) in
    ext_get_or 0 (part (zeros n) at w) (zeros w) (long ∙ sym (zeros_length w))
    (λ i g. let k : i < w = omega (arith, long) in
    get_or-take w (drop at (zeros n)) i 0 k ∙ get_or-drop at (zeros n) i 0 ∙ get_or-replicate n (at + i) 0 0 (omega arith) ∙ sym (get_or-replicate w i 0 0 k))

zeros_bytes : (n : ℕ) → AreBytes (zeros n)
zeros_bytes zero = tt
zeros_bytes (suc n) = (omega arith, zeros_bytes n)

free_read : row_of (zeros 129) ≡ free_row
unfolding value_le
free_read = refl

-- creation's bytes: a variable stands for how many zeros there are, so that none is computed
module _ (v : Version) (mtu : ℕ) (m n : ℕ) (lm : m ≡ 536) (ln : n ≡ 1888) where
  abbrev front : List ℕ
  front = 1 ∷ v.major ∷ v.minor ∷ v.patch ∷ bytes_le 4 mtu

  abbrev behind : List ℕ
  behind = zeros m ++ (free_map ++ zeros n)

  abbrev whole : List ℕ
  whole = front ++ behind

  front_length : length front ≡ 8
  front_length = rw (length_le 4 mtu)

  map_length : length free_map ≡ 256
  unfolding free_map
  map_length = zeros_length 256

  whole_length : length whole ≡ 2688
  whole_length =
      length-append front behind
      ∙ rw (front_length, length-append (zeros m) (free_map ++ zeros n), zeros_length m, length-append free_map (zeros n), map_length, zeros_length n)
      (omega arith)

  early : (at w : ℕ) → at + w ≤ 8 → number_at whole at w ≡ number_at front at w
  early at w h = ap value_le (part_first front behind at w (omega (arith, front_length)))

  mtu_read : mtu < 2 ^ 32 → number_at whole 4 4 ≡ mtu
  mtu_read h = early 4 4 (omega arith) ∙ ap value_le (take_all 4 (bytes_le 4 mtu) (omega (arith, length_le 4 mtu))) ∙ read_written_le 4 mtu h

  owners_read : part whole 544 256 ≡ free_map
  owners_read =
      part_second front behind 536 256 8 front_length
      ∙ part_second (zeros m) (free_map ++ zeros n) 0 256 536 (zeros_length m ∙ lm)
      ∙ part_first free_map (zeros n) 0 256 (omega (arith, map_length))
      ∙ take_all 256 free_map (omega (arith, map_length))

  row_read : (j : ℕ) → j < 8 → row_in whole j ≡ free_row
  row_read j h =
      let x : row_place j ≡ 8 + (536 + (256 + j * 236)) = omega arith in
      let e : part whole (row_place j) 129 ≡ zeros 129
      = ap (λ (i : ℕ). part whole i 129) x
      ∙ part_second front behind (536 + (256 + j * 236)) 129 8 front_length
      ∙ part_second (zeros m) (free_map ++ zeros n) (256 + j * 236) 129 536 (zeros_length m ∙ lm)
      ∙ part_second free_map (zeros n) (j * 236) 129 256 map_length
      ∙ zeros_part n (j * 236) 129 (omega arith) in
      ap row_of e ∙ free_read

  rows_created : (link_of whole).rows ≡ replicate 8 free_row
  rows_created =
      ext_get_or no_row (link_of whole).rows (replicate 8 free_row) refl
      (λ j h. row_of_link whole no_row j h ∙ row_read j h ∙ sym (get_or-replicate 8 j free_row no_row h))

  whole_is : mtu < 2 ^ 32 → link_of whole ≡ created_link v mtu
  unfolding value_le
  whole_is h =
      let a : number_at whole 1 1 ≡ v.major = early 1 1 (omega arith) ∙ omega arith in
      let b : number_at whole 2 1 ≡ v.minor = early 2 1 (omega arith) ∙ omega arith in
      let c : number_at whole 3 1 ≡ v.patch = early 3 1 (omega arith) ∙ omega arith in
      rw (rows_created, owners_read, mtu_read h, a, b, c)

  whole_state : is_state whole ≡ true
  unfolding is_state value_le
  whole_state =
      let a : number_at whole 0 1 ≡ 1 = early 0 1 (omega arith) ∙ omega arith in
      and_yes (eqb (length whole) 2688) (eqb (number_at whole 0 1) 1) (eq-eqb (length whole) 2688 whole_length) (eq-eqb (number_at whole 0 1) 1 a)

  whole_bytes : v.major < 256 → v.minor < 256 → v.patch < 256 → AreBytes whole
  unfolding free_map
  whole_bytes a b c =
      bytes_append front behind (omega arith, (a, (b, (c, bytes_le_lem 4 mtu))))
      (bytes_append (zeros m) (free_map ++ zeros n) (zeros_bytes m) (bytes_append free_map (zeros n) (zeros_bytes 256) (zeros_bytes n)))

module _ (v : Version) (mtu : ℕ) where
  pub created_is : mtu < 2 ^ 32 → link_of (created_bytes v mtu) ≡ created_link v mtu
  unfolding created_bytes
  created_is = whole_is v mtu 536 1888 refl refl

  pub created_length : length (created_bytes v mtu) ≡ 2688
  unfolding created_bytes
  created_length = whole_length v mtu 536 1888 refl refl

  pub created_state : is_state (created_bytes v mtu) ≡ true
  unfolding created_bytes
  created_state = whole_state v mtu 536 1888 refl refl

  pub created_bytes_lem : v.major < 256 → v.minor < 256 → v.patch < 256 → AreBytes (created_bytes v mtu)
  unfolding created_bytes
  created_bytes_lem = whole_bytes v mtu 536 1888 refl refl
