-- A row's bytes are read back as the row, and a state into which a row's bytes were put is the link with that row: its other rows, its owners and its
-- settings stay.
-- Assumes nothing.
use Prim.Native.Nat.{ℕ, zero, suc, ◌+◌, ◌-◌, ◌*◌, ◌≤◌, ◌<◌}
use mathlib.Core.Path.{◌≡◌, refl, ap, ◌∙◌, sym, subst}
use mathlib.Core.Logic.{◌≢◌}
use mathlib.Core.Bool.{Bool, true, false, not, ◌&&◌}
use mathlib.Core.List.{List, [], ◌∷◌, ◌++◌, map, append-nil}
use native.Mathlib.Omega.{arith}
use lib.Dec.{eqb, leb}
use lib.ListN.{length, get_or, drop, set, replicate, take-append-drop, length-take, length-drop, drop_of_length-le, length-set, get_or-map}
use lib.Seq.{drop-drop, take_all, ext_get_or, get_or-set_same, get_or-set_other}
use borrow.Author.Tests.{leb-true, leb-false, eqb-true}
use Rattle.numbers.specs.Bytes.{AreBytes, part}
use Rattle.numbers.proofs.Choices.{split, either, same_or_not}
use Rattle.numbers.proofs.Laws.{bytes_take, bytes_drop}
use Rattle.frame.specs.declared.SessionId.{SessionId}
use Rattle.numbers.specs.Numbers.{value_le}
use Rattle.session.specs.declared.Reassembly.{Reassembly}
use Rattle.session.specs.declared.Row.{Row}
use Rattle.session.specs.Rows.{message_at}
use Rattle.link.specs.State.{all, with_row}
use Rattle.state.specs.Fields.{Field, AllFit, number_at, packed, put_from}
use Rattle.state.specs.Layout.{kept, flags_in, message_of, message_in, head_fields, live_fields, four_fields, service_fields, message_fields, all_message_fields, row_of, row_fields, row_bytes, row_place, row_in, eight, link_of, with_row_bytes, Sound}
use borrow.Rule.Slice.PartMut.{put_mid}
use Rattle.state.proofs.Packed.{part_front, zero_four, fit_append, fields_at, repacked, packed_length, offset, field_in, read_field, put_is, put_from_lem, part_same, part_before, part_behind}

-- a number as a session id
abbrev pub id_as : ℕ → SessionId
id_as n = record { 0 = n }

flag_kept : (b : Bool) (o : ℕ) → not (eqb (kept o b) 0) ≡ b
flag_kept true o = either (λ n. not (eqb n 0) ≡ true) (eqb o 0) 1 o (λ t. refl) (λ t. rw t)
flag_kept false o = refl

flag_back : (b : Bool) (o n : ℕ) → n ≡ kept o b → not (eqb n 0) ≡ b
flag_back b o n e = rw e (flag_kept b o)

-- a byte that says the same stays
flag_stays : (n : ℕ) → kept n (not (eqb n 0)) ≡ n
flag_stays n = split (eqb n 0) (λ t. rw t (sym (eqb-true n 0 t))) (λ t. rw (t, t))

message_is : (s : List ℕ) (k o : ℕ) (m : Reassembly) → number_at s (6 + k) 1 ≡ kept o m.live → number_at s (29 + k * 20) 4 ≡ m.id.0
    → number_at s (29 + k * 20 + 4) 4 ≡ m.total → number_at s (29 + k * 20 + 4 + 4) 4 ≡ m.count → number_at s (29 + k * 20 + 4 + 4 + 4) 4 ≡ m.frames
    → number_at s (29 + k * 20 + 4 + 4 + 4 + 4) 4 ≡ m.missing → message_of s k ≡ m
message_is s k o m a b c d e f = rw (flag_back m.live o (number_at s (6 + k) 1) a, b, c, d, e, f)

-- the message at a place is the row's
pub message_in_lem : (t : List ℕ) (k : ℕ) → k < 5 → message_of t k ≡ message_at (row_of t) k
message_in_lem t zero h = refl
message_in_lem t (suc zero) h = refl
message_in_lem t (suc (suc zero)) h = refl
message_in_lem t (suc (suc (suc zero))) h = refl
message_in_lem t (suc (suc (suc (suc zero)))) h = refl
message_in_lem t (suc (suc (suc (suc (suc k))))) h = absurd (omega arith)

five_are : (ms : List Reassembly) → length ms ≡ 5 → message_in ms 0 ∷ message_in ms 1 ∷ message_in ms 2 ∷ message_in ms 3 ∷ message_in ms 4 ∷ [] ≡ ms
five_are (a ∷ b ∷ c ∷ d ∷ e ∷ []) h = refl
five_are [] h = absurd (omega arith)
five_are (a ∷ []) h = absurd (omega arith)
five_are (a ∷ b ∷ []) h = absurd (omega arith)
five_are (a ∷ b ∷ c ∷ []) h = absurd (omega arith)
five_are (a ∷ b ∷ c ∷ d ∷ []) h = absurd (omega arith)
five_are (a ∷ b ∷ c ∷ d ∷ e ∷ f ∷ ms) h = absurd (omega arith)

-- ---- a row's numbers fit their widths

pub lives_fit : (old : List ℕ) (ms : List Reassembly) → kept (get_or old 0 0) (message_in ms 0).live < 256 → kept (get_or old 1 0) (message_in ms 1).live < 256
    → kept (get_or old 2 0) (message_in ms 2).live < 256 → kept (get_or old 3 0) (message_in ms 3).live < 256 → kept (get_or old 4 0) (message_in ms 4).live < 256
    → AllFit (live_fields old ms)
lives_fit old ms a b c d e = (a, (b, (c, (d, (e, tt)))))

pub services_fit : (old : List ℕ) (r : Row) → kept (get_or old 5 0) r.audio.on < 256 → kept (get_or old 6 0) r.video.on < 256
    → AllFit (four_fields r.next.0 r.hash r.audio.hash r.video.hash) → AllFit (service_fields old r)
services_fit old r a b h = (a, (b, h))

-- those of several lists at once
abbrev joined : List (List Field) → List Field
joined [] = []
joined (fs ∷ rest) = fs ++ joined rest

abbrev AllFitIn : List (List Field) → Type 0
AllFitIn [] = Unit {0}
AllFitIn (fs ∷ rest) = AllFit fs × AllFitIn rest

joined_fit : (l : List (List Field)) → AllFitIn l → AllFit (joined l)
joined_fit [] h = tt
joined_fit (fs ∷ rest) h = fit_append fs (joined rest) h.0 (joined_fit rest h.1)

pub messages_fit : (ms : List Reassembly) → AllFit (message_fields (message_in ms 0)) → AllFit (message_fields (message_in ms 1)) → AllFit (message_fields (message_in ms 2))
    → AllFit (message_fields (message_in ms 3)) → AllFit (message_fields (message_in ms 4)) → AllFit (all_message_fields ms)
messages_fit ms a b c d e =
    let m : ℕ → List Field = λ k. message_fields (message_in ms k) in
    joined_fit (m 0 ∷ m 1 ∷ m 2 ∷ m 3 ∷ m 4 ∷ []) (a, (b, (c, (d, (e, tt)))))

pub row_sound_lem : (old : List ℕ) (r : Row) → AllFit (head_fields r) → AllFit (live_fields old r.messages) → AllFit (service_fields old r) → AllFit (all_message_fields r.messages) → length r.messages ≡ 5 → Sound old r
row_sound_lem old r a b c d l = record {
  fit = joined_fit (head_fields r ∷ live_fields old r.messages ∷ service_fields old r ∷ all_message_fields r.messages ∷ []) (a, (b, (c, (d, tt))));
  five = l;
}

-- the four pieces put one after the other are the row's fields
pub written : (r : Row) (t a b c d old : List ℕ) → old ≡ flags_in t → a ≡ put_from 0 (head_fields r) t → b ≡ put_from 6 (live_fields old r.messages) a
    → c ≡ put_from 11 (service_fields old r) b → d ≡ put_from 29 (all_message_fields r.messages) c → d ≡ put_from 0 (row_fields (flags_in t) r) t
written r t a b c d old e f g h i = rw (i, h, g, f, e)

-- ---- a row

module _ (t : List ℕ) (r : Row) (h : Sound (flags_in t) r) where
  read : (k : ℕ) → number_at (row_bytes t r) (offset k (row_fields (flags_in t) r)) (field_in (row_fields (flags_in t) r) k).width ≡ (field_in (row_fields (flags_in t) r) k).value
  read k = read_field (row_fields (flags_in t) r) h.fit k

  messages_back : (row_of (row_bytes t r)).messages ≡ r.messages
  messages_back =
      let m0 : message_of (row_bytes t r) 0 ≡ message_in r.messages 0 = message_is (row_bytes t r) 0 (number_at t 6 1) (message_in r.messages 0) (read 4) (read 15) (read 16) (read 17) (read 18) (read 19) in
      let m1 : message_of (row_bytes t r) 1 ≡ message_in r.messages 1 = message_is (row_bytes t r) 1 (number_at t 7 1) (message_in r.messages 1) (read 5) (read 20) (read 21) (read 22) (read 23) (read 24) in
      let m2 : message_of (row_bytes t r) 2 ≡ message_in r.messages 2 = message_is (row_bytes t r) 2 (number_at t 8 1) (message_in r.messages 2) (read 6) (read 25) (read 26) (read 27) (read 28) (read 29) in
      let m3 : message_of (row_bytes t r) 3 ≡ message_in r.messages 3 = message_is (row_bytes t r) 3 (number_at t 9 1) (message_in r.messages 3) (read 7) (read 30) (read 31) (read 32) (read 33) (read 34) in
      let m4 : message_of (row_bytes t r) 4 ≡ message_in r.messages 4 = message_is (row_bytes t r) 4 (number_at t 10 1) (message_in r.messages 4) (read 8) (read 35) (read 36) (read 37) (read 38) (read 39) in
      rw (m0, m1, m2, m3, m4) (five_are r.messages h.five)

  pub row_back : row_of (row_bytes t r) ≡ r
  row_back =
      let audio : not (eqb (number_at (row_bytes t r) 11 1) 0) ≡ r.audio.on = flag_back r.audio.on (number_at t 11 1) (number_at (row_bytes t r) 11 1) (read 9) in
      let video : not (eqb (number_at (row_bytes t r) 12 1) 0) ≡ r.video.on = flag_back r.video.on (number_at t 12 1) (number_at (row_bytes t r) 12 1) (read 10) in
      rw (messages_back, audio, video, read 0, read 1, read 2, read 3, read 11, read 12, read 13, read 14)

pub row_length : (t : List ℕ) (r : Row) → length (row_bytes t r) ≡ 129
row_length t r = packed_length (row_fields (flags_in t) r)

row_widths : List ℕ
row_widths = 1 ∷ 1 ∷ 2 ∷ 2 ∷ 1 ∷ 1 ∷ 1 ∷ 1 ∷ 1 ∷ 1 ∷ 1 ∷ replicate 29 4

-- what is read of bytes and put over them leaves them
pub row_stays : (t : List ℕ) → AreBytes t → length t ≡ 129 → row_bytes t (row_of t) ≡ t
unfolding row_widths
row_stays t h l =
    let same : row_fields (flags_in t) (row_of t) ≡ fields_at 0 row_widths t
    = rw (flag_stays (number_at t 6 1), flag_stays (number_at t 7 1), flag_stays (number_at t 8 1), flag_stays (number_at t 9 1), flag_stays (number_at t 10 1), flag_stays (number_at t 11 1), flag_stays (number_at t 12 1)) in
    ap packed same ∙ repacked row_widths 0 t h (omega arith) ∙ take_all 129 t (omega arith)

-- ---- the state

get_d_eight : (j : ℕ) → j < 8 → get_or eight j 0 ≡ j
get_d_eight zero h = refl
get_d_eight (suc zero) h = refl
get_d_eight (suc (suc zero)) h = refl
get_d_eight (suc (suc (suc zero))) h = refl
get_d_eight (suc (suc (suc (suc zero)))) h = refl
get_d_eight (suc (suc (suc (suc (suc zero))))) h = refl
get_d_eight (suc (suc (suc (suc (suc (suc zero)))))) h = refl
get_d_eight (suc (suc (suc (suc (suc (suc (suc zero))))))) h = refl
get_d_eight (suc (suc (suc (suc (suc (suc (suc (suc j)))))))) h = absurd (omega arith)

pub row_of_link : (s : List ℕ) (d : Row) (j : ℕ) → j < 8 → get_or (link_of s).rows j d ≡ row_in s j
row_of_link s d j h = rw (ext-default (map (row_in s) eight) d (row_in s 0) j h, get_or-map (row_in s) eight j 0, get_d_eight j h)
  where
    ext-default : {A : Type 0} (l : List A) (d e : A) (j : ℕ) → j < length l → get_or l j d ≡ get_or l j e
    ext-default [] d e j h = absurd (omega arith)
    ext-default (a ∷ l) d e zero h = refl
    ext-default (a ∷ l) d e (suc j) h = ext-default l d e j (omega arith)

module _ (s : List ℕ) (i : ℕ) (r : Row) (l : length s ≡ 2688) (h : i < 8) where
  abbrev old : List ℕ
  old = part s (row_place i) 129

  inside : row_place i + 129 ≤ length s
  inside = omega arith

  -- what code puts into the lent part of the state
  pub row_put : (p : List ℕ) → p ≡ put_from 0 (row_fields (flags_in (part s (row_place i) (row_place i + 129 - row_place i))) r) (part s (row_place i) (row_place i + 129 - row_place i))
      → put_mid (row_place i) (row_place i + 129 - row_place i) s p ≡ with_row_bytes s i r
  row_put p e =
      let z : row_place i + 129 - row_place i ≡ 129 = omega arith in
      let t = part s (row_place i) 129 in
      let k : length t ≡ 129 = length-take 129 (drop (row_place i) s) ∙ omega (arith, length-drop (row_place i) s) in
      let rest : drop 129 t ≡ [] = drop_of_length-le t {i = 129} (omega arith) in
      let f : p ≡ row_bytes old r = e ∙ ap (λ (n : ℕ). put_from 0 (row_fields (flags_in (part s (row_place i) n)) r) (part s (row_place i) n)) z ∙ put_from_lem (row_fields (flags_in t) r) 0 t (omega arith) ∙ rw (rest, append-nil) in
      rw (z, f, drop-drop) (sym (put_is s (row_place i) 129 (row_bytes old r) (row_length old r) inside))

  pub lent_sound : Sound (flags_in (part s (row_place i) (row_place i + 129 - row_place i))) r → Sound (flags_in old) r
  lent_sound g =
      let z : row_place i + 129 - row_place i ≡ 129 = omega arith in
      subst (λ (n : ℕ). Sound (flags_in (part s (row_place i) n)) r) z g

  pub row_same : Sound (flags_in old) r → row_in (with_row_bytes s i r) i ≡ r
  row_same g = rw (part_same s (row_place i) 129 (row_bytes old r) (row_length old r) inside) (row_back old r g)

  pub row_other : (j : ℕ) → j ≢ i → row_in (with_row_bytes s i r) j ≡ row_in s j
  row_other j n =
      ap row_of
      (split (leb (j + 1) i)
      (λ t. part_before s (row_place i) 129 (row_bytes old r) (row_length old r) inside (row_place j) 129 (omega (arith, leb-true (j + 1) i t)))
      (λ t. part_behind s (row_place i) 129 (row_bytes old r) (row_length old r) inside (row_place j) 129 (omega (arith, n, leb-false (j + 1) i t))))

  -- before the rows nothing changes
  pub front_kept : (a n : ℕ) → a + n ≤ 800 → part (with_row_bytes s i r) a n ≡ part s a n
  front_kept a n k = part_before s (row_place i) 129 (row_bytes old r) (row_length old r) inside a n (omega arith)

  pub rows_put : Sound (flags_in old) r → (link_of (with_row_bytes s i r)).rows ≡ set (link_of s).rows i r
  rows_put g =
      ext_get_or r (link_of (with_row_bytes s i r)).rows (set (link_of s).rows i r) (sym (length-set (link_of s).rows i r))
      (λ j k. same_or_not j i
      (λ e. row_of_link (with_row_bytes s i r) r j k ∙ rw (e, get_or-set_same (link_of s).rows i r r h) (row_same g))
      (λ n. row_of_link (with_row_bytes s i r) r j k ∙ row_other j n ∙ sym (get_or-set_other (link_of s).rows i j r r n ∙ row_of_link s r j k)))

  pub link_put : Sound (flags_in old) r → link_of (with_row_bytes s i r) ≡ with_row (link_of s) i r
  link_put g =
      rw (rows_put g, front_kept 1 1 (omega arith), front_kept 2 1 (omega arith), front_kept 3 1 (omega arith), front_kept 4 4 (omega arith), front_kept 544 256 (omega arith))

-- a row that is put as it is read leaves every byte
pub row_unchanged : (s : List ℕ) (i : ℕ) → AreBytes s → length s ≡ 2688 → i < 8 → with_row_bytes s i (row_in s i) ≡ s
row_unchanged s i h l k =
    let at = row_place i in
    let t = part s at 129 in
    let long : length t ≡ 129 = length-take 129 (drop at s) ∙ omega (arith, length-drop at s) in
    let stays : row_bytes t (row_of t) ≡ t = row_stays t (bytes_take 129 (drop at s) (bytes_drop at s h)) long in
    rw (put_is s at 129 (row_bytes t (row_of t)) (row_length t (row_of t)) (omega arith), stays, ← drop-drop 129 at s, take-append-drop 129 (drop at s)) (take-append-drop at s)

-- the rows' ids, each in the first byte of its row
pub ids_are : (s : List ℕ) → map (λ i. id_as (number_at s (row_place i) 1)) eight ≡ map (λ (r : Row). r.id) (link_of s).rows
ids_are s =
    let at : (i : ℕ) → number_at s (row_place i) 1 ≡ number_at (part s (row_place i) 129) 0 1
    = λ i. ap value_le (sym (part_front s (row_place i) 129 1 (omega arith))) in
    rw (at 0, at 1, at 2, at 3, at 4, at 5, at 6, at 7)

-- no flag of a message is set where two numbers are 0
pub quiet_is : (t : List ℕ) (a b : ℕ) → 11 ≤ length t → a ≡ number_at t 6 4 → b ≡ number_at t 10 1
    → eqb a 0 && eqb b 0 ≡ all (λ (m : Reassembly). not m.live) (row_of t).messages
quiet_is t a b h e f =
    rw (e, f, zero_four t 6 (omega arith))
    (five-tests (eqb (number_at t 6 1) 0) (eqb (number_at t 7 1) 0) (eqb (number_at t 8 1) 0) (eqb (number_at t 9 1) 0) (eqb (number_at t 10 1) 0))
  where
    five-tests : (p q r s u : Bool) → (p && (q && (r && s))) && u ≡ not (not p) && (not (not q) && (not (not r) && (not (not s) && (not (not u) && true))))
    five-tests true true true true true = refl
    five-tests true true true true false = refl
    five-tests true true true false u = refl
    five-tests true true false s u = refl
    five-tests true false r s u = refl
    five-tests false q r s u = refl
