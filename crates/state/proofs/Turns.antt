-- The loops that put a row's flags and messages: what is still to be put leads to the whole. Assumes nothing.
use Prim.Native.Nat.{ℕ, zero, suc, ◌+◌, ◌*◌, ◌<◌, ◌≤◌}
use mathlib.Core.Path.{◌≡◌, refl, ◌∙◌, sym, subst}
use mathlib.Core.List.{List, [], ◌∷◌}
use native.Mathlib.Omega.{arith}
use native.Mathlib.Numerals.{add-one}
use lib.ListN.{length, get_or, drop, drop_of_length-le}
use lib.Seq.{drop-cons}
use Rattle.numbers.specs.Bytes.{put_at}
use Rattle.numbers.specs.Numbers.{bytes_le}
use Rattle.numbers.proofs.Choices.{same_or_not}
use Rattle.session.specs.declared.Reassembly.{Reassembly}
use Rattle.state.specs.Fields.{number_fields, put_from, AllFit}
use Rattle.state.specs.Layout.{kept, message_in, live_fields, message_fields, all_message_fields}
use Rattle.state.proofs.Rows.{lives_fit, messages_fit}

-- what holds below a place, and there, holds below the next one
below_next : (P : ℕ → Type 0) (n : ℕ) → ((k : ℕ) → k < n → P k) → P n → (k : ℕ) → k < n + 1 → P k
below_next P n h p k l = same_or_not k n (λ e. subst P (sym e) p) (λ d. h k (omega (arith, d)))

-- ---- numbers of four bytes each

-- those before the k-th are put
pub record NumbersPut (at : ℕ) (ns start row : List ℕ) (k : ℕ) : Type 0 where
  pub rest : put_from (at + 4 * k) (number_fields (drop k ns)) row ≡ put_from at (number_fields ns) start

pub numbers_start : (at : ℕ) (ns row : List ℕ) → NumbersPut at ns row row 0
numbers_start at ns row = let z : at + 4 * 0 ≡ at = omega arith in record { rest = rw z }

pub numbers_turn : {at : ℕ} {ns start row after : List ℕ} {k : ℕ} → k < length ns → NumbersPut at ns start row k
    → after ≡ put_at row (at + 4 * k) 4 (bytes_le 4 (get_or ns k 0)) → NumbersPut at ns start after (k + 1)
numbers_turn {at} {ns} {start} {row} {after} {k} h i e = let z : at + 4 * (k + 1) ≡ at + 4 * k + 4 = omega arith in
    record { rest = rw (z, e, add-one k) (rw (drop-cons ns k 0 h) at i.rest) }

pub numbers_end : {at : ℕ} {ns start row : List ℕ} {k : ℕ} → length ns ≤ k → NumbersPut at ns start row k → row ≡ put_from at (number_fields ns) start
numbers_end {ns = ns} {k = k} h i = rw (drop_of_length-le ns {i = k} h) at i.rest

pub numbers_fit : (ns : List ℕ) → ((i : ℕ) → get_or ns i 0 < 4294967296) → AllFit (number_fields ns)
numbers_fit [] h = tt
numbers_fit (n ∷ ns) h = (h 0, numbers_fit ns (λ i. h (suc i)))

-- ---- the flags

module _ (old : List ℕ) (ms : List Reassembly) where
  abbrev flag_in : ℕ → ℕ
  flag_in k = kept (get_or old k 0) (message_in ms k).live

  -- those before a place are put
  pub record FlagsPut (start row : List ℕ) (place : ℕ) : Type 0 where
    pub rest : put_from (6 + place) (drop place (live_fields old ms)) row ≡ put_from 6 (live_fields old ms) start
    pub fit : (k : ℕ) → k < place → flag_in k < 256

  flag_put : (place : ℕ) → place < 5 → (row : List ℕ)
      → put_from (6 + (place + 1)) (drop (place + 1) (live_fields old ms)) (put_at row (6 + place) 1 (bytes_le 1 (flag_in place))) ≡ put_from (6 + place) (drop place (live_fields old ms)) row
  flag_put zero h row = refl
  flag_put (suc zero) h row = refl
  flag_put (suc (suc zero)) h row = refl
  flag_put (suc (suc (suc zero))) h row = refl
  flag_put (suc (suc (suc (suc zero)))) h row = refl
  flag_put (suc (suc (suc (suc (suc place))))) h row = absurd (omega arith)

  pub flags_start : (row : List ℕ) → FlagsPut row row 0
  flags_start row = record { rest = refl; fit = λ k l. absurd (omega arith) }

  pub flags_turn : {start row after : List ℕ} {place byte : ℕ} → place < 5 → FlagsPut start row place → byte ≡ flag_in place → flag_in place < 256
      → after ≡ put_at row (6 + place) 1 (bytes_le 1 byte) → FlagsPut start after (place + 1)
  flags_turn {row = row} {place = place} h i e f g = record {
    rest = rw (g, e) (flag_put place h row ∙ i.rest);
    fit = below_next (λ k. flag_in k < 256) place i.fit f;
  }

  pub flags_end : {start row : List ℕ} {place : ℕ} → place ≡ 5 → FlagsPut start row place → (row ≡ put_from 6 (live_fields old ms) start) × AllFit (live_fields old ms)
  flags_end {start = start} {row = row} e i =
      let all : FlagsPut start row 5 = subst (λ (n : ℕ). FlagsPut start row n) e i in
      (all.rest, lives_fit old ms (all.fit 0 (omega arith)) (all.fit 1 (omega arith)) (all.fit 2 (omega arith)) (all.fit 3 (omega arith)) (all.fit 4 (omega arith)))

-- ---- the messages

module _ (ms : List Reassembly) where
  pub record MessagesPut (start row : List ℕ) (place : ℕ) : Type 0 where
    pub rest : put_from (29 + place * 20) (drop (place * 5) (all_message_fields ms)) row ≡ put_from 29 (all_message_fields ms) start
    pub fit : (k : ℕ) → k < place → AllFit (message_fields (message_in ms k))

  message_put : (place : ℕ) → place < 5 → (row : List ℕ)
      → put_from (29 + (place + 1) * 20) (drop ((place + 1) * 5) (all_message_fields ms)) (put_from (29 + place * 20) (message_fields (message_in ms place)) row)
      ≡ put_from (29 + place * 20) (drop (place * 5) (all_message_fields ms)) row
  message_put zero h row = refl
  message_put (suc zero) h row = refl
  message_put (suc (suc zero)) h row = refl
  message_put (suc (suc (suc zero))) h row = refl
  message_put (suc (suc (suc (suc zero)))) h row = refl
  message_put (suc (suc (suc (suc (suc place))))) h row = absurd (omega arith)

  pub messages_start : (row : List ℕ) → MessagesPut row row 0
  messages_start row = record { rest = refl; fit = λ k l. absurd (omega arith) }

  pub messages_turn : {start row after : List ℕ} {place : ℕ} → place < 5 → MessagesPut start row place → AllFit (message_fields (message_in ms place))
      → after ≡ put_from (29 + place * 20) (message_fields (message_in ms place)) row → MessagesPut start after (place + 1)
  messages_turn {row = row} {place = place} h i f g = record {
    rest = rw g (message_put place h row ∙ i.rest);
    fit = below_next (λ k. AllFit (message_fields (message_in ms k))) place i.fit f;
  }

  pub messages_end : {start row : List ℕ} {place : ℕ} → place ≡ 5 → MessagesPut start row place → (row ≡ put_from 29 (all_message_fields ms) start) × AllFit (all_message_fields ms)
  messages_end {start = start} {row = row} e i =
      let all : MessagesPut start row 5 = subst (λ (n : ℕ). MessagesPut start row n) e i in
      (all.rest, messages_fit ms (all.fit 0 (omega arith)) (all.fit 1 (omega arith)) (all.fit 2 (omega arith)) (all.fit 3 (omega arith)) (all.fit 4 (omega arith)))
