-- A line laid into its buffer piece by piece: the characters before the digits, the digits, and the characters behind them; or characters and two words. By the laws of take, drop and
-- append. Assumes nothing.
use Rattle.std.proofs.Common.{◌≡◌, ℕ, ◌+◌, ◌-◌, ◌*◌, ◌≤◌, min, List, [], ◌∷◌, ◌++◌, length, take, drop, refl, ap, ◌∙◌, arith, length-drop, length-take, take_all, eq-eqb, ne_eqb, eqb, false}
use lib.Seq.{take-append_seam}
use Rattle.numbers.proofs.Choices.{same_or_not}
use Rattle.numbers.specs.Bytes.{part}
use Rattle.lines.specs.Hex.{hex_of}
use Rattle.lines.proofs.Characters.{length_hex}
use Rattle.payload.specs.Append.{Appended}
use Rattle.payload.proofs.Appends.{more}
use Rattle.text.specs.Pieces.{fitting, put_into}
use Rattle.text.specs.declared.Text.{Text}
use Rattle.text.specs.Said.{said, Longer}
use Rattle.rpc.specs.declared.Parts.{Parts}
use Rattle.rpc.specs.Read.{json_part, bulk_part}
use Rattle.driver.specs.Spelling.{text_line, word_text, parts_behind}

-- `text::put` puts all of d into a buffer, from at on, where there is room
module _ (d o : List ℕ) (at : ℕ) (room : at + length d ≤ length o) where
  pub all_put : {n : ℕ} {q : List ℕ} → n ≡ min at (length o) + length (fitting o at d) → q ≡ put_into o at d → Appended at d o n q
  all_put {n} {q} e f =
      let t : fitting o at d ≡ d = take_all (length o - at) d (omega arith) in
      record { ends = omega (arith, e, ap length t); puts = f ∙ rw t }

-- what stands at the front of a buffer
pub laid_front : {d o q : List ℕ} {n : ℕ} → Appended 0 d o n q → take n q ≡ d
laid_front {d} {o} {q} {n} e =
    let z : n ≡ length d = omega (arith, e.ends) in
    rw (z, e.puts) (take-append_seam d (drop (0 + length d) o))

-- the three pieces of a line: the text e is the answer t with its newline, s its characters; the digits of the first bytes of out stand behind the first
-- `cut` of them
module _ {t e : Text} (ended : Longer t (10 ∷ []) e) (out line : List ℕ) (room : length line ≡ 304104) {s : List ℕ} (all : s ≡ said e) where
  short : length s ≤ 4096
  short = omega (arith, ap length all, ended.ends, ended.within)

  -- the characters before the digits
  module _ {a : List ℕ} (front : a ≡ take e.cut s) where
    first_short : length a ≤ length s
    first_short = omega (arith, ap length front, length-take e.cut s)

    first_fits : 0 + length a ≤ length line
    first_fits = omega (arith, first_short, short)

    pub first_put : {n : ℕ} {p : List ℕ} → n ≡ min 0 (length line) + length (fitting line 0 a) → p ≡ put_into line 0 a → Appended 0 a line n p
    first_put f g = all_put a line 0 first_fits f g

    -- the bytes that are spelled
    module _ {b : List ℕ} (spelled : b ≡ take (min e.size 131084) out) {n : ℕ} {p : List ℕ} (kept : length p ≡ length line) (first : Appended 0 a line n p) where
      spelled_few : length b ≤ 131084
      spelled_few = omega (arith, ap length spelled, length-take (min e.size 131084) out)

      pub digits_fit : n + 2 * length b ≤ length p
      digits_fit = omega (arith, first.ends, first_short, short, spelled_few)

      -- the characters behind them
      pub line_laid : {m r : ℕ} {q w d : List ℕ} → length q ≡ length p → Appended n (hex_of b) p m q → d ≡ part s e.cut (length s)
          → r ≡ min m (length q) + length (fitting q m d) → w ≡ put_into q m d → take r w ≡ text_line t out
      line_laid {m} {r} {q} {w} {d} k digits behind f g =
          let rest : d ≡ drop e.cut s = behind ∙ take_all (length s) (drop e.cut s) (omega (arith, length-drop e.cut s)) in
          let room_d : m + length d ≤ length q = omega (arith, first.ends, digits.ends, ap length front, ap length rest, length-take e.cut s, length-drop e.cut s, length_hex b, spelled_few, short) in
          let room_b : n + length (hex_of b) ≤ length p = omega (arith, digits_fit, length_hex b) in
          let whole = laid_front (more a (hex_of b ++ d) first_fits first (more (hex_of b) d room_b digits (all_put d q m room_d f g))) in
          whole ∙ rw (front, rest, spelled, all, ended.cut, ended.size, ended.says) refl

-- ---- bytes as a word

pub word_length : (b : List ℕ) → length (word_text b) ≤ 2 + 2 * length b
word_length b =
    same_or_not (length b) 0 (λ e. rw (eq-eqb (length b) 0 e) (omega arith)) λ e.
    rw (ne_eqb (length b) 0 e) (omega (arith, length_hex b))

module _ (b o : List ℕ) (at : ℕ) (room : at + (2 + 2 * length b) ≤ length o) where
  pub space_put : {n : ℕ} {p : List ℕ} → n ≡ min at (length o) + length (fitting o at (32 ∷ [])) → p ≡ put_into o at (32 ∷ []) → Appended at (32 ∷ []) o n p
  space_put f g = all_put (32 ∷ []) o at (omega arith) f g

  pub word_put : {n m : ℕ} {p q : List ℕ} → eqb (length b) 0 ≡ false → Appended at (32 ∷ []) o n p → Appended n (hex_of b) p m q → Appended at (word_text b) o m q
  word_put z e f = rw z (more (32 ∷ []) (hex_of b) (omega arith) e f)

-- ---- characters, JSON and bulk data

-- the two parts do not overlap
parts_within : (s : List ℕ) (p : Parts) → length (json_part s p) + length (bulk_part s p) ≤ length s
parts_within s p =
    let j = length-take (p.bulk - p.json) (drop p.json s) in
    let k = length-take (p.end - p.bulk) (drop p.bulk s) in
    omega (arith, j, length-drop p.json s, k, length-drop p.bulk s)

module _ (payload : List ℕ) (parts : Parts) (few : length payload ≤ 150000) (line : List ℕ) (room : length line ≡ 304104) {a : List ℕ} (short : length a ≤ 4096) where
  pub text_put : {n : ℕ} {p : List ℕ} → n ≡ min 0 (length line) + length (fitting line 0 a) → p ≡ put_into line 0 a → Appended 0 a line n p
  text_put f g = all_put a line 0 (omega arith) f g

  module _ {n : ℕ} {p : List ℕ} (kept : length p ≡ length line) (text : Appended 0 a line n p) {j : List ℕ} (json : j ≡ json_part payload parts) where
    pub json_fits : n + (2 + 2 * length j) ≤ length p
    json_fits = omega (arith, text.ends, ap length json, parts_within payload parts)

    module _ {m : ℕ} {q : List ℕ} (kept_q : length q ≡ length p) (first : Appended n (word_text j) p m q) {k : List ℕ} (bulk : k ≡ bulk_part payload parts) where
      pub bulk_fits : m + (2 + 2 * length k) ≤ length q
      bulk_fits = omega (arith, text.ends, first.ends, word_length j, ap length json, ap length bulk, parts_within payload parts)

      -- all of it, and the newline
      pub parts_laid : {i e : ℕ} {r w : List ℕ} → length r ≡ length q → Appended m (word_text k) q i r → e ≡ min i (length r) + length (fitting r i (10 ∷ [])) → w ≡ put_into r i (10 ∷ [])
          → take e w ≡ parts_behind a payload parts
      parts_laid {i} {e} {r} {w} kept_r second f g =
          let total = parts_within payload parts in
          let room_end : i + length {A = ℕ} (10 ∷ []) ≤ length r = omega (arith, text.ends, first.ends, second.ends, word_length j, word_length k, ap length json, ap length bulk, total) in
          let room_k : m + length (word_text k) ≤ length q = omega (arith, bulk_fits, word_length k) in
          let room_j : n + length (word_text j) ≤ length p = omega (arith, json_fits, word_length j) in
          let room_a : 0 + length a ≤ length line = omega arith in
          let end = all_put (10 ∷ []) r i room_end f g in
          let whole = more a (word_text j ++ (word_text k ++ 10 ∷ [])) room_a text (more (word_text j) (word_text k ++ 10 ∷ []) room_j first (more (word_text k) (10 ∷ []) room_k second end)) in
          laid_front whole ∙ rw (json, bulk) refl
