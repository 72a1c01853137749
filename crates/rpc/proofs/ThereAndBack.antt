-- Reader and writer undo each other: what is written is read back, and what was read, written again, is the same bytes.
-- Assumes nothing.
use Prim.Native.Nat.{ℕ, ◌+◌, ◌-◌, ◌*◌, ◌/◌, ◌%◌, ◌^◌, ◌≤◌, ◌<◌}
use mathlib.Core.Path.{◌≡◌, refl, ap, ◌∙◌, sym}
use mathlib.Core.Bool.{Bool, true, false}
use mathlib.Core.List.{List, [], ◌∷◌, ◌++◌, append_assoc}
use native.Mathlib.Omega.{arith}
use lib.Dec.{eqb, leb}
use lib.ListN.{length, take, drop, length-append, length-drop, take-append-drop}
use lib.Seq.{take_at, drop_at, take-add, drop-drop, take_all, length-take-le}
use borrow.Author.Tests.{eq-eqb, le-leb, lt-leb, eqb-true, eqb-false, leb-true}
use Rattle.std.specs.Prelude.{Ok, Err}
use Rattle.numbers.specs.Bytes.{part, pick, AreBytes, laid}
use Rattle.numbers.specs.Numbers.{value_be, bytes_be}
use Rattle.numbers.proofs.Laws.{length_be, read_written_be, written_read_be, bytes_take, bytes_drop}
use Rattle.numbers.proofs.Choices.{split, either, unless_elim, and_both, and_yes}
use Rattle.frame.specs.Rules.{known_version}
use Rattle.frame.specs.Write.{Wrote, wrote, put_of}
use Rattle.frame.proofs.ThereAndBack.{not_done, put_told}
use Rattle.rpc.specs.Rules.{is_rpc, is_query, is_bare, id_span, kind_fits, id_fits, fault_of}
use Rattle.rpc.specs.Layout.{layout_bytes, fields_in, header_of, form_in, fields_of}
use Rattle.rpc.specs.Read.{parts_of, bare_parts, json_part, bulk_part, message_in, read_of}
use Rattle.rpc.specs.Write.{message_bytes, fault_for, whole_of, bare_of, write_of}
use Rattle.rpc.specs.ReadBack.{AreU32, ReadsAs, WrittenReadBack, WrittenAgain, BareAgain, PartsFit, Judged}
use Rattle.rpc.specs.declared.Form.{Form}
use Rattle.rpc.specs.declared.Form.TheVariants.{Rpc, Bulk, Query}
use Rattle.rpc.specs.declared.Fields.{Fields}
use Rattle.rpc.specs.declared.Header.{Header}
use Rattle.rpc.specs.declared.Header.TheVariants.{OfRpc, OfBulk, OfQuery}
use Rattle.rpc.specs.declared.Parts.{Parts}
use Rattle.rpc.specs.declared.Content.TheVariants.{Message, Bare}
use Rattle.rpc.proofs.Forms.{word_fits, id_below, Sound, no_fault, sound_none}
use Rattle.rpc.proofs.Buffers.{layout_length, message_length}
use Rattle.rpc.proofs.Answers.{message_read, read_bare, read_judged, is_message, is_bare_lem}

-- a header is its form and fields, and they are the header's
pub header_back : (h : Header) (size : ℕ) → header_of (form_in h) (fields_of h size) ≡ h
header_back (OfRpc h) size = refl
header_back (OfBulk h) size = refl
header_back (OfQuery h) size = refl

pub form_back : (form : Form) (f : Fields) → form_in (header_of form f) ≡ form
form_back Rpc f = refl
form_back Bulk f = refl
form_back Query f = refl

pub fields_same : (form : Form) (f : Fields) → fields_of (header_of form f) f.size ≡ f
fields_same Rpc f = refl
fields_same Bulk f = refl
fields_same Query f = refl

pub size_same : (h : Header) (size : ℕ) → (fields_of h size).size ≡ size
size_same (OfRpc h) size = refl
size_same (OfBulk h) size = refl
size_same (OfQuery h) size = refl

-- type and id of a word
word_back : (form : Form) (kind id : ℕ) → id < id_span form
    → ((kind * id_span form + id) / id_span form ≡ kind) × ((kind * id_span form + id) % id_span form ≡ id)
unfolding id_span
word_back form kind id h = back (is_query form) h
  where
    back : (q : Bool) → id < pick q (2 ^ 24) (2 ^ 28)
        → ((kind * pick q (2 ^ 24) (2 ^ 28) + id) / pick q (2 ^ 24) (2 ^ 28) ≡ kind) × ((kind * pick q (2 ^ 24) (2 ^ 28) + id) % pick q (2 ^ 24) (2 ^ 28) ≡ id)
    back true g = (omega arith, omega arith)
    back false g = (omega arith, omega arith)

word_again : (form : Form) (w : ℕ) → w / id_span form * id_span form + w % id_span form ≡ w
unfolding id_span
word_again form w = either (λ (n : ℕ). w / n * n + w % n ≡ w) (is_query form) (2 ^ 24) (2 ^ 28) (λ e. omega arith) (λ e. omega arith)

-- a part between others
part_at : (a b t : List ℕ) (at w : ℕ) → length a ≡ at → length b ≡ w → part (a ++ (b ++ t)) at w ≡ b
part_at a b t at w l m = rw (drop_at a (b ++ t) at l) (take_at b t w m)

number_at : (a t : List ℕ) (at n : ℕ) → length a ≡ at → n < 2 ^ 32 → value_be (part (a ++ (bytes_be 4 n ++ t)) at 4) ≡ n
number_at a t at n l h = ap value_be (part_at a (bytes_be 4 n) t at 4 l (length_be 4 n)) ∙ read_written_be 4 n (omega arith)

-- the 12 bytes, read back
pub fields_back : (form : Form) (f : Fields) (t : List ℕ) → kind_fits form f.kind ≡ true → id_fits form f.id ≡ true → f.number < 2 ^ 32 → f.size < 2 ^ 32
    → fields_in form (layout_bytes form f ++ t) ≡ f
unfolding fields_in layout_bytes
fields_back form f t k i n z =
    let word : ℕ = f.kind * id_span form + f.id in
    let a : List ℕ = bytes_be 4 word in
    let b : List ℕ = bytes_be 4 f.number in
    let c : List ℕ = bytes_be 4 f.size in
    let s : List ℕ = a ++ b ++ c ++ t in
    let l : length (a ++ b) ≡ 8 = length-append a b ∙ rw (length_be 4 word, length_be 4 f.number) in
    let s₁ : s ≡ [] ++ (a ++ (b ++ (c ++ t))) = simp append_assoc in
    let s₂ : s ≡ a ++ (b ++ (c ++ t)) = simp append_assoc in
    let s₃ : s ≡ (a ++ b) ++ (c ++ t) = simp append_assoc in
    let v₁ : value_be (part s 0 4) ≡ word
    = ap (λ (x : List ℕ). value_be (part x 0 4)) s₁ ∙ number_at [] (b ++ (c ++ t)) 0 word refl (word_fits form f.kind f.id k i) in
    let v₂ : value_be (part s 4 4) ≡ f.number = ap (λ (x : List ℕ). value_be (part x 4 4)) s₂ ∙ number_at a (c ++ t) 4 f.number (length_be 4 word) n in
    let v₃ : value_be (part s 8 4) ≡ f.size = ap (λ (x : List ℕ). value_be (part x 8 4)) s₃ ∙ number_at (a ++ b) t 8 f.size l z in
    let w = word_back form f.kind f.id (id_below form f.id i) in
    rw (v₁, v₂, v₃, w.0, w.1)

-- four bytes, read as a number and written again
number_again : (s : List ℕ) (at : ℕ) → AreBytes s → at + 4 ≤ length s → bytes_be 4 (value_be (part s at 4)) ≡ part s at 4
number_again s at b l =
    let n : length (part s at 4) ≡ 4 = length-take-le 4 (drop at s) (omega (arith, length-drop at s)) in
    ap (λ (w : ℕ). bytes_be w (value_be (part s at 4))) (sym n) ∙ written_read_be (part s at 4) (bytes_take 4 (drop at s) (bytes_drop at s b))

-- the 12 bytes, read and written again
pub fields_again : (form : Form) (s : List ℕ) → AreBytes s → 12 ≤ length s → layout_bytes form (fields_in form s) ≡ take 12 s
unfolding fields_in layout_bytes
fields_again form s b l =
    let e₁ : take 12 s ≡ take 4 s ++ take 8 (drop 4 s) = take-add 4 8 s in
    let e₂ : take 8 (drop 4 s) ≡ take 4 (drop 4 s) ++ take 4 (drop 4 (drop 4 s)) = take-add 4 4 (drop 4 s) in
    let e₃ : drop 4 (drop 4 s) ≡ drop 8 s = drop-drop 4 4 s in
    let n₀ = number_again s 0 b (omega arith) in
    let n₁ = number_again s 4 b (omega arith) in
    let n₂ = number_again s 8 b (omega arith) in
    rw (word_again form (value_be (part s 0 4)), n₀, n₁, n₂, e₁, e₂, e₃, append_assoc)

-- nothing follows the JSON: as the writer says it, and as the reader does
ends_same : (j b n : ℕ) → n ≡ 12 + j + b → leb (n - 12) j ≡ eqb b 0
ends_same j b n e =
    split (eqb b 0) (λ t. le-leb (n - 12) j (omega (arith, eqb-true b 0 t)) ∙ sym t)
    (λ t. let z : b ≡ 0 → ⊥ = eqb-false b 0 t in lt-leb (n - 12) j (omega arith) ∙ sym t)

-- what the writer lays of a message without fault
module _ (version : ℕ) (h : Header) (size : ℕ) (json bulk : List ℕ) (j : Judged (form_in h) version) (u : AreU32 h size)
    (z : fault_for h size json bulk ≡ 0) where
  sound : Sound (form_in h) (fields_of h size) (eqb size (length json)) (eqb (length bulk) 0)
  sound = no_fault (form_in h) (fields_of h size) (eqb size (length json)) (eqb (length bulk) 0) z

  sized : size ≡ length json
  sized = eqb-true size (length json) sound.size

  written_fields : fields_in (form_in h) (message_bytes h size json bulk) ≡ fields_of h size
  written_fields =
      let e : message_bytes h size json bulk ≡ layout_bytes (form_in h) (fields_of h size) ++ (json ++ bulk)
      = append_assoc (layout_bytes (form_in h) (fields_of h size)) json bulk in
      rw e (fields_back (form_in h) (fields_of h size) (json ++ bulk) sound.kind sound.id u.number (rw (size_same h size) u.json_size))

  written_fault : fault_of (form_in h) (fields_of h size) (leb size (length (message_bytes h size json bulk) - 12))
      (leb (length (message_bytes h size json bulk) - 12) size) ≡ 0
  written_fault =
      let l : length (message_bytes h size json bulk) ≡ 12 + size + length bulk = message_length h size json bulk ∙ omega (arith, sized) in
      let e : leb (length (message_bytes h size json bulk) - 12) size ≡ eqb (length bulk) 0
      = ends_same size (length bulk) (length (message_bytes h size json bulk)) l in
      sound_none (form_in h) (fields_of h size) _ _ record {
        kind = sound.kind;
        id = sound.id;
        size = le-leb size (length (message_bytes h size json bulk) - 12) (omega arith);
        end = rw e sound.end;
      }

  written_read : read_of (form_in h) version (message_bytes h size json bulk) ≡ Ok (Message h size (parts_of (message_bytes h size json bulk) size))
  written_read =
      let s : List ℕ = message_bytes h size json bulk in
      let f : Fields = fields_of h size in
      let l : 12 ≤ length s = omega (arith, message_length h size json bulk) in
      let m : Ok (Message h f.size (parts_of s f.size)) ≡ message_in (form_in h) s
      = message_read (form_in h) s 0 f h (sym written_fields) (rw (size_same h size) (sym written_fault)) refl (sym (header_back h size)) in
      read_judged (form_in h) version s j l ∙ sym (rw (size_same h size) at m)

  whole_back : ReadsAs version (message_bytes h size json bulk) h size json bulk
  whole_back =
      let s : List ℕ = message_bytes h size json bulk in
      let a : List ℕ = layout_bytes (form_in h) (fields_of h size) in
      let l : length s ≡ 12 + length json + length bulk = message_length h size json bulk in
      let k : length a ≡ 12 = layout_length (form_in h) (fields_of h size) in
      let n₁ : 12 + size - 12 ≡ length json = omega (arith, sized) in
      let n₂ : length s - (12 + size) ≡ length bulk = omega (arith, sized) in
      let n₃ : length (a ++ json) ≡ 12 + size = length-append a json ∙ omega (arith, sized) in
      record {
        parts = parts_of s size;
        read = rw j.headed written_read;
        json_is = rw (n₁, append_assoc a json bulk) (part_at a json bulk 12 (length json) k refl);
        bulk_is = rw (n₂, drop_at (a ++ json) bulk (12 + size) n₃) (take_all (length bulk) bulk (omega arith));
      }

nothing : (l : List ℕ) → length l ≡ 0 → l ≡ []
nothing [] e = refl
nothing (x ∷ l) e = absurd (omega arith)

bare_back : (version : ℕ) (h : Header) (size : ℕ) (json bulk : List ℕ) → known_version version ≡ true → is_bare (form_in h) version ≡ true → length bulk ≡ 0
    → ReadsAs version json h size json bulk
bare_back version h size json bulk k b e =
    let n₁ : length json - 0 ≡ length json = omega arith in
    let n₂ : length json - length json ≡ 0 = omega arith in
    record {
      parts = bare_parts json;
      read = rw b (read_bare (form_in h) version json k b);
      json_is = rw n₁ (take_all (length json) json (omega arith));
      bulk_is = rw n₂ (sym (nothing bulk e));
    }

-- from the writer's own answer
module _ (version : ℕ) (h : Header) (size n : ℕ) (json bulk out left : List ℕ) where
  abbrev Back : Wrote → Type 0
  Back w = w ≡ wrote (Ok n) left → ReadsAs version (take n left) h size json bulk

  from_bare : known_version version ≡ true → is_bare (form_in h) version ≡ true → Back (bare_of json bulk out)
  unfolding bare_of
  from_bare k b =
      unless_elim Back (eqb (length bulk) 0) (wrote (Err 44) out) (put_of json out) (λ t d. absurd (not_done 44 out left n d))
      (λ t d. rw (put_told json out left n d) (bare_back version h size json bulk k b (eqb-true (length bulk) 0 t)))

  from_whole : Judged (form_in h) version → AreU32 h size → Back (whole_of h size json bulk out)
  unfolding whole_of
  from_whole j u =
      unless_elim Back (eqb (fault_for h size json bulk) 0) (wrote (Err (fault_for h size json bulk)) out)
      (put_of (message_bytes h size json bulk) out)
      (λ t d. absurd (not_done (fault_for h size json bulk) out left n d))
      (λ t d. rw (put_told (message_bytes h size json bulk) out left n d) (whole_back version h size json bulk j u (eqb-true (fault_for h size json bulk) 0 t)))

  from_write : AreU32 h size → Back (write_of version h size json bulk out)
  unfolding write_of
  from_write u =
      unless_elim Back (known_version version) (wrote (Err 1) out) _ (λ t d. absurd (not_done 1 out left n d)) λ k.
      either Back (is_bare (form_in h) version) (bare_of json bulk out) (whole_of h size json bulk out) (λ b. from_bare k b)
      (λ b. from_whole (record { known = k; headed = b }) u)

pub written_read_back : WrittenReadBack
written_read_back version h size n json bulk out left u e = from_write version h size n json bulk out left u e

-- ---- what was read

-- the parts of a payload that was read, by the reader's own numbers
module _ (form : Form) (version : ℕ) (s : List ℕ) (h : Header) (size : ℕ) (p : Parts) (e : read_of form version s ≡ Ok (Message h size p)) where
  parts_are : p ≡ parts_of s size
  parts_are = let q = is_message form version s h size p e in rw q.sized q.parts

  read_sound : Sound form (fields_in form s) (leb (fields_in form s).size (length s - 12)) (leb (length s - 12) (fields_in form s).size)
  read_sound = no_fault form (fields_in form s) _ _ (is_message form version s h size p e).sound

  size_there : size ≤ length s - 12
  size_there = let q = is_message form version s h size p e in rw q.sized (leb-true (fields_in form s).size (length s - 12) read_sound.size)

  json_length : length (json_part s p) ≡ size
  json_length =
      let n : 12 + size - 12 ≡ size = omega arith in
      rw (parts_are, n) (length-take-le size (drop 12 s) (omega (arith, length-drop 12 s, size_there)))

  bulk_length : length (bulk_part s p) ≡ length s - 12 - size
  bulk_length = rw parts_are (length-take-le (length s - (12 + size)) (drop (12 + size) s) (omega (arith, length-drop (12 + size) s)) ∙ omega arith)

  form_is : form_in h ≡ form
  form_is = rw (is_message form version s h size p e).header (form_back form (fields_in form s))

  fields_are : fields_of h size ≡ fields_in form s
  fields_are = let q = is_message form version s h size p e in rw (q.header, q.sized) (fields_same form (fields_in form s))

  -- the writer finds no fault in it
  again_sound : fault_for h size (json_part s p) (bulk_part s p) ≡ 0
  again_sound =
      let q = is_message form version s h size p e in
      let f : Fields = fields_in form s in
      let z : length s ≡ 12 + size + length (bulk_part s p) = omega (arith, bulk_length, size_there, q.long) in
      let m : leb (length s - 12) f.size ≡ eqb (length (bulk_part s p)) 0 = rw (← q.sized) (ends_same size (length (bulk_part s p)) (length s) z) in
      rw (form_is, fields_are)
      (sound_none form f _ _ record {
        kind = read_sound.kind;
        id = read_sound.id;
        size = eq-eqb size (length (json_part s p)) (sym json_length);
        end = rw (← m) read_sound.end;
      })

  again_bytes : AreBytes s → message_bytes h size (json_part s p) (bulk_part s p) ≡ s
  again_bytes b =
      let q = is_message form version s h size p e in
      let n₁ : 12 + size - 12 ≡ size = omega arith in
      let j : json_part s p ≡ take size (drop 12 s) = rw (parts_are, n₁) in
      let k : bulk_part s p ≡ drop size (drop 12 s)
      = rw (parts_are, drop-drop) (take_all (length s - (12 + size)) (drop (12 + size) s) (omega (arith, length-drop (12 + size) s))) in
      let a : layout_bytes (form_in h) (fields_of h size) ≡ take 12 s = rw (form_is, fields_are) (fields_again form s b q.long) in
      rw (a, j, k, append_assoc, take-append-drop size (drop 12 s)) (take-append-drop 12 s)

  written_again : (out : List ℕ) → AreBytes s → length s ≤ length out
      → write_of version h size (json_part s p) (bulk_part s p) out ≡ wrote (Ok (length s)) (laid s out)
  unfolding write_of whole_of
  written_again out b room =
      let q = is_message form version s h size p e in
      let bare : is_bare (form_in h) version ≡ false = rw form_is q.judged.headed in
      rw (q.judged.known, bare, again_sound, again_bytes b, le-leb (length s) (length out) room)

bare_rpc : (form : Form) (version : ℕ) → is_bare form version ≡ true → (is_rpc form ≡ true) × (eqb version 1 ≡ true)
unfolding is_bare
bare_rpc form version e = and_both (is_rpc form) (eqb version 1) e

bare_any : (form : Form) (version : ℕ) → is_rpc form ≡ true → eqb version 1 ≡ true → is_bare form version ≡ true
unfolding is_bare
bare_any form version r v = and_yes (is_rpc form) (eqb version 1) r v

module _ (form : Form) (version : ℕ) (s : List ℕ) (p : Parts) (e : read_of form version s ≡ Ok (Bare p)) where
  bare_json : json_part s p ≡ s
  bare_json =
      let n : length s - 0 ≡ length s = omega arith in
      rw ((is_bare_lem form version s p e).parts, n) (take_all (length s) s (omega arith))

  bare_bulk : bulk_part s p ≡ []
  bare_bulk =
      let n : length s - length s ≡ 0 = omega arith in
      rw ((is_bare_lem form version s p e).parts, n)

  bare_again : (h : Header) (size : ℕ) (out : List ℕ) → is_rpc (form_in h) ≡ true → length s ≤ length out
      → write_of version h size (json_part s p) (bulk_part s p) out ≡ wrote (Ok (length s)) (laid s out)
  unfolding write_of bare_of
  bare_again h size out r room =
      let q = is_bare_lem form version s p e in
      let b : is_bare (form_in h) version ≡ true = bare_any (form_in h) version r (bare_rpc form version q.bare).1 in
      rw (q.known, b, bare_json, bare_bulk, le-leb (length s) (length out) room)

pub message_written_again : WrittenAgain
message_written_again form version s h size p out b e room = written_again form version s h size p e out b room

pub bare_written_again : BareAgain
bare_written_again form version s h size p out e r room = bare_again form version s p e h size out r room

pub parts_fit : PartsFit
parts_fit = record { json = json_length; bulk = bulk_length; bare = λ form version s p e. (bare_json form version s p e, bare_bulk form version s p e) }
