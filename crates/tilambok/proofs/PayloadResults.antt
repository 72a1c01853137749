-- A result tells which answer it was, for every call; a form's number names it; a writer that is done wrote what its result says;
-- fields are taken apart again. By the laws of payloads. Assumes nothing.
use Rattle.std.proofs.Common.{Result as Answer, Ok, Err, Option, Some, None}
use Prim.Native.Nat.{ℕ, ◌+◌, ◌^◌, ◌≤◌, ◌<◌}
use mathlib.Core.Path.{◌≡◌, refl, ap, ◌∙◌, sym}
use mathlib.Core.Bool.{Bool}
use mathlib.Core.List.{List, ◌++◌, append_assoc}
use native.Mathlib.Omega.{arith}
use lib.Dec.{eqb, leb}
use lib.ListN.{length, take, drop}
use lib.Seq.{take_at, drop_at, drop-drop}
use borrow.Author.Tests.{le-leb, lt-leb, ne_eqb, eqb-true, eqb-false}
use Rattle.numbers.specs.Bytes.{laid}
use Rattle.numbers.specs.Numbers.{bytes_be}
use Rattle.numbers.proofs.Laws.{length_be, read_written_be}
use Rattle.numbers.proofs.Choices.{either, unless_elim}
use Rattle.frame.specs.Rules.{known_version}
use Rattle.frame.specs.Write.{Wrote, wrote, put_of}
use Rattle.rpc.specs.Rules.{form_of, is_bare, kind_fits, id_fits, may_end, fault_of}
use Rattle.rpc.specs.Layout.{header_of, form_in, fields_of}
use Rattle.rpc.specs.Read.{read_of}
use Rattle.rpc.specs.Write.{message_bytes, fault_for, whole_of, bare_of, write_of}
use Rattle.rpc.specs.ReadBack.{Reason, unknown, short, kind, id, past, after}
use Rattle.rpc.specs.declared.Form.{Form}
use Rattle.rpc.specs.declared.Form.TheVariants.{Rpc, Bulk, Query}
use Rattle.rpc.specs.declared.Fields.{Fields}
use Rattle.rpc.specs.declared.Header.{Header}
use Rattle.rpc.specs.declared.Parts.{Parts}
use Rattle.rpc.specs.declared.Content.{Content}
use Rattle.rpc.specs.declared.Content.TheVariants.{Message, Bare}
use Rattle.rpc.proofs.Answers.{is_message, is_bare_lem, refusals}
use Rattle.rpc.proofs.Buffers.{message_length}
use Rattle.rpc.proofs.ThereAndBack.{form_back}
use Rattle.tilambok.specs.Status.{Result, left, IsRefusal}
use Rattle.tilambok.specs.Payloads.{form_from, form_number, form_result, field_bytes, fields_at, no_fields, told, read_in, start, written_from, tilambok_rpc_form, tilambok_read_rpc, tilambok_write_rpc}

-- ---- forms

pub form_named : (form : Form) → form_from (form_number form) ≡ Some form
unfolding form_from
form_named Rpc = refl
form_named Bulk = refl
form_named Query = refl

pub not_named : (n : ℕ) → 2 < n → form_from n ≡ None
unfolding form_from
not_named n h = rw (ne_eqb n 0 (λ e. omega arith), ne_eqb n 1 (λ e. omega arith), ne_eqb n 2 (λ e. omega arith))

-- what a result says
abbrev pub Tells : ℕ → ℕ → Result → Type 0
Tells status value r = (r.status ≡ status) × (r.value ≡ value)

-- of a refusal, where the lent number was value
abbrev pub TellsRefusal : ℕ → ℕ → Result → Type 0
TellsRefusal value n r = Tells n value r × IsRefusal n

abbrev pub TellsForm : ℕ → Option Form → Result → Type 0
TellsForm value (Some form) r = Tells 0 (form_number form) r
TellsForm value None r = TellsRefusal value 10 r

pub form_told : (service value : ℕ) → TellsForm value (form_of (record { 0 = service })) (tilambok_rpc_form service value)
form_told service value = told_of (form_of (record { 0 = service }))
  where
    told_of : (c : Option Form) → TellsForm value c (form_result value c)
    told_of (Some form) = (refl, refl)
    told_of None = ((refl, refl), (omega arith, omega arith))

-- ---- the reader

pub refusal_range : (form : Form) (version : ℕ) (s : List ℕ) (n : ℕ) → Reason form version s n → IsRefusal n
refusal_range form version s n (unknown k) = (omega arith, omega arith)
refusal_range form version s n (short j l) = (omega arith, omega arith)
refusal_range form version s n (kind j l a) = (omega arith, omega arith)
refusal_range form version s n (id j l a b) = (omega arith, omega arith)
refusal_range form version s n (past j l a b c) = (omega arith, omega arith)
refusal_range form version s n (after j l a b c r) = (omega arith, omega arith)

-- a payload that was read: done with the place where the JSON begins, or 11 where there is no room for its fields
abbrev pub TellsRead : List ℕ → ℕ → ℕ → Result → Type 0
TellsRead fields value begins r = (16 ≤ length fields → Tells 0 begins r) × (length fields < 16 → TellsRefusal value 11 r)

abbrev pub TellsReading : List ℕ → ℕ → Answer Content ℕ → Result → Type 0
TellsReading fields value (Ok (Message h size p)) r = TellsRead fields value 12 r
TellsReading fields value (Ok (Bare p)) r = TellsRead fields value 0 r
TellsReading fields value (Err n) r = TellsRefusal value n r

told_tells : (headed begins : ℕ) (f : Fields) (fields : List ℕ) (value : ℕ) → TellsRead fields value begins (told headed begins f fields value).result
unfolding told
told_tells headed begins f fields value =
    (λ l. rw (le-leb 16 (length fields) l) (refl, refl), λ l. rw (lt-leb 16 (length fields) l) ((refl, refl), (omega arith, omega arith)))

pub read_told : (form : Form) (version : ℕ) (payload fields : List ℕ) (value : ℕ)
    → TellsReading fields value (read_of form version payload) (tilambok_read_rpc (form_number form) version payload fields value).result
read_told form version payload fields value = rw (form_named form) (tells (read_of form version payload) refl)
  where
    tells : (r : Answer Content ℕ) → read_of form version payload ≡ r → TellsReading fields value r (read_in form version payload fields value).result
    tells (Ok (Message h size p)) e =
        let b : p.json ≡ 12 = ap (λ (q : Parts). q.json) (is_message form version payload h size p e).parts in
        rw (e, b) (told_tells 1 12 (fields_of h size) fields value)
    tells (Ok (Bare p)) e =
        let b : p.json ≡ 0 = ap (λ (q : Parts). q.json) (is_bare_lem form version payload p e).parts in
        rw (e, b) (told_tells 0 0 no_fields fields value)
    tells (Err n) e = rw e ((refl, refl), refusal_range form version payload n (refusals.why form version payload n e))

pub read_no_form : (n version : ℕ) (payload fields : List ℕ) (value : ℕ) → 2 < n → tilambok_read_rpc n version payload fields value ≡ left 10 fields value
read_no_form n version payload fields value h = rw (not_named n h)

pub write_no_form : (n version : ℕ) (f : Fields) (json bulk out : List ℕ) (value : ℕ) → 2 < n
    → tilambok_write_rpc n version f json bulk out value ≡ left 10 out value
write_no_form n version f json bulk out value h = rw (not_named n h)

-- ---- the writer

fault_most : (form : Form) (f : Fields) (fits ends : Bool) → fault_of form f fits ends ≤ 44
unfolding fault_of
fault_most form f fits ends =
    let P : ℕ → Type 0 = λ n. n ≤ 44 in
    unless_elim P (kind_fits form f.kind) 41 _ (λ t. omega arith) λ k.
    unless_elim P (id_fits form f.id) 42 _ (λ t. omega arith) λ i.
    unless_elim P fits 43 _ (λ t. omega arith) λ s.
    unless_elim P (may_end form ends) 44 0 (λ t. omega arith) (λ t. omega arith)

-- so many bytes are written, or the number is a refusal's and out is as it was
abbrev pub AnswerSays : List ℕ → ℕ → Answer ℕ ℕ → List ℕ → Type 0
AnswerSays out n (Ok m) b = m ≡ n
AnswerSays out n (Err m) b = IsRefusal m × (b ≡ out)

abbrev pub WriteSays : List ℕ → ℕ → Wrote → Type 0
WriteSays out n w = AnswerSays out n w.answer w.out

put_says : (bytes out : List ℕ) (n : ℕ) → length bytes ≡ n → WriteSays out n (put_of bytes out)
put_says bytes out n e =
    unless_elim (WriteSays out n) (leb (length bytes) (length out)) (wrote (Err 11) out)
    (wrote (Ok (length bytes)) (laid bytes out)) (λ t. ((omega arith, omega arith), refl)) (λ t. e)

write_says : (version : ℕ) (h : Header) (size : ℕ) (json bulk out : List ℕ)
    → WriteSays out (start (form_in h) version + length json + length bulk) (write_of version h size json bulk out)
unfolding write_of whole_of bare_of start
write_says version h size json bulk out =
    let n : ℕ = start (form_in h) version + length json + length bulk in
    let P : Wrote → Type 0 = WriteSays out n in
    let f : ℕ = fault_for h size json bulk in
    unless_elim P (known_version version) (wrote (Err 1) out) _ (λ t. ((omega arith, omega arith), refl)) λ k.
    either P (is_bare (form_in h) version) (bare_of json bulk out) (whole_of h size json bulk out)
    (λ b. unless_elim P (eqb (length bulk) 0) (wrote (Err 44) out) (put_of json out) (λ t. ((omega arith, omega arith), refl))
    (λ t. put_says json out n (rw b (omega (arith, eqb-true (length bulk) 0 t)))))
    (λ b. unless_elim P (eqb f 0) (wrote (Err f) out) (put_of (message_bytes h size json bulk) out)
    (λ t. ((omega (arith, eqb-false f 0 t), omega (arith, fault_most (form_in h) (fields_of h size) (eqb size (length json)) (eqb (length bulk) 0))), refl))
    (λ t. put_says (message_bytes h size json bulk) out n (rw b (message_length h size json bulk))))

abbrev pub TellsWritten : ℕ → ℕ → Answer ℕ ℕ → Result → Type 0
TellsWritten begins value (Ok n) r = Tells 0 begins r
TellsWritten begins value (Err n) r = TellsRefusal value n r

-- the writer's result, and how many bytes were written where it is done: those before the JSON, the JSON and the bulk data
pub write_told : (form : Form) (version : ℕ) (f : Fields) (json bulk out : List ℕ) (value : ℕ)
    → TellsWritten (start form version) value (write_of version (header_of form f) f.size json bulk out).answer
    (tilambok_write_rpc (form_number form) version f json bulk out value).result
write_told form version f json bulk out value =
    rw (form_named form)
    (tells (start (form_in (header_of form f)) version + length json + length bulk) w.answer (write_says version (header_of form f) f.size json bulk out))
  where
    w : Wrote
    w = write_of version (header_of form f) f.size json bulk out

    tells : (n : ℕ) (a : Answer ℕ ℕ) → AnswerSays out n a w.out → TellsWritten (start form version) value a (written_from (start form version) value a)
    tells n (Ok m) s = (refl, refl)
    tells n (Err m) s = ((refl, refl), s.0)

pub write_count : (form : Form) (version : ℕ) (f : Fields) (json bulk out : List ℕ)
    → WriteSays out (start form version + length json + length bulk) (write_of version (header_of form f) f.size json bulk out)
write_count form version f json bulk out = rw (form_back form f) at (write_says version (header_of form f) f.size json bulk out)

-- ---- fields taken apart again

pub fields_back : (headed begins : ℕ) (f : Fields) (o : List ℕ) → f.id < 2 ^ 32 → f.number < 2 ^ 32 → f.size < 2 ^ 32
    → fields_at (laid (field_bytes headed begins f) o) ≡ f
unfolding field_bytes fields_at
fields_back headed begins f o i n s =
    let a : List ℕ = bytes_be 4 f.id in
    let b : List ℕ = bytes_be 4 f.number in
    let c : List ℕ = bytes_be 4 f.size in
    let rest : List ℕ = drop (length (field_bytes headed begins f)) o in
    let all : (a ++ b ++ c) ++ rest ≡ a ++ (b ++ (c ++ rest)) = append_assoc (a ++ b) c rest ∙ append_assoc a b (c ++ rest) in
    let t₁ : take 4 ((a ++ b ++ c) ++ rest) ≡ a = rw all (take_at a (b ++ (c ++ rest)) 4 (length_be 4 f.id)) in
    let d₁ : drop 4 ((a ++ b ++ c) ++ rest) ≡ b ++ (c ++ rest) = rw all (drop_at a (b ++ (c ++ rest)) 4 (length_be 4 f.id)) in
    let t₂ : take 4 (b ++ (c ++ rest)) ≡ b = take_at b (c ++ rest) 4 (length_be 4 f.number) in
    let d₂ : drop 4 (b ++ (c ++ rest)) ≡ c ++ rest = drop_at b (c ++ rest) 4 (length_be 4 f.number) in
    let d₃ : drop 8 ((a ++ b ++ c) ++ rest) ≡ c ++ rest = sym (drop-drop 4 4 ((a ++ b ++ c) ++ rest)) ∙ ap (drop 4) d₁ ∙ d₂ in
    rw (t₁, d₁, t₂, d₃, take_at c rest 4 (length_be 4 f.size), read_written_be 4 f.id i, read_written_be 4 f.number n, read_written_be 4 f.size s)
