-- Every refusal of the reader and the writer is one of document 01's or of document 02's request A1. Assumes nothing.
use Prim.Native.Nat.{ℕ}
use mathlib.Core.Path.{◌≡◌, refl}
use mathlib.Core.Bool.{Bool}
use mathlib.Core.List.{List}
use lib.Dec.{eqb}
use lib.ListN.{length}
use borrow.Author.Tests.{eqb-false}
use Rattle.std.specs.Prelude.{Err}
use Rattle.figures.specs.Refusal.{Listed}
use Rattle.figures.proofs.Listed.{listed, ListedOrNone}
use Rattle.numbers.proofs.Choices.{either, unless_elim}
use Rattle.frame.specs.Rules.{known_version}
use Rattle.frame.proofs.Listed.{ListedIn, put_listed}
use Rattle.rpc.specs.Rules.{is_bare, kind_fits, id_fits, may_end, size_fault, fault_of}
use Rattle.rpc.specs.Layout.{form_in, fields_of}
use Rattle.rpc.specs.Read.{read_of}
use Rattle.rpc.specs.Write.{message_bytes, fault_for, bare_of, whole_of, write_of}
use Rattle.rpc.specs.ReadBack.{Reason, unknown, short, kind, id, past, after}
use Rattle.rpc.specs.declared.Form.{Form}
use Rattle.rpc.specs.declared.Fields.{Fields}
use Rattle.rpc.specs.declared.Header.{Header}
use Rattle.rpc.proofs.Answers.{refusals}

reason_listed : {form : Form} {version : ℕ} {s : List ℕ} {n : ℕ} → Reason form version s n → Listed n
reason_listed (unknown k) = listed 1 refl
reason_listed (short j l) = listed 40 refl
reason_listed (kind j l a) = listed 41 refl
reason_listed (id j l a b) = listed 42 refl
reason_listed (past j l a b c) = listed 43 refl
reason_listed (after j l a b c r) = listed 44 refl

pub read_listed : (form : Form) (version : ℕ) (s : List ℕ) (n : ℕ) → read_of form version s ≡ Err n → Listed n
read_listed form version s n e = reason_listed (refusals.why form version s n e)

size_listed : (form : Form) (fits ends : Bool) → ListedOrNone (size_fault form fits ends)
size_listed form fits ends =
    unless_elim ListedOrNone fits 43 _ (λ t z. listed 43 refl) λ t.
    unless_elim ListedOrNone (may_end form ends) 44 0 (λ t z. listed 44 refl) (λ t z. absurd (z refl))

fault_listed : (form : Form) (f : Fields) (fits ends : Bool) → ListedOrNone (fault_of form f fits ends)
unfolding fault_of
fault_listed form f fits ends =
    unless_elim ListedOrNone (kind_fits form f.kind) 41 _ (λ t z. listed 41 refl) λ t.
    unless_elim ListedOrNone (id_fits form f.id) 42 _ (λ t z. listed 42 refl) (λ t. size_listed form fits ends)

pub write_listed : (version : ℕ) (h : Header) (size : ℕ) (json bulk out : List ℕ) → ListedIn (write_of version h size json bulk out)
unfolding write_of whole_of bare_of
write_listed version h size json bulk out =
    let fault : ℕ = fault_for h size json bulk in
    unless_elim ListedIn (known_version version) _ _ (λ t. listed 1 refl) λ t.
    either ListedIn (is_bare (form_in h) version) _ _
    (λ b. unless_elim ListedIn (eqb (length bulk) 0) _ _ (λ u. listed 44 refl) (λ u. put_listed json out)) λ b.
    unless_elim ListedIn (eqb fault 0) _ _
    (λ u. fault_listed (form_in h) (fields_of h size) (eqb size (length json)) (eqb (length bulk) 0) (eqb-false fault 0 u))
    (λ u. put_listed (message_bytes h size json bulk) out)
