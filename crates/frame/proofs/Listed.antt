-- Every refusal of this crate is one of document 01's: of a header, of the reader, of the two writers. Assumes nothing.
use Prim.Native.Nat.{ℕ, ◌≤◌}
use mathlib.Core.Path.{◌≡◌, refl, sym, ◌∙◌}
use mathlib.Core.List.{List}
use native.Mathlib.Omega.{arith}
use lib.Dec.{eqb, leb}
use lib.ListN.{length}
use borrow.Author.Tests.{eqb-false}
use Rattle.std.specs.Prelude.{false, IfErr}
use Rattle.figures.specs.Refusal.{Listed}
use Rattle.figures.proofs.Listed.{listed, listed_run}
use Rattle.numbers.proofs.Choices.{unless_elim}
use Rattle.frame.specs.declared.Header.{Header}
use Rattle.frame.specs.declared.Reading.TheVariants.{Refused}
use Rattle.frame.specs.Rules.{fault_of}
use Rattle.frame.specs.Read.{front_of, read_of}
use Rattle.frame.specs.Write.{Wrote, header_bytes, frame_bytes, put_of, write_header_of, write_of}
use Rattle.frame.proofs.Laws.{fault_most}
use Rattle.frame.proofs.Answers.{is_refused}

-- 1 to 6
pub fault_listed : (h : Header) {n : ℕ} → n ≡ fault_of h → 1 ≤ n → Listed n
fault_listed h {n} e l = listed_run 1 6 n refl l (omega (arith, e, fault_most h))

pub read_listed : (s : List ℕ) (n : ℕ) → read_of s ≡ Refused n → Listed n
read_listed s n e =
    let r = is_refused s n e in
    let some : n ≡ 0 → ⊥ = λ z. r.some (sym r.fault ∙ z) in
    fault_listed (front_of s) r.fault (omega arith)

-- what a writer leaves: where its answer is a refusal, it is one of those
abbrev pub ListedIn : Wrote → Type 0
ListedIn w = IfErr w.answer Listed

pub put_listed : (bytes out : List ℕ) → ListedIn (put_of bytes out)
put_listed bytes out = unless_elim ListedIn (leb (length bytes) (length out)) _ _ (λ t. listed 11 refl) (λ t. tt)

some_fault : (h : Header) → eqb (fault_of h) 0 ≡ false → Listed (fault_of h)
some_fault h t = let n : fault_of h ≡ 0 → ⊥ = eqb-false (fault_of h) 0 t in fault_listed h refl (omega arith)

pub write_header_listed : (h : Header) (out : List ℕ) → ListedIn (write_header_of h out)
unfolding write_header_of
write_header_listed h out = unless_elim ListedIn (eqb (fault_of h) 0) _ _ (some_fault h) (λ t. put_listed (header_bytes h) out)

pub write_listed : (h : Header) (payload out : List ℕ) → ListedIn (write_of h payload out)
unfolding write_of
write_listed h payload out =
    unless_elim ListedIn (eqb (fault_of h) 0) _ _ (some_fault h) λ t.
    unless_elim ListedIn (eqb h.size (length payload)) _ _ (λ u. listed 6 refl) (λ u. put_listed (frame_bytes h payload) out)
