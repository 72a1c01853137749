-- The ways of the functions: the fields laid piece by piece, and what is told of each answer of the reader.
-- Assumes nothing.
use Rattle.std.proofs.Common.{Result as Answer, Ok}
use Prim.Native.Nat.{ℕ, ◌≤◌, ◌<◌}
use mathlib.Core.Path.{◌≡◌, refl, ap, ◌∙◌, sym}
use mathlib.Core.List.{List, [], ◌∷◌, ◌++◌}
use native.Mathlib.Omega.{arith}
use lib.ListN.{length, set, length-append}
use borrow.Author.Tests.{le-leb, lt-leb}
use Rattle.numbers.specs.Bytes.{put_at, laid}
use Rattle.numbers.specs.Numbers.{bytes_be}
use Rattle.numbers.proofs.Laws.{length_be}
use Rattle.frame.proofs.Buffers.{four_stored, number_put}
use Rattle.rpc.specs.Layout.{fields_of}
use Rattle.rpc.specs.Read.{read_of}
use Rattle.rpc.specs.declared.Form.{Form}
use Rattle.rpc.specs.declared.Fields.{Fields}
use Rattle.rpc.specs.declared.Header.{Header}
use Rattle.rpc.specs.declared.Parts.{Parts}
use Rattle.rpc.specs.declared.Content.{Content}
use Rattle.rpc.specs.declared.Content.TheVariants.{Message, Bare}
use Rattle.rpc.proofs.Answers.{is_message, is_bare_lem}
use Rattle.tilambok.specs.Status.{Result, done, left}
use Rattle.tilambok.specs.Payloads.{field_bytes, no_fields, told, read_in}

-- four bytes stored, and then three numbers put
pub fields_put : (headed begins : ℕ) (f : Fields) (o q r s : List ℕ) → 16 ≤ length o
    → q ≡ put_at (set (set (set (set o 0 headed) 1 f.kind) 2 begins) 3 0) 4 4 (bytes_be 4 f.id)
    → r ≡ put_at q 8 4 (bytes_be 4 f.number)
    → s ≡ put_at r 12 4 (bytes_be 4 f.size)
    → s ≡ laid (field_bytes headed begins f) o
unfolding field_bytes
fields_put headed begins f o q r s h e₁ e₂ e₃ =
    let a : List ℕ = headed ∷ f.kind ∷ begins ∷ 0 ∷ [] in
    let b : List ℕ = a ++ bytes_be 4 f.id in
    let l : length b ≡ 8 = rw (length_be 4 f.id) in
    let m : length (b ++ bytes_be 4 f.number) ≡ 12 = length-append b (bytes_be 4 f.number) ∙ rw (l, length_be 4 f.number) in
    let q₁ : q ≡ laid b o = number_put a f.id 4 o _ q refl (omega arith) (four_stored o headed f.kind begins 0 (omega arith)) e₁ in
    number_put (b ++ bytes_be 4 f.number) f.size 12 o r s m (omega arith) (number_put b f.number 8 o q r l (omega arith) q₁ e₂) e₃

-- a payload is told where there is room for its fields, and else refused with 11
pub told_all : (headed begins : ℕ) (f : Fields) (fields : List ℕ) (value : ℕ) (r : Result) (b : List ℕ) → 16 ≤ length fields → r ≡ done begins
    → b ≡ laid (field_bytes headed begins f) fields
    → record { result = r; lent = b } ≡ told headed begins f fields value
unfolding told
told_all headed begins f fields value r b h e g = rw (le-leb 16 (length fields) h, e, g)

pub told_few : (headed begins : ℕ) (f : Fields) (fields : List ℕ) (value s : ℕ) → length fields < 16 → s ≡ 11
    → left s fields value ≡ told headed begins f fields value
unfolding told
told_few headed begins f fields value s h e = rw (lt-leb 16 (length fields) h, e)

-- what is told where the answer x is a message: f is what code made of it
module _ (form : Form) (version : ℕ) (s : List ℕ) (x : Answer Content ℕ) (h : Header) (size : ℕ) (p : Parts) (f : Fields) (e : x ≡ read_of form version s)
    (g : x ≡ Ok (Message h size p)) (i : f ≡ fields_of h size) where
  read : read_of form version s ≡ Ok (Message h size p)
  read = sym e ∙ g

  pub as_message : (fields : List ℕ) (value : ℕ) → told 1 12 f fields value ≡ read_in form version s fields value
  as_message fields value =
      let begins : p.json ≡ 12 = ap (λ (q : Parts). q.json) (is_message form version s h size p read).parts in
      rw (read, begins, i)

-- and where it is JSON alone
pub as_bare : (form : Form) (version : ℕ) (s fields : List ℕ) (value : ℕ) (x : Answer Content ℕ) (p : Parts) (f : Fields) → x ≡ read_of form version s → x ≡ Ok (Bare p)
    → f ≡ no_fields
    → told 0 0 f fields value ≡ read_in form version s fields value
as_bare form version s fields value x p f e g i =
    let r : read_of form version s ≡ Ok (Bare p) = sym e ∙ g in
    let begins : p.json ≡ 0 = ap (λ (q : Parts). q.json) (is_bare_lem form version s p r).parts in
    rw (r, begins, i)
