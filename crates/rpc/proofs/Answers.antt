-- The reader's laws: each answer from its tests, and what each answer says of the payload.
-- Assumes nothing.
use Prim.Native.Nat.{ℕ, ◌-◌, ◌≤◌}
use mathlib.Core.Path.{◌≡◌, refl, ◌∙◌, sym, subst}
use mathlib.Core.Bool.{Bool, true, false, ◌||◌, not}
use mathlib.Core.List.{List}
use native.Mathlib.Omega.{arith}
use lib.Dec.{eqb, leb}
use lib.ListN.{length}
use borrow.Author.Tests.{eq-eqb, ne_eqb, le-leb, lt-leb, leb-true, leb-false, eqb-true, eqb-false}
use Rattle.std.specs.Prelude.{Result, Ok, Err}
use Rattle.numbers.proofs.Choices.{either, unless_elim}
use Rattle.frame.specs.Rules.{known_version}
use Rattle.rpc.specs.Rules.{is_rpc, is_bare, kind_fits, id_fits, may_end, fault_of}
use Rattle.rpc.specs.Layout.{fields_in, header_of}
use Rattle.rpc.specs.Read.{parts_of, bare_parts, fault_in, message_in, read_of}
use Rattle.rpc.specs.ReadBack.{Judged, Reason, unknown, short, kind, id, past, after, Refusals}
use Rattle.rpc.specs.declared.Form.{Form}
use Rattle.rpc.specs.declared.Fields.{Fields}
use Rattle.rpc.specs.declared.Header.{Header}
use Rattle.rpc.specs.declared.Parts.{Parts}
use Rattle.rpc.specs.declared.Content.{Content}
use Rattle.rpc.specs.declared.Content.TheVariants.{Message, Bare}

-- the two ways of a payload of 12 bytes or more; f and n are what code made of it
module _ (form : Form) (s : List ℕ) (n : ℕ) (f : Fields) where
  pub message_refused : f ≡ fields_in form s → n ≡ fault_of form f (leb f.size (length s - 12)) (leb (length s - 12) f.size) → (n ≡ 0 → ⊥)
      → Err n ≡ message_in form s
  unfolding message_in
  message_refused e g h =
      let k : n ≡ fault_in form s = rw e at g in
      rw (← k, ne_eqb n 0 h)

  pub message_read : (h : Header) → f ≡ fields_in form s → n ≡ fault_of form f (leb f.size (length s - 12)) (leb (length s - 12) f.size) → n ≡ 0
      → h ≡ header_of form f
      → Ok (Message h f.size (parts_of s f.size)) ≡ message_in form s
  unfolding message_in
  message_read h e g z i =
      let k : fault_in form s ≡ 0 = sym (rw e at g) ∙ z in
      let j : h ≡ header_of form (fields_in form s) = rw e at i in
      rw (e, j, eq-eqb (fault_in form s) 0 k)

-- the reader's other ways, each from its tests
module _ (form : Form) (version : ℕ) (s : List ℕ) where
  pub read_bare : known_version version ≡ true → is_bare form version ≡ true → read_of form version s ≡ Ok (Bare (bare_parts s))
  unfolding read_of
  read_bare k b = rw (k, b)

  pub read_judged : Judged form version → 12 ≤ length s → read_of form version s ≡ message_in form s
  unfolding read_of
  read_judged j l = rw (j.known, j.headed, le-leb 12 (length s) l)

-- what an answer says of the payload
pub record IsMessage (form : Form) (version : ℕ) (s : List ℕ) (h : Header) (size : ℕ) (p : Parts) : Type 0 where
  pub judged : Judged form version
  pub long : 12 ≤ length s
  pub sound : fault_in form s ≡ 0
  pub header : h ≡ header_of form (fields_in form s)
  pub sized : size ≡ (fields_in form s).size
  pub parts : p ≡ parts_of s (fields_in form s).size

pub record IsBare (form : Form) (version : ℕ) (s : List ℕ) (p : Parts) : Type 0 where
  pub known : known_version version ≡ true
  pub bare : is_bare form version ≡ true
  pub parts : p ≡ bare_parts s

abbrev pub Says : Form → ℕ → List ℕ → Result Content ℕ → Type 0
Says form version s (Ok (Message h size p)) = IsMessage form version s h size p
Says form version s (Ok (Bare p)) = IsBare form version s p
Says form version s (Err n) = Reason form version s n

ends_not : (form : Form) (b : Bool) → may_end form b ≡ false → (b ≡ false) × (is_rpc form ≡ true)
ends_not form b e = apart b (is_rpc form) e
  where
    apart : (b r : Bool) → b || not r ≡ false → (b ≡ false) × (r ≡ true)
    apart true true e = (e, refl)
    apart true false e = (e, sym e)
    apart false true e = (refl, refl)
    apart false false e = (refl, sym e)

-- 41 to 44, by the tests of `fault_of`
module _ (form : Form) (version : ℕ) (s : List ℕ) (j : Judged form version) (l : 12 ≤ length s) where
  fault_says : (fault_in form s ≡ 0 → ⊥) → Reason form version s (fault_in form s)
  unfolding fault_of
  fault_says z =
      let f : Fields = fields_in form s in
      let P : ℕ → Type 0 = λ n. (n ≡ 0 → ⊥) → Reason form version s n in
      unless_elim P (kind_fits form f.kind) 41 _ (λ t y. kind j l t) (λ t₁.
      unless_elim P (id_fits form f.id) 42 _ (λ t y. id j l t₁ t) (λ t₂.
      unless_elim P (leb f.size (length s - 12)) 43 _ (λ t y. past j l t₁ t₂ (leb-false f.size (length s - 12) t)) (λ t₃.
      unless_elim P (may_end form (leb (length s - 12) f.size)) 44 0
      (λ t y. let e = ends_not form (leb (length s - 12) f.size) t in after j l t₁ t₂ (leb-false (length s - 12) f.size e.0) e.1)
      (λ t y. absurd (y refl))))) z

  message_says : Says form version s (message_in form s)
  unfolding message_in
  message_says =
      unless_elim (Says form version s) (eqb (fault_in form s) 0) (Err (fault_in form s)) _ (λ t. fault_says (eqb-false (fault_in form s) 0 t))
      (λ t. record { judged = j; long = l; sound = eqb-true (fault_in form s) 0 t; header = refl; sized = refl; parts = refl })

pub read_says : (form : Form) (version : ℕ) (s : List ℕ) → Says form version s (read_of form version s)
unfolding read_of
read_says form version s =
    unless_elim (Says form version s) (known_version version) (Err 1) _ unknown λ k.
    either (Says form version s) (is_bare form version) (Ok (Bare (bare_parts s))) _ (λ b. record { known = k; bare = b; parts = refl }) λ b.
    let j : Judged form version = record { known = k; headed = b } in
    unless_elim (Says form version s) (leb 12 (length s)) (Err 40) (message_in form s) (λ t. short j (leb-false 12 (length s) t))
    (λ t. message_says form version s j (leb-true 12 (length s) t))

pub is_message : (form : Form) (version : ℕ) (s : List ℕ) (h : Header) (size : ℕ) (p : Parts) → read_of form version s ≡ Ok (Message h size p)
    → IsMessage form version s h size p
is_message form version s h size p e = subst (Says form version s) e (read_says form version s)

pub is_bare_lem : (form : Form) (version : ℕ) (s : List ℕ) (p : Parts) → read_of form version s ≡ Ok (Bare p) → IsBare form version s p
is_bare_lem form version s p e = subst (Says form version s) e (read_says form version s)

-- a fault is the answer
fault_given : (form : Form) (version : ℕ) (s : List ℕ) (n : ℕ) → Judged form version → 12 ≤ length s → fault_in form s ≡ n → (n ≡ 0 → ⊥)
    → read_of form version s ≡ Err n
fault_given form version s n j l e z =
    read_judged form version s j l ∙ sym (message_refused form s n (fields_in form s) refl (sym e) z)

reason_given : (form : Form) (version : ℕ) (s : List ℕ) (n : ℕ) → Reason form version s n → read_of form version s ≡ Err n
unfolding read_of fault_of
reason_given form version s n (unknown k) = rw k
reason_given form version s n (short j l) = rw (j.known, j.headed, lt-leb 12 (length s) l)
reason_given form version s n (kind j l a) = fault_given form version s 41 j l (rw a) (λ z. omega arith)
reason_given form version s n (id j l a b) = fault_given form version s 42 j l (rw (a, b)) (λ z. omega arith)
reason_given form version s n (past j l a b c) =
    fault_given form version s 43 j l (rw (a, b, lt-leb (fields_in form s).size (length s - 12) c)) (λ z. omega arith)
reason_given form version s n (after j l a b c r) =
    fault_given form version s 44 j l
    (rw (a, b, le-leb (fields_in form s).size (length s - 12) (omega arith), lt-leb (length s - 12) (fields_in form s).size c, r))
    (λ z. omega arith)

pub refusals : Refusals
refusals = record { why = λ form version s n e. subst (Says form version s) e (read_says form version s); so = reason_given }
