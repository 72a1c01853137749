-- What the proof of `document` and `element` cites: the loop over the elements says of the rest what the document says of all,
-- by some bound that is enough; one lemma for each outcome; and the code's steps stand for the definition's walks. Assumes nothing.
use Prim.Native.Nat.{ℕ, zero, suc, ◌+◌, ◌-◌, ◌≤◌, ◌<◌}
use mathlib.Core.Path.{◌≡◌, refl, ◌∙◌, sym, subst}
use mathlib.Core.List.{List}
use mathlib.Core.Bool.{Bool, true, false}
use native.Mathlib.Omega.{arith}
use lib.ListN.{get_or}
use borrow.Author.Tests.{eq-eqb, ne_eqb, lt-ltb, le-ltb, le-leb}
use Rattle.std.specs.Prelude.{Result, ok_or, Option, Some, None, Ok, Err}
use Rattle.numbers.specs.Bytes.{part}
use Rattle.numbers.proofs.Choices.{unless_elim}
use Rattle.numbers.specs.Numbers.{value_le}
use Rattle.payload.specs.Tags.{with_tag}
use Rattle.payload.specs.Step.{Step, stepped}
use Rattle.payload.specs.Walk.{Walk, nests, plain_of, head_of, Nested, element_of, elements, document_fits, document_of}
use Rattle.payload.specs.declared.Tags.{Tags}
use Rattle.payload.specs.declared.Tag.{Tag}
use Rattle.payload.proofs.Within.{WalkIn, head_in, Inside, element_in, document_fits_lem}
use Rattle.payload.proofs.TopLevel.{NestedKeeps}

-- the elements from at on say what the whole says, by a bound that is enough
pub record Rest (nested : Nested) (top : Bool) (s : List ℕ) (end : ℕ) (whole : Walk) (at : ℕ) (t : Tags) : Type 0 where
  pub bound : ℕ
  pub suffices : end - at ≤ bound
  pub says : elements bound nested top s at end t ≡ whole

module _ {nested : Nested} {top : Bool} {s : List ℕ} {end : ℕ} {whole : Walk} {at : ℕ} {t : Tags} (r : Rest nested top s end whole at t) where
  used_up : (b : ℕ) → end ≤ at → elements b nested top s at end t ≡ whole → Err 32 ≡ whole
  unfolding elements
  used_up zero h e = e
  used_up (suc b) h e = rw (le-ltb at end h) at e

  pub rest_used_up : end ≤ at → Err 32 ≡ whole
  rest_used_up h = used_up r.bound h r.says

  module _ (h : at < end) where
    -- one turn of the definition
    turn : (b : ℕ) × (end - at ≤ suc b) × (elements (suc b) nested top s at end t ≡ whole)
    turn = go r.bound r.suffices r.says
      where
        go : (b : ℕ) → end - at ≤ b → elements b nested top s at end t ≡ whole → (b : ℕ) × (end - at ≤ suc b) × (elements (suc b) nested top s at end t ≡ whole)
        go zero l e = absurd (omega arith)
        go (suc b) l e = (b, l, e)

    pub rest-closes : get_or s at 0 ≡ 0 → at + 1 ≡ end → Ok (end, t) ≡ whole
    unfolding elements
    rest-closes z k = rw (lt-ltb at end h, eq-eqb (get_or s at 0) 0 z, eq-eqb (at + 1) end k) at turn.2

    pub rest-early : get_or s at 0 ≡ 0 → (at + 1 ≡ end → ⊥) → Err 32 ≡ whole
    unfolding elements
    rest-early z k = rw (lt-ltb at end h, eq-eqb (get_or s at 0) 0 z, ne_eqb (at + 1) end k) at turn.2

    -- by the code's step, which stands for the element's walk
    module _ (z : get_or s at 0 ≡ 0 → ⊥) {step : Step} (e : stepped s t step ≡ element_of nested top s at end t) where
      pub rest-fault : {k : ℕ} → step ≡ Err k → Err k ≡ whole
      unfolding elements
      rest-fault f = rw (lt-ltb at end h, ne_eqb (get_or s at 0) 0 z, ← e, f) at turn.2

      pub rest-next : Inside nested → {q : ℕ} {tag : Tag} {v : ℕ} → step ≡ Ok (q, tag, v) → {u : Tags} → u ≡ with_tag s t tag v → (at < q) × (q ≤ end) × Rest nested top s end whole q u
      unfolding elements
      rest-next i {q} f {u} g =
          let w : element_of nested top s at end t ≡ Ok (q, u) = sym e ∙ rw (f, g) in
          let n : WalkIn (at + 1) end (Ok (q, u)) = subst (WalkIn (at + 1) end) w (element_in nested i top s at end t) in
          (omega arith, n.1, record { bound = turn.0; suffices = omega (arith, turn.1); says = rw (lt-ltb at end h, ne_eqb (get_or s at 0) 0 z, w) at turn.2 })

-- a document, by the tests that were made
module _ (top : Bool) (s : List ℕ) (at end : ℕ) (t : Tags) where
  pub document_deep : (levels : ℕ) → levels ≡ 0 → Err 33 ≡ document_of levels top s at end t
  unfolding document_of
  document_deep levels e = rw e

  module _ (n : ℕ) (e : n ≡ value_le (part s at 4)) where
    -- refused where its length does not fit
    pub document-wrong : (levels : ℕ) → (levels ≡ 0 → ⊥) → (4 ≤ end - at → 5 ≤ n → n ≤ end - at → ⊥) → Err 32 ≡ document_of levels top s at end t
    unfolding document_of
    document-wrong zero p out = absurd (p refl)
    document-wrong (suc levels) p out =
        rw (← e) (unless_elim (λ (w : Walk). Err 32 ≡ w) (document_fits at end n) (Err 32) _ (λ f. refl) (λ f. let g = document_fits_lem at end n f in absurd (out g.0 g.1 g.2)))

    pub document-elements : (levels : ℕ) → (levels ≡ 0 → ⊥) → 4 ≤ end - at → 5 ≤ n → n ≤ end - at
        → elements n (document_of (levels - 1) false s) top s (at + 4) (at + n) t ≡ document_of levels top s at end t
    unfolding document_of
    document-elements zero p a b c = absurd (p refl)
    document-elements (suc levels) p a b c =
        let q : suc levels - 1 ≡ levels = omega arith in
        rw (q, ← e, le-leb 4 (end - at) a, le-leb 5 n b, le-leb n (end - at) c)

-- a value's place by `ok_or`: that of the option, or 32 for none
pub some_place : (o : Option ℕ) {r : Result ℕ ℕ} {n : ℕ} → r ≡ ok_or o 32 → r ≡ Ok n → o ≡ Some n
some_place o e f = grind arith

pub no_place : (o : Option ℕ) {r : Result ℕ ℕ} {k : ℕ} → r ≡ ok_or o 32 → r ≡ Err k → (o ≡ None) × (k ≡ 32)
no_place o e f = (grind arith, grind arith)

-- an element, by what stands before its value
pub value_inside : (top : Bool) (s : List ℕ) (at end : ℕ) (t : Tags) {kind : ℕ} {tag : Tag} {v : ℕ} → head_of top s at end t ≡ Ok (kind, tag, v) → (at + 1 ≤ v) × (v ≤ end)
value_inside top s at end t h = rw h at (head_in top s at end t)

module _ (nested : Nested) (top : Bool) (s : List ℕ) (at end : ℕ) (t : Tags) where
  pub element_bad : {k : ℕ} → head_of top s at end t ≡ Err k → Err k ≡ element_of nested top s at end t
  unfolding element_of
  element_bad h = rw h

  module _ {kind : ℕ} {tag : Tag} {v : ℕ} (h : head_of top s at end t ≡ Ok (kind, tag, v)) where
    -- by the place past a value that holds no document, or none
    module _ (n : nests kind ≡ false) where
      pub element-plain : {next : ℕ} → plain_of s v end kind ≡ Some next → Ok (next, with_tag s t tag v) ≡ element_of nested top s at end t
      unfolding element_of
      element-plain e = rw (h, n, e)

      pub element-malformed : plain_of s v end kind ≡ None → Err 32 ≡ element_of nested top s at end t
      unfolding element_of
      element-malformed e = rw (h, n, e)

    -- by the walk of a document, whose tags do not count, so that the step need not hand them up
    module _ (n : nests kind ≡ true) where
      pub element-nested : NestedKeeps nested → {next : ℕ} {u : Tags} → nested v end t ≡ Ok (next, u) → Ok (next, with_tag s t tag v) ≡ element_of nested top s at end t
      unfolding element_of
      element-nested keeps e = let k = rw e at (keeps v end t) in rw (h, n, e, k)

      pub element-fault : {k : ℕ} → nested v end t ≡ Err k → Err k ≡ element_of nested top s at end t
      unfolding element_of
      element-fault e = rw (h, n, e)
