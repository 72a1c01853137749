-- What is accepted lies inside its document, and the bound on the number of elements never decides an answer.
-- By the tests of the definitions, whose cases stand first; the second by induction on both bounds, since each element takes at least one byte.
-- Assumes nothing.
use Prim.Native.Nat.{ℕ, zero, suc, ◌+◌, ◌-◌, ◌≤◌, ◌<◌}
use mathlib.Core.Path.{◌≡◌, refl, ap}
use mathlib.Core.List.{List}
use mathlib.Core.Bool.{Bool, true, false, ◌&&◌}
use native.Mathlib.Omega.{arith}
use lib.ListN.{get_or}
use lib.Dec.{leb, ltb, eqb}
use borrow.Author.Tests.{ltb-true, leb-true, le-ltb, eqb-true}
use Rattle.std.specs.Prelude.{Option, Some, None, Ok, Err}
use Rattle.numbers.specs.Bytes.{part, pick, unless}
use Rattle.numbers.specs.Numbers.{value_le}
use Rattle.numbers.proofs.Choices.{and_both, either, unless_elim}
use Rattle.payload.specs.Tags.{clashes}
use Rattle.payload.specs.Walk.{Head, Walk, read_type, nests, fixed_of, boolean_of, string_fits, string_of, plain_of, tag_at, key_stop, head_of, past_plain, past_nested, Nested, value_of, element_of, and_then, elements, document_fits, document_of}
use Rattle.payload.specs.declared.Tags.{Tags}
use Rattle.payload.specs.declared.Tag.{Tag}

-- what holds of a head, an element or the elements, by what holds in each case of their definitions
pub head_by : (P : Head → Type 0) (top : Bool) (s : List ℕ) (at end : ℕ) (t : Tags) → P (Err 31) → P (Err 32) → P (Err 34)
    → (key_stop s at end < end → clashes t (tag_at top s (at + 1) (key_stop s at end)) (get_or s at 0) ≡ false → P (Ok (get_or s at 0, tag_at top s (at + 1) (key_stop s at end), key_stop s at end + 1)))
    → P (head_of top s at end t)
unfolding head_of
head_by P top s at end t a b c f =
    unless_elim P (read_type (get_or s at 0)) _ _ (λ e. a)
    (λ e. unless_elim P (ltb (key_stop s at end) end) _ _ (λ e. b)
    (λ l. either P (clashes t (tag_at top s (at + 1) (key_stop s at end)) (get_or s at 0)) _ _ (λ e. c) (λ e. f (ltb-true (key_stop s at end) end l) e)))

pub element_by : (P : Walk → Type 0) (Q : Head → Type 0) (nested : Nested) (top : Bool) (s : List ℕ) (at end : ℕ) (t : Tags) → Q (head_of top s at end t) → ((k : ℕ) → Q (Err k) → P (Err k))
    → ((kind : ℕ) (tag : Tag) (v : ℕ) → Q (Ok (kind, tag, v)) → nests kind ≡ true → P (past_nested s (nested v end t) tag v))
    → ((kind : ℕ) (tag : Tag) (v : ℕ) → Q (Ok (kind, tag, v)) → nests kind ≡ false → P (past_plain s (plain_of s v end kind) t tag v))
    → P (element_of nested top s at end t)
unfolding element_of
element_by P Q nested top s at end t q bad document plain = go (head_of top s at end t) q
  where
    go : (x : Head) → Q x → P (value_of nested s end t x)
    go (Err k) h = bad k h
    go (Ok (kind, tag, v)) h = either P (nests kind) _ _ (λ e. document kind tag v h e) (λ e. plain kind tag v h e)

pub elements_by : (P : Tags → Walk → Type 0) (nested : Nested) (top : Bool) (s : List ℕ) (end : ℕ) → ((t : Tags) → P t (Err 32)) → ((t : Tags) → P t (Ok (end, t)))
    → ((at : ℕ) (t : Tags) (rest : ℕ → Tags → Walk) → ((n : ℕ) (u : Tags) → P u (rest n u)) → P t (and_then (element_of nested top s at end t) rest))
    → (bound at : ℕ) (t : Tags) → P t (elements bound nested top s at end t)
unfolding elements
elements_by P nested top s end f z g zero at t = f t
elements_by P nested top s end f z g (suc bound) at t =
    unless_elim (P t) (ltb at end) _ _ (λ e. f t)
    (λ e. either (P t) (eqb (get_or s at 0) 0) _ _ (λ e. unless_elim (P t) (eqb (at + 1) end) (Err 32) (Ok (end, t)) (λ e. f t) (λ e. z t))
    (λ e. g at t _ (λ n u. elements_by P nested top s end f z g bound n u)))

-- what is accepted ends from lo up to hi
abbrev pub SkipIn : ℕ → ℕ → Option ℕ → Type 0
SkipIn lo hi (Some n) = (lo ≤ n) × (n ≤ hi)
SkipIn lo hi None = Unit {0}

abbrev pub HeadIn : ℕ → ℕ → Head → Type 0
HeadIn lo hi (Ok (kind, tag, v)) = (lo ≤ v) × (v ≤ hi)
HeadIn lo hi (Err k) = Unit {0}

abbrev pub WalkIn : ℕ → ℕ → Walk → Type 0
WalkIn lo hi (Ok (n, t)) = (lo ≤ n) × (n ≤ hi)
WalkIn lo hi (Err k) = Unit {0}

-- what the tests of a string's and of a document's length say
pub string_fits_lem : (s : List ℕ) (v end n : ℕ) → string_fits s v end n ≡ true → (4 ≤ end - v) × (1 ≤ n) × (n ≤ end - v - 4) × (get_or s (v + 3 + n) 0 ≡ 0)
string_fits_lem s v end n e =
    let a = and_both (leb 4 (end - v)) _ e in
    let b = and_both (leb 1 n) _ a.1 in
    let c = and_both (leb n (end - v - 4)) _ b.1 in
    (leb-true 4 (end - v) a.0, leb-true 1 n b.0, leb-true n (end - v - 4) c.0, eqb-true (get_or s (v + 3 + n) 0) 0 c.1)

pub document_fits_lem : (at end n : ℕ) → document_fits at end n ≡ true → (4 ≤ end - at) × (5 ≤ n) × (n ≤ end - at)
document_fits_lem at end n e =
    let a = and_both (leb 4 (end - at)) _ e in
    let b = and_both (leb 5 n) _ a.1 in
    (leb-true 4 (end - at) a.0, leb-true 5 n b.0, leb-true n (end - at) b.1)

module _ (s : List ℕ) (v end : ℕ) (h : v ≤ end) where
  fixed_in : (w : ℕ) → SkipIn v end (fixed_of w v end)
  unfolding fixed_of
  fixed_in w = either (SkipIn v end) (leb w (end - v)) (Some (v + w)) None (λ e. omega (arith, leb-true w (end - v) e)) (λ e. tt)

  boolean_in : SkipIn v end (boolean_of s v end)
  unfolding boolean_of
  boolean_in =
      either (SkipIn v end) (ltb v end && ltb (get_or s v 0) 2) (Some (v + 1)) None
      (λ e. omega (arith, ltb-true v end (and_both (ltb v end) _ e).0))
      (λ e. tt)

  string_in : SkipIn v end (string_of s v end)
  unfolding string_of
  string_in =
      let n = value_le (part s v 4) in
      either (SkipIn v end) (string_fits s v end n) (Some (v + 4 + n)) None (λ e. omega (arith, string_fits_lem s v end n e)) (λ e. tt)

  pub plain_in : (kind : ℕ) → SkipIn v end (plain_of s v end kind)
  unfolding plain_of
  plain_in kind =
      either (SkipIn v end) (eqb kind 0x02) _ _ (λ e. string_in)
      (λ e. either (SkipIn v end) (eqb kind 0x08) _ _ (λ e. boolean_in)
      (λ e. either (SkipIn v end) (eqb kind 0x0A) _ _ (λ e. fixed_in 0)
      (λ e. either (SkipIn v end) (eqb kind 0x10) _ _ (λ e. fixed_in 4)
      (λ e. either (SkipIn v end) (eqb kind 0x01) _ _ (λ e. fixed_in 8)
      (λ e. either (SkipIn v end) (eqb kind 0x12) _ _ (λ e. fixed_in 8) (λ e. tt))))))

pub head_in : (top : Bool) (s : List ℕ) (at end : ℕ) (t : Tags) → HeadIn (at + 1) end (head_of top s at end t)
head_in top s at end t = head_by (HeadIn (at + 1) end) top s at end t tt tt tt (λ l c. omega arith)

-- a walk that keeps inside the document around it
abbrev pub Inside : Nested → Type 0
Inside nested = (v end : ℕ) (t : Tags) → v ≤ end → WalkIn v end (nested v end t)

nested_in : (s : List ℕ) (lo v hi : ℕ) (w : Walk) (tag : Tag) → lo ≤ v → WalkIn v hi w → WalkIn lo hi (past_nested s w tag v)
nested_in s lo v hi (Ok (n, t)) tag h i = omega arith
nested_in s lo v hi (Err k) tag h i = tt

past_in : (s : List ℕ) (lo v hi : ℕ) (w : Option ℕ) (t : Tags) (tag : Tag) → lo ≤ v → SkipIn v hi w → WalkIn lo hi (past_plain s w t tag v)
past_in s lo v hi (Some n) t tag h i = omega arith
past_in s lo v hi None t tag h i = tt

pub element_in : (nested : Nested) → Inside nested → (top : Bool) (s : List ℕ) (at end : ℕ) (t : Tags) → WalkIn (at + 1) end (element_of nested top s at end t)
element_in nested i top s at end t =
    element_by (WalkIn (at + 1) end) (HeadIn (at + 1) end) nested top s at end t (head_in top s at end t) (λ k h. tt)
    (λ kind tag v h e. nested_in s (at + 1) v end (nested v end t) tag h.0 (i v end t h.1))
    (λ kind tag v h e. past_in s (at + 1) v end (plain_of s v end kind) t tag h.0 (plain_in s v end h.1 kind))

then_in : (lo hi : ℕ) (w : Walk) (rest : ℕ → Tags → Walk) → ((n : ℕ) (t : Tags) → WalkIn lo hi (rest n t)) → WalkIn lo hi (and_then w rest)
then_in lo hi (Ok (n, t)) rest h = h n t
then_in lo hi (Err k) rest h = tt

elements_in : (bound : ℕ) (nested : Nested) (top : Bool) (s : List ℕ) (at end : ℕ) (t : Tags) → WalkIn end end (elements bound nested top s at end t)
elements_in bound nested top s at end t =
    elements_by (λ (u : Tags) (w : Walk). WalkIn end end w) nested top s end (λ u. tt) (λ u. omega arith) (λ i u rest h. then_in end end (element_of nested top s i end u) rest h) bound at t

wider : (lo hi end : ℕ) (w : Walk) → lo ≤ end → end ≤ hi → WalkIn end end w → WalkIn lo hi w
wider lo hi end (Ok (n, t)) a b i = omega arith
wider lo hi end (Err k) a b i = tt

-- an accepted document ends inside the one around it
pub document_in : (levels : ℕ) (top : Bool) (s : List ℕ) (at end : ℕ) (t : Tags) → at ≤ end → WalkIn at end (document_of levels top s at end t)
unfolding document_of
document_in zero top s at end t h = tt
document_in (suc levels) top s at end t h =
    let n = value_le (part s at 4) in
    unless_elim (WalkIn at end) (document_fits at end n) _ _ (λ e. tt)
    (λ e. wider at end (at + n) (elements n (document_of levels false s) top s (at + 4) (at + n) t) (omega arith) (omega (arith, document_fits_lem at end n e))
    (elements_in n (document_of levels false s) top s (at + 4) (at + n) t))

then_same : (lo hi : ℕ) (w : Walk) (f g : ℕ → Tags → Walk) → WalkIn lo hi w → ((n : ℕ) (t : Tags) → lo ≤ n → f n t ≡ g n t) → and_then w f ≡ and_then w g
then_same lo hi (Ok (n, t)) f g i h = h n t i.0
then_same lo hi (Err k) f g i h = refl

-- any two bounds that are at least the bytes left give one answer
pub enough : (a b : ℕ) (nested : Nested) → Inside nested → (top : Bool) (s : List ℕ) (at end : ℕ) (t : Tags) → end - at ≤ a → end - at ≤ b
    → elements a nested top s at end t ≡ elements b nested top s at end t
unfolding elements
enough zero zero nested i top s at end t h k = refl
enough zero (suc b) nested i top s at end t h k = rw (le-ltb at end (omega arith))
enough (suc a) zero nested i top s at end t h k = rw (le-ltb at end (omega arith))
enough (suc a) (suc b) nested i top s at end t h k =
    ap (λ (w : Walk). unless (ltb at end) (Err 32) (pick (eqb (get_or s at 0) 0) (unless (eqb (at + 1) end) (Err 32) (Ok (end, t))) w))
    (then_same (at + 1) end (element_of nested top s at end t) _ _ (element_in nested i top s at end t)
    (λ n u l. enough a b nested i top s n end u (omega arith) (omega arith)))
