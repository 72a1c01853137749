-- "Only top-level tags count": a document inside another one leaves the tags as they were, and an element at the top adds its own tag
-- and no other. So whatever holds of no tags and is kept by each top-level element holds of an accepted payload's tags (`tags_hold`).
-- From it: the version string and the array of rejectedParams lie inside the slice, and the numbers have their 32 and 64 bits. Assumes nothing.
use Prim.Native.Nat.{ℕ, zero, suc, ◌+◌, ◌-◌, ◌^◌, ◌≤◌, ◌<◌}
use mathlib.Core.Path.{◌≡◌, refl, sym, subst}
use mathlib.Core.List.{List, [], ◌∷◌}
use mathlib.Core.Bool.{Bool, true, false, not, ◌||◌}
use native.Mathlib.Omega.{arith}
use native.Mathlib.Nat.{pow-suc}
use lib.ListN.{length, get_or, take, drop}
use lib.Dec.{eqb}
use borrow.Author.Tests.{eqb-true}
use Rattle.std.specs.Prelude.{Option, Some, None, Result, Ok, Err, IfSome}
use Rattle.numbers.specs.Bytes.{AreBytes, part}
use Rattle.numbers.specs.Numbers.{value_le}
use Rattle.numbers.proofs.Laws.{bytes_drop}
use Rattle.numbers.proofs.Choices.{either, unless_elim}
use Rattle.payload.specs.Tags.{typed, found, no_tags, with_tag}
use Rattle.payload.specs.Walk.{Head, Walk, nests, string_fits, string_of, plain_of, tag_at, key_stop, head_of, past_plain, past_nested, Nested, element_of, and_then, elements, document_fits, document_of, answer, length_fits, payload_of}
use Rattle.payload.specs.declared.Tags.{Tags}
use Rattle.payload.specs.declared.Tag.{Tag}
use Rattle.payload.specs.declared.Tag.TheVariants.{Unknown, ProtocolVersion, HashId, Mtu, RejectedParams}
use Rattle.payload.proofs.Within.{head_by, element_by, elements_by, string_fits_lem, document_fits_lem}

-- a walk that leaves the tags as they were
abbrev pub Keeps : Tags → Walk → Type 0
Keeps t (Ok (n, u)) = u ≡ t
Keeps t (Err k) = Unit {0}

abbrev pub NestedKeeps : Nested → Type 0
NestedKeeps nested = (v end : ℕ) (t : Tags) → Keeps t (nested v end t)

-- below the top level no key names a tag
abbrev NamesNone : Head → Type 0
NamesNone (Ok (kind, tag, v)) = tag ≡ Unknown
NamesNone (Err k) = Unit {0}

head_names_none : (s : List ℕ) (at end : ℕ) (t : Tags) → NamesNone (head_of false s at end t)
head_names_none s at end t = head_by NamesNone false s at end t tt tt tt (λ l c. refl)

plain_keeps : (s : List ℕ) (w : Option ℕ) (t : Tags) (tag : Tag) (v : ℕ) → tag ≡ Unknown → Keeps t (past_plain s w t tag v)
plain_keeps s (Some n) t tag v e = rw e
plain_keeps s None t tag v e = tt

nested_keeps : (s : List ℕ) (w : Walk) (t : Tags) (tag : Tag) (v : ℕ) → tag ≡ Unknown → Keeps t w → Keeps t (past_nested s w tag v)
nested_keeps s (Ok (n, u)) t tag v e h = rw e h
nested_keeps s (Err k) t tag v e h = tt

then_keeps : (t : Tags) (w : Walk) (rest : ℕ → Tags → Walk) → Keeps t w → ((n : ℕ) (u : Tags) → Keeps u (rest n u)) → Keeps t (and_then w rest)
then_keeps t (Ok (n, u)) rest h r = subst (λ (x : Tags). Keeps x (rest n u)) h (r n u)
then_keeps t (Err k) rest h r = tt

module _ (nested : Nested) (keeps : NestedKeeps nested) (s : List ℕ) where
  element_keeps : (at end : ℕ) (t : Tags) → Keeps t (element_of nested false s at end t)
  element_keeps at end t =
      element_by (Keeps t) NamesNone nested false s at end t (head_names_none s at end t) (λ k h. tt)
      (λ kind tag v h e. nested_keeps s (nested v end t) t tag v h (keeps v end t))
      (λ kind tag v h e. plain_keeps s (plain_of s v end kind) t tag v h)

  elements_keep : (bound at end : ℕ) (t : Tags) → Keeps t (elements bound nested false s at end t)
  elements_keep bound at end t =
      elements_by Keeps nested false s end (λ u. tt) (λ u. refl) (λ i u rest h. then_keeps u (element_of nested false s i end u) rest (element_keeps i end u) h) bound at t

-- a document below the top level leaves the tags as they were
pub document_keeps : (levels : ℕ) (s : List ℕ) → NestedKeeps (document_of levels false s)
unfolding document_of
document_keeps zero s at end t = tt
document_keeps (suc levels) s at end t =
    unless_elim (Keeps t) (document_fits at end (value_le (part s at 4))) (Err 32) _ (λ e. tt)
    (λ e. elements_keep (document_of levels false s) (document_keeps levels s) s (value_le (part s at 4)) (at + 4) (at + value_le (part s at 4)) t)

-- a document that is accepted has a length that fits
abbrev Fits : List ℕ → ℕ → ℕ → Walk → Type 0
Fits s v end (Ok (n, t)) = document_fits v end (value_le (part s v 4)) ≡ true
Fits s v end (Err k) = Unit {0}

abbrev NestedFits : List ℕ → Nested → Type 0
NestedFits s nested = (v end : ℕ) (t : Tags) → Fits s v end (nested v end t)

fits_so : (s : List ℕ) (v end : ℕ) (w : Walk) → document_fits v end (value_le (part s v 4)) ≡ true → Fits s v end w
fits_so s v end (Ok (n, t)) e = e
fits_so s v end (Err k) e = tt

document_length : (levels : ℕ) (s : List ℕ) → NestedFits s (document_of levels false s)
unfolding document_of
document_length zero s v end t = tt
document_length (suc levels) s v end t =
    let n = value_le (part s v 4) in
    unless_elim (Fits s v end) (document_fits v end n) (Err 32) _ (λ e. tt) (fits_so s v end (elements n (document_of levels false s) false s (v + 4) (v + n) t))

-- an accepted element of the top level, in a document that ends at end, with the tags t before it
pub record TopElement (s : List ℕ) (end : ℕ) (t : Tags) (kind : ℕ) (tag : Tag) (v : ℕ) : Type 0 where
  pub fresh : found t tag ≡ false
  pub right : typed tag kind ≡ true
  pub inside : end ≤ length s
  pub value : nests kind ≡ false → (n : ℕ) × (plain_of s v end kind ≡ Some n)
  pub document : nests kind ≡ true → document_fits v end (value_le (part s v 4)) ≡ true

or_neither : (b c : Bool) → b || not c ≡ false → (b ≡ false) × (c ≡ true)
or_neither true c e = (e, cc)
or_neither false true e = (refl, refl)
or_neither false false e = (refl, sym e)

abbrev HeadFits : Tags → Head → Type 0
HeadFits t (Ok (kind, tag, v)) = (found t tag ≡ false) × (typed tag kind ≡ true)
HeadFits t (Err k) = Unit {0}

head_fits : (top : Bool) (s : List ℕ) (at end : ℕ) (t : Tags) → HeadFits t (head_of top s at end t)
head_fits top s at end t =
    head_by (HeadFits t) top s at end t tt tt tt (λ l c. or_neither (found t (tag_at top s (at + 1) (key_stop s at end))) (typed (tag_at top s (at + 1) (key_stop s at end)) (get_or s at 0)) c)

abbrev Holds : (Tags → Type 0) → Walk → Type 0
Holds P (Ok (n, t)) = P t
Holds P (Err k) = Unit {0}

abbrev pub AcceptedHolds : (Tags → Type 0) → Result Tags ℕ → Type 0
AcceptedHolds P (Ok t) = P t
AcceptedHolds P (Err k) = Unit {0}

never : {X : Type 0} {b : Bool} → b ≡ true → b ≡ false → X
never p q = absurd (let z : ◌≡◌ {A = ℕ} 0 1 = cc in omega arith)

then_holds : (P : Tags → Type 0) (w : Walk) (rest : ℕ → Tags → Walk) → Holds P w → ((n : ℕ) (t : Tags) → P t → Holds P (rest n t)) → Holds P (and_then w rest)
then_holds P (Ok (n, t)) rest h r = r n t h
then_holds P (Err k) rest h r = tt

module _ (s : List ℕ) (P : Tags → Type 0) (step : (end : ℕ) (t : Tags) (kind : ℕ) (tag : Tag) (v : ℕ) → TopElement s end t kind tag v → P t → P (with_tag s t tag v)) where
  plain_holds : (end : ℕ) (t : Tags) (kind : ℕ) (tag : Tag) (v : ℕ) → found t tag ≡ false → typed tag kind ≡ true → end ≤ length s → nests kind ≡ false → P t
      → (w : Option ℕ) → plain_of s v end kind ≡ w → Holds P (past_plain s w t tag v)
  plain_holds end t kind tag v f g l y p (Some n) e = step end t kind tag v (record { fresh = f; right = g; inside = l; value = λ z. (n, e); document = λ z. never z y }) p
  plain_holds end t kind tag v f g l y p None e = tt

  nested_holds : (end : ℕ) (t : Tags) (kind : ℕ) (tag : Tag) (v : ℕ) → found t tag ≡ false → typed tag kind ≡ true → end ≤ length s → nests kind ≡ true → P t
      → (w : Walk) → Keeps t w → Fits s v end w → Holds P (past_nested s w tag v)
  nested_holds end t kind tag v f g l y p (Ok (n, u)) e d = rw e (step end t kind tag v (record { fresh = f; right = g; inside = l; value = λ z. never y z; document = λ z. d }) p)
  nested_holds end t kind tag v f g l y p (Err k) e d = tt

  module _ (nested : Nested) (keeps : NestedKeeps nested) (fits : NestedFits s nested) where
    element-holds : (at end : ℕ) (t : Tags) → end ≤ length s → P t → Holds P (element_of nested true s at end t)
    element-holds at end t l p =
        element_by (Holds P) (HeadFits t) nested true s at end t (head_fits true s at end t) (λ k h. tt)
        (λ kind tag v h y. nested_holds end t kind tag v h.0 h.1 l y p (nested v end t) (keeps v end t) (fits v end t))
        (λ kind tag v h y. plain_holds end t kind tag v h.0 h.1 l y p (plain_of s v end kind) refl)

    elements-hold : (bound at end : ℕ) (t : Tags) → end ≤ length s → P t → Holds P (elements bound nested true s at end t)
    elements-hold bound at end t l =
        elements_by (λ (u : Tags) (w : Walk). P u → Holds P w) nested true s end (λ u p. tt) (λ u p. p) (λ i u rest h p. then_holds P (element_of nested true s i end u) rest (element-holds i end u l p) h) bound at t

  document_holds : (levels at end : ℕ) (t : Tags) → at ≤ end → end ≤ length s → P t → Holds P (document_of levels true s at end t)
  unfolding document_of
  document_holds zero at end t h l p = tt
  document_holds (suc levels) at end t h l p =
      let n = value_le (part s at 4) in
      unless_elim (Holds P) (document_fits at end n) (Err 32) _ (λ e. tt)
      (λ e. elements-hold (document_of levels false s) (document_keeps levels s) (document_length levels s) n (at + 4) (at + n) t (omega (arith, document_fits_lem at end n e)) p)

  answer_holds : (w : Walk) → Holds P w → AcceptedHolds P (answer w)
  answer_holds (Ok (n, t)) h = h
  answer_holds (Err k) h = tt

  -- what holds of no tags and is kept by each top-level element holds of an accepted payload's tags
  pub tags_hold : P no_tags → AcceptedHolds P (payload_of s)
  unfolding payload_of
  tags_hold p =
      either (AcceptedHolds P) (eqb (length s) 0) _ _ (λ e. p)
      (λ e. unless_elim (AcceptedHolds P) (length_fits s) (Err 30) _ (λ e. tt)
      (λ e. answer_holds (document_of 8 true s 0 (length s) no_tags) (document_holds 8 0 (length s) no_tags (omega arith) (omega arith) p)))

-- an accepted string: its length, which is at least 1, keeps inside, and its last byte is 0
abbrev pub StringSays : List ℕ → ℕ → ℕ → Option ℕ → Type 0
StringSays s v end (Some n) = (1 ≤ value_le (part s v 4)) × (v + 4 + value_le (part s v 4) ≤ end) × (get_or s (v + 3 + value_le (part s v 4)) 0 ≡ 0)
StringSays s v end None = Unit {0}

pub string_says : (s : List ℕ) (v end : ℕ) → StringSays s v end (string_of s v end)
unfolding string_of
string_says s v end =
    let n = value_le (part s v 4) in
    either (StringSays s v end) (string_fits s v end n) (Some (v + 4 + n)) None (λ e. let f = string_fits_lem s v end n e in (f.1, omega arith, f.3)) (λ e. tt)

-- a version string that was found lies inside the slice, and a 0 byte follows it
abbrev pub VersionInside : List ℕ → Tags → Type 0
VersionInside s t = IfSome t.version (λ a. (a.at + a.length + 1 ≤ length s) × (get_or s (a.at + a.length) 0 ≡ 0))

plain_string : (s : List ℕ) (v end kind n : ℕ) → kind ≡ 2 → plain_of s v end kind ≡ Some n → string_of s v end ≡ Some n
unfolding plain_of
plain_string s v end kind n k e = rw k at e

nests_not : (kind : ℕ) → kind ≡ 2 → nests kind ≡ false
nests_not kind k = rw k

nests_array : (kind : ℕ) → kind ≡ 4 → nests kind ≡ true
nests_array kind k = rw k

version_step : (s : List ℕ) (end : ℕ) (t : Tags) (kind : ℕ) (tag : Tag) (v : ℕ) → TopElement s end t kind tag v → VersionInside s t → VersionInside s (with_tag s t tag v)
version_step s end t kind Unknown v x p = p
version_step s end t kind HashId v x p = p
version_step s end t kind Mtu v x p = p
version_step s end t kind RejectedParams v x p = p
version_step s end t kind ProtocolVersion v x p =
    let k : kind ≡ 2 = eqb-true kind 2 x.right in
    let w = x.value (nests_not kind k) in
    let n = value_le (part s v 4) in
    let f : StringSays s v end (Some w.0) = subst (StringSays s v end) (plain_string s v end kind w.0 k w.1) (string_says s v end) in
    let z : v + 4 + (n - 1) ≡ v + 3 + n = omega arith in
    (omega (arith, x.inside), rw z f.2)

pub version_inside : (s : List ℕ) → AcceptedHolds (VersionInside s) (payload_of s)
version_inside s = tags_hold s (VersionInside s) (version_step s) tt

-- an array of rejectedParams that was found lies inside the slice, as a document with its length and its last 0
abbrev pub RejectedInside : List ℕ → Tags → Type 0
RejectedInside s t = IfSome t.rejected (λ a. (5 ≤ a.length) × (a.at + a.length ≤ length s))

rejected_step : (s : List ℕ) (end : ℕ) (t : Tags) (kind : ℕ) (tag : Tag) (v : ℕ) → TopElement s end t kind tag v → RejectedInside s t → RejectedInside s (with_tag s t tag v)
rejected_step s end t kind Unknown v x p = p
rejected_step s end t kind ProtocolVersion v x p = p
rejected_step s end t kind HashId v x p = p
rejected_step s end t kind Mtu v x p = p
rejected_step s end t kind RejectedParams v x p =
    let k : kind ≡ 4 = eqb-true kind 4 x.right in
    let f = document_fits_lem v end (value_le (part s v 4)) (x.document (nests_array kind k)) in
    (f.1, omega (arith, x.inside))

pub rejected_inside : (s : List ℕ) → AcceptedHolds (RejectedInside s) (payload_of s)
rejected_inside s = tags_hold s (RejectedInside s) (rejected_step s) tt

-- numbers of four and of eight bytes
pub value_most : (w : ℕ) (bs : List ℕ) → AreBytes bs → value_le (take w bs) < 256 ^ w
unfolding value_le
value_most zero bs h = omega arith
value_most (suc w) [] h = omega (arith, pow-suc 256 w, value_most w [] tt)
value_most (suc w) (b ∷ bs) h = omega (arith, pow-suc 256 w, value_most w bs h.1)

abbrev pub Bounded : Tags → Type 0
Bounded t = IfSome t.hash (λ h. h < 4294967296) × IfSome t.mtu (λ m. m < 18446744073709551616)

bounded_step : (s : List ℕ) → AreBytes s → (end : ℕ) (t : Tags) (kind : ℕ) (tag : Tag) (v : ℕ) → TopElement s end t kind tag v → Bounded t → Bounded (with_tag s t tag v)
bounded_step s h end t kind Unknown v x p = p
bounded_step s h end t kind ProtocolVersion v x p = p
bounded_step s h end t kind RejectedParams v x p = p
bounded_step s h end t kind HashId v x p = (value_most 4 (drop v s) (bytes_drop v s h), p.1)
bounded_step s h end t kind Mtu v x p = (p.0, value_most 8 (drop v s) (bytes_drop v s h))

-- of bytes, a hash id has 32 bits and an mtu 64
pub numbers_bounded : (s : List ℕ) → AreBytes s → AcceptedHolds Bounded (payload_of s)
numbers_bounded s h = tags_hold s Bounded (bounded_step s h) (tt, tt)
