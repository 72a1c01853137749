-- The versions that phones wish, and the one that is settled on: parts of a byte each, and a major from 1 on.
-- Assumes nothing.
use Rattle.std.specs.Prelude.{Option, Some, None, Result, Ok, Err}
use Prim.Native.Nat.{ℕ, ◌≤◌, ◌<◌}
use mathlib.Core.Path.{◌≡◌, refl, sym, subst}
use mathlib.Core.Logic.{⊎_elim}
use mathlib.Core.List.{List}
use native.Mathlib.Omega.{arith}
use lib.Dec.{eqb, ltb}
use Rattle.numbers.proofs.Choices.{either, unless_elim}
use Rattle.payload.specs.declared.Span.{Span}
use Rattle.payload.specs.declared.Tags.{Tags}
use Rattle.payload.specs.declared.version.Version.{Version}
use Rattle.payload.specs.Tags.{bytes_in}
use Rattle.payload.specs.Walk.{payload_of}
use Rattle.payload.specs.Version.{version_of, lesser_of}
use Rattle.payload.proofs.VersionLaws.{read_range}
use Rattle.payload.proofs.VersionOrder.{lesser_one}
use Rattle.link.specs.Call.{Wish, old, new, wish_of_text, wish_of_tag, wish_of_payload, wish_of}

pub record Bounded (v : Version) : Type 0 where
  pub least : 1 ≤ v.major
  pub major : v.major < 256
  pub minor : v.minor < 256
  pub patch : v.patch < 256

text_bounded : (text : List ℕ) (x : Option Version) → version_of text ≡ x → (v : Version) → wish_of_text x ≡ new v → Bounded v
text_bounded text (Some u) e v =
    either (λ (w : Wish). w ≡ new v → Bounded v) (ltb u.major 5) old (new u)
    (λ _ d. let z : ◌≡◌ {A = ℕ} 0 1 = cc in absurd (omega arith))
    (λ _ d. let same : u ≡ v = cc in let r = read_range text u e in subst Bounded same (record { least = r.one; major = omega (arith, r.major); minor = omega (arith, r.minor); patch = omega (arith, r.patch) }))
text_bounded text None e v = λ d. let z : ◌≡◌ {A = ℕ} 0 1 = cc in absurd (omega arith)

tag_bounded : (p : List ℕ) (x : Option Span) (v : Version) → wish_of_tag p x ≡ new v → Bounded v
tag_bounded p None v = λ d. let z : ◌≡◌ {A = ℕ} 0 1 = cc in absurd (omega arith)
tag_bounded p (Some at) v = λ d. text_bounded (bytes_in p at) (version_of (bytes_in p at)) refl v d

payload_bounded : (p : List ℕ) (x : Result Tags ℕ) (v : Version) → wish_of_payload p x ≡ new v → Bounded v
payload_bounded p (Ok t) v = tag_bounded p t.version v
payload_bounded p (Err n) v = λ d. let z : ◌≡◌ {A = ℕ} 0 1 = cc in absurd (omega arith)

-- a version that is granted has parts of a byte each, and a major from 1 on
pub wish_bounded : (major : ℕ) (p : List ℕ) (v : Version) → wish_of major p ≡ new v → Bounded v
unfolding wish_of
wish_bounded major p v =
    unless_elim (λ (w : Wish). w ≡ new v → Bounded v) (eqb major 5) old _
    (λ _ d. let z : ◌≡◌ {A = ℕ} 0 1 = cc in absurd (omega arith)) (λ _ d. payload_bounded p (payload_of p) v d)

pub lesser_bounded : (a b : Version) → Bounded a → Bounded b → Bounded (lesser_of a b)
lesser_bounded a b x y = ⊎_elim (λ e. subst Bounded (sym e) x) (λ e. subst Bounded (sym e) y) (lesser_one a b)
