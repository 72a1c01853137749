-- What creation puts one behind the other is the new state. Assumes nothing.
use Prim.Native.Nat.{ℕ, ◌+◌, ◌≤◌}
use mathlib.Core.Path.{◌≡◌, refl, ap, ◌∙◌}
use mathlib.Core.List.{List, [], ◌∷◌, ◌++◌, append_assoc, append-nil}
use native.Mathlib.Omega.{arith}
use lib.ListN.{length, drop, set, replicate, length-append, drop_of_length-le, length-set}
use lib.Seq.{drop-drop}
use Rattle.numbers.specs.Bytes.{part, put_at, laid}
use Rattle.numbers.specs.Numbers.{bytes_le}
use Rattle.numbers.proofs.Laws.{length_le}
use Rattle.frame.proofs.Buffers.{four_stored, laid_more, laid_length}
use borrow.Rule.Slice.PartMut.{put_mid}
use Rattle.payload.specs.declared.version.Version.{Version}
use Rattle.state.specs.Calls.{settings_bytes}
use Rattle.state.proofs.Packed.{part_length, put_is}

pub settings_put : (v : Version) (mtu : ℕ) (o q : List ℕ) → 8 ≤ length o
    → q ≡ put_at (set (set (set (set o 0 1) 1 v.major) 2 v.minor) 3 v.patch) 4 4 (bytes_le 4 mtu) → q ≡ laid (settings_bytes v mtu) o
settings_put v mtu o q h e =
    let a : List ℕ = 1 ∷ v.major ∷ v.minor ∷ v.patch ∷ [] in
    let p : List ℕ = set (set (set (set o 0 1) 1 v.major) 2 v.minor) 3 v.patch in
    let long : length p ≡ length o = simp length-set refl in
    laid_more a (bytes_le 4 mtu) o p q 4 4 refl (length_le 4 mtu) (four_stored o 1 v.major v.minor v.patch (omega arith))
    (e ∙ put_is p 4 4 (bytes_le 4 mtu) (length_le 4 mtu) (omega arith))

-- bytes copied right behind those that were laid
pub copied : (a b o p q r : List ℕ) (n w : ℕ) → length a ≡ n → length b ≡ w → n + w ≤ length o → p ≡ laid a o → r ≡ b
    → q ≡ put_mid n w p r → q ≡ laid (a ++ b) o
copied a b o p q r n w l m h e f g =
    let long : length p ≡ length o = rw e (laid_length a o (omega arith)) in
    laid_more a b o p q n w l m e (g ∙ rw (f, drop-drop))

-- a part that was filled with zeros
pub filled : (s r : List ℕ) (at w : ℕ) → at + w ≤ length s → r ≡ replicate (length (part s at w)) 0 → r ≡ replicate w 0
filled s r at w h e = e ∙ ap (λ (n : ℕ). replicate n 0) (part_length s at w h)

-- three pieces behind the settings: z reserved bytes, the map, the rows
module _ (v : Version) (mtu : ℕ) (o z free rows : List ℕ) (whole : length o ≡ 2688) (long : length z ≡ 536) (map : length free ≡ 256) (rest : length rows ≡ 1888) where
  settings_length : length (settings_bytes v mtu) ≡ 8
  settings_length = omega (arith, length_le 4 mtu)

  pub created_whole : (p₁ p₂ p₃ p₄ r₂ r₃ r₄ : List ℕ) → p₁ ≡ laid (settings_bytes v mtu) o
      → r₂ ≡ z → p₂ ≡ put_mid 8 536 p₁ r₂
      → r₃ ≡ free → p₃ ≡ put_mid 544 256 p₂ r₃
      → r₄ ≡ rows → p₄ ≡ put_mid 800 1888 p₃ r₄
      → p₄ ≡ settings_bytes v mtu ++ (z ++ (free ++ rows))
  created_whole p₁ p₂ p₃ p₄ r₂ r₃ r₄ e₁ c₂ e₂ c₃ e₃ c₄ e₄ =
      let a : List ℕ = settings_bytes v mtu in
      let l₁ : length (a ++ z) ≡ 544 = length-append a z ∙ omega (arith, settings_length) in
      let l₂ : length (a ++ z ++ free) ≡ 800 = length-append (a ++ z) free ∙ omega arith in
      let l₃ : length (a ++ z ++ free ++ rows) ≡ 2688 = length-append (a ++ z ++ free) rows ∙ omega arith in
      let q₂ : p₂ ≡ laid (a ++ z) o = copied a z o p₁ p₂ r₂ 8 536 settings_length long (omega arith) e₁ c₂ e₂ in
      let q₃ : p₃ ≡ laid (a ++ z ++ free) o = copied (a ++ z) free o p₂ p₃ r₃ 544 256 l₁ map (omega arith) q₂ c₃ e₃ in
      let q₄ : p₄ ≡ laid (a ++ z ++ free ++ rows) o = copied (a ++ z ++ free) rows o p₃ p₄ r₄ 800 1888 l₂ rest (omega arith) q₃ c₄ e₄ in
      let none : drop (length (a ++ z ++ free ++ rows)) o ≡ [] = drop_of_length-le o {i = length (a ++ z ++ free ++ rows)} (omega arith) in
      q₄ ∙ ap (λ (x : List ℕ). a ++ z ++ free ++ rows ++ x) none ∙ append-nil (a ++ z ++ free ++ rows) ∙ append_assoc (a ++ z) free rows ∙ append_assoc a z (free ++ rows)
