-- What `array::from_fn` makes: at each place what its closure gives there. Assumes nothing.
use Prim.Native.Nat.{ℕ, zero, suc, ◌+◌, ◌<◌}
use mathlib.Core.Path.{◌≡◌, ◌∙◌, subst}
use mathlib.Core.List.{List, map}
use native.Mathlib.Omega.{arith}
use lib.ListN.{get_or}
use denote.Param.Members.{Mut}
use Rattle.std.specs.Array.{IsFromFnResultFrom, IsFromFnResult}
use Rattle.std.specs.Fn.{Called}
use Rattle.std.specs.List.{range_with_len}
use Rattle.std.proofs.lemmas.List.FromFn.{fill_by_all}

module _ {F B : Type 0} (g : Mut F (ℕ × Unit {0}) B) (h : ℕ → B) (f : F) (calls : (i : ℕ) (r : B) (q : F) → Called g f (i, tt) r q → (q ≡ f) × (r ≡ h i)) (ys : List B) (d : B) where
  made_at : (i n : ℕ) → IsFromFnResultFrom g f ys i n → (j : ℕ) → j < n → get_or ys (i + j) d ≡ h (i + j)
  made_at i zero e j l = absurd (omega arith)
  made_at i (suc n) e zero l =
      let z : i + 0 ≡ i = omega arith in
      rw z (e.2.1 d ∙ (calls i e.1 e.0 e.3).1)
  made_at i (suc n) e (suc j) l =
      let z : i + suc j ≡ i + 1 + j = omega arith in
      rw z (made_at (i + 1) n (subst (λ (q : F). IsFromFnResultFrom g q ys (i + 1) n) (calls i e.1 e.0 e.3).0 e.4) j (omega arith))

  pub made : (n : ℕ) → IsFromFnResult g f ys n → ys ≡ map h (range_with_len 0 n)
  made n k =
      fill_by_all h ys n d k.long (λ j l. let z : 0 + j ≡ j = omega arith in
      rw z at (made_at 0 n k.each j l))
