-- Choices by a test, for any type: what holds in both cases holds, of a value, of `pick` and of `unless`; and what a test of two tests says.
-- Assumes nothing.
use Prim.Native.Nat.{ℕ}
use mathlib.Core.Path.{◌≡◌, refl}
use mathlib.Core.Logic.{◌≢◌}
use mathlib.Core.Bool.{Bool, true, false, ◌&&◌}
use lib.Dec.{eqb}
use borrow.Author.Tests.{eqb-true, eqb-false}
use mir.Val.{bool_byte}
use Rattle.numbers.specs.Bytes.{pick, unless}

pub split : {X : Type 0} (b : Bool) → (b ≡ true → X) → (b ≡ false → X) → X
split true f g = f refl
split false f g = g refl

-- the same where the goal speaks of the test
pub on_test : (P : Bool → Type 0) (b : Bool) → (b ≡ true → P true) → (b ≡ false → P false) → P b
on_test P true f g = f refl
on_test P false f g = g refl

pub either : {A : Type 0} (P : A → Type 0) (b : Bool) (x y : A) → (b ≡ true → P x) → (b ≡ false → P y) → P (pick b x y)
either P true x y f g = f refl
either P false x y f g = g refl

pub unless_elim : {A : Type 0} (P : A → Type 0) (b : Bool) (x y : A) → (b ≡ false → P x) → (b ≡ true → P y) → P (unless b x y)
unless_elim P true x y f g = g refl
unless_elim P false x y f g = f refl

-- a test as a number, as code casts it
pub bit_is : (b : Bool) → bool_byte b ≡ pick b 1 0
bit_is true = refl
bit_is false = refl

-- two numbers are the same, or not
pub same_or_not : {X : Type 0} (a b : ℕ) → (a ≡ b → X) → (a ≢ b → X) → X
same_or_not a b f g = split (eqb a b) (λ e. f (eqb-true a b e)) (λ e. g (eqb-false a b e))

pub and_both : (b c : Bool) → b && c ≡ true → (b ≡ true) × (c ≡ true)
and_both true c e = (refl, e)
and_both false c e = (e, cc)

pub and_yes : (b c : Bool) → b ≡ true → c ≡ true → b && c ≡ true
and_yes true c e f = f
and_yes false c e f = e
