-- `payload::string` meets its contract: each return by the tests that led to it, over the length that `size_at` read.
-- Assumes nothing.
use mathlib.Core.Path.{refl}
use native.Mathlib.Omega.{arith}
use Rattle.payload.proofs.Outcomes.{string_good, string_bad}
use Rattle.payload.proofs.string.Goals as goal

pub returns-then-end-value-lt4 : goal.returns-then-end-value-lt4
returns-then-end-value-lt4 c = string_bad _ _ _ _ refl (λ p q r z. omega arith)

pub returns-then-counted-lt1 : goal.returns-then-counted-lt1
returns-then-counted-lt1 c = string_bad _ _ _ _ c.size_at-counted.ensures (λ p q r z. omega arith)

pub returns-then-closed : goal.returns-then-closed
returns-then-closed c = string_good _ _ _ _ c.size_at-counted.ensures (omega arith) (omega arith) (omega arith) (omega arith)

pub returns-else-closed : goal.returns-else-closed
returns-else-closed c = string_bad _ _ _ _ c.size_at-counted.ensures (λ p q r z. omega arith)
