-- `rules::rest_free` meets its contract.
-- Assumes nothing.
use Prim.Native.Nat.{ℕ, ◌+◌}
use mathlib.Core.Path.{ap}
use native.Mathlib.Omega.{arith}
use lib.Dec.{eqb}
use Rattle.blocks.proofs.Counts.{held_most}
use Rattle.rules.proofs.Quiet.{rest_all}
use Rattle.rules.proofs.rest_free.Goals as goal

pub returns-then-held-eq0 : goal.returns-then-held-eq0
returns-then-held-eq0 c =
    rest_all c.args.map.now c.args.held c.all_free.result c.told-map c.if-held-eq0.true c.all_free.ensures

pub overflow_add-result : goal.overflow_add-result
overflow_add-result c = omega (arith, c.free_count.ensures, held_most 0 c.args.map.now)

pub returns : goal.returns
returns c = ap (λ (free : ℕ). eqb (c.args.held + free) 256) c.free_count.ensures
