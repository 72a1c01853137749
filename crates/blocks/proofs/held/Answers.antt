-- `blocks::held` meets its contract. The loop's invariant: what was counted and what is left to count make the whole count.
-- Assumes nothing.
use mathlib.Core.Path.{◌≡◌, ◌∙◌}
use mathlib.Core.List.{List}
use Prim.Native.Nat.{ℕ, ◌*◌}
use native.Mathlib.Omega.{arith}
use lib.ListN.{drop}
use Rattle.blocks.specs.Map.{held_by}
use Rattle.blocks.proofs.Counts.{held_most}
use Rattle.blocks.proofs.Turns.{held_group}
use Rattle.blocks.proofs.held.Goals as goal

pub overflow_add-count : goal.overflow_add-count
overflow_add-count c =
    let a = c.args in
    let turn = held_group a.owner.0 a.map.now 64 c.loop-group.group-index _ c.as_chunks.ensures.front c.loop-group-test.true (c.from-count.ensures ∙ c.count_group.ensures) in
    record { fits = omega (arith, turn, held_most a.owner.0 a.map.now) }

pub loop-group-preserved : goal.loop-group-preserved
loop-group-preserved c =
    let a = c.args in
    let turn = held_group a.owner.0 a.map.now 64 c.loop-group.group-index _ c.as_chunks.ensures.front c.loop-group-test.true (c.from-count.ensures ∙ c.count_group.ensures) in
    omega arith

-- those that are left
rest_counted : (owner i k n : ℕ) (map : List ℕ) {rest : List ℕ} {r : ℕ} → rest ≡ drop (k * n) map → i ≡ k → r ≡ held_by owner rest → r ≡ held_by owner (drop (i * n) map)
rest_counted owner i k n map e f g = rw (f, ← e) g

pub overflow_add-result : goal.overflow_add-result
overflow_add-result c =
    let a = c.args in
    let l = c.loop-group in
    let rest = rest_counted a.owner.0 l.group-index _ 64 a.map.now c.as_chunks.ensures.back (omega arith) (c.from.ensures ∙ c.count_group-2.ensures) in
    record { fits = omega (arith, rest, held_most a.owner.0 a.map.now) }

pub returns : goal.returns
returns c =
    let a = c.args in
    let rest = rest_counted a.owner.0 c.loop-group.group-index _ 64 a.map.now c.as_chunks.ensures.back (omega arith) (c.from.ensures ∙ c.count_group-2.ensures) in
    omega arith
