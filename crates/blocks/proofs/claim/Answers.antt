-- `blocks::claim` meets its contract. The loop's invariant is `Claiming`; a turn is `claiming_part`, and what is left is `claim_singly`'s.
-- Assumes nothing.
use mathlib.Core.Path.{refl, ◌∙◌}
use native.Mathlib.Omega.{arith}
use Rattle.blocks.proofs.Search.{part_size, part_some, claiming_part}
use Rattle.blocks.proofs.claim.Goals as goal

pub loop-start-init : goal.loop-start-init
loop-start-init c = (refl, record { inside = omega arith; counted = omega arith; taken = refl; seen = omega arith })

pub overflow_sub-map : goal.overflow_sub-map
overflow_sub-map c = c.loop-start.invariant.1.inside

-- no more were free than are wanted
pub overflow_sub-wanted : goal.overflow_sub-wanted
overflow_sub-wanted c =
    let l = c.loop-start in
    omega (arith, part_some l.invariant.1 16 (omega arith) c.claim_all.ensures.entries_after (c.from-wanted.ensures ∙ c.claim_all.ensures.value))

-- a group more: it lies inside the map, and so many are wanted
pub loop-start-preserved : goal.loop-start-preserved
loop-start-preserved c =
    let l = c.loop-start in
    let some = c.from-wanted.ensures ∙ c.claim_all.ensures.value in (
      part_size l.invariant.1 16 (omega arith) c.claim_all.ensures.entries_after ∙ l.invariant.0,
      claiming_part l.invariant.1 16 (omega arith) c.claim_all.ensures.entries_after (omega arith) some (omega arith) (omega arith),
    )

pub claim_singly-requires : goal.claim_singly-requires
claim_singly-requires c = let k = c.loop-start.invariant.1 in (k.inside, k.counted)

pub returns : goal.returns
returns c =
    let k = c.loop-start.invariant.1 in
    record { value = c.claim_singly.ensures.value ∙ k.seen; map_after = c.claim_singly.ensures.map_after ∙ k.taken }
