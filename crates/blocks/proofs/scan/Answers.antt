-- `blocks::scan` meets its contract. The loop's invariant: the block reached is the first one and those passed, and the block looked for is the same from it on
-- as from the first. Assumes nothing.
use Prim.Native.Nat.{◌<◌}
use mathlib.Core.Path.{sym, ◌∙◌}
use native.Mathlib.Omega.{arith}
use lib.ListN.{length}
use Rattle.blocks.proofs.Turns.{find_here, find_later, find_not, find_end, found_is, found_past, part_length, entry_is}
use Rattle.blocks.proofs.scan.Goals.{then-entry-owner+else-left-eq0, else-entry-owner}
use Rattle.blocks.proofs.scan.Goals as goal

pub returns-then-map-from : goal.returns-then-map-from
returns-then-map-from c =
    let a = c.args in
    let end = find_end a.owner a.n a.map.now a.from.0 (omega arith) in
    found_past _ a.map.now (omega arith)

pub returns-then-left-eq0 : goal.returns-then-left-eq0
returns-then-left-eq0 c =
    let l = c.loop-entry in
    let a = c.args in
    let within : l.block.0 < length a.map.now = omega (arith, part_length a.map.now a.from.0) in
    let here = find_here a.owner l.left a.map.now l.block.0 within (sym (entry_is a.map.now _ _ (omega arith)) ∙ c.if-entry-owner.true) c.if-left-eq0.true in
    found_is _ _ a.map.now (omega arith) within

pub loop-entry-preserved : goal.loop-entry-preserved
loop-entry-preserved c =
    let l = c.loop-entry in
    let a = c.args in
    let within : l.block.0 < length a.map.now = omega (arith, part_length a.map.now a.from.0) in
    elim c.if-entry-owner.branch [
      | then-entry-owner+else-left-eq0 w ↦ rw w.left-is
          (omega arith, omega (arith, find_later a.owner l.left a.map.now l.block.0 within (sym (entry_is a.map.now _ _ (omega arith)) ∙ w.if-entry-owner.true) w.if-left-eq0.false))
      | else-entry-owner w ↦ rw w.left-is
          (omega arith, omega (arith, find_not a.owner l.left a.map.now l.block.0 within (λ e. w.if-entry-owner.false (entry_is a.map.now _ _ (omega arith) ∙ e))))
    ]

pub returns : goal.returns
returns c =
    let l = c.loop-entry in
    let a = c.args in
    let end = find_end a.owner l.left a.map.now l.block.0 (omega (arith, part_length a.map.now a.from.0)) in
    found_past _ a.map.now (omega arith)
