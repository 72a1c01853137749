-- `driver::sessions::with_blocks` meets its contract. The loop's invariant: the numbers so far, with those of the blocks that are left, are all numbers.
-- Assumes nothing.
use Rattle.std.proofs.Common.{◌≡◌, [], length, refl, arith}
use Rattle.driver.proofs.States.{none, listing_of, block_passed, block_listed, blocks_end}
use Rattle.driver.proofs.sessions.with_blocks.Goals.{then-found-owner, else-found-owner}
use Rattle.driver.proofs.sessions.with_blocks.Goals as goal

pub loop-block-init : goal.loop-block-init
loop-block-init c = record { parts = []; has = none; leads = refl }

pub loop-block-preserved : goal.loop-block-preserved
loop-block-preserved c =
    let a = c.args in
    let o = c.loop-block in
    let owners = a.owners.now in
    let full : length a.text.chars ≡ 4096 = omega arith in
    elim c.if-found-owner.branch [
      | then-found-owner w ↦
          listing_of w.after-is (block_listed a.owner o.block owners o.invariant full (omega arith) w.if-found-owner.true w.joint.ensures w.decimal-after.ensures)
      | else-found-owner w ↦ listing_of w.after-is (block_passed a.owner o.block owners o.invariant (omega arith) w.if-found-owner.false)
    ]

pub returns : goal.returns
returns c =
    let a = c.args in
    let o = c.loop-block in
    blocks_end a.owner o.block a.owners.now o.invariant (omega arith) c.same.ensures
