-- `blocks::fill` meets its contract. The loop's invariant is `Filling`; each of its ends is a law.
-- Assumes nothing.
use mathlib.Core.Path.{refl, sym, ◌∙◌}
use borrow.Author.Tests.{eqb-true}
use native.Mathlib.Omega.{arith}
use Rattle.blocks.proofs.Appends.{filling_ends, filling-no-block, filling-no-pool, filling-turn}
use Rattle.blocks.proofs.Turns.{found_in, found_none}
use Rattle.blocks.proofs.fill.Goals as goal

pub loop-rest-init : goal.loop-rest-init
loop-rest-init c = record { inside = omega arith; size = refl; whole = refl }

pub returns-in_default : goal.returns-in_default
returns-in_default c = filling-no-block c.loop-rest.invariant refl (found_none _ _ c.scan.ensures c.in_default.is)

pub returns-then-not-starts_inside : goal.returns-then-not-starts_inside
returns-then-not-starts_inside c =
    let found = found_in _ _ c.scan.ensures c.in-Some.is in
    filling-no-pool c.loop-rest.invariant found.0 c.starts_inside.ensures c.if-not-starts_inside.true

pub loop-rest-preserved : goal.loop-rest-preserved
loop-rest-preserved c =
    let found = found_in _ _ c.scan.ensures c.in-Some.is in
    filling-turn c.loop-rest.invariant found.0 c.starts_inside.ensures c.if-not-starts_inside.false found.1 refl c.min.ensures c.min-taken.ensures c.overwrite.ensures

pub returns : goal.returns
returns c = filling_ends c.loop-rest.invariant (eqb-true _ 0 (sym c.is_empty.ensures ∙ c.loop-rest-test.false))
