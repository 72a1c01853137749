-- `headunit::wish_of` meets its contract.
-- Assumes nothing.
use Prim.Native.Nat.{◌+◌, ◌-◌}
use mathlib.Core.Path.{◌≡◌, sym, ◌∙◌}
use native.Mathlib.Omega.{arith}
use borrow.Author.Tests.{eq-eqb, ne_eqb}
use Rattle.link.specs.Call.{wish_of}
use Rattle.headunit.proofs.Laws.{inside}
use Rattle.headunit.proofs.wish_of.Goals as goal

pub returns-then-major-ne5 : goal.returns-then-major-ne5
unfolding wish_of
returns-then-major-ne5 c = rw (ne_eqb _ _ c.if-major-ne5.true)

pub returns-in_default : goal.returns-in_default
unfolding wish_of
returns-in_default c = rw (eq-eqb _ _ c.if-major-ne5.false, ← c.read.ensures, c.in_default.is)

pub returns-in_default-version : goal.returns-in_default-version
unfolding wish_of
returns-in_default-version c = rw (eq-eqb _ _ c.if-major-ne5.false, ← c.read.ensures, c.in-Ok.is, c.in_default-version.is)

pub overflow_add-end : goal.overflow_add-end
overflow_add-end c = omega (arith, inside c.args.payload.now c.in-Ok.tags c.in-Some.text (sym c.read.ensures ∙ c.in-Ok.is) c.in-Some.is)

pub slice_bounds-wished_text-end : goal.slice_bounds-wished_text-end
slice_bounds-wished_text-end c = omega (arith, inside c.args.payload.now c.in-Ok.tags c.in-Some.text (sym c.read.ensures ∙ c.in-Ok.is) c.in-Some.is)

pub returns : goal.returns
unfolding wish_of
returns c =
    let text = c.in-Some.text in
    let z : text.at + text.length - text.at ≡ text.length = omega arith in
    c.wished_text.ensures ∙ rw (eq-eqb _ _ c.if-major-ne5.false, ← c.read.ensures, c.in-Ok.is, c.in-Some.is, z)
