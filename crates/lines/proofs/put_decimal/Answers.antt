-- `lines::put_decimal` meets its contract. The loop's invariant: the characters after i are written, and those up to i are the digits of what is left of n.
-- Assumes nothing.
use Prim.Native.Nat.{◌+◌, ◌-◌, ◌%◌}
use mathlib.Core.Path.{◌≡◌, refl, sym, ap, ◌∙◌}
use native.Mathlib.Omega.{arith}
use lib.ListN.{set, length-set}
use lib.Seq.{take_all}
use Rattle.lines.specs.Decimal.{decimal_of}
use Rattle.lines.proofs.Digits.{width_some, put_start, put_turn, put_end}
use Rattle.lines.proofs.put_decimal.Goals as goal

pub overflow_sub-i : goal.overflow_sub-i
overflow_sub-i c = omega (arith, width_some c.args.n)

pub loop-rest-init : goal.loop-rest-init
loop-rest-init c =
    let a = c.args in
    let h = width_some a.n in
    (omega arith, take_all (a.width - 1 + 1) (decimal_of a.n) (omega arith), refl, sym (put_start (decimal_of a.n) a.out.now (a.width - 1 + 1) (omega arith)))

pub overflow_sub-i-in-loop-rest : goal.overflow_sub-i-in-loop-rest
overflow_sub-i-in-loop-rest c =
    let a = c.args in
    let l = c.loop-rest in
    let z = put_turn a.n l.i l.rest a.out.now (omega arith) (omega arith) l.invariant.1 c.loop-rest-test.true in
    omega arith

pub loop-rest-preserved : goal.loop-rest-preserved
loop-rest-preserved c =
    let a = c.args in
    let l = c.loop-rest in
    let z = put_turn a.n l.i l.rest a.out.now (omega arith) (omega arith) l.invariant.1 c.loop-rest-test.true in
    let e : l.i - 1 + 1 ≡ l.i = omega arith in
    (omega arith, rw e z.1, simp length-set (omega arith), rw e (ap (λ o. set o l.i (48 + l.rest % 10)) l.invariant.3 ∙ z.2))

pub shape_of-out : goal.shape_of-out
shape_of-out c = simp length-set c.loop-rest.invariant.2

pub returns : goal.returns
returns c =
    let a = c.args in
    let l = c.loop-rest in
    ap (λ o. set o l.i (48 + l.rest)) l.invariant.3 ∙ put_end a.n l.i l.rest a.out.now (omega arith) (omega arith) l.invariant.1 (omega arith)
