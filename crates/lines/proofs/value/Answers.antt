-- `lines::value` meets its contract. The loop's invariant: v, followed by what is left of the text, says what the whole text says.
-- Assumes nothing.
use Prim.Native.Nat.{ℕ, ◌+◌, ◌-◌, ◌*◌, ◌^◌, ◌≤◌}
use mathlib.Core.Path.{◌≡◌, sym, ◌∙◌}
use native.Mathlib.Omega.{arith}
use lib.ListN.{drop, get_or}
use borrow.Author.Tests.{lt-ltb, le-ltb}
use Rattle.lines.specs.Decimal.{value_from}
use Rattle.lines.proofs.Digits.{value_at, value_end, value_most, short_some, short_none}
use Rattle.lines.proofs.value.Goals as goal

pub returns-in_err-v : goal.returns-in_err-v
returns-in_err-v c =
    let t = c.args.text.now in
    let l = c.loop-b in
    let v : ℕ = l.v * 10 + (get_or t l.b-index 0 - 48) in
    let large : 2 ^ 64 ≤ v = short_none v c.in_err-v.ensures in
    let h : 2 ^ 64 ≤ value_from 0 t = omega (arith, value_most v (drop (l.b-index + 1) t), value_at l.v t l.b-index (omega arith)) in
    rw (le-ltb _ _ h) c.from_residual.ensures

pub loop-b-preserved : goal.loop-b-preserved
loop-b-preserved c =
    let t = c.args.text.now in
    let l = c.loop-b in
    let v : ℕ = l.v * 10 + (get_or t l.b-index 0 - 48) in
    let same = short_some v c.in_ok-v.v c.in_ok-v.ensures in
    (omega arith, rw same.0 (value_at l.v t l.b-index (omega arith) ∙ l.invariant.1))

pub returns : goal.returns
returns c =
    let t = c.args.text.now in
    let l = c.loop-b in
    let e : value_from 0 t ≡ l.v = sym (value_end l.v t l.b-index (omega arith) ∙ l.invariant.1) in
    rw (e, lt-ltb _ _ l.invariant.0)
