-- `rules::index_of` meets its contract: no id passed is this one. Assumes nothing.
use mathlib.Core.Path.{◌≡◌, sym, ◌∙◌}
use native.Mathlib.Omega.{arith}
use lib.ListN.{length}
use borrow.Author.Rules.{rules}
use borrow.Author.Tests.{eqb-true, eqb-false}
use Rattle.rules.proofs.Turns.{index_hit, index_pass, index_end}
use Rattle.rules.proofs.index_of.Goals as goal

pub returns-then-eq : goal.returns-then-eq
returns-then-eq c =
    let ids = c.args.ids in
    let size : length ids ≡ 8 = search rules in
    let found = index_hit c.args.id ids c.loop-number.number (omega arith) (eqb-true _ _ (sym c.eq.ensures ∙ c.if-eq.true)) in
    omega (arith, found, c.loop-number.invariant)

pub loop-number-preserved : goal.loop-number-preserved
loop-number-preserved c =
    let ids = c.args.ids in
    let size : length ids ≡ 8 = search rules in
    let passed = index_pass c.args.id ids c.loop-number.number (omega arith) (eqb-false _ _ (sym c.eq.ensures ∙ c.if-eq.false)) in
    omega (arith, passed, c.loop-number.invariant)

pub returns : goal.returns
returns c =
    let ids = c.args.ids in
    let size : length ids ≡ 8 = search rules in
    omega (arith, index_end c.args.id ids c.loop-number.number (omega arith), c.loop-number.invariant, c.loop-number.auto.number-end)
