-- `rules::lowest_free` meets its contract. Assumes nothing.
use Prim.Native.Nat.{◌+◌}
use mathlib.Core.Path.{◌≡◌, sym, ◌∙◌}
use native.Mathlib.Omega.{arith}
use lib.ListN.{length}
use borrow.Author.Rules.{rules}
use Rattle.rules.proofs.Turns.{index_says, lowest_found, lowest_pass, lowest_end}
use Rattle.rules.proofs.lowest_free.Goals as goal

pub returns-then-is_none : goal.returns-then-is_none
returns-then-is_none c =
    let ids = c.args.ids in
    let size : length ids ≡ 8 = search rules in
    sym (lowest_found c.loop-number.number ids (omega arith) ((index_says _ c.index_of.ensures).0 c.if-is_none.ensures ∙ sym size)) ∙ c.loop-number.invariant

pub loop-number-preserved : goal.loop-number-preserved
loop-number-preserved c =
    let ids = c.args.ids in
    let size : length ids ≡ 8 = search rules in
    sym (lowest_pass c.loop-number.number ids (omega arith) (λ e. (index_says _ c.index_of.ensures).1 c.if-is_none.ensures (e ∙ size))) ∙ c.loop-number.invariant

pub returns-else-is_none : goal.returns-else-is_none
returns-else-is_none c =
    let n = c.loop-number.number in
    let ids = c.args.ids in
    let size : length ids ≡ 8 = search rules in
    let passed = lowest_pass n ids (omega arith) (λ e. (index_says _ c.index_of.ensures).1 c.if-is_none.ensures (e ∙ size)) in
    sym (lowest_end (n + 1) ids (omega arith)) ∙ sym passed ∙ c.loop-number.invariant

pub returns : goal.returns
returns c = sym (lowest_end c.loop-number.number c.args.ids (omega arith)) ∙ c.loop-number.invariant
