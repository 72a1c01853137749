-- `rules::distinct` meets its contract: the ids passed are not found again. Assumes nothing.
use Prim.Native.Nat.{◌+◌}
use mathlib.Core.Path.{◌≡◌, sym, ◌∙◌}
use native.Mathlib.Omega.{arith}
use lib.ListN.{length}
use borrow.Author.Rules.{rules}
use Rattle.rules.proofs.Turns.{rest_of, distinct_turn, distinct_end}
use Rattle.rules.proofs.distinct.Goals as goal

pub loop-i-preserved : goal.loop-i-preserved
loop-i-preserved c =
    let l = c.loop-i in
    let ids = c.args.ids in
    let size : length ids ≡ 8 = search rules in
    rw (c.is_once-apart.ensures, rest_of ids (l.i + 1) size) (sym (distinct_turn l.apart ids l.i (omega arith)) ∙ l.invariant)

pub returns : goal.returns
returns c =
    let l = c.loop-i in
    let ids = c.args.ids in
    let size : length ids ≡ 8 = search rules in
    sym (distinct_end l.apart ids l.i (omega arith)) ∙ l.invariant
