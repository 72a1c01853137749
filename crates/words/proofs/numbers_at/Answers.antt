-- `words::numbers_at` meets its contract. The loop's invariant: the numbers so far, with one more for each limit that is left, are all numbers.
-- Assumes nothing.
use mathlib.Core.Path.{ap, ◌∙◌}
use mathlib.Core.Bool.{true}
use native.Mathlib.Omega.{arith}
use Rattle.words.proofs.Turns.{number_good, number_bad, passed_end, numbers_end}
use Rattle.words.specs.Words.{NumbersRead, said_numbers}
use Rattle.words.proofs.numbers_at.Goals as goal

pub returns-in_default-clause-numbers : goal.returns-in_default-clause-numbers
returns-in_default-clause-numbers c =
    let a = c.args in
    let l = c.loop-i in
    let end = c.word_end-end in
    number_bad a.line.now a.limits.now l.values l.i l.lent l.end end.result c.between.result.now _ (omega arith) l.invariant end.ensures c.between.ensures (c.in_default.ensures end.result)

pub returns-in_default-clause-end : goal.returns-in_default-clause-end
returns-in_default-clause-end c =
    let a = c.args in
    let l = c.loop-i in
    let end = c.word_end-end in
    passed_end a.line.now a.limits.now l.values l.i l.lent l.end end.result c.between.result.now _ (omega arith) l.invariant end.ensures c.between.ensures c.words_end.ensures

pub loop-i-preserved : goal.loop-i-preserved
loop-i-preserved c =
    let a = c.args in
    let l = c.loop-i in
    let end = c.word_end-end in
    number_good a.line.now a.limits.now l.values l.i l.lent l.end end.result c.between.result.now _ (omega arith) l.invariant end.ensures c.between.ensures (c.in-Some.ensures end.result)

pub returns-clause-numbers : goal.returns-clause-numbers
returns-clause-numbers c =
    let a = c.args in
    let l = c.loop-i in
    let n : NumbersRead = record { good = true; values = l.values; lent = l.lent; end = l.end } in
    ap said_numbers (numbers_end a.line.now a.limits.now l.i n (omega arith) ∙ l.invariant)

pub returns-clause-end : goal.returns-clause-end
returns-clause-end c =
    let a = c.args in
    let l = c.loop-i in
    let n : NumbersRead = record { good = true; values = l.values; lent = l.lent; end = l.end } in
    ap (λ (all : NumbersRead). all.end) (numbers_end a.line.now a.limits.now l.i n (omega arith) ∙ l.invariant)
