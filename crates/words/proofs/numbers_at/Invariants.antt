-- `words::numbers_at` meets its contract. The loop's invariant: the numbers so far, with one more for each limit that is left, are all numbers.
-- Assumes nothing.
use mathlib.Core.Path.{◌≡◌}
use mathlib.Core.Bool.{true}
use lib.ListN.{drop}
use Rattle.words.specs.Words.{numbers_from, no_numbers}
use Rattle.words.proofs.numbers_at.Given as goal

abbrev pub invariant-loop-i : goal.invariant-loop-i
invariant-loop-i l =
    numbers_from l.line (drop l.i l.limits) l.i (record { good = true; values = l.values; lent = l.lent; end = l.end }) ≡ numbers_from l.line l.limits 0 (no_numbers l.space)
