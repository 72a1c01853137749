-- `words::words_end` meets its contract. The loop's invariant: the words that are left end where all of them do.
-- Assumes nothing.
use Prim.Native.Nat.{◌-◌}
use mathlib.Core.Path.{◌≡◌}
use Rattle.words.specs.Words.{words_end}
use Rattle.words.proofs.words_end.Given as goal

abbrev pub invariant-loop : goal.invariant-loop
invariant-loop l = words_end l.line (l.count - l.counter) l.end ≡ words_end l.line l.count l.space
