-- `lines::letter` meets its contract: the two cases of the definition.
-- Assumes nothing.
use borrow.Author.Tests.{lt-ltb, le-ltb}
use Rattle.lines.specs.Hex.{letter_of}
use Rattle.lines.proofs.letter.Goals as goal

pub returns-then-v-lt10 : goal.returns-then-v-lt10
unfolding letter_of
returns-then-v-lt10 c = rw (lt-ltb _ _ c.if-v-lt10.true)

pub returns-else-v-lt10 : goal.returns-else-v-lt10
unfolding letter_of
returns-else-v-lt10 c = rw (le-ltb _ _ c.if-v-lt10.false)
