-- `text::Text::listed` meets its contract, by whether the list has a part.
-- Assumes nothing.
use borrow.Author.Tests.{le-leb, lt-leb}
use Rattle.text.proofs.Text.listed.Goals as goal

pub returns-then-self-start : goal.returns-then-self-start
returns-then-self-start c = rw (le-leb c.args.self.end c.args.start c.if-self-start.true) c.byte.ensures

pub returns : goal.returns
returns c = rw (lt-leb c.args.self.end c.args.start c.if-self-start.false) c.same.ensures
