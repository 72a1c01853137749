-- `state::read_row` meets its contract.
-- Assumes nothing.
use Rattle.state.proofs.read_row.Goals as goal

pub returns : goal.returns
returns c = rw (c.messages.ensures, c.number-8.ensures, c.flag-2.ensures, c.number-7.ensures, c.flag.ensures, c.number-6.ensures, c.number-5.ensures, c.number-4.ensures, c.number-3.ensures, c.number-2.ensures, c.number.ensures)
