-- `payload::draft::Draft::number` meets its contract: the number's writer puts all its bytes, since they fit.
-- Assumes nothing.
use Rattle.payload.proofs.Drafts.{number_told}
use Rattle.payload.proofs.draft.Draft.number.Goals as goal

pub returns-clause-value : goal.returns-clause-value
returns-clause-value g c = rw c.WIDTH.ensures (number_told _ c.self.told _ c.self.invariant c.self.view_is _ _ c.requires c.put_le.ensures)
