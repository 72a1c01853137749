-- `headunit::deliver` meets its contract.
-- Assumes nothing.
use mathlib.Core.Path.{refl}
use Rattle.headunit.proofs.Parts.{written_is}
use Rattle.headunit.proofs.deliver.Goals as goal

pub returns-clause-out_after : goal.returns-clause-out_after
returns-clause-out_after c = written_is _ _ c.args.message.total _ _ _ c.deliver.ensures refl c.requires
