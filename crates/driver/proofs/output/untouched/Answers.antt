-- `driver::output::untouched` meets its contract, by definition.
-- Assumes nothing.
use Rattle.std.proofs.Common.{refl}
use Rattle.driver.specs.Answers.{untouched_out}
use Rattle.driver.proofs.output.untouched.Goals as goal

pub returns : goal.returns
unfolding untouched_out
returns c = refl
