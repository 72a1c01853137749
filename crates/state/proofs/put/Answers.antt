-- `state::put` meets its contract.
-- Assumes nothing.
use Rattle.numbers.specs.Numbers.{bytes_le}
use Rattle.numbers.proofs.Laws.{length_le}
use Rattle.state.proofs.Packed.{lent_put}
use Rattle.state.proofs.put.Goals as goal

pub returns : goal.returns
returns o c =
    let w = o.N.Number.WIDTH in
    let bytes = bytes_le w (o.N.Number.value c.args.x) in
    rw c.WIDTH.ensures (lent_put c.args.s.now c.args.at w bytes c.put_le.new.out (length_le w _) c.requires (rw c.WIDTH.ensures at c.put_le.ensures))
