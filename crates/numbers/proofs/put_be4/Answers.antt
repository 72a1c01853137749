-- `numbers::put_be4` meets its contract: the number's bytes turned, and put in the other order.
-- Assumes nothing.
use mathlib.Core.Path.{◌≡◌, ◌∙◌}
use Rattle.numbers.specs.Bytes.{put_at}
use Rattle.numbers.specs.Numbers.{bytes_le}
use Rattle.numbers.proofs.Laws.{turned_written}
use Rattle.numbers.proofs.Turns.{turned}
use Rattle.numbers.proofs.put_be4.Goals as goal

pub returns : goal.returns
returns c =
    let a = c.args in
    let put : c.write_le.new.out ≡ put_at a.out.now a.at 4 (bytes_le 4 c.from.result) = c.write_le.ensures in
    put ∙ rw (c.from.ensures ∙ turned a.x _ c.ranges.x.fits c.swap_bytes.ensures, turned_written 4 a.x)
