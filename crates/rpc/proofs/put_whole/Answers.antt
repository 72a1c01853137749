-- `rpc::put_whole` meets its contract: each piece is put right behind what was laid.
-- Assumes nothing.
use mathlib.Core.Path.{refl}
use Rattle.rpc.proofs.Buffers.{whole_laid}
use Rattle.rpc.proofs.put_whole.Goals as goal

pub word_of-requires : goal.word_of-requires
word_of-requires c =
    let fits = c.requires in
    (fits.0, fits.1.0)

-- from the last piece to the first: bulk data, JSON, JSON size, number, word
pub returns : goal.returns
returns c =
    let a = c.args in
    whole_laid a.form a.fields a.json.now a.bulk.now a.out.now c.requires.1.1 _ _ _ _ _ _ _ _ c.word_of.ensures
    c.put_be4.ensures c.put_be4-2.ensures c.put_be4-3.ensures c.copy.ensures refl c.copy-2.ensures refl
