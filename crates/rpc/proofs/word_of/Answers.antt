-- `rpc::word_of` meets its contract: type and id have 32 bits together.
-- Assumes nothing.
use native.Mathlib.Omega.{arith}
use Rattle.rpc.proofs.Forms.{word_fits}
use Rattle.rpc.proofs.word_of.Goals as goal

pub overflow_mul-result : goal.overflow_mul-result
overflow_mul-result c =
    let a = c.args in
    rw (c.id_span.ensures, c.from.ensures) (record { fits = omega (arith, word_fits a.form a.fields.kind a.fields.id c.requires.0 c.requires.1) })

pub overflow_add-result : goal.overflow_add-result
overflow_add-result c =
    let a = c.args in
    rw (c.id_span.ensures, c.from.ensures) (record { fits = word_fits a.form a.fields.kind a.fields.id c.requires.0 c.requires.1 })

pub returns : goal.returns
returns c = rw (c.id_span.ensures, c.from.ensures)
