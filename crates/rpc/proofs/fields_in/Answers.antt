-- `rpc::fields_in` meets its contract: three numbers at their places; a type is a byte, since the word has 32 bits.
-- Assumes nothing.
use native.Mathlib.Omega.{arith}
use Rattle.rpc.specs.Layout.{fields_in}
use Rattle.rpc.proofs.Forms.{span_some, kind_byte}
use Rattle.rpc.proofs.fields_in.Goals as goal

pub nonzero_div-result : goal.nonzero_div-result
nonzero_div-result c = rw c.id_span-span.ensures (span_some c.args.form)

pub overflow_cast-result : goal.overflow_cast-result
overflow_cast-result c = rw c.id_span-span.ensures (record { fits = kind_byte c.args.form c.be4-word.result (omega arith) })

pub nonzero_rem-result : goal.nonzero_rem-result
nonzero_rem-result c = rw c.id_span-span.ensures (span_some c.args.form)

pub returns : goal.returns
unfolding fields_in
returns c = rw (← c.be4-word.ensures, ← c.id_span-span.ensures, ← c.be4.ensures, ← c.json_size.ensures)
