-- `sender::Sendable::frame_count` meets its contract: the library's quotient, rounded up, is document 01's.
-- Assumes nothing.
use native.Mathlib.Omega.{arith}
use mathlib.Core.Path.{◌∙◌}
use lib.ListN.{length}
use Rattle.sender.specs.Sender.{count_of}
use Rattle.sender.proofs.Counts.{chunk_range, rounded_up}
use Rattle.sender.proofs.Sendable.frame_count.Goals as goal

pub div_ceil-requires : goal.div_ceil-requires
div_ceil-requires c = let o = c.args.self.outgoing in omega (arith, chunk_range o.version o.chunk c.args.self.ready.chunk)

pub returns : goal.returns
unfolding count_of
returns c =
    let o = c.args.self.outgoing in
    c.div_ceil.ensures ∙ rounded_up (length c.args.message.now) o.chunk (chunk_range o.version o.chunk c.args.self.ready.chunk).0
