-- `frame::write` meets its contract: at the end the payload stands right behind the header.
-- Assumes nothing.
use borrow.Author.Tests.{le-leb}
use mathlib.Core.Path.{sym, ◌∙◌, refl, ap}
use native.Mathlib.Omega.{arith}
use Prim.Native.Nat.{◌+◌}
use lib.ListN.{length}
use Rattle.std.specs.Prelude.{Ok}
use Rattle.frame.specs.Write.{wrote, header_bytes}
use Rattle.frame.proofs.Laws.{header_length, frame_length, write_puts}
use Rattle.frame.proofs.Buffers.{bytes_put}
use Rattle.frame.proofs.write.Goals as goal

pub returns : goal.returns
returns c =
    let a = c.args in
    let start = c.header_size-start.result in
    ap (wrote (Ok (start + length a.payload.now)))
    (bytes_put (header_bytes a.header) a.payload.now a.out.now _ _ _ start
    (header_length a.header ∙ sym c.header_size-start.ensures) c.put_header.ensures c.copy.ensures refl)
    ∙ rw (
      write_puts a.header a.payload.now a.out.now (sym c.in_ok-fault.ensures.lowest) (omega arith),
      frame_length a.header a.payload.now,
      ← c.header_size-start.ensures,
      le-leb _ _ c.if-out-end.false,
    )
