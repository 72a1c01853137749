-- `lines::bytes_to_hex` meets its contract. The text has two characters a byte, so half the buffer decides whether it fits.
-- Assumes nothing.
use Prim.Native.Nat.{◌*◌, ◌<◌, ◌≤◌}
use native.Mathlib.Omega.{arith}
use borrow.Author.Tests.{lt-ltb, le-ltb}
use lib.ListN.{length}
use Rattle.lines.specs.Text.{written_of}
use Rattle.lines.proofs.Characters.{length_hex}
use Rattle.lines.proofs.bytes_to_hex.Goals as goal

pub returns-then-out-count : goal.returns-then-out-count
unfolding written_of
returns-then-out-count c =
    let b = c.args.bytes.now in
    let h : length c.args.out.now < 2 * length b = omega arith in
    rw (length_hex b, lt-ltb _ _ h)

pub returns : goal.returns
unfolding written_of
returns c =
    let b = c.args.bytes.now in
    let h : 2 * length b ≤ length c.args.out.now = omega arith in
    rw (length_hex b, le-ltb _ _ h, c.put_digits.ensures, length_hex b)
