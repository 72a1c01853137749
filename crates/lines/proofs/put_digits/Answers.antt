-- `lines::put_digits` meets its contract. The loop's invariant: the first 2 i characters lie over the front of the buffer.
-- Assumes nothing.
use Prim.Native.Nat.{◌+◌, ◌*◌, ◌/◌, ◌%◌}
use mathlib.Core.Path.{◌≡◌, ap, ◌∙◌, sym}
use native.Mathlib.Omega.{arith}
use lib.ListN.{get_or, set}
use Rattle.lines.specs.Hex.{hex_of, letter_of}
use Rattle.lines.proofs.Turns.{front_two, front_end}
use Rattle.lines.proofs.Characters.{length_hex, letters_at}
use Rattle.lines.proofs.put_digits.Goals as goal

pub loop-i-preserved : goal.loop-i-preserved
loop-i-preserved c =
    let b = c.args.bytes.now in
    let o = c.args.out.now in
    let l = c.loop-i in
    let first = c.letter in
    let second = c.letter-in-loop-i in
    let two : 2 * (l.i + 1) ≡ 2 * l.i + 1 + 1 = omega arith in
    let upper : first.result ≡ letter_of (get_or b l.i 0 / 16) = first.ensures in
    let lower : second.result ≡ letter_of (get_or b l.i 0 % 16) = second.ensures in
    let h = letters_at b l.i (omega arith) in
    let f = front_two (hex_of b) o (2 * l.i) first.result second.result (omega (arith, length_hex b)) (omega arith) (h.0 ∙ sym upper) (h.1 ∙ sym lower) in
    rw two (ap (λ d. set (set d (2 * l.i) first.result) (2 * l.i + 1) second.result) l.invariant ∙ f)

pub returns : goal.returns
returns c =
    let b = c.args.bytes.now in
    let l = c.loop-i in
    l.invariant ∙ front_end (hex_of b) c.args.out.now (2 * l.i) (omega (arith, length_hex b))
