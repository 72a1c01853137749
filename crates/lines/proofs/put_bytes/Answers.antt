-- `lines::put_bytes` meets its contract. The loop's invariant: the first bytes of the text, as many as are done, lie over the front of the buffer.
-- Assumes nothing.
use Prim.Native.Nat.{◌+◌, ◌*◌, ◌-◌}
use mathlib.Core.Path.{◌≡◌, refl, ◌∙◌}
use native.Mathlib.Omega.{arith}
use Rattle.lines.specs.Hex.{is_hex, bytes_of}
use Rattle.lines.proofs.Turns.{every_part, front_end}
use Rattle.lines.proofs.Characters.{length_bytes}
use Rattle.lines.proofs.Pairs.{group_turn}
use borrow.Author.Rules.{rules}
use Rattle.lines.proofs.put_bytes.Goals as goal

pub loop-done-init : goal.loop-done-init
loop-done-init c = (omega arith, refl)

pub put_group-requires : goal.put_group-requires
put_group-requires c =
    let d = c.loop-done.done in
    let n = c.min.result in
    (every_part is_hex c.args.text.now (2 * d) (2 * (d + n) - 2 * d) c.requires.0, search rules)

pub loop-done-preserved : goal.loop-done-preserved
loop-done-preserved c =
    let a = c.args in
    let l = c.loop-done in
    let n = c.min.result in
    let whole : n ≡ 64 = omega arith in
    let turn = group_turn a.text.now a.out.now l.out _ l.done n (omega arith) (omega arith) (omega arith) l.invariant.1 c.put_group.ensures in
    (omega arith, turn ∙ rw whole)

pub returns : goal.returns
returns c =
    let t = c.args.text.now in
    let l = c.loop-done in
    l.invariant.1 ∙ front_end (bytes_of t) c.args.out.now l.done (omega (arith, length_bytes t))

-- the last group, behind which there is none
pub returns-2 : goal.returns-2
returns-2 c =
    let a = c.args in
    let t = a.text.now in
    let l = c.loop-done in
    let n = c.min.result in
    group_turn t a.out.now l.out _ l.done n (omega arith) (omega arith) (omega arith) l.invariant.1 c.put_group.ensures
    ∙ front_end (bytes_of t) a.out.now (l.done + n) (omega (arith, length_bytes t))
