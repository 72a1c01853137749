-- `headunit::replies::put_opened` meets its contract.
-- Assumes nothing.
use mathlib.Core.Path.{refl}
use Prim.Native.Nat.{◌≤◌}
use lib.ListN.{length, replicate}
use native.Mathlib.Omega.{arith}
use Rattle.payload.specs.Reply.{ack_payload}
use Rattle.payload.proofs.Replies.{ack_most}
use Rattle.link.proofs.Replies.{reply_infos, rpc_listed}
use Rattle.headunit.proofs.Laws.{count_is, said_done}
use Rattle.headunit.proofs.replies.put_opened.Goals as goal

pub unwrap-size-requires : goal.unwrap-size-requires
unwrap-size-requires c =
    let a = c.args in
    let short : length (ack_payload a.hash c.from.result a.version) ≤ 63 = ack_most a.hash c.from.result a.version (omega arith) (omega arith) (omega arith) in
    rw (said_done a.version (ack_payload a.hash c.from.result a.version) (replicate 64 0) c.requires.1 (omega arith) c.write_ack.ensures).0 refl

pub invariant_of-from : goal.invariant_of-from
invariant_of-from c = record { least = omega arith; most = omega arith; listed = rpc_listed }

pub put-requires : goal.put-requires
put-requires c =
    let a = c.args in
    let short : length (ack_payload a.hash c.from.result a.version) ≤ 63 = ack_most a.hash c.from.result a.version (omega arith) (omega arith) (omega arith) in
    let done = said_done a.version (ack_payload a.hash c.from.result a.version) (replicate 64 0) c.requires.1 (omega arith) c.write_ack.ensures in
    (c.requires.0, (reply_infos.0, omega (arith, count_is c.unwrap-size.ensures done.0)))
