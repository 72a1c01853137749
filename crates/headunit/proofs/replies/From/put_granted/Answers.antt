-- `headunit::replies::From::put_granted` meets its contract.
-- Assumes nothing.
use mathlib.Core.Path.{refl}
use lib.ListN.{replicate}
use native.Mathlib.Omega.{arith}
use Rattle.payload.specs.Reply.{service_ack_payload}
use Rattle.payload.proofs.Replies.{length_service_ack}
use Rattle.link.proofs.Replies.{reply_infos}
use Rattle.headunit.proofs.Laws.{count_is, payload_done}
use Rattle.headunit.proofs.replies.From.put_granted.Goals as goal

pub unwrap-size-requires : goal.unwrap-size-requires
unwrap-size-requires c =
    let a = c.args in
    rw (payload_done (service_ack_payload a.hash c.from.result) (replicate 64 0) (omega (arith, length_service_ack a.hash c.from.result)) c.write_service_ack.ensures).0 refl

pub put-requires : goal.put-requires
put-requires c =
    let a = c.args in
    let done = payload_done (service_ack_payload a.hash c.from.result) (replicate 64 0) (omega (arith, length_service_ack a.hash c.from.result)) c.write_service_ack.ensures in
    (c.requires, (reply_infos.0, omega (arith, count_is c.unwrap-size.ensures done.0, length_service_ack a.hash c.from.result)))
