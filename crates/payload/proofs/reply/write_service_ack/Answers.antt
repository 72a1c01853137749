-- `payload::reply::write_service_ack` meets its contract: out's room is judged first; then the document of hashId and mtu goes to the front.
-- Assumes nothing.
use native.Mathlib.Omega.{arith}
use mathlib.Core.Path.{ap, ◌∙◌}
use mathlib.Core.List.{List}
use Rattle.std.specs.Prelude.{ℕ}
use Rattle.payload.specs.Append.{put_of}
use Rattle.payload.specs.Reply.{grant_elements, service_ack_payload}
use Rattle.payload.proofs.Appends.{too_small}
use Rattle.payload.proofs.Replies.{drafted, length_grant, length_service_ack}
use Rattle.payload.proofs.reply.write_service_ack.Goals as goal

pub returns-then-out-end : goal.returns-then-out-end
returns-then-out-end c = let a = c.args in too_small (service_ack_payload a.hash a.mtu) _ (length_service_ack a.hash a.mtu) (omega arith)

pub returns : goal.returns
unfolding service_ack_payload
returns c =
    let a = c.args in
    c.write.ensures
    ∙ ap (λ (p : List ℕ). put_of p a.out.now) (drafted (grant_elements a.hash a.mtu) 30 (omega (arith, length_grant a.hash a.mtu)) c.grant-payload.ensures.value c.byte.ensures.value)
