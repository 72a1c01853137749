-- `payload::reply::write_ack` meets its contract: the major is judged first, then out's room; then the document of hashId, mtu and protocolVersion
-- goes to the front. Assumes nothing.
use native.Mathlib.Omega.{arith}
use mathlib.Core.Path.{ap, ◌∙◌}
use mathlib.Core.List.{List, append_assoc}
use Rattle.std.specs.Prelude.{ℕ, ◌+◌}
use Rattle.payload.specs.Append.{put_of}
use Rattle.payload.specs.Reply.{ack_payload}
use Rattle.payload.proofs.Appends.{too_small, out_of_range, in_range_put}
use Rattle.payload.proofs.Replies.{drafted, tags, length_tags, length_ack}
use Rattle.payload.proofs.reply.write_ack.Goals as goal

pub returns-then-unsaid : goal.returns-then-unsaid
returns-then-unsaid c = let a = c.args in out_of_range a.version (ack_payload a.hash a.mtu a.version) _ (omega arith)

pub returns-then-out-end : goal.returns-then-out-end
returns-then-out-end c =
    let a = c.args in
    too_small (ack_payload a.hash a.mtu a.version) _ (length_ack a.hash a.mtu a.version) (omega arith) ∙ in_range_put a.version (ack_payload a.hash a.mtu a.version) _ (omega arith)

pub returns : goal.returns
unfolding ack_payload
returns c =
    let a = c.args in
    let e = tags a.hash a.mtu a.version in
    c.write.ensures
    ∙ ap (λ (p : List ℕ). put_of p a.out.now) (drafted e (c.size-end.result + 52) (omega (arith, length_tags a.hash a.mtu a.version))
    (c.protocol_version.ensures.value ∙ rw (c.grant-payload.ensures.value) (simp append_assoc))
    c.byte.ensures.value)
    ∙ in_range_put a.version (ack_payload a.hash a.mtu a.version) _ (omega arith)
