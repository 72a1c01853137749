-- `headunit::tell` meets its contract.
-- Assumes nothing.
use Prim.Native.Nat.{ℕ, ◌≤◌}
use mathlib.Core.Path.{◌≡◌, refl, ap, ap₂, sym, subst, ◌∙◌}
use mathlib.Core.Logic.{⊎_elim}
use mathlib.Core.Bool.{Bool, true, false}
use mathlib.Core.List.{List, []}
use native.Mathlib.Omega.{arith}
use lib.ListN.{length}
use Rattle.std.specs.Bool.{then_some}
use Rattle.numbers.specs.Bytes.{pick}
use Rattle.payload.specs.declared.reply.Parameter.TheVariants.{HashId}
use Rattle.payload.specs.Tags.{hash_id}
use Rattle.payload.specs.Reply.{nak_payload}
use Rattle.session.specs.declared.Reassembly.{Reassembly}
use Rattle.session.specs.declared.Row.{Row}
use Rattle.session.specs.Rows.{no_message_id, no_row, message_at}
use Rattle.session.specs.Rules.{reply_version}
use Rattle.session.specs.Decide.{place_of}
use Rattle.link.specs.declared.Answer.TheVariants as answer
use Rattle.link.specs.State.{owner_of}
use Rattle.link.specs.Reply.{start_ack, start_nak, end_ack, end_nak, beat_ack, granted_payload}
use Rattle.link.proofs.Replies.{reply_infos}
use Rattle.state.specs.Layout.{row_in, link_of}
use Rattle.state.proofs.Rows.{row_of_link}
use Rattle.headunit.specs.Unit.{rejection}
use Rattle.headunit.specs.Steps.{case_of, from_row, told, Roomy}
use Rattle.headunit.proofs.Parts.{told_by, replied_is, replied_plain, fed-is, delivered-is}
use Rattle.headunit.proofs.tell.Goals as goal

-- the hash id is named, or nothing
named_rejects : (named : Bool) → rejection (then_some named HashId) ≡ pick named (nak_payload hash_id) []
named_rejects true = refl
named_rejects false = refl

pub from-from-requires : goal.from-from-requires
from-from-requires c = let a = c.args in
    let s = a.link.now in
    let l = link_of s in
    let k = case_of l a.i.number a.service a.hash a.consumed in
    let row = c.row_at-row.ensures ∙ sym (row_of_link s no_row a.i.number a.i.below) in
    let version : reply_version c.major.result c.row_at-row.result ≡ k.from.version = ap₂ reply_version c.major.ensures row in
    rw version c.requires.0.1

pub put-size-requires : goal.put-size-requires
put-size-requires c = (c.requires.0.0, (reply_infos.4, omega arith))

pub put_nak-requires : goal.put_nak-requires
put_nak-requires c = (c.requires.0.0, reply_infos.1)

pub put-size-requires-in-Stop : goal.put-size-requires-in-Stop
put-size-requires-in-Stop c = (c.requires.0.0, (reply_infos.2, omega arith))

pub put_nak-requires-in-NoEnd : goal.put_nak-requires-in-NoEnd
put_nak-requires-in-NoEnd c = (c.requires.0.0, reply_infos.3)

pub deliver-requires : goal.deliver-requires
deliver-requires c = let a = c.args in
    let s = a.link.now in
    let l = link_of s in
    let k = case_of l a.i.number a.service a.hash a.consumed in
    let at = c.place_of-place.ensures.0 in
    let message = c.message_at-message-in-Deliver.ensures ∙ ap (λ (n : ℕ). message_at (row_in s a.i.number) n) at ∙ ap (λ (x : Row). message_at x (place_of a.service.0)) (sym (row_of_link s no_row a.i.number a.i.below)) in
    let room : k.message.total ≤ length a.out.now = subst (Roomy (length a.out.now) (length a.payload.now) k.message.total) c.in-Deliver.is c.requires.1 in
    subst (λ (m : Reassembly). m.total ≤ length a.out.now) (sym message) room

pub returns-in-Beat : goal.returns-in-Beat
returns-in-Beat c = let a = c.args in
    let s = a.link.now in
    let l = link_of s in
    let k = case_of l a.i.number a.service a.hash a.consumed in
    let row = c.row_at-row.ensures ∙ sym (row_of_link s no_row a.i.number a.i.below) in
    let from = c.from-from.ensures ∙ ap (λ (m : ℕ). from_row m c.row_at-row.result a.service) c.major.ensures ∙ ap (λ (x : Row). from_row l.version.major x a.service) row in
    told_by k l.owners a.payload.now a.pool.now a.out.now a.act.now _ c.in-Beat.is (replied_plain k l.owners a.payload.now a.pool.now a.out.now answer.Beat beat_ack no_message_id [] from c.put-size.ensures)

pub returns-in-Start : goal.returns-in-Start
returns-in-Start c = let a = c.args in
    let s = a.link.now in
    let l = link_of s in
    let k = case_of l a.i.number a.service a.hash a.consumed in
    let row = c.row_at-row.ensures ∙ sym (row_of_link s no_row a.i.number a.i.below) in
    let from = c.from-from.ensures ∙ ap (λ (m : ℕ). from_row m c.row_at-row.result a.service) c.major.ensures ∙ ap (λ (x : Row). from_row l.version.major x a.service) row in
    let carried = ap₂ (λ (x : Row) (m : ℕ). granted_payload x.version a.hash m) row c.mtu.ensures in
    told_by k l.owners a.payload.now a.pool.now a.out.now a.act.now _ c.in-Start.is (replied_is k l.owners a.payload.now a.pool.now a.out.now answer.Acked start_ack from (ap (λ (x : Row). x.next) row) carried c.put_started-size.ensures)

pub returns-in-NoStart : goal.returns-in-NoStart
returns-in-NoStart c = let a = c.args in
    let s = a.link.now in
    let l = link_of s in
    let k = case_of l a.i.number a.service a.hash a.consumed in
    let row = c.row_at-row.ensures ∙ sym (row_of_link s no_row a.i.number a.i.below) in
    let from = c.from-from.ensures ∙ ap (λ (m : ℕ). from_row m c.row_at-row.result a.service) c.major.ensures ∙ ap (λ (x : Row). from_row l.version.major x a.service) row in
    told_by k l.owners a.payload.now a.pool.now a.out.now a.act.now _ c.in-NoStart.is (replied_plain k l.owners a.payload.now a.pool.now a.out.now answer.Nacked start_nak no_message_id [] from c.put_nak.ensures)

pub returns-in-Stop : goal.returns-in-Stop
returns-in-Stop c = let a = c.args in
    let s = a.link.now in
    let l = link_of s in
    let k = case_of l a.i.number a.service a.hash a.consumed in
    let row = c.row_at-row.ensures ∙ sym (row_of_link s no_row a.i.number a.i.below) in
    let from = c.from-from.ensures ∙ ap (λ (m : ℕ). from_row m c.row_at-row.result a.service) c.major.ensures ∙ ap (λ (x : Row). from_row l.version.major x a.service) row in
    let none : ◌≡◌ {A = List ℕ} [] [] = refl in
    let acked = replied_is k l.owners a.payload.now a.pool.now a.out.now answer.Acked end_ack from (ap (λ (x : Row). x.next) row) none c.put-size-in-Stop.ensures in
    ⊎_elim (λ e. told_by k l.owners a.payload.now a.pool.now a.out.now a.act.now _ e acked) (λ e. told_by k l.owners a.payload.now a.pool.now a.out.now a.act.now _ e acked) c.in-Stop.is

pub returns-in-NoEnd : goal.returns-in-NoEnd
returns-in-NoEnd c = let a = c.args in
    let s = a.link.now in
    let l = link_of s in
    let k = case_of l a.i.number a.service a.hash a.consumed in
    let row = c.row_at-row.ensures ∙ sym (row_of_link s no_row a.i.number a.i.below) in
    let from = c.from-from.ensures ∙ ap (λ (m : ℕ). from_row m c.row_at-row.result a.service) c.major.ensures ∙ ap (λ (x : Row). from_row l.version.major x a.service) row in
    let named = ap rejection c.then_some-rejected.ensures ∙ named_rejects c.in-NoEnd.named in
    told_by k l.owners a.payload.now a.pool.now a.out.now a.act.now _ c.in-NoEnd.is (replied_is k l.owners a.payload.now a.pool.now a.out.now answer.Nacked end_nak from refl named c.put_nak-in-NoEnd.ensures)

pub returns-in-Append : goal.returns-in-Append
returns-in-Append c = let a = c.args in
    let s = a.link.now in
    let l = link_of s in
    let k = case_of l a.i.number a.service a.hash a.consumed in
    let at = c.place_of-place.ensures.0 in
    let mine = c.owner.ensures ∙ ap (owner_of a.i.number) at in
    let message = c.message_at-message.ensures ∙ ap (λ (n : ℕ). message_at (row_in s a.i.number) n) at ∙ ap (λ (x : Row). message_at x (place_of a.service.0)) (sym (row_of_link s no_row a.i.number a.i.below)) in
    told_by k l.owners a.payload.now a.pool.now a.out.now a.act.now _ c.in-Append.is
    (ap (λ (p : List ℕ). told (answer.Accepted a.consumed) p a.out.now) (c.feed.ensures ∙ fed-is k l.owners a.payload.now a.pool.now a.out.now mine message c.owners.ensures))

pub returns-in-Deliver : goal.returns-in-Deliver
returns-in-Deliver c = let a = c.args in
    let s = a.link.now in
    let l = link_of s in
    let k = case_of l a.i.number a.service a.hash a.consumed in
    let at = c.place_of-place.ensures.0 in
    let mine = c.owner-in-Deliver.ensures ∙ ap (owner_of a.i.number) at in
    let message = c.message_at-message-in-Deliver.ensures ∙ ap (λ (n : ℕ). message_at (row_in s a.i.number) n) at ∙ ap (λ (x : Row). message_at x (place_of a.service.0)) (sym (row_of_link s no_row a.i.number a.i.below)) in
    told_by k l.owners a.payload.now a.pool.now a.out.now a.act.now _ c.in-Deliver.is (delivered-is k l.owners a.payload.now a.pool.now a.out.now mine message c.owners-in-Deliver.ensures c.deliver.ensures.pool_after c.deliver.ensures.out_after)
