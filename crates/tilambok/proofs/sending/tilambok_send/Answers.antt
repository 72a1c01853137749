-- `tilambok::sending::tilambok_send` meets its contract. What `sender::send` ensures, as a result, and of frame k: a lemma says so, that another number is told
-- as one; the answer has room by `send_fits`.
-- Assumes nothing.
use Rattle.std.proofs.Common.{Result as Answer}
use Prim.Native.Nat.{ℕ, ◌^◌, ◌<◌}
use mathlib.Core.Path.{◌≡◌, ◌∙◌, ap, sym, subst}
use mathlib.Core.List.{List}
use native.Mathlib.Omega.{arith}
use Rattle.frame.specs.Write.{Wrote, wrote}
use Rattle.sender.specs.declared.Outgoing.{Outgoing}
use Rattle.sender.specs.Sender.{send_of}
use Rattle.tilambok.specs.Status.{Result, WrittenFits, written_result, answered}
use Rattle.tilambok.specs.Sending.{tilambok_send}
use Rattle.tilambok.proofs.FrameResults.{send_fits}
use Rattle.tilambok.proofs.sending.tilambok_send.Goals as goal

-- the sender was asked for frame j of what o says, and was to be for frame k
as-sent : (value : ℕ) (r : Result) (a : Answer ℕ ℕ) (m out b : List ℕ) (p o : Outgoing) (j k : ℕ) → r ≡ written_result value a → wrote a b ≡ send_of p j m out
    → p ≡ o
    → j ≡ k
    → record { result = r; lent = b } ≡ tilambok_send o k m out value
as-sent value r a m out b p o j k e f g h =
    let left : record { result = r; lent = b } ≡ answered value (send_of p j m out) = rw e (ap (answered value) f) in
    left ∙ rw (g, h)

pub written-requires : goal.written-requires
written-requires c =
    let id : c.args.id < 2 ^ 32 = omega (arith, c.ranges.id) in
    let small = subst (λ (o : Outgoing). o.message.0 < 2 ^ 32) (sym c.outgoing_from-outgoing.ensures) id in
    subst (λ (w : Wrote). WrittenFits w.answer) (sym c.send.ensures) (send_fits _ _ _ _ small)

pub returns : goal.returns
returns c =
    as-sent _ _ _ _ _ _ _ _ _ _ c.written.ensures c.send.ensures c.outgoing_from-outgoing.ensures (omega arith)
