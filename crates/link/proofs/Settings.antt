-- No call changes the module's version and mtu: by cases of the call, each of which keeps them as they are.
-- Assumes nothing.
use Prim.Native.Nat.{ℕ, ◌-◌}
use mathlib.Core.Path.{◌≡◌, refl, ap}
use mathlib.Core.List.{List}
use lib.ListN.{length}
use Rattle.numbers.specs.Bytes.{part}
use Rattle.link.specs.declared.Link.{Link}
use Rattle.link.specs.declared.Grant.{Grant}
use Rattle.link.specs.State.{index_of}
use Rattle.link.specs.Call.{After, decision_of}
use Rattle.link.specs.Book.{Command, call, Seen}
use Rattle.link.specs.Claim.{State, state_after}
use Rattle.link.proofs.Calls.{Called, short, refused, nacked, acked, in_row, called}
use Rattle.link.proofs.Others.{moves}

call_settled : (l : Link) (p s o : List ℕ) (g : Grant) {x : Seen} {w : After} → Called l p s o g x w → (w.link.version ≡ l.version) × (w.link.mtu ≡ l.mtu)
call_settled l p s o g short = (refl, refl)
call_settled l p s o g (refused b) = (refl, refl)
call_settled l p s o g nacked = (refl, refl)
call_settled l p s o g (acked t a v) = (refl, refl)
call_settled l p s o g (in_row h e f t b a) =
    let n : ℕ = index_of h.session.0 l.rows in
    let payload : List ℕ = part s e.start (e.end - e.start) in
    let m = moves l n p o h e.consumed payload g (decision_of l n h payload (length o)) in
    (ap (λ (y : Link). y.version) m.link, ap (λ (y : Link). y.mtu) m.link)

-- the law
pub settings : (s : State) (c : Command) → ((state_after s c).link.version ≡ s.link.version) × ((state_after s c).link.mtu ≡ s.link.mtu)
settings s (call q) = call_settled s.link s.pool q.input q.out q.grant (called s.link s.pool q.input q.out q.grant)
