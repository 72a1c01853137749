-- The way through everything: a message that our writer writes, that our sender cuts and that the link delivers is read back as the header, JSON and bulk data
-- that were meant. Document 02, request A1, over demand 2's arrival (link/specs/Arrival), whose conditions are the only ones. Proved in proofs/Through.
-- Assumes nothing.
use Rattle.std.specs.Prelude as rattle
use Rattle.std.specs.Prelude.{ℕ, ◌+◌, ◌^◌, ◌≤◌, ◌<◌, ◌≡◌, true, List, Some, None, Ok, T, take}
use Rattle.std.proofs.Math.Option.{Option, none, some}
use Rattle.frame.specs.declared.ServiceType.{ServiceType}
use Rattle.frame.specs.Write.{wrote}
use Rattle.sender.specs.declared.Outgoing.{Outgoing}
use Rattle.link.specs.Values.{values_of}
use Rattle.link.specs.Book.{Request, Command, call, Event, is_accepted}
use Rattle.link.specs.Claim.{State, event_of, is_open}
use Rattle.link.specs.Pages.{Sane}
use Rattle.link.specs.Arrival.{Fronts, InOrder, last_event}
use Rattle.rpc.specs.declared.Header.{Header}
use Rattle.rpc.specs.declared.Form.{Form}
use Rattle.rpc.specs.Rules.{form_of}
use Rattle.rpc.specs.Layout.{form_in}
use Rattle.rpc.specs.Write.{write_of}
use Rattle.rpc.specs.ReadBack.{AreU32, ReadsAs}

-- the bytes that a call handed over, and the form that their service has
abbrev pub handed_over : Event → List ℕ
handed_over e = take (values_of e.answer).written e.out

abbrev pub form_by : Option ServiceType → rattle.Option Form
form_by none = None
form_by (some s) = form_of s

-- what a call handed over is read, in the form of its service, as what was meant
pub record Understood (version : ℕ) (h : Header) (size : ℕ) (json bulk : List ℕ) (e : Event) : Type 0 where
  pub form : form_by (values_of e.answer).service ≡ Some (form_in h)
  pub reads : ReadsAs version (handed_over e) h size json bulk

abbrev pub ThroughAll : Type 0
ThroughAll =
    -- the writer wrote the message, n bytes at the front of a buffer, for the session's version
    (h : Header) (size n : ℕ) (json bulk buffer left : List ℕ) (o : Outgoing) → AreU32 h size
    → write_of o.version h size json bulk buffer ≡ wrote (Ok n) left
    -- it is sent on the service of its form
    → form_of o.service ≡ Some (form_in h)
    -- and arrives: for an open session, chunks within the mtu, its first frame accepted, the others given in order
    → (s : State) → Sane s → o.message.0 < 2 ^ 32 → is_open s o.session.0 ≡ true → (o.version ≡ 5 → o.chunk + 12 ≤ s.link.mtu)
    → (first : Request) → Fronts o (take n left) 0 first → T (is_accepted (event_of s (call first)).answer)
    → (rest : List Command) → InOrder o (take n left) 1 rest
    → Understood o.version h size json bulk (last_event s (call first) rest)
