-- Document 02's A2, through the link: the longest burst that there is, a message of 65,536 frames of one byte, arrives whole. It is demand 2's arrival at its
-- limit, and says besides that so many frames come after the First Frame. That a link admits such a First Frame is in Figures. Proved in proofs/Bursts.
-- Assumes nothing.
use Rattle.std.specs.Prelude.{ℕ, ◌^◌, ◌<◌, ◌≡◌, true, List, T, length}
use Rattle.sender.specs.declared.Outgoing.{Outgoing}
use Rattle.sender.specs.Sender.{last_place}
use Rattle.link.specs.Book.{Request, Command, call, is_accepted}
use Rattle.link.specs.Claim.{State, event_of, is_open}
use Rattle.link.specs.Pages.{Sane}
use Rattle.link.specs.Arrival.{Fronts, InOrder, last_event, Arrives}

-- as `ArrivesWhole`, with no condition on the mtu: every mtu has room for a byte
abbrev pub LongestBurst : Type 0
LongestBurst =
    (s : State) → Sane s → (o : Outgoing) (m : List ℕ) → o.message.0 < 2 ^ 32
    → is_open s o.session.0 ≡ true
    → o.chunk ≡ 1 → length m ≡ 65536
    → (first : Request) → Fronts o m 0 first → T (is_accepted (event_of s (call first)).answer)
    → (rest : List Command) → InOrder o m 1 rest
    → (last_place o m ≡ 65536) × Arrives o m (last_event s (call first) rest)
