-- Demand 2's last sentence, through the link: "A message your sender cuts for an open session arrives whole, its frames given in order, if its first frame is
-- accepted, if chunk, offers and out fit, if the pool is untouched meanwhile, and if nothing else of that session comes between." One statement for every
-- message that the sender accepts, in one frame or in several. Proved in proofs/Arrival.
-- Assumes nothing.
use Rattle.std.specs.Prelude.{ℕ, suc, ◌+◌, ◌^◌, ◌≤◌, ◌<◌, ◌≡◌, ◌⊎◌, true, not, List, [], ◌∷◌, ◌++◌, T, length, take, Ok}
use Rattle.frame.specs.Write.{wrote}
use Rattle.sender.specs.declared.Outgoing.{Outgoing}
use Rattle.sender.specs.Sender.{frame_at, last_place, bytes_of, send_of}
use Rattle.link.specs.State.{grant_fits}
use Rattle.link.specs.Book.{Request, Command, call, Event, names, is_accepted}
use Rattle.link.specs.Claim.{State, state_after, event_of, is_open, out_before, DeliversIt}
use Rattle.link.specs.Pages.{Sane}

-- "A message your sender cuts": an input with the k-th frame of a message at its front, the n bytes that the sender left at the front of a buffer
pub record Fronts (o : Outgoing) (m : List ℕ) (k : ℕ) (q : Request) : Type 0 where
  pub buffer : List ℕ
  pub left : List ℕ
  pub n : ℕ
  pub sent : send_of o k m buffer ≡ wrote (Ok n) left
  pub behind : List ℕ
  pub input : q.input ≡ take n left ++ behind

-- a call with that frame: "if .. offers and out fit". With the last frame out has room for the message
pub record Brings (o : Outgoing) (m : List ℕ) (k : ℕ) (q : Request) : Type 0 where
  pub frame : Fronts o m k q
  pub offer : grant_fits q.grant ≡ true
  pub space : 128 ≤ length q.out
  pub whole : k ≡ last_place o m → length m ≤ length q.out

-- calls that bring the frames from k on, in order, up to the last, with which they end: "its frames given in order". Other sessions' calls may come between,
-- and "nothing else of that session"
abbrev pub InOrder : Outgoing → List ℕ → ℕ → List Command → Type 0
InOrder o m k [] = last_place o m < k
InOrder o m k (call q ∷ cs) =
    (T (not (names o.session.0 (call q))) × (k ≤ last_place o m) × InOrder o m k cs) ⊎ (Brings o m k q × InOrder o m (suc k) cs)

-- the last of some calls, with its answer. Each gets the state and the pool that the one before it left: "the pool is untouched meanwhile"
abbrev pub last_event : State → Command → List Command → Event
last_event s c [] = event_of s c
last_event s c (d ∷ cs) = last_event (state_after s c) d cs

-- "arrives whole": a call hands over the message on its service, having consumed just its last frame
abbrev pub Arrives : Outgoing → List ℕ → Event → Type 0
Arrives o m e =
    DeliversIt (record { service = o.service.0; bytes = m }) (length (bytes_of (frame_at o m (last_place o m)))) (out_before e.command) e.out e.answer

abbrev pub ArrivesWhole : Type 0
ArrivesWhole =
    -- from any state within the rules: every list of calls leads to such (`rules_kept`); a message id has 32 bits
    (s : State) → Sane s → (o : Outgoing) (m : List ℕ) → o.message.0 < 2 ^ 32
    -- "for an open session"
    → is_open s o.session.0 ≡ true
    -- "if chunk .. fit": a frame of version 5 is within the mtu
    → (o.version ≡ 5 → o.chunk + 12 ≤ s.link.mtu)
    -- "if its first frame is accepted"
    → (first : Request) → Fronts o m 0 first → T (is_accepted (event_of s (call first)).answer)
    → (rest : List Command) → InOrder o m 1 rest
    → Arrives o m (last_event s (call first) rest)
