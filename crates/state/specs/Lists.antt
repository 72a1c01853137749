-- What a caller who keeps the link's state in bytes of its own can rely on. Any list of calls on these bytes answers and leads as the calls of link/specs do;
-- so demand 3 holds of them, a refusal leaves every byte, and a message arrives whole. Of the caller's bytes and numbers nothing is asked but what a slice of
-- bytes and the C types give. Proved in proofs/Lists.
-- Assumes nothing.
use Rattle.std.specs.Prelude.{ℕ, ◌+◌, ◌^◌, ◌≤◌, ◌<◌, ◌≡◌, ◌⊎◌, true, List, [], ◌∷◌, ◌++◌, map, T}
use Rattle.numbers.specs.Bytes.{AreBytes}
use Rattle.payload.specs.declared.version.Version.{Version}
use Rattle.sender.specs.declared.Outgoing.{Outgoing}
use Rattle.link.specs.declared.Grant.{Grant}
use Rattle.link.specs.declared.Answer.{Answer}
use Rattle.link.specs.declared.Answer.TheVariants as answer
use Rattle.link.specs.Call.{After, after}
use Rattle.link.specs.Refusal.{DropsNamed}
use Rattle.link.specs.Book.{Request, Command, call, Event, opening, is_accepted, is_ack, empty_book, lowest_not_in, book_of, own_of, Modest}
use Rattle.link.specs.Claim.{State, run, state_after_all, command_of, seen_by, is_open, Demand, created}
use Rattle.link.specs.Sizes.{Small}
use Rattle.link.specs.Arrival.{Fronts, InOrder, Arrives}
use Rattle.state.specs.Layout.{link_of}
use Rattle.state.specs.Calls.{is_state, Left, call_in, made, create_in}

-- ---- lists of calls on lent bytes

-- the caller's bytes that stay from call to call
pub record Lent : Type 0 where
  pub state : List ℕ
  pub pool : List ℕ

-- the link that they are, and its pool
abbrev pub state_of : Lent → State
state_of b = record { link = link_of b.state; pool = b.pool }

-- what a call leaves: the bytes for the next one, and what is seen of it, its answer and the out buffer after it
abbrev pub stepped_in : Lent → Request → Left
stepped_in b q = call_in b.state b.pool q.input q.out q.grant

abbrev pub lent_after : Lent → Command → Lent
lent_after b (call q) = record { state = (stepped_in b q).state; pool = (stepped_in b q).pool }

abbrev pub event_in : Lent → Command → Event
event_in b (call q) = record { command = call q; answer = (stepped_in b q).answer; out = (stepped_in b q).out }

-- what a list of calls answers, and the bytes that it leaves: "each call getting the state and pool that the last one left, nobody else writing them
-- meanwhile"
unfoldable pub run_in : Lent → List Command → List Event
run_in b [] = []
run_in b (c ∷ cs) = event_in b c ∷ run_in (lent_after b c) cs

unfoldable pub lent_after_all : Lent → List Command → Lent
lent_after_all b [] = b
lent_after_all b (c ∷ cs) = lent_after_all (lent_after b c) cs

-- the last of some calls, with its answer
abbrev pub last_in : Lent → Command → List Command → Event
last_in b c [] = event_in b c
last_in b c (d ∷ cs) = last_in (lent_after b c) d cs

-- ---- what slices and C types give

-- a call's input is bytes, its offer two numbers of 16 bits and a "32-bit hash". Its out may hold anything
pub record Typed (q : Request) : Type 0 where
  pub input : AreBytes q.input
  pub guarantee : q.grant.guarantee < 2 ^ 16
  pub cap : q.grant.cap < 2 ^ 16
  pub hash : q.grant.hash < 2 ^ 32

-- the same of each call of a list
abbrev pub TypedCommand : Command → Type 0
TypedCommand (call q) = Typed q

abbrev pub AllTyped : List Command → Type 0
AllTyped [] = Unit {0}
AllTyped (c ∷ cs) = TypedCommand c × AllTyped cs

-- a module version "M.m.p (M 1 to 5, others 0 to 255)": three bytes
pub record TypedVersion (v : Version) : Type 0 where
  pub major : v.major < 256
  pub minor : v.minor < 256
  pub patch : v.patch < 256

-- bytes that are a state. A call tests the second, and answers 10 where it does not hold
pub record StateBytes (s : List ℕ) : Type 0 where
  pub bytes : AreBytes s
  pub state : is_state s ≡ true

-- ---- calls on bytes are the link's calls

-- from a state s₀ of the link, the same calls: the same answers and out bytes, and the bytes after them are the state that the link's calls lead to
pub record AsRun (b : Lent) (s₀ : State) (cs : List Command) : Type 0 where
  pub events : run_in b cs ≡ run s₀ cs
  pub leads : state_of (lent_after_all b cs) ≡ state_after_all s₀ cs
  pub still : StateBytes (lent_after_all b cs).state

-- from any bytes that are a state, whatever rules they break, any pool, and for any list of calls
abbrev pub RunsAsLink : Type 0
RunsAsLink = (b : Lent) → StateBytes b.state → (cs : List Command) → AllTyped cs → AsRun b (state_of b) cs

-- ---- demand 3

-- its part about another list, on the bytes: "Now cut the list after a session's closing, if it has one, and leave out every call after its opening whose
-- fourth input byte is missing or isn't that session's id." o is the opening, i the session's id, b₁ the bytes after it, own the calls that are left
abbrev pub IsolatedIn : Lent → List Command → Type 0
IsolatedIn b cs =
    (before rest : List Command) (o : Command) → cs ≡ before ++ o ∷ rest → seen_by o ≡ opening → T (is_ack (event_in (lent_after_all b before) o).answer)
    → let i : ℕ = lowest_not_in (book_of empty_book (run_in b before)) 255 1 in
    let b₁ : Lent = lent_after (lent_after_all b before) o in
    let own : List Event = own_of i (run_in b₁ rest) in
    -- "If in this shorter list no First Frame of that session that reaches the room check asks to go above its guarantee,"
    Modest i (book_of empty_book (run_in b (before ++ o ∷ []))) (run_in b₁ (map command_of own))
    -- "then each call in it, with the same input, offer and out buffer, gets the same answer (..) and the same out bytes in both lists"
    → run_in b (before ++ o ∷ map command_of own) ≡ run_in b (before ++ o ∷ []) ++ own

-- the calls on bytes are the link's calls of which demand 3 speaks, and it holds of them
pub record DemandIn (b : Lent) (s₀ : State) (cs : List Command) : Type 0 where
  pub calls : AsRun b s₀ cs
  pub demand : Demand s₀ cs
  pub isolated : IsolatedIn b cs

-- "For every list of link calls, refused ones included, on a link just created and a pool of any bytes": s₁ is what creation made of the bytes s, whatever
-- stood in them
abbrev pub DemandThreeIn : Type 0
DemandThreeIn =
    (s s₁ : List ℕ) (v : Version) (mtu : ℕ) → TypedVersion v → create_in s v mtu ≡ made 0 s₁
    → (pool : List ℕ) (cs : List Command) → AllTyped cs → DemandIn (record { state = s₁; pool = pool }) (created v mtu pool) cs

-- ---- refusals

-- what a call leaves, its state's bytes read as a link
abbrev pub as_link : Left → After
as_link w = after w.answer (link_of w.state) w.pool w.out

-- state, pool, input and out of a call; what the call leaves comes last
module _ (s p input o : List ℕ) where
  -- "changes no lent byte and no state": state, pool and out, byte for byte
  abbrev pub UnchangedIn : Left → Type 0
  UnchangedIn w = (w.state ≡ s) × (w.pool ≡ p) × (w.out ≡ o)

  -- "A refusal changes no lent byte and no state, except that 24 and 25 drop the one message they name."
  abbrev pub KeepsIn : Left → Answer → Type 0
  KeepsIn w (answer.Short n) = UnchangedIn w
  KeepsIn w (answer.Refused n) =
      ((n ≡ 24 → ⊥) × (n ≡ 25 → ⊥) × UnchangedIn w) ⊎ (((n ≡ 24) ⊎ (n ≡ 25)) × DropsNamed (link_of s) p input o (as_link w))
  KeepsIn w (answer.Acked c n) = Unit {0}
  KeepsIn w (answer.Nacked c n) = Unit {0}
  KeepsIn w (answer.Beat c n) = Unit {0}
  KeepsIn w (answer.Accepted c) = Unit {0}
  KeepsIn w (answer.Delivered c v n) = Unit {0}

-- for any bytes, also such as are no state, any pool, input, out and offer
abbrev pub RefusalKeepsIn : Type 0
RefusalKeepsIn = (s : List ℕ) → AreBytes s → (p input o : List ℕ) (g : Grant) → KeepsIn s p input o (call_in s p input o g) (call_in s p input o g).answer

-- ---- an answer's numbers

-- they are small, for any bytes, also such as are no state
abbrev pub AnswersSmallIn : Type 0
AnswersSmallIn = (s : List ℕ) → AreBytes s → (p input o : List ℕ) (g : Grant) → Small (call_in s p input o g).answer

-- ---- a message arrives whole

-- Demand 2's last sentence: "A message your sender cuts for an open session arrives whole, its frames given in order, if its first frame is accepted, if chunk,
-- offers and out fit, if the pool is untouched meanwhile, and if nothing else of that session comes between." Its conditions are those of link/specs/Arrival
abbrev pub ArrivesWholeIn : Type 0
ArrivesWholeIn =
    -- from any bytes: a first frame that is accepted says that they are a state within the rules, and that the pool has its length
    (b : Lent) → AreBytes b.state → (o : Outgoing) (m : List ℕ) → o.message.0 < 2 ^ 32
    -- "for an open session"
    → is_open (state_of b) o.session.0 ≡ true
    -- "if chunk .. fit"
    → (o.version ≡ 5 → o.chunk + 12 ≤ (link_of b.state).mtu)
    -- "if its first frame is accepted"
    → (first : Request) → Fronts o m 0 first → T (is_accepted (event_in b (call first)).answer)
    -- "its frames given in order"
    → (rest : List Command) → InOrder o m 1 rest → AllTyped (call first ∷ rest)
    → Arrives o m (last_in b (call first) rest)
