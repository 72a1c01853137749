-- Demand 3: ONE statement about every list of calls. Document 01, "Book", and the third demand, whose words stand beside each part.
-- Assumes nothing.
use Rattle.std.specs.Prelude.{ℕ, ◌+◌, ◌≤◌, ◌≡◌, Bool, true, false, ◌&&◌, not, List, [], ◌∷◌, ◌++◌, map, T, eqb, ltb, length}
use Rattle.std.proofs.Math.Option.{Option, none, some}
use Rattle.numbers.specs.Bytes.{laid}
use Rattle.frame.specs.declared.Reading.{Reading}
use Rattle.frame.specs.declared.Reading.TheVariants as reading
use Rattle.frame.specs.Read.{read_of}
use Rattle.blocks.specs.Map.{held_by_all, free_in}
use Rattle.payload.specs.declared.version.Version.{Version}
use Rattle.link.specs.declared.Link.{Link}
use Rattle.link.specs.declared.Answer.{Answer}
use Rattle.link.specs.State.{index_of, owner_of, created_link}
use Rattle.link.specs.Call.{After, call_of}
use Rattle.link.specs.Values.{delivery, Values, values_of, service_bytes, is}
use Rattle.link.specs.Book.{Request, Command, call, Event, Seen, opening, seen_of, is_accepted, is_ack, Page, Book, empty_book, there, lowest_not_in, needs_of, needs_in_all, book_of, book_after, Due, due_of, own_of, Modest}

-- the link and its pool
pub record State : Type 0 where
  pub link : Link
  pub pool : List ℕ

abbrev pub stepped : State → Request → After
stepped s q = call_of s.link s.pool q.input q.out q.grant

abbrev pub state_after : State → Command → State
state_after s (call q) = record { link = (stepped s q).link; pool = (stepped s q).pool }

abbrev pub event_of : State → Command → Event
event_of s (call q) = record { command = call q; answer = (stepped s q).answer; out = (stepped s q).out }

-- what a list of calls answers, and where it leads
unfoldable pub run : State → List Command → List Event
run s [] = []
run s (c ∷ cs) = event_of s c ∷ run (state_after s c) cs

unfoldable pub state_after_all : State → List Command → State
state_after_all s [] = s
state_after_all s (c ∷ cs) = state_after_all (state_after s c) cs

abbrev pub command_of : Event → Command
command_of e = e.command

-- a session is open: its id is in a row
unfoldable pub is_open : State → ℕ → Bool
is_open s i = not (eqb i 0) && ltb (index_of i s.link.rows) (length s.link.rows)

-- the blocks that a session holds, counted in the block map
unfoldable pub blocks_of : State → ℕ → ℕ
blocks_of s i = held_by_all (owner_of (index_of i s.link.rows) 0) 5 s.link.owners

-- the bytes of the frame at an input's front, as the reader consumes them: header and payload
abbrev pub consumed_by : Reading → ℕ
consumed_by (reading.Short n) = 0
consumed_by (reading.Refused n) = 0
consumed_by (reading.Frame h e) = e.consumed

abbrev pub front_size : Command → ℕ
front_size (call q) = consumed_by (read_of q.input)

-- an answer's values and out hand over what is due, by a frame of so many bytes: "as the bytes joined there" (a Single Frame: its payload), at the front of out;
-- "Bytes of out past those written stay."
pub record Handed (due : Due) (size : ℕ) (before out : List ℕ) (v : Values) : Type 0 where
  pub kind : is delivery v ≡ true
  pub frame : v.consumed ≡ size
  pub on : service_bytes v.service ≡ due.service ∷ []
  pub whole : v.written ≡ length due.bytes
  pub bytes : out ≡ laid due.bytes before

abbrev pub DeliversIt : Due → ℕ → List ℕ → List ℕ → Answer → Type 0
DeliversIt due size before out a = Handed due size before out (values_of a)

abbrev pub is_delivery : Answer → Bool
is_delivery a = is delivery (values_of a)

abbrev pub out_before : Command → List ℕ
out_before (call q) = q.out

-- an accepted call hands over "exactly when a frame completes it in the book"; "A single frame delivers its payload likewise."
abbrev pub DeliversDue : Option Due → Event → Type 0
DeliversDue none e = is_delivery e.answer ≡ false
DeliversDue (some due) e = DeliversIt due (front_size e.command) (out_before e.command) e.out e.answer

unfoldable pub AllDelivered : Book → List Event → Type 0
AllDelivered b [] = Unit {0}
AllDelivered b (e ∷ l) = (T (is_accepted e.answer) → DeliversDue (due_of b e.command) e) × AllDelivered (book_after b e.command e.answer) l

abbrev pub seen_by : Command → Seen
seen_by (call q) = seen_of q.input

-- the demand, for a state to start from and a list of calls: "keep document 01's book"
pub record Demand (s₀ : State) (cs : List Command) : Type 0 where
  -- the open sessions are the book's
  pub sessions : (i : ℕ) → is_open (state_after_all s₀ cs) i ≡ there (book_of empty_book (run s₀ cs) i)
  -- "After the list each open session holds exactly as many blocks as its messages in the book need, never more than its cap"
  pub room : (i : ℕ) (p : Page) → book_of empty_book (run s₀ cs) i ≡ some p → (blocks_of (state_after_all s₀ cs) i ≡ needs_of p) × (needs_of p ≤ p.cap)
  -- "held and free blocks make 256": held are those that the messages in the book need, so that no block is held by nobody
  pub blocks : needs_in_all (book_of empty_book (run s₀ cs)) 255 1 + free_in (state_after_all s₀ cs).link.owners ≡ 256
  -- "An admitted message is handed over exactly when a frame completes it in the book, as the bytes joined there."
  pub delivered : AllDelivered empty_book (run s₀ cs)
  -- a session, by its opening o, which enters it under the id i; s₁ is the state then, and own the shorter list after it: "Now cut the list after a session's
  -- closing, if it has one, and leave out every call after its opening whose fourth input byte is missing or isn't that session's id."
  pub isolated : (before rest : List Command) (o : Command) → cs ≡ before ++ o ∷ rest → seen_by o ≡ opening
      → T (is_ack (event_of (state_after_all s₀ before) o).answer)
      → let i : ℕ = lowest_not_in (book_of empty_book (run s₀ before)) 255 1 in
      let s₁ : State = state_after (state_after_all s₀ before) o in
      let own : List Event = own_of i (run s₁ rest) in
      -- "If in this shorter list no First Frame of that session that reaches the room check asks to go above its guarantee,"
      Modest i (book_of empty_book (run s₀ (before ++ o ∷ []))) (run s₁ (map command_of own))
      -- "then each call in it, with the same input, offer and out buffer, gets the same answer (number, bytes consumed, reply or delivery) and the same out
      -- bytes in both lists, whatever the calls left out were.": an event has the call, its answer and the out buffer after it
      → run s₀ (before ++ o ∷ map command_of own) ≡ run s₀ (before ++ o ∷ []) ++ own

-- "a link just created and a pool of any bytes"
abbrev pub created : Version → ℕ → List ℕ → State
created v mtu pool = record { link = created_link v mtu; pool = pool }

-- "For every list of link calls, refused ones included, on a link just created and a pool of any bytes, each call getting the state and pool that the last one
-- left, nobody else writing them meanwhile": of any version, mtu and length too. With settings out of range or a pool not of 65,536 bytes each call answers 10
abbrev pub DemandThree : Type 0
DemandThree = (v : Version) (mtu : ℕ) (pool : List ℕ) (cs : List Command) → Demand (created v mtu pool) cs
