-- The book: what somebody keeps who sees only each call's input, offer and answer. Document 01, "Book". And the shorter list, and what
-- it means that a session asks to go above its guarantee, as the user words them.
-- Assumes nothing.
use Rattle.std.specs.Prelude.{ℕ, zero, suc, ◌+◌, ◌-◌, ◌≤◌, Bool, true, false, ◌&&◌, ◌||◌, List, [], ◌∷◌, ◌++◌, T, eqb, ltb, length, get_or, set, replicate}
use Rattle.std.proofs.Math.Option.{Option, none, some}
use Rattle.numbers.specs.Bytes.{pick, part}
use Rattle.numbers.specs.Numbers.{value_be}
use Rattle.frame.specs.declared.Header.{Header}
use Rattle.frame.specs.declared.Reading.{Reading}
use Rattle.frame.specs.declared.Reading.TheVariants as reading
use Rattle.frame.specs.Read.{read_of}
use Rattle.session.specs.Decide.{place_of, need_of}
use Rattle.link.specs.declared.Grant.{Grant}
use Rattle.link.specs.declared.Answer.{Answer}
use Rattle.link.specs.State.{service_at}
use Rattle.link.specs.Call.{opens}
use Rattle.link.specs.Values.{ack, reply, values_of, is, accepted}

-- ---- calls and what is seen of them

-- what a call brings: input, offer, out buffer
pub record Request : Type 0 where
  pub input : List ℕ
  pub grant : Grant
  pub out : List ℕ

-- an element of a list of calls; a type of its own, since later requests add further calls
pub data Command : Type 0 where
  call : Request → Command

-- a call with its answer and the out buffer after it
pub record Event : Type 0 where
  pub command : Command
  pub answer : Answer
  pub out : List ℕ

-- what a frame asks of its session; services by their place, a Single Frame with its payload, a First Frame with id, total and count, a consecutive one
-- with id and payload
pub data Ask : Type 0 where
  single : ℕ → List ℕ → Ask
  first : ℕ → ℕ → ℕ → ℕ → Ask
  next : ℕ → ℕ → List ℕ → Ask
  end : ℕ → Ask
  other : Ask

-- what the book sees in an input: an opening, a frame that names a session, or nothing (Short, 1 to 6)
pub data Seen : Type 0 where
  opening : Seen
  within : ℕ → Ask → Seen
  nothing : Seen

unfoldable pub ask_of : Header → List ℕ → Ask
ask_of h payload =
    pick (eqb h.kind 0) (pick (eqb h.info 0x04) (end (place_of h.service.0)) other)
    (pick (eqb h.kind 1) (single (place_of h.service.0) payload)
    (pick (eqb h.kind 2) (first (place_of h.service.0) h.message.0 (value_be (part payload 0 4)) (value_be (part payload 4 4)))
    (next (place_of h.service.0) h.message.0 payload)))

abbrev pub seen_in : List ℕ → Reading → Seen
seen_in s (reading.Short n) = nothing
seen_in s (reading.Refused n) = nothing
seen_in s (reading.Frame h e) = pick (opens h) opening (within h.session.0 (ask_of h (part s e.start (e.end - e.start))))

unfoldable pub seen_of : List ℕ → Seen
seen_of s = seen_in s (read_of s)

-- ---- answers, by their values

-- "Accepted: neither Short nor refused."
abbrev pub is_accepted : Answer → Bool
is_accepted a = accepted (values_of a)

abbrev pub is_ack : Answer → Bool
is_ack a = is (reply ack) (values_of a)

-- a refusal's number, else 0
abbrev pub refusal_of : Answer → ℕ
refusal_of a = (values_of a).refusal

-- ---- the book

-- a message: "need, count, no bytes"; how many frames have come, and their payloads joined
pub record Note : Type 0 where
  pub live : Bool
  pub id : ℕ
  pub need : ℕ
  pub count : ℕ
  pub came : ℕ
  pub bytes : List ℕ

abbrev pub no_note : Note
no_note = record { live = false; id = 0; need = 0; count = 0; came = 0; bytes = [] }

-- a session: "its offer's G and C", and a message on each service, or none
pub record Page : Type 0 where
  pub guarantee : ℕ
  pub cap : ℕ
  pub notes : List Note

-- the sessions by their ids; "Its book starts empty"
abbrev pub Book : Type 0
Book = ℕ → Option Page

abbrev pub empty_book : Book
empty_book i = none

abbrev pub there : {A : Type 0} → Option A → Bool
there none = false
there (some a) = true

abbrev pub with_page : Book → ℕ → Option Page → Book
with_page b i p j = pick (eqb i j) p (b j)

-- "the lowest id from 1 to 255 not in the book": so many ids from k on are tried
unfoldable pub lowest_not_in : Book → ℕ → ℕ → ℕ
lowest_not_in b zero k = 0
lowest_not_in b (suc n) k = pick (there (b k)) (lowest_not_in b n (suc k)) k

-- "its offer's G and C"
abbrev pub new_page : Grant → Page
new_page g = record { guarantee = g.guarantee; cap = g.cap; notes = replicate 5 no_note }

abbrev pub note_at : Page → ℕ → Note
note_at p place = get_or p.notes place no_note

abbrev pub with_note : Page → ℕ → Note → Page
with_note p place n = record { guarantee = p.guarantee; cap = p.cap; notes = set p.notes place n }

-- the note under a service and a message id
abbrev pub is_under : Note → ℕ → Bool
is_under n id = n.live && eqb n.id id

unfoldable pub needs_in : List Note → ℕ
needs_in [] = 0
needs_in (n ∷ ns) = n.need + needs_in ns

-- "the needs of its session's messages in the book"
abbrev pub needs_of : Page → ℕ
needs_of p = needs_in p.notes

-- the same of a page that may be missing, and the sum over n ids from k on: 1 to 255 are all that a book gives
abbrev pub needs_at : Option Page → ℕ
needs_at none = 0
needs_at (some p) = needs_of p

unfoldable pub needs_in_all : Book → ℕ → ℕ → ℕ
needs_in_all b zero k = 0
needs_in_all b (suc n) k = needs_at (b k) + needs_in_all b n (suc k)

-- "An accepted First Frame enters a message under session, service and message id: need, count, no bytes."
abbrev pub entered : Page → ℕ → ℕ → ℕ → ℕ → Page
entered p place id total count = with_note p place (record { live = true; id = id; need = need_of total; count = count; came = 0; bytes = [] })

-- "An accepted consecutive frame adds its payload there; the count-th completes the message and strikes it out."
unfoldable pub added : Page → ℕ → ℕ → List ℕ → Page
added p place id payload =
    let n = note_at p place in
    pick (is_under n id)
    (pick (eqb (suc n.came) n.count) (with_note p place no_note)
    (with_note p place (record { live = n.live; id = n.id; need = n.need; count = n.count; came = suc n.came; bytes = n.bytes ++ payload })))
    p

-- "24 and 25 strike out the one they name."
unfoldable pub struck : Page → ℕ → ℕ → Page
struck p place id = pick (is_under (note_at p place) id) (with_note p place no_note) p

-- a session's page after a frame of it: "An End's ACK strikes out its session's messages on that service; for 07, the session"
abbrev pub page_after : Page → Ask → Answer → Option Page
page_after p (single place payload) a = some p
page_after p (first place id total count) a = some (pick (is_accepted a) (entered p place id total count) p)
page_after p (next place id payload) a =
    some (pick (is_accepted a) (added p place id payload) (pick (eqb (refusal_of a) 24 || eqb (refusal_of a) 25) (struck p place id) p))
page_after p (end place) a = pick (is_ack a) (pick (eqb place 1) none (some (with_note p place no_note))) (some p)
page_after p other a = some p

abbrev pub page_after_if : Option Page → Ask → Answer → Option Page
page_after_if none q a = none
page_after_if (some p) q a = page_after p q a

-- the book after a call: "An opening's ACK enters a session"; "Any other call changes nothing."
abbrev pub noted : Book → Grant → Answer → Seen → Book
noted b g a opening = pick (is_ack a) (with_page b (lowest_not_in b 255 1) (some (new_page g))) b
noted b g a (within i q) = with_page b i (page_after_if (b i) q a)
noted b g a nothing = b

abbrev pub book_after : Book → Command → Answer → Book
book_after b (call q) a = noted b q.grant a (seen_of q.input)

unfoldable pub book_of : Book → List Event → Book
book_of b [] = b
book_of b (e ∷ l) = book_of (book_after b e.command e.answer) l

-- ---- delivery

-- what a frame completes: a service and the message's bytes on it
pub record Due : Type 0 where
  pub service : ℕ
  pub bytes : List ℕ

abbrev pub due_at : ℕ → List ℕ → Due
due_at place bytes = record { service = service_at place; bytes = bytes }

-- the bytes of the message in the book with the payload, or a Single Frame's payload
unfoldable pub due_for : ℕ → Note → ℕ → List ℕ → Option Due
due_for place n id payload = pick (is_under n id && eqb (suc n.came) n.count) (some (due_at place (n.bytes ++ payload))) none

abbrev pub due_on : Option Page → Ask → Option Due
due_on none q = none
due_on (some p) (single place payload) = some (due_at place payload)
due_on (some p) (first place id total count) = none
due_on (some p) (next place id payload) = due_for place (note_at p place) id payload
due_on (some p) (end place) = none
due_on (some p) other = none

abbrev pub due_in : Book → Seen → Option Due
due_in b opening = none
due_in b (within i q) = due_on (b i) q
due_in b nothing = none

abbrev pub due_of : Book → Command → Option Due
due_of b (call q) = due_in b (seen_of q.input)

-- ---- the shorter list

-- the calls that are not left out: those "whose fourth input byte is missing or isn't that session's id" are
abbrev pub names : ℕ → Command → Bool
names i (call q) = ltb 3 (length q.input) && eqb (get_or q.input 3 0) i

abbrev pub ends_rpc : Seen → Bool
ends_rpc opening = false
ends_rpc (within i (single place payload)) = false
ends_rpc (within i (first place id total count)) = false
ends_rpc (within i (next place id payload)) = false
ends_rpc (within i (end place)) = eqb place 1
ends_rpc (within i other) = false
ends_rpc nothing = false

-- "for 07, the session and all its messages: its closing"
abbrev pub closes : Command → Answer → Bool
closes (call q) a = is_ack a && ends_rpc (seen_of q.input)

unfoldable pub shuts : ℕ → Event → Bool
shuts i e = names i e.command && closes e.command e.answer

-- "cut the list after a session's closing, if it has one"
unfoldable pub until_closed : ℕ → List Event → List Event
until_closed i [] = []
until_closed i (e ∷ l) = e ∷ pick (shuts i e) [] (until_closed i l)

-- calls left out that do not name the session
unfoldable pub naming : ℕ → List Event → List Event
naming i [] = []
naming i (e ∷ l) = pick (names i e.command) (e ∷ naming i l) (naming i l)

unfoldable pub own_of : ℕ → List Event → List Event
own_of i l = naming i (until_closed i l)

-- ---- within the guarantee

-- "The room check is 20 and 21": a First Frame reached it if it was accepted or refused there
abbrev pub reaches_room : Answer → Bool
reaches_room a = is_accepted a || (eqb (refusal_of a) 20 || eqb (refusal_of a) 21)

-- "a First Frame asks to go above its guarantee if the needs of its session's messages in the book plus its own exceed G"
abbrev pub ModestOn : Option Page → Seen → Answer → Type 0
ModestOn none x a = Unit {0}
ModestOn (some p) opening a = Unit {0}
ModestOn (some p) (within i (single place payload)) a = Unit {0}
ModestOn (some p) (within i (first place id total count)) a = T (reaches_room a) → needs_of p + need_of total ≤ p.guarantee
ModestOn (some p) (within i (next place id payload)) a = Unit {0}
ModestOn (some p) (within i (end place)) a = Unit {0}
ModestOn (some p) (within i other) a = Unit {0}
ModestOn (some p) nothing a = Unit {0}

abbrev pub ModestIn : Option Page → Command → Answer → Type 0
ModestIn p (call q) a = ModestOn p (seen_of q.input) a

unfoldable pub Modest : ℕ → Book → List Event → Type 0
Modest i b [] = Unit {0}
Modest i b (e ∷ l) = (T (names i e.command) → ModestIn (b i) e.command e.answer) × Modest i (book_after b e.command e.answer) l
