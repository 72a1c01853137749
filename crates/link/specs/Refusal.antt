-- Demand 1's last sentence: "A refusal changes no lent byte and no state, except that 24 and 25 drop the one message they name." Proved in proofs/Refusals.
-- Assumes nothing.
use Rattle.std.specs.Prelude.{ℕ, ◌<◌, ◌≡◌, ◌⊎◌, true, List, length, get_or}
use Rattle.frame.specs.declared.Header.{Header}
use Rattle.frame.specs.declared.Extent.{Extent}
use Rattle.frame.specs.declared.Reading.TheVariants as reading
use Rattle.frame.specs.Read.{read_of}
use Rattle.blocks.specs.Map.{released}
use Rattle.session.specs.declared.Reassembly.{Reassembly}
use Rattle.session.specs.Rows.{no_row, message_at, dropped_row}
use Rattle.session.specs.Decide.{place_of}
use Rattle.link.specs.declared.Link.{Link}
use Rattle.link.specs.declared.Grant.{Grant}
use Rattle.link.specs.declared.Answer.{Answer}
use Rattle.link.specs.declared.Answer.TheVariants as answer
use Rattle.link.specs.State.{index_of, owner_of, with_row, with_owners}
use Rattle.link.specs.Call.{After, call_of}

-- link, pool, input and out of a call; what the call leaves comes last
module _ (l : Link) (p s o : List ℕ) where
  -- "changes no lent byte and no state": link, pool and out
  abbrev pub Unchanged : After → Type 0
  Unchanged w = (w.link ≡ l) × (w.pool ≡ p) × (w.out ≡ o)

  -- the message of row i at a place
  abbrev pub open_message : ℕ → ℕ → Reassembly
  open_message i place = message_at (get_or l.rows i no_row) place

  -- the link without the open message of row i at a place: its row without it, its blocks free
  abbrev pub without : ℕ → ℕ → Link
  without i place = with_owners (with_row l i (dropped_row (get_or l.rows i no_row) place)) (released (owner_of i place) (owner_of i place) l.owners)

  -- "drop the one message they name"
  pub record DropsNamed (w : After) : Type 0 where
    -- what the frame names: a session, a service and a message id
    pub header : Header
    pub extent : Extent
    pub read : read_of s ≡ reading.Frame header extent
    -- the session is open
    pub some-session : header.session.0 ≡ 0 → ⊥
    pub found : index_of header.session.0 l.rows < length l.rows
    -- a message is open there on that service, and it is the one with that id
    pub live : (open_message (index_of header.session.0 l.rows) (place_of header.service.0)).live ≡ true
    pub named : (open_message (index_of header.session.0 l.rows) (place_of header.service.0)).id.0 ≡ header.message.0
    -- it is dropped, and nothing else of the state changes
    pub link : w.link ≡ without (index_of header.session.0 l.rows) (place_of header.service.0)
    -- "no lent byte"
    pub pool : w.pool ≡ p
    pub out : w.out ≡ o

  -- "A refusal changes no lent byte and no state, except that 24 and 25 ..": no other number drops anything, and both always do
  abbrev pub KeepsOn : After → Answer → Type 0
  KeepsOn w (answer.Short n) = Unchanged w
  KeepsOn w (answer.Refused n) = ((n ≡ 24 → ⊥) × (n ≡ 25 → ⊥) × Unchanged w) ⊎ (((n ≡ 24) ⊎ (n ≡ 25)) × DropsNamed w)
  KeepsOn w (answer.Acked c n) = Unit {0}
  KeepsOn w (answer.Nacked c n) = Unit {0}
  KeepsOn w (answer.Beat c n) = Unit {0}
  KeepsOn w (answer.Accepted c) = Unit {0}
  KeepsOn w (answer.Delivered c v n) = Unit {0}

-- for every state, pool, input, out and offer
abbrev pub RefusalKeeps : Type 0
RefusalKeeps = (l : Link) (p s o : List ℕ) (g : Grant) → KeepsOn l p s o (call_of l p s o g) (call_of l p s o g).answer
