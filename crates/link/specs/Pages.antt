-- The state, read as a book: each open message is read off its row and its blocks. This is how the proof compares the two; the claim
-- itself does not speak of it.
-- Assumes nothing.
use Rattle.std.specs.Prelude.{ℕ, suc, ◌-◌, ◌≤◌, ◌<◌, ◌≡◌, true, List, [], ◌∷◌, length, get_or, take}
use Rattle.std.proofs.Math.Option.{Option, none, some}
use Rattle.numbers.specs.Bytes.{pick}
use Rattle.blocks.specs.Pool.{block_bytes}
use Rattle.session.specs.declared.Reassembly.{Reassembly}
use Rattle.session.specs.declared.Row.{Row}
use Rattle.session.specs.Rows.{no_row}
use Rattle.session.specs.Decide.{need_of}
use Rattle.link.specs.State.{index_of, owner_of, settings_fit, rules_hold}
use Rattle.link.specs.Book.{Note, no_note, Page, Book}
use Rattle.link.specs.Claim.{State, is_open}

-- the row of an open session
unfoldable pub row_of : State → ℕ → Option Row
row_of s i = pick (is_open s i) (some (get_or s.link.rows (index_of i s.link.rows) no_row)) none

-- a message: the bytes that have come are the first of its blocks'
unfoldable pub note_of : State → ℕ → ℕ → Reassembly → Note
note_of s index place m =
    pick m.live
    (record {
      live = true;
      id = m.id.0;
      need = need_of m.total;
      count = m.count;
      came = m.count - m.frames;
      bytes = take (m.total - m.missing) (block_bytes (owner_of index place) s.link.owners s.pool);
    })
    no_note

-- the messages of a row, from a place on
unfoldable pub notes_from : State → ℕ → ℕ → List Reassembly → List Note
notes_from s index place [] = []
notes_from s index place (m ∷ ms) = note_of s index place m ∷ notes_from s index (suc place) ms

abbrev pub page_of : State → ℕ → Row → Page
page_of s index r = record { guarantee = r.guarantee; cap = r.cap; notes = notes_from s index 0 r.messages }

abbrev pub page_if : State → ℕ → Option Row → Option Page
page_if s index none = none
page_if s index (some r) = some (page_of s index r)

unfoldable pub pages : State → Book
pages s i = page_if s (index_of i s.link.rows) (row_of s i)

-- each row has its five places
abbrev pub FiveEach : List Row → Type 0
FiveEach [] = Unit {0}
FiveEach (r ∷ rs) = (length r.messages ≡ 5) × FiveEach rs

-- a state that calls lead to: its arrays have their lengths and its ids are bytes, as code gives them, and the state rules hold
pub record Sane (s : State) : Type 0 where
  pub rows : length s.link.rows ≡ 8
  pub five : FiveEach s.link.rows
  pub ids : (k : ℕ) → k < length s.link.rows → (get_or s.link.rows k no_row).id.0 ≤ 255
  pub owners : length s.link.owners ≡ 256
  pub pool : length s.pool ≡ 65536
  pub settings : settings_fit s.link.version s.link.mtu ≡ true
  pub rules : rules_hold s.link ≡ true
