-- Document 02's A3, through the link: "the search counts the blocks it looks at, proved for an admitted First Frame to be its highest block's number, from 0,
-- plus 1." For every link that code can hand in, whatever it holds: where a state rule is broken, a call answers 10 and admits nothing. Proved in
-- proofs/Search.
-- Assumes nothing.
use Rattle.std.specs.Prelude.{ℕ, suc, ◌-◌, ◌≤◌, ◌<◌, ◌≡◌, List, T, length, get_or}
use Rattle.numbers.specs.Bytes.{part}
use Rattle.numbers.specs.Numbers.{value_be}
use Rattle.frame.specs.declared.Header.{Header}
use Rattle.frame.specs.declared.Extent.{Extent}
use Rattle.frame.specs.declared.Reading.TheVariants as reading
use Rattle.frame.specs.Read.{read_of}
use Rattle.blocks.specs.Map.{claimed, looked_for, block_numbers, highest_of}
use Rattle.session.specs.Rows.{no_row}
use Rattle.session.specs.Decide.{place_of, need_of}
use Rattle.link.specs.declared.Link.{Link}
use Rattle.link.specs.declared.Grant.{Grant}
use Rattle.link.specs.State.{index_of, owner_of}
use Rattle.link.specs.Call.{After, call_of}
use Rattle.link.specs.Book.{is_accepted}
use Rattle.link.specs.Pages.{FiveEach}

-- a link as code gives it: its arrays have their lengths and its ids are bytes
pub record Shaped (l : Link) : Type 0 where
  pub rows : length l.rows ≡ 8
  pub five : FiveEach l.rows
  pub ids : (k : ℕ) → k < length l.rows → (get_or l.rows k no_row).id.0 ≤ 255
  pub owners : length l.owners ≡ 256

-- "an admitted First Frame": at the input's front, of type 2, and the call accepts it
pub record Admitted (l : Link) (p s o : List ℕ) (g : Grant) (h : Header) (e : Extent) : Type 0 where
  pub read : read_of s ≡ reading.Frame h e
  pub kind : h.kind ≡ 2
  pub accepted : T (is_accepted (call_of l p s o g).answer)

-- whose the blocks of a frame's message are
abbrev pub owner_for : Link → Header → ℕ
owner_for l h = owner_of (index_of h.session.0 l.rows) (place_of h.service.0)

-- how many blocks a First Frame's message needs; its payload is "total, then count"
abbrev pub need_for : List ℕ → Extent → ℕ
need_for s e = need_of (value_be (part (part s e.start (e.end - e.start)) 0 4))

-- the search of a call that leaves w
pub record Searched (l : Link) (s : List ℕ) (h : Header) (e : Extent) (w : After) : Type 0 where
  -- it is the one that takes the message's blocks: the map after the call is what `claim` makes of the map before it
  pub chosen : w.link.owners ≡ claimed (owner_for l h) (need_for s e) l.owners
  -- "the search counts the blocks it looks at, .. its highest block's number, from 0, plus 1"
  pub counted : looked_for (need_for s e) l.owners ≡ suc (highest_of (block_numbers (owner_for l h) w.link.owners))

-- for every link, pool, input, out and offer
abbrev pub SearchCounts : Type 0
SearchCounts = (l : Link) → Shaped l → (p s o : List ℕ) (g : Grant) (h : Header) (e : Extent) → Admitted l p s o g h e → Searched l s h e (call_of l p s o g)
