-- Names for parts of the link's state rules that have a function of their own here. Assumes nothing.
use Rattle.std.specs.Prelude.{ℕ, zero, suc, ◌+◌, ◌≤◌, ◌≡◌, Bool, true, ◌&&◌, ◌||◌, not, List, [], ◌∷◌, eqb, length}
use Rattle.numbers.specs.Bytes.{pick}
use Rattle.frame.specs.declared.SessionId.{SessionId}
use Rattle.blocks.specs.Map.{held_by}
use Rattle.session.specs.declared.Reassembly.{Reassembly}
use Rattle.session.specs.declared.Row.{Row}
use Rattle.session.specs.Rows.{no_session_id}
use Rattle.session.specs.Decide.{need_of, held_of, share_of}
use Rattle.link.specs.Pages.{FiveEach}
use Rattle.link.specs.declared.Link.{Link}
use Rattle.rules.specs.declared.Overview.{Overview}
use Rattle.link.specs.State.{all, all_from, owner_of, shares_in, room_fits, version_allowed, unsettled_fits, message_fits, free_fits}

-- no message is open
abbrev pub none_live : List Reassembly → Bool
none_live ms = all (λ (m : Reassembly). not m.live) ms

-- what the row of a session keeps besides its blocks
abbrev pub session_fits : ℕ → Row → Bool
session_fits major r = room_fits r && (version_allowed major r.version && (unsettled_fits r && all_from 0 (message_fits r) r.messages))

-- the rows' ids
abbrev pub ids_of : List Row → List SessionId
ids_of [] = []
ids_of (r ∷ rs) = r.id ∷ ids_of rs

-- where an id stands; the number of ids if it is not there
unfoldable pub index_in : SessionId → List SessionId → ℕ
index_in id [] = 0
index_in id (first ∷ ids) = pick (eqb first.0 id.0) 0 (suc (index_in id ids))

-- the id with the lowest of so many numbers from k on that none of these has; 0 if each is taken
unfoldable pub lowest_unused : ℕ → ℕ → List SessionId → SessionId
lowest_unused zero k ids = no_session_id
lowest_unused (suc n) k ids =
    let id : SessionId = record { 0 = k } in
    pick (eqb (index_in id ids) (length ids)) id (lowest_unused n (suc k) ids)

-- no id is this one
abbrev pub missing_in : SessionId → List SessionId → Bool
missing_in id ids = all (λ (one : SessionId). not (eqb one.0 id.0)) ids

-- an id other than 0 is not found again
unfoldable pub distinct_in : List SessionId → Bool
distinct_in [] = true
distinct_in (id ∷ ids) = (eqb id.0 0 || missing_in id ids) && distinct_in ids

-- an open message's owner has as many blocks as it needs; of one that is not open nothing is said
unfoldable pub holds_need : List ℕ → ℕ → Reassembly → Bool
holds_need map owner m = not m.live || eqb (held_by owner map) (need_of m.total)

abbrev pub open_fit : List ℕ → ℕ → List Reassembly → Bool
open_fit map i ms = all_from 0 (λ (place : ℕ) (m : Reassembly). holds_need map (owner_of i place) m) ms

-- the rules of a row, but for the blocks of what is not open
unfoldable pub row_sound : ℕ → List ℕ → ℕ → Row → Bool
row_sound major map i r = pick (eqb r.id.0 0) (free_fits r) (open_fit map i r.messages && session_fits major r)

-- a number of a session; 0 for a free row
unfoldable pub of_session : (Row → ℕ) → Row → ℕ
of_session f r = pick (eqb r.id.0 0) 0 (f r)

unfoldable pub held_sum : List Row → ℕ
held_sum [] = 0
held_sum (r ∷ rs) = of_session held_of r + held_sum rs

unfoldable pub share_sum : List Row → ℕ
share_sum [] = 0
share_sum (r ∷ rs) = of_session share_of r + share_sum rs

-- what one row comes to: whether it fits, what it holds and shares
pub record Looked (major : ℕ) (map : List ℕ) (i : ℕ) (r : Row) (fit : Bool) (held shared : ℕ) : Type 0 where
  pub fits : fit ≡ row_sound major map i r
  pub holds : held ≡ of_session held_of r
  pub most : held ≤ 83886080
  pub shares : shared ≡ of_session share_of r
  pub bound : shared ≤ 83886080

-- what one pass over the rows of a link finds. The rows are eight, and each has five messages.
pub record Summed (l : Link) (fit : Bool) (held shared : ℕ) : Type 0 where
  pub fits : fit ≡ all_from 0 (row_sound l.version.major l.owners) l.rows
  pub holds : held ≡ held_sum l.rows
  pub most : held ≤ 671088640
  pub shares : shared ≡ share_sum l.rows
  pub bound : shared ≤ 671088640
  pub eight : length l.rows ≡ 8
  pub five : FiveEach l.rows

-- what a survey of a link within the rules tells
pub record Surveyed (l : Link) (v : Overview) : Type 0 where
  pub shares : v.shared ≡ shares_in l.rows
  pub names : v.ids ≡ ids_of l.rows
  pub bound : v.shared ≤ 671088640
  pub eight : length l.rows ≡ 8
