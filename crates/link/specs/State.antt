-- The link's state: looking up rows, the owners of blocks, and the state rules. Document 01, "The link".
-- Assumes nothing.
use Rattle.std.specs.Prelude.{ℕ, zero, suc, ◌+◌, ◌*◌, min, Bool, true, ◌&&◌, ◌||◌, not, List, [], ◌∷◌, eqb, leb, length, get_or, set, replicate}
use Rattle.numbers.specs.Bytes.{pick}
use Rattle.frame.specs.declared.SessionId.{SessionId}
use Rattle.frame.specs.Message.{totals_fit}
use Rattle.blocks.specs.Map.{held_by, held_by_all, free_in, free_map}
use Rattle.payload.specs.declared.version.Version.{Version}
use Rattle.session.specs.declared.Reassembly.{Reassembly}
use Rattle.session.specs.declared.Row.{Row}
use Rattle.session.specs.Rows.{free_row}
use Rattle.session.specs.Rules.{is_running}
use Rattle.session.specs.Decide.{need_of, held_of, share_of}
use Rattle.link.specs.declared.Link.{Link}
use Rattle.link.specs.declared.Grant.{Grant}

-- where the first row with an id stands; the number of rows if none has it
unfoldable pub index_of : ℕ → List Row → ℕ
index_of i [] = 0
index_of i (r ∷ rs) = pick (eqb r.id.0 i) 0 (suc (index_of i rs))

-- the owner of the blocks of row i's message at a place: the number that the block map "records" (ours)
unfoldable pub owner_of : ℕ → ℕ → ℕ
owner_of i place = 1 + (i * 5 + place)

-- all of a list
abbrev pub all : {A : Type 0} → (A → Bool) → List A → Bool
all test [] = true
all test (a ∷ l) = test a && all test l

-- all of a list, each with its place, counted from n
abbrev pub all_from : {A : Type 0} → ℕ → (ℕ → A → Bool) → List A → Bool
all_from n test [] = true
all_from n test (a ∷ l) = test n a && all_from (suc n) test l

-- "the sum over sessions of the larger of held and G"
unfoldable pub shares_in : List Row → ℕ
shares_in [] = 0
shares_in (r ∷ rs) = share_of r + shares_in rs

-- "ids distinct and not 0": a row that is not free has an id that no later row has
unfoldable pub distinct_ids : List Row → Bool
distinct_ids [] = true
distinct_ids (r ∷ rs) = (eqb r.id.0 0 || eqb (index_of r.id.0 rs) (length rs)) && distinct_ids rs

-- "G ≤ C ≤ 256 and held ≤ C in each row"
unfoldable pub room_fits : Row → Bool
room_fits r = leb r.guarantee r.cap && (leb r.cap 256 && leb (held_of r) r.cap)

-- "each row's version is unsettled or one that an opening under M allows": 1 to min(M, 4), or 5 under M = 5
unfoldable pub version_allowed : ℕ → ℕ → Bool
version_allowed major v = leb v (min major 4) || (eqb major 5 && eqb v 5)

-- a service's number from its place
unfoldable pub service_at : ℕ → ℕ
service_at place = get_or (0x00 ∷ 0x07 ∷ 0x0A ∷ 0x0B ∷ 0x0F ∷ []) place 0

-- "each open message is on a running service, its total and count as 18 allows, with 1 to count frames to come and bytes missing from
-- that many to total"
unfoldable pub message_fits : Row → ℕ → Reassembly → Bool
message_fits r place m =
    not m.live
    || (is_running r r.version (service_at place)
    && (totals_fit m.total m.count
    && (leb 1 m.frames && (leb m.frames m.count
    && (leb m.frames m.missing && leb m.missing m.total)))))

-- "an unsettled row has no open message"
unfoldable pub unsettled_fits : Row → Bool
unsettled_fits r = not (eqb r.version 0) || all (λ (m : Reassembly). not m.live) r.messages

-- "open messages hold .. blocks, (total + 255) / 256 rounded down for each": counted in the block map, in which no block has two owners
unfoldable pub blocks_fit : List ℕ → ℕ → Row → Bool
blocks_fit owners i r =
    all_from 0 (λ (place : ℕ) (m : Reassembly). eqb (held_by (owner_of i place) owners) (pick m.live (need_of m.total) 0)) r.messages

-- a free row has guarantee 0, cap 0 and no open message, as creation made it (ours)
unfoldable pub free_fits : Row → Bool
free_fits r = eqb r.guarantee 0 && (eqb r.cap 0 && all (λ (m : Reassembly). not m.live) r.messages)

-- the rules of one row. "and 07 runs" needs no test: 07 of an open row always runs (`is_running`)
unfoldable pub row_fits : ℕ → List ℕ → ℕ → Row → Bool
row_fits major owners i r =
    blocks_fit owners i r
    && pick (eqb r.id.0 0) (free_fits r)
    (room_fits r && (version_allowed major r.version && (unsettled_fits r && all_from 0 (message_fits r) r.messages)))

-- "State rules": ids, what holds of each row, the sum; and held and free blocks make 256, so that a block held by no open message breaks them (ours)
unfoldable pub rules_hold : Link → Bool
rules_hold l =
    distinct_ids l.rows
    && (all_from 0 (row_fits l.version.major l.owners) l.rows
    && (leb (shares_in l.rows) 256
    && eqb (held_by_all 1 40 l.owners + free_in l.owners) 256))

-- "Created with a module version M.m.p (M 1 to 5, others 0 to 255) and an mtu from 1,500 to 131,084"; the others are bytes by their type
unfoldable pub settings_fit : Version → ℕ → Bool
settings_fit v mtu = leb 1 v.major && (leb v.major 5 && (leb 1500 mtu && leb mtu 131084))

-- "with G ≤ C ≤ 256"
unfoldable pub grant_fits : Grant → Bool
grant_fits g = leb g.guarantee g.cap && leb g.cap 256

-- 10: "pool not 65,536 bytes, settings, offer .. out of range, state rule broken"
unfoldable pub guard_of : Link → ℕ → Grant → Bool
guard_of l pool g = eqb pool 65536 && (settings_fit l.version l.mtu && (grant_fits g && rules_hold l))

-- creation: no session, every block free. "At most 8 sessions."
abbrev pub created_link : Version → ℕ → Link
created_link v mtu = record { version = v; mtu = mtu; rows = replicate 8 free_row; owners = free_map }

abbrev pub with_rows : Link → List Row → Link
with_rows l rs = record { version = l.version; mtu = l.mtu; rows = rs; owners = l.owners }

abbrev pub with_owners : Link → List ℕ → Link
with_owners l os = record { version = l.version; mtu = l.mtu; rows = l.rows; owners = os }

-- row i as given
abbrev pub with_row : Link → ℕ → Row → Link
with_row l i r = with_rows l (set l.rows i r)

-- the lowest number that is no open session's id: so many from k on are tried; 0 if each is one
unfoldable pub lowest_free : ℕ → ℕ → List Row → ℕ
lowest_free zero k rs = 0
lowest_free (suc n) k rs = pick (eqb (index_of k rs) (length rs)) k (lowest_free n (suc k) rs)

-- "A new one gets the lowest id from 1 to 255 that isn't open."
abbrev pub new_id : List Row → SessionId
new_id rs = record { 0 = lowest_free 255 1 rs }
