-- Creation and the call on a state of lent bytes: document 01's (link/specs) between reading a link off the bytes and laying the one after it over them.
-- A C caller's state, pool and out are these lists. Assumes nothing.
use Rattle.std.specs.Prelude.{ℕ, suc, Bool, ◌&&◌, List, [], ◌∷◌, ◌++◌, eqb, length, replicate}
use Rattle.numbers.specs.Bytes.{unless, put_at}
use Rattle.numbers.specs.Numbers.{bytes_le}
use Rattle.blocks.specs.Map.{free_map}
use Rattle.payload.specs.declared.version.Version.{Version}
use Rattle.session.specs.declared.Row.{Row}
use Rattle.link.specs.declared.Link.{Link}
use Rattle.link.specs.declared.Grant.{Grant}
use Rattle.link.specs.declared.Answer.{Answer}
use Rattle.link.specs.declared.Answer.TheVariants as answer
use Rattle.link.specs.State.{settings_fit}
use Rattle.link.specs.Call.{After, call_of}
use Rattle.link.specs.Values.{Values, values_of}
use Rattle.state.specs.Fields.{number_at}
use Rattle.state.specs.Layout.{link_of, with_row_bytes}

-- a state's length and its layout's number; any other bytes are no state: 10
unfoldable pub is_state : List ℕ → Bool
is_state s = eqb (length s) 2688 && eqb (number_at s 0 1) 1

-- ---- a link laid over a state

-- rows, from the i-th on
abbrev pub with_rows_bytes : List ℕ → ℕ → List Row → List ℕ
with_rows_bytes s i [] = s
with_rows_bytes s i (r ∷ rs) = with_rows_bytes (with_row_bytes s i r) (suc i) rs

abbrev pub with_owners_bytes : List ℕ → List ℕ → List ℕ
with_owners_bytes s os = put_at s 544 256 os

-- rows and owners: a call changes nothing else. The link that was read off leaves every byte (`stored_same`, proofs/Stored)
unfoldable pub stored_in : List ℕ → Link → List ℕ
stored_in s l = with_owners_bytes (with_rows_bytes s 0 l.rows) l.owners

-- ---- the call

-- an answer, and state, pool and out after it
pub record Left : Type 0 where
  pub answer : Answer
  pub state : List ℕ
  pub pool : List ℕ
  pub out : List ℕ

abbrev pub left : Answer → List ℕ → List ℕ → List ℕ → Left
left a s p o = record { answer = a; state = s; pool = p; out = o }

-- what a call on a link leaves, its link laid over the state's bytes
abbrev pub left_by : List ℕ → After → Left
left_by s w = left w.answer (stored_in s w.link) w.pool w.out

-- "Each call brings the link state, the pool .., the input, an out buffer, and an offer". 10, with nothing changed, where the bytes are no state
unfoldable pub call_in : List ℕ → List ℕ → List ℕ → List ℕ → Grant → Left
call_in s p input o g = unless (is_state s) (left (answer.Refused 10) s p o) (left_by s (call_of (link_of s) p input o g))

-- the answer by document 01's number and values
pub record Told : Type 0 where
  pub values : Values
  pub state : List ℕ
  pub pool : List ℕ
  pub out : List ℕ

abbrev pub told_of : Left → Told
told_of w = record { values = values_of w.answer; state = w.state; pool = w.pool; out = w.out }

-- ---- creation

-- the layout's number, version and mtu
abbrev pub settings_bytes : Version → ℕ → List ℕ
settings_bytes v mtu = 1 ∷ v.major ∷ v.minor ∷ v.patch ∷ bytes_le 4 mtu

-- no session, and every block free
unfoldable pub created_bytes : Version → ℕ → List ℕ
created_bytes v mtu = settings_bytes v mtu ++ (replicate 536 0 ++ (free_map ++ replicate 1888 0))

-- 0 or a refusal's number, and the state after it
pub record Made : Type 0 where
  pub refused : ℕ
  pub state : List ℕ

abbrev pub made : ℕ → List ℕ → Made
made n s = record { refused = n; state = s }

-- 10, with nothing changed, where the state has another length or settings are out of range. What stood in the state does not matter
unfoldable pub create_in : List ℕ → Version → ℕ → Made
create_in s v mtu = unless (eqb (length s) 2688 && settings_fit v mtu) (made 10 s) (made 0 (created_bytes v mtu))
