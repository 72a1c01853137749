-- What the benchmark's program answers: places gone over call by call, how many calls were accepted, and all that a script of such calls leaves.
-- What is read and written is said by `streams`; of a whole run nothing is. Assumes nothing.
use Rattle.std.specs.Prelude.{ℕ, zero, suc, ◌+◌, ◌/◌, ◌%◌, ◌^◌, min, max, List, [], ◌∷◌, ◌++◌, length, drop, replicate, ◌==◌, nat_lt}
use Rattle.numbers.specs.Bytes.{pick, part}
use Rattle.numbers.specs.Numbers.{value_be}
use Rattle.lines.specs.Decimal.{decimal_of}
use Rattle.payload.specs.declared.version.Version.{Version}
use Rattle.link.specs.declared.Grant.{Grant}
use Rattle.link.specs.Values.{Values, accepted}
use Rattle.state.specs.Calls.{call_in, Told, told_of, create_in}
use Rattle.pace.specs.declared.HeadUnit.{HeadUnit}

-- ---- one call

-- one more where the answer is accepted, in 64 bits
abbrev pub counted_of : ℕ → Values → ℕ
counted_of n v = (n + pick (accepted v) 1 0) % 2 ^ 64

-- what each call offers
abbrev pub offered : Grant
offered = record { guarantee = 0; cap = 256; hash = 39027 }

-- ---- places

-- the place behind one, at least one byte on, within a length
abbrev pub behind_of : ℕ → ℕ → ℕ → ℕ
behind_of at size length = min (at + max size 1) length

-- the same, and the first place again behind the last
abbrev pub next_of : ℕ → ℕ → ℕ → ℕ
next_of at size length = pick (nat_lt (behind_of at size length) length) (behind_of at size length) 0

-- how many whole places a length has; places of no bytes are none
abbrev pub places_in : ℕ → ℕ → ℕ
places_in length size = pick (size == 0) 0 (length / size)

-- ---- call after call

-- all that calls leave: how many were accepted, the link's state and its buffers
pub record Left : Type 0 where
  pub accepted : ℕ
  pub state : List ℕ
  pub pool : List ℕ
  pub out : List ℕ

abbrev pub left : ℕ → List ℕ → List ℕ → List ℕ → Left
left n state pool out = record { accepted = n; state = state; pool = pool; out = out }

abbrev pub left_in : HeadUnit → Left
left_in u = left u.accepted u.state u.pool u.out

-- what one more call leaves
abbrev pub counting : ℕ → Told → Left
counting n t = left (counted_of n t.values) t.state t.pool t.out

-- one call, with the bytes from a place on
abbrev pub after_call : List ℕ → ℕ → Left → Left
after_call places at l = counting l.accepted (told_of (call_in l.state l.pool (drop at places) l.out offered))

-- so many calls, from a place on
unfoldable pub run_from : ℕ → List ℕ → ℕ → ℕ → Left → Left
run_from zero places size at l = l
run_from (suc calls) places size at l = run_from calls places size (next_of at size (length places)) (after_call places at l)

-- the version that the bench has too
abbrev pub module_version : Version
module_version = record { major = 5; minor = 4; patch = 1 }

-- a link just created in these bytes, with the bench's mtu
abbrev pub beginning : List ℕ → List ℕ
beginning state = (create_in state module_version 131084).state

-- ---- a script

-- the bytes that a script has at most
abbrev pub longest : ℕ
longest = 300000

-- a script's number at a place: four bytes, most significant first
abbrev pub number_at : List ℕ → ℕ → ℕ
number_at script at = value_be (part script at 4)

-- a script's number of bytes at a place, cut at the longest script
abbrev pub size_at : List ℕ → ℕ → ℕ
size_at script at = min (number_at script at) longest

-- the bytes of the beginning stand behind the four numbers
abbrev pub opening : List ℕ → List ℕ
opening script = part script 16 (size_at script 4)

-- the bytes that are gone over again and again stand behind those
abbrev pub again : List ℕ → List ℕ
again script = part script (16 + size_at script 4) (size_at script 8)

-- the beginning once, a call for each of its places; then as many calls with the rest as the last number says
unfoldable pub script_of : List ℕ → List ℕ → List ℕ → List ℕ → Left
script_of script state pool out =
    let size = number_at script 0 in
    run_from (number_at script 12) (again script) size 0 (run_from (places_in (size_at script 4) size) (opening script) size 0 (left 0 (beginning state) pool out))

-- ---- the program

-- a number in decimal, and a newline
abbrev pub line_of : ℕ → List ℕ
line_of number = decimal_of number ++ 10 ∷ []

-- 65,536 bytes of 0: the pool that a link asks for, and an out buffer as large
unfoldable pub empty_buffer : List ℕ
empty_buffer = replicate 65536 0

-- bytes for the link's state
unfoldable pub empty_state : List ℕ
empty_state = replicate 2688 0

-- what is written for a script: how many calls were accepted
abbrev pub answer_of : List ℕ → List ℕ
answer_of script = line_of (script_of script empty_state empty_buffer empty_buffer).accepted
