-- What a whole line does: the link's state, the pool and the line that answers it; docs/DRIVER.md, `new` and `call`. What these calls do is `create_in` and
-- `call_in` (state/specs/Calls), a call's answer by number and values (link/specs/Values). Assumes nothing.
use Rattle.std.specs.Prelude.{ℕ, zero, suc, ◌+◌, ◌%◌, Bool, true, false, List, [], ◌∷◌, ◌++◌, length, take, ◌==◌}
use Rattle.numbers.specs.Bytes.{pick}
use Rattle.lines.specs.Hex.{hex_of}
use Rattle.lines.specs.Decimal.{decimal_of}
use Rattle.text.specs.Pieces.{check_of}
use Rattle.words.specs.declared.Command.{Command}
use Rattle.words.specs.declared.Kind as words
use Rattle.words.specs.declared.Kind.TheVariants as kind
use Rattle.payload.specs.declared.version.Version.{Version}
use Rattle.link.specs.declared.Grant.{Grant}
use Rattle.link.specs.Values.{Kind, short, refused, reply, silent, delivery, Values, service_bytes}
use Rattle.state.specs.Layout.{link_of}
use Rattle.state.specs.Calls.{call_in, Told, told_of, Made, create_in}
use Rattle.driver.specs.declared.calls.Store.{Store}
use Rattle.driver.specs.Spelling.{Spelled, plain, with_hex, behind, line_of, letter_and, refused_text}
use Rattle.driver.specs.Answers.{byte_at, half_at, wide_at, lent_out, plain_line, answer_to}
use Rattle.driver.specs.States.{state_text}

-- what a line leaves: whether there is a link, its state's bytes, the pool, and the characters that are written
pub record Left : Type 0 where
  pub linked : Bool
  pub state : List ℕ
  pub pool : List ℕ
  pub written : List ℕ

abbrev pub leaving : Bool → List ℕ → List ℕ → List ℕ → Left
leaving linked state pool written = record { linked = linked; state = state; pool = pool; written = written }

-- the same, as the code answers it
abbrev pub left : Bool → Store → List ℕ → Left
left linked s written = leaving linked s.state s.pool written

-- before the first line there is no link
abbrev pub no_link : Bool
no_link = false

-- ---- new M m p MTU

-- "byte i of a new pool is (i*7 + 13) mod 256": each is seven more than the one before
unfoldable pub pool_from : ℕ → ℕ → List ℕ
pool_from next zero = []
pool_from next (suc n) = next ∷ pool_from ((next + 7) % 256) n

abbrev pub new_pool : List ℕ → List ℕ
new_pool pool = pool_from 13 (length pool)

abbrev pub version_of : Command → Version
version_of c = record { major = byte_at c 0; minor = byte_at c 1; patch = byte_at c 2 }

-- "`ok` · `R 10`"
abbrev pub created_text : ℕ → List ℕ
created_text number = pick (number == 0) (111 ∷ 107 ∷ []) (refused_text number)

-- "the link and its pool are replaced"; after `R 10` there is none
abbrev pub new_by : List ℕ → Made → Left
new_by pool m = leaving (m.refused == 0) m.state (new_pool pool) (plain_line (created_text m.refused))

abbrev pub new_of : Command → List ℕ → List ℕ → Left
new_of c state pool = new_by pool (create_in state (version_of c) (wide_at c 3))

-- ---- call G C HASH OUTLEN HEX

abbrev pub grant_of : Command → Grant
grant_of c = record { guarantee = half_at c 0; cap = half_at c 1; hash = wide_at c 2 }

-- "`S n` · `R n` · `W consumed HEX` (a reply) · `D consumed SERVICE HEX` (a delivery; SERVICE has two hexadecimal digits, ..) · `A consumed`"
abbrev pub answer_by : Kind → Values → Spelled
answer_by short v = plain (letter_and 83 v.needed)
answer_by refused v = plain (refused_text v.refusal)
answer_by (reply r) v = with_hex (letter_and 87 v.consumed) v.written
answer_by silent v = plain (letter_and 65 v.consumed)
answer_by delivery v = with_hex (letter_and 68 v.consumed ++ ((32 ∷ []) ++ hex_of (service_bytes v.service))) v.written

abbrev pub answer_line : Values → Spelled
answer_line v = answer_by v.kind v

-- " out=CHECK pool=CHECK "
abbrev pub checks_text : List ℕ → List ℕ → List ℕ
checks_text out pool =
    (32 ∷ 111 ∷ 117 ∷ 116 ∷ 61 ∷ [])
    ++ (decimal_of (check_of out) ++ ((32 ∷ 112 ∷ 111 ∷ 111 ∷ 108 ∷ 61 ∷ []) ++ (decimal_of (check_of pool) ++ 32 ∷ [])))

-- "ANSWER out=CHECK pool=CHECK STATE"
abbrev pub called_line : Told → Spelled
called_line t = behind (behind (answer_line t.values) (checks_text t.out t.pool)) (state_text (link_of t.state))

abbrev pub called_by : Told → Left
called_by t = leaving true t.state t.pool (line_of (called_line t) t.out)

abbrev pub called_of : Command → List ℕ → List ℕ → List ℕ → List ℕ → Left
called_of c input state pool out = called_by (told_of (call_in state pool input out (grant_of c)))

-- ---- any line: "`call` is answered `?` where there is no link"
abbrev pub turn_as : words.Kind → Bool → Command → List ℕ → List ℕ → List ℕ → Left
turn_as kind.New linked c content state pool = new_of c state pool
turn_as kind.Call linked c content state pool =
    pick linked (called_of c (take c.count content) state pool (lent_out c)) (leaving linked state pool (answer_to c (take c.count content)))
turn_as _ linked c content state pool = leaving linked state pool (answer_to c (take c.count content))

unfoldable pub turn_of : Bool → Command → List ℕ → List ℕ → List ℕ → Left
turn_of linked c content state pool = turn_as c.kind linked c content state pool
