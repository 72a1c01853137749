-- What the C side gets for creation and a call of the link: a status, three lent numbers, and every byte of state, pool and out. Document 01's numbers of an
-- answer; the marks 0 and 128 to 132 are ours, as the C header tells them. No refusal has these numbers.
-- Assumes nothing.
use Rattle.std.specs.Prelude.{ℕ, List}
use Rattle.payload.specs.declared.version.Version.{Version}
use Rattle.link.specs.declared.Grant.{Grant}
use Rattle.link.specs.declared.Answer.{Answer}
use Rattle.link.specs.declared.Answer.TheVariants as answer
use Rattle.state.specs.Calls.{Left, call_in, Made, create_in}

-- ---- the call

-- the status, and the lent numbers as the call left them
pub record Report : Type 0 where
  pub status : ℕ
  pub service : ℕ
  pub consumed : ℕ
  pub value : ℕ

abbrev pub report : ℕ → ℕ → ℕ → ℕ → Report
report s v c n = record { status = s; service = v; consumed = c; value = n }

-- an answer's report to a caller who lent these numbers: "All leave everything unchanged", so that a refusal leaves them; a delivery alone names a service
abbrev pub report_of : ℕ → ℕ → ℕ → Answer → Report
report_of service consumed value (answer.Short n) = report 128 service consumed n
report_of service consumed value (answer.Refused n) = report n service consumed value
report_of service consumed value (answer.Acked c n) = report 129 service c n
report_of service consumed value (answer.Nacked c n) = report 130 service c n
report_of service consumed value (answer.Beat c n) = report 131 service c n
report_of service consumed value (answer.Accepted c) = report 0 service c 0
report_of service consumed value (answer.Delivered c v n) = report 132 v.0 c n

-- what a call leaves: its report, and the bytes that were lent to be written
pub record Done : Type 0 where
  pub report : Report
  pub state : List ℕ
  pub pool : List ℕ
  pub out : List ℕ

abbrev pub done : Report → List ℕ → List ℕ → List ℕ → Done
done r s p o = record { report = r; state = s; pool = p; out = o }

abbrev pub done_by : ℕ → ℕ → ℕ → Left → Done
done_by service consumed value w = done (report_of service consumed value w.answer) w.state w.pool w.out

-- an offer from a caller's numbers
abbrev pub grant_from : ℕ → ℕ → ℕ → Grant
grant_from guarantee cap hash = record { guarantee = guarantee; cap = cap; hash = hash }

-- what tilambok_link_call leaves, of state, pool, input and out, the offer and the three lent numbers
abbrev pub tilambok_link_call : List ℕ → List ℕ → List ℕ → List ℕ → Grant → ℕ → ℕ → ℕ → Done
tilambok_link_call s p input o g service consumed value = done_by service consumed value (call_in s p input o g)

-- ---- creation

abbrev pub version_from : ℕ → ℕ → ℕ → Version
version_from major minor patch = record { major = major; minor = minor; patch = patch }

-- what tilambok_link_create leaves: its status and the state; "0" or 10
abbrev pub tilambok_link_create : List ℕ → Version → ℕ → Made
tilambok_link_create s v mtu = create_in s v mtu
