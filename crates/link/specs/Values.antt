-- What an answer is in document 01's words: "When an answer is an enum, the promises use a definition that gives this paper's number and values for each case."
-- No two answers have the same values (`values_tell`, proofs/Values).
-- Assumes nothing.
use Rattle.std.specs.Prelude.{ℕ, Bool, ◌&&◌, not, List, [], ◌∷◌, eqb}
use Rattle.std.proofs.Math.Option.{Option, none, some}
use Rattle.frame.specs.declared.ServiceType.{ServiceType}
use Rattle.link.specs.declared.Link.{Link}
use Rattle.link.specs.declared.Answer.{Answer}
use Rattle.link.specs.declared.Answer.TheVariants as answer
use Rattle.link.specs.Call.{After}

-- ---- the kinds of answers

-- the replies
pub data Reply : Type 0 where
  ack : Reply
  nak : Reply
  heartbeat_ack : Reply

-- "`W` reply, `D` service and bytes, `A` accepted silently, `R` number", and Short
pub data Kind : Type 0 where
  short : Kind
  refused : Kind
  reply : Reply → Kind
  silent : Kind
  delivery : Kind

-- a number for each kind, by which two are compared
abbrev pub kind_code : Kind → ℕ
kind_code short = 0
kind_code refused = 1
kind_code (reply ack) = 2
kind_code (reply nak) = 3
kind_code (reply heartbeat_ack) = 4
kind_code silent = 5
kind_code delivery = 6

-- ---- number and values

pub record Values : Type 0 where
  pub kind : Kind
  -- the number of a refusal, else 0
  pub refusal : ℕ
  -- "Short with the bytes needed in all", else 0
  pub needed : ℕ
  -- "the bytes consumed (0 if Short or refused)"
  pub consumed : ℕ
  -- the bytes at the front of out: a reply's or a delivery's, else 0
  pub written : ℕ
  -- a delivery's service, else none
  pub service : Option ServiceType

abbrev values : Kind → ℕ → ℕ → ℕ → ℕ → Option ServiceType → Values
values kind refusal needed consumed written service =
    record { kind = kind; refusal = refusal; needed = needed; consumed = consumed; written = written; service = service }

abbrev pub values_of : Answer → Values
values_of (answer.Short n) = values short 0 n 0 0 none
values_of (answer.Refused n) = values refused n 0 0 0 none
values_of (answer.Acked c n) = values (reply ack) 0 0 c n none
values_of (answer.Nacked c n) = values (reply nak) 0 0 c n none
values_of (answer.Beat c n) = values (reply heartbeat_ack) 0 0 c n none
values_of (answer.Accepted c) = values silent 0 0 c 0 none
values_of (answer.Delivered c v n) = values delivery 0 0 c n (some v)

-- a service as its byte, and no byte where there is none
abbrev pub service_bytes : Option ServiceType → List ℕ
service_bytes none = []
service_bytes (some s) = s.0 ∷ []

abbrev pub is : Kind → Values → Bool
is k v = eqb (kind_code k) (kind_code v.kind)

-- "Accepted: neither Short nor refused."
abbrev pub accepted : Values → Bool
accepted v = not (is short v) && not (is refused v)

-- ---- what a call leaves, its answer by number and values
pub record Outcome : Type 0 where
  pub values : Values
  pub link : Link
  pub pool : List ℕ
  pub out : List ℕ

abbrev pub outcome_of : After → Outcome
outcome_of a = record { values = values_of a.answer; link = a.link; pool = a.pool; out = a.out }
