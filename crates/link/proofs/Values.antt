-- An answer's values tell it from every other: the answer is read back from them. So is a kind from its number.
-- Assumes nothing.
use Prim.Native.Nat.{ℕ}
use mathlib.Core.Path.{◌≡◌, refl, ap, ◌∙◌, sym}
use mathlib.Core.Bool.{true}
use mathlib.Core.Option.{Option, none, some}
use mathlib.Core.List.{List, [], ◌∷◌}
use lib.ListN.{get_or}
use borrow.Author.Tests.{eqb-true}
use Rattle.frame.specs.declared.ServiceType.{ServiceType}
use Rattle.link.specs.declared.Answer.{Answer}
use Rattle.link.specs.declared.Answer.TheVariants as answer
use Rattle.link.specs.Call.{After, after}
use Rattle.link.specs.Values.{ack, nak, heartbeat_ack, Kind, short, refused, reply, silent, delivery, kind_code, Values, values_of, is, Outcome, outcome_of}

-- ---- the answer that has these values

service_in : Option ServiceType → ServiceType
service_in none = record { 0 = 0 }
service_in (some s) = s

answer_by : Kind → Values → Answer
answer_by short v = answer.Short v.needed
answer_by refused v = answer.Refused v.refusal
answer_by (reply ack) v = answer.Acked v.consumed v.written
answer_by (reply nak) v = answer.Nacked v.consumed v.written
answer_by (reply heartbeat_ack) v = answer.Beat v.consumed v.written
answer_by silent v = answer.Accepted v.consumed
answer_by delivery v = answer.Delivered v.consumed (service_in v.service) v.written

answer_from : Values → Answer
answer_from v = answer_by v.kind v

read_back : (a : Answer) → answer_from (values_of a) ≡ a
unfolding answer_from answer_by service_in
read_back (answer.Short n) = refl
read_back (answer.Refused n) = refl
read_back (answer.Acked c n) = refl
read_back (answer.Nacked c n) = refl
read_back (answer.Beat c n) = refl
read_back (answer.Accepted c) = refl
read_back (answer.Delivered c v n) = refl

-- equal values, equal answers
pub values_tell : {a b : Answer} → values_of a ≡ values_of b → a ≡ b
values_tell {a} {b} e = sym (read_back a) ∙ ap answer_from e ∙ read_back b

-- so nothing is lost where what a call leaves is told by its values
after_from : Outcome → After
after_from o = after (answer_from o.values) o.link o.pool o.out

left_back : (a : After) → after_from (outcome_of a) ≡ a
unfolding after_from
left_back a = ap (λ (x : Answer). after x a.link a.pool a.out) (read_back a.answer)

pub outcome_tells : {a b : After} → outcome_of a ≡ outcome_of b → a ≡ b
outcome_tells {a} {b} e = sym (left_back a) ∙ ap after_from e ∙ left_back b

-- ---- two kinds are compared by their numbers

kinds : List Kind
kinds = short ∷ refused ∷ reply ack ∷ reply nak ∷ reply heartbeat_ack ∷ silent ∷ delivery ∷ []

kind_back : (k : Kind) → get_or kinds (kind_code k) short ≡ k
unfolding kinds
kind_back short = refl
kind_back refused = refl
kind_back (reply ack) = refl
kind_back (reply nak) = refl
kind_back (reply heartbeat_ack) = refl
kind_back silent = refl
kind_back delivery = refl

pub is_told : (k : Kind) (v : Values) → is k v ≡ true → k ≡ v.kind
is_told k v e = sym (kind_back k) ∙ ap (λ (n : ℕ). get_or kinds n short) (eqb-true (kind_code k) (kind_code v.kind) e) ∙ kind_back v.kind
