-- Every refusal of a call is one of document 01's: by the guard, the reader and the decision on a frame. An opening is never refused. Assumes nothing.
use Prim.Native.Nat.{ℕ, ◌-◌}
use mathlib.Core.Path.{◌≡◌, refl}
use mathlib.Core.Bool.{◌&&◌, not}
use mathlib.Core.List.{List}
use native.Mathlib.Omega.{arith}
use lib.Dec.{eqb, ltb, leb}
use lib.ListN.{length, get_or}
use borrow.Author.Tests.{eqb-false}
use Rattle.figures.specs.Refusal.{Listed}
use Rattle.figures.proofs.Listed.{listed}
use Rattle.numbers.specs.Bytes.{part}
use Rattle.numbers.specs.Numbers.{value_be}
use Rattle.numbers.proofs.Choices.{either, unless_elim}
use Rattle.frame.specs.declared.Header.{Header}
use Rattle.frame.specs.declared.Extent.{Extent}
use Rattle.frame.specs.declared.Reading.{Reading}
use Rattle.frame.specs.declared.Reading.TheVariants as reading
use Rattle.frame.specs.Read.{read_of}
use Rattle.frame.proofs.Listed.{read_listed}
use Rattle.session.specs.declared.Row.{Row}
use Rattle.session.specs.declared.Act.{Act}
use Rattle.session.specs.declared.Act.TheVariants.{Refuse, Drop, Accept, Beat, Start, NoStart, Stop, Close, NoEnd, Claim, Append, Deliver, Single}
use Rattle.session.specs.Rows.{no_row}
use Rattle.session.specs.Rules.{barred_by}
use Rattle.session.specs.Decide.{share_of}
use Rattle.session.proofs.Listed.{barred_listed, ListedAct, control_listed, content_listed}
use Rattle.link.specs.declared.Link.{Link}
use Rattle.link.specs.declared.Grant.{Grant}
use Rattle.link.specs.declared.Answer.{Answer}
use Rattle.link.specs.declared.Answer.TheVariants as answer
use Rattle.link.specs.State.{index_of, shares_in, guard_of}
use Rattle.link.specs.Call.{After, Wish, old, new, bad, wish_of, opens, admits, opening_by, said_of, decision_of, applied, frame_of, reading_of, call_of}

-- an answer: where it is a refusal, it is one of those
abbrev pub ListedAnswer : Answer → Type 0
ListedAnswer (answer.Short n) = Unit {0}
ListedAnswer (answer.Refused n) = Listed n
ListedAnswer (answer.Acked c n) = Unit {0}
ListedAnswer (answer.Nacked c n) = Unit {0}
ListedAnswer (answer.Beat c n) = Unit {0}
ListedAnswer (answer.Accepted c) = Unit {0}
ListedAnswer (answer.Delivered c v n) = Unit {0}

-- 10, also of what is no state (state/specs/Calls)
pub settings_listed : ListedAnswer (answer.Refused 10)
settings_listed = listed 10 refl

abbrev ListedAfter : After → Type 0
ListedAfter w = ListedAnswer w.answer

pub decision_listed : (l : Link) (i : ℕ) (h : Header) (payload : List ℕ) (room : ℕ) → ListedAct (decision_of l i h payload room)
unfolding decision_of
decision_listed l i h payload room =
    let r : Row = get_or l.rows i no_row in
    let b : ℕ = barred_by l.version.major l.mtu r h in
    unless_elim ListedAct (eqb b 0) (Refuse b) _ (λ t. barred_listed l.version.major l.mtu r h refl (omega (arith, eqb-false b 0 t))) λ _.
    either ListedAct (eqb h.kind 0) _ _ (λ _. control_listed r h (said_of r payload))
    (λ _. content_listed r (shares_in l.rows - share_of r) room h (value_be (part payload 0 4)) (value_be (part payload 4 4)))

module _ (l : Link) (p s o : List ℕ) (g : Grant) where
  applied_listed : (i : ℕ) (h : Header) (consumed : ℕ) (payload : List ℕ) (act : Act) → ListedAct act → ListedAfter (applied l i p o h consumed payload g act)
  applied_listed i h consumed payload (Refuse n) k = k
  applied_listed i h consumed payload (Drop n) k = k
  applied_listed i h consumed payload Accept k = tt
  applied_listed i h consumed payload Beat k = tt
  applied_listed i h consumed payload Start k = tt
  applied_listed i h consumed payload NoStart k = tt
  applied_listed i h consumed payload Stop k = tt
  applied_listed i h consumed payload Close k = tt
  applied_listed i h consumed payload (NoEnd named) k = tt
  applied_listed i h consumed payload (Claim total count) k = tt
  applied_listed i h consumed payload Append k = tt
  applied_listed i h consumed payload Deliver k = tt
  applied_listed i h consumed payload Single k = tt

  opening_listed : (consumed : ℕ) (w : Wish) → ListedAfter (opening_by l p o consumed g w)
  opening_listed consumed bad = tt
  opening_listed consumed old = unless_elim ListedAfter (admits l.rows g) _ _ (λ _. tt) (λ _. tt)
  opening_listed consumed (new v) = unless_elim ListedAfter (admits l.rows g) _ _ (λ _. tt) (λ _. tt)

  frame_listed : (h : Header) (e : Extent) → ListedAfter (frame_of l p s o h e g)
  unfolding frame_of
  frame_listed h e =
      let at : ℕ = index_of h.session.0 l.rows in
      let bytes : List ℕ = part s e.start (e.end - e.start) in
      unless_elim ListedAfter (leb 128 (length o)) _ _ (λ _. listed 11 refl) λ _.
      either ListedAfter (opens h) _ _ (λ _. opening_listed e.consumed (wish_of l.version.major bytes)) λ _.
      unless_elim ListedAfter (not (eqb h.session.0 0) && ltb at (length l.rows)) _ _ (λ _. listed 12 refl)
      (λ _. applied_listed at h e.consumed bytes (decision_of l at h bytes (length o)) (decision_listed l at h bytes (length o)))

  reading_listed : (r : Reading) → read_of s ≡ r → ListedAfter (reading_of l p s o g r)
  reading_listed (reading.Short n) e = tt
  reading_listed (reading.Refused n) e = read_listed s n e
  reading_listed (reading.Frame h x) e = frame_listed h x

  pub call_listed : ListedAnswer (call_of l p s o g).answer
  unfolding call_of
  call_listed = unless_elim ListedAfter (guard_of l (length p) g) _ _ (λ _. settings_listed) (λ _. reading_listed (read_of s) refl)
