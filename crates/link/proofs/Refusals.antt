-- "A refusal changes no lent byte and no state, except that 24 and 25 drop the one message they name." By cases of the call's definition.
-- Assumes nothing.
use Prim.Native.Nat.{ℕ, ◌-◌, ◌≤◌}
use mathlib.Core.Path.{◌≡◌, refl, sym}
use mathlib.Core.Logic.{inl, inr}
use mathlib.Core.Bool.{true}
use mathlib.Core.List.{List}
use native.Mathlib.Omega.{arith}
use lib.ListN.{length}
use Rattle.numbers.specs.Bytes.{part}
use Rattle.frame.specs.declared.Header.{Header}
use Rattle.frame.specs.declared.Extent.{Extent}
use Rattle.frame.specs.declared.Reading.TheVariants as reading
use Rattle.frame.specs.Read.{read_of}
use Rattle.session.specs.declared.Act.{Act}
use Rattle.link.specs.declared.Link.{Link}
use Rattle.link.specs.declared.Grant.{Grant}
use Rattle.link.specs.declared.Answer.TheVariants as answer
use Rattle.link.specs.State.{index_of}
use Rattle.link.specs.Call.{After, applied}
use Rattle.link.specs.Refusal.{KeepsOn, RefusalKeeps}
use Rattle.link.specs.Book.{Ask, Seen}
use Rattle.link.specs.Claim.{State, is_open}
use Rattle.link.proofs.Shown.{is_open_lem}
use Rattle.link.proofs.Holdings.{open_index}
use Rattle.link.proofs.Calls.{Called, short, refused, nacked, acked, in_row, called}
use Rattle.link.proofs.Decisions.{Decided, refuses, accepts, beats, starts, starts-not, stops, closes, ends_not, hands-over, claims, drops, appends, delivers, decided}

module _ (l : Link) (p s o : List ℕ) where
  abbrev Keeps : After → Type 0
  Keeps w = KeepsOn l p s o w w.answer

  refused_keeps : (n : ℕ) → n ≤ 23 → Keeps (record { answer = answer.Refused n; link = l; pool = p; out = o })
  refused_keeps n h = inl ((λ e. omega arith), (λ e. omega arith), (refl, refl, refl))

  abbrev state : State
  state = record { link = l; pool = p }

  applied_keeps : (h : Header) (e : Extent) → read_of s ≡ reading.Frame h e → is_open state h.session.0 ≡ true → (payload : List ℕ) (g : Grant) {ask : Ask} {act : Act}
      → Decided l (index_of h.session.0 l.rows) h payload ask act → Keeps (applied l (index_of h.session.0 l.rows) p o h e.consumed payload g act)
  applied_keeps h e f opened payload g (refuses {n = n} b) = refused_keeps n b
  applied_keeps h e f opened payload g (drops d c) =
      let at = open_index state h.session.0 opened in
      inr (
        d,
        record {
          header = h;
          extent = e;
          read = f;
          some-session = at.0;
          found = at.1;
          live = c.live;
          named = sym c.same;
          link = refl;
          pool = refl;
          out = refl;
        },
      )
  applied_keeps h e f opened payload g accepts = tt
  applied_keeps h e f opened payload g beats = tt
  applied_keeps h e f opened payload g starts = tt
  applied_keeps h e f opened payload g starts-not = tt
  applied_keeps h e f opened payload g (stops d) = tt
  applied_keeps h e f opened payload g (closes d) = tt
  applied_keeps h e f opened payload g ends_not = tt
  applied_keeps h e f opened payload g (hands-over q) = tt
  applied_keeps h e f opened payload g (claims q n a b c d) = tt
  applied_keeps h e f opened payload g (appends c a b) = tt
  applied_keeps h e f opened payload g (delivers c a b) = tt

  call_keeps : (g : Grant) {x : Seen} {w : After} → Called l p s o g x w → Keeps w
  call_keeps g short = (refl, refl, refl)
  call_keeps g (refused b) = refused_keeps _ b
  call_keeps g nacked = tt
  call_keeps g (acked t a v) = tt
  call_keeps g (in_row h e f t b a) =
      let payload : List ℕ = part s e.start (e.end - e.start) in
      applied_keeps h e f (is_open_lem state h.session.0 a) payload g (decided l (index_of h.session.0 l.rows) h payload (length o))

pub refusal_keeps : RefusalKeeps
refusal_keeps l p s o g = call_keeps l p s o g (called l p s o g)
