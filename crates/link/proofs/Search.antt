-- An admitted First Frame's search looks at the blocks up to its highest one. By the cases of the call and of the decision: 18 says that it needs a block, 19
-- that its owner has none, and 20, 21 with the state rules that enough are free.
-- Assumes nothing.
use Prim.Native.Nat.{ℕ, suc, ◌-◌, ◌≤◌}
use mathlib.Core.Path.{◌≡◌, refl, ap, sym, subst, ◌∙◌}
use mathlib.Core.Bool.{true, false, not, ◌&&◌, and-false}
use mathlib.Core.List.{List}
use native.Mathlib.Omega.{arith}
use lib.Dec.{T, eqb, ltb}
use lib.ListN.{length}
use borrow.Author.Tests.{eqb-true, ne_eqb}
use Rattle.numbers.specs.Bytes.{part}
use Rattle.numbers.specs.Numbers.{value_be}
use Rattle.numbers.proofs.Choices.{and_both}
use Rattle.frame.specs.declared.Header.{Header}
use Rattle.frame.specs.declared.Extent.{Extent}
use Rattle.frame.specs.declared.Reading.{Reading}
use Rattle.frame.specs.declared.Reading.TheVariants as reading
use Rattle.frame.specs.Read.{read_of}
use Rattle.frame.proofs.Message.{totals_range}
use Rattle.blocks.specs.Map.{held_by, claimed, looked_for, block_numbers, highest_of}
use Rattle.blocks.proofs.Looks.{looked_highest}
use Rattle.session.specs.declared.Act.{Act}
use Rattle.session.specs.Decide.{place_of, need_of}
use Rattle.link.specs.declared.Link.{Link}
use Rattle.link.specs.declared.Grant.{Grant}
use Rattle.link.specs.State.{index_of, settings_fit, grant_fits, rules_hold, guard_of}
use Rattle.link.specs.Call.{After, opens, decision_of, applied}
use Rattle.link.specs.Book.{Seen, opening, within, nothing, Ask, first, ask_of, seen_of, is_accepted}
use Rattle.link.specs.Claim.{State}
use Rattle.link.specs.Pages.{Sane}
use Rattle.link.specs.Search.{Shaped, Searched, owner_for, SearchCounts}
use Rattle.link.proofs.Shown.{is_open_lem}
use Rattle.link.proofs.Table.{owner_some}
use Rattle.link.proofs.Decisions.{Decided, refuses, claims, decided}
use Rattle.link.proofs.RowFacts.{place_below, OpenFacts, open_facts}
use Rattle.link.proofs.RowRules.{held_idle}
use Rattle.link.proofs.TableRules.{claim_room}
use Rattle.link.proofs.Calls.{Called, short, refused, nacked, acked, in_row, called}

-- a link that passes 10 is within the rules
pub guard_sane : (l : Link) (p : List ℕ) (g : Grant) → Shaped l → guard_of l (length p) g ≡ true → Sane (record { link = l; pool = p })
unfolding guard_of
guard_sane l p g shape t =
    let a = and_both (eqb (length p) 65536) _ t in
    let b = and_both (settings_fit l.version l.mtu) _ a.1 in
    let c = and_both (grant_fits g) (rules_hold l) b.1 in
    record {
      rows = shape.rows;
      five = shape.five;
      ids = shape.ids;
      owners = shape.owners;
      pool = eqb-true (length p) 65536 a.0;
      settings = b.0;
      rules = c.1;
    }

-- a message of a byte needs a block
need_some : (total : ℕ) → 1 ≤ total → 1 ≤ need_of total
unfolding need_of
need_some total h = omega arith

module _ (l : Link) (shape : Shaped l) (p s o : List ℕ) (g : Grant) where
  -- what a First Frame is said to have searched for, by what is read
  abbrev SearchedBy : After → Reading → Type 0
  SearchedBy w (reading.Short n) = Unit {0}
  SearchedBy w (reading.Refused n) = Unit {0}
  SearchedBy w (reading.Frame h e) = h.kind ≡ 2 → Searched l s h e w

  -- the book sees a frame of a session
  abbrev IsWithin : Seen → Type 0
  IsWithin opening = ⊥
  IsWithin (within i ask) = Unit {0}
  IsWithin nothing = ⊥

  -- a First Frame of an open session that is not refused
  module _ (h : Header) (e : Extent) (guard : guard_of l (length p) g ≡ true)
      (found : not (eqb h.session.0 0) && ltb (index_of h.session.0 l.rows) (length l.rows) ≡ true) where
    abbrev payload : List ℕ
    payload = part s e.start (e.end - e.start)

    abbrev n : ℕ
    n = index_of h.session.0 l.rows

    abbrev place : ℕ
    place = place_of h.service.0

    abbrev leaves : Act → After
    leaves act = applied l n p o h e.consumed payload g act

    abbrev state : State
    state = record { link = l; pool = p }

    -- it asks for its blocks
    abbrev ask : Ask
    ask = first place h.message.0 (value_be (part payload 0 4)) (value_be (part payload 4 4))

    -- whatever place, id and numbers were asked for: the total is the payload's
    first-asked : {at id total count : ℕ} {act : Act} → Decided l n h payload (first at id total count) act → total ≡ value_be (part payload 0 4)
        → T (is_accepted (leaves act).answer) → Searched l s h e (leaves act)
    first-asked (refuses b) is t = absurd t
    first-asked {total = total} (claims q d fit idle within_cap w) is t =
        let k : Sane state = guard_sane l p g shape guard in
        let f : OpenFacts state h.session.0 n = open_facts state h.session.0 k (is_open_lem state h.session.0 found) in
        let none : held_by (owner_for l h) l.owners ≡ 0 = f.room place (place_below h.service.0) ∙ held_idle _ idle in
        record {
          chosen = ap (λ (x : ℕ). claimed (owner_for l h) (need_of x) l.owners) is;
          counted = subst (λ (x : ℕ). looked_for (need_of x) l.owners ≡ suc (highest_of (block_numbers (owner_for l h) (claimed (owner_for l h) (need_of total) l.owners)))) is
              (looked_highest (owner_for l h) (need_of total) l.owners (owner_some n place) none (need_some _ (totals_range _ _ fit).some_bytes)
              (claim_room state h.session.0 n k f (need_of total) w));
        }

    first-searched : {act : Act} → Decided l n h payload ask act → T (is_accepted (leaves act).answer) → Searched l s h e (leaves act)
    first-searched d t = first-asked d refl t

    -- which is what is decided on
    first-ask : h.kind ≡ 2 → ask_of h payload ≡ ask
    unfolding ask_of
    first-ask kind = rw kind

    first_decided : h.kind ≡ 2 → Decided l n h payload ask (decision_of l n h payload (length o))
    first_decided kind = subst (λ (x : Ask). Decided l n h payload x (decision_of l n h payload (length o))) (first-ask kind) (decided l n h payload (length o))

  call_searched : {x : Seen} {w : After} → Called l p s o g x w → IsWithin x → T (is_accepted w.answer) → SearchedBy w (read_of s)
  call_searched short i t = absurd t
  call_searched (refused b) i t = absurd t
  call_searched nacked i t = absurd i
  call_searched (acked a b c) i t = absurd i
  call_searched (in_row h e f guard space found) i t =
      subst (SearchedBy _) (sym f) (λ kind. first-searched h e guard found (first_decided h e guard found kind) t)

  -- a First Frame is no opening
  first_within : (h : Header) (e : Extent) → read_of s ≡ reading.Frame h e → h.kind ≡ 2 → IsWithin (seen_of s)
  unfolding seen_of opens
  first_within h e f kind = let z : eqb h.kind 0 ≡ false = ne_eqb h.kind 0 (omega arith) in rw (f, z, and-false) tt

pub search_counts : SearchCounts
search_counts l shape p s o g h e a =
    subst (SearchedBy l shape p s o g _) a.read
    (call_searched l shape p s o g (called l p s o g) (first_within l shape p s o g h e a.read a.kind) a.accepted) a.kind
