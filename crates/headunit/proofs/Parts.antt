-- The three steps of a call on a frame of a session are `applied` together: the decision, what is told in pool and out, row and block map after it.
-- By cases of the decision. Assumes nothing.
use Prim.Native.Nat.{ℕ, zero, suc, ◌-◌, ◌<◌, ◌≤◌}
use mathlib.Core.Bool.{true, false, true≢false}
use borrow.Author.Tests.{eq-eqb, ne_eqb}
use mathlib.Core.Path.{◌≡◌, refl, ap, ap₂, sym, ◌∙◌}
use mathlib.Core.List.{List, [], ◌∷◌}
use native.Mathlib.Omega.{arith}
use lib.ListN.{length, get_or, set, take}
use Rattle.numbers.specs.Bytes.{AreBytes, part, laid}
use Rattle.numbers.specs.Numbers.{value_be}
use Rattle.frame.specs.declared.Header.{Header}
use Rattle.frame.specs.declared.MessageId.{MessageId}
use Rattle.blocks.specs.Pool.{block_bytes, appended, delivered}
use Rattle.blocks.proofs.Contents.{deliver_laid}
use Rattle.blocks.proofs.Counts.{claim_length, release_length}
use Rattle.session.specs.declared.Reassembly.{Reassembly}
use Rattle.session.specs.declared.Row.{Row}
use Rattle.session.specs.declared.Said.{Said}
use Rattle.session.specs.declared.Act.{Act}
use Rattle.session.specs.declared.Act.TheVariants.{Refuse, Drop, Accept, Beat, Start, NoStart, Stop, Close, NoEnd, Claim, Append, Deliver, Single}
use Rattle.session.specs.Rows.{no_row, message_at, settled_row}
use Rattle.session.specs.Rules.{barred_by}
use Rattle.session.specs.Decide.{place_of, need_of, share_of, first_of, next_for, single_of, control_of, content_of, row_after}
use Rattle.link.specs.declared.Link.{Link}
use Rattle.link.specs.declared.Grant.{Grant}
use Rattle.link.specs.declared.Answer.{Answer}
use Rattle.link.specs.declared.Answer.TheVariants as answer
use Rattle.payload.specs.declared.version.Version.{Version}
use Rattle.link.specs.State.{owner_of, shares_in, settings_fit, with_row, with_rows, with_owners}
use Rattle.link.specs.Reply.{reply_bytes}
use Rattle.link.specs.Call.{After, after, said_of, decision_of, applied, call_of}
use Rattle.state.specs.Layout.{row_in, link_of, with_row_bytes}
use Rattle.state.specs.Calls.{is_state, Left, left, left_by, stored_in, with_owners_bytes, call_in, created_bytes, made, create_in}
use Rattle.state.proofs.Packed.{part_length}
use Rattle.state.proofs.Rows.{row_of_link}
use Rattle.state.proofs.Stored.{stored_same, stored_row, stored_both, owners_of}
use Rattle.headunit.specs.Unit.{Sent, sent, sent_of}
use Rattle.headunit.specs.Steps.{Origin, Case, case_of, Told, told, told_of, owners_after, changes, link_after}

-- ---- the decision

-- a control frame's payload is looked at in a Start and in an End alone
pub control_else : (r : Row) (h : Header) (x y : Said) → (h.info ≡ 1 → ⊥) → (h.info ≡ 4 → ⊥) → control_of r h x ≡ control_of r h y
unfolding control_of
control_else r h x y start end = rw (ne_eqb h.info 1 start, ne_eqb h.info 4 end)

-- each outcome, where r is the row that the frame names
module _ (l : Link) (i : ℕ) (h : Header) (payload : List ℕ) (room : ℕ) (r : Row) (named : get_or l.rows i no_row ≡ r) where
  pub decide_barred : (n : ℕ) → n ≡ barred_by l.version.major l.mtu r h → (n ≡ 0 → ⊥) → Refuse n ≡ decision_of l i h payload room
  unfolding decision_of
  decide_barred n e z = rw (named, ← e, ne_eqb n 0 z)

  module _ (n : ℕ) (e : n ≡ barred_by l.version.major l.mtu r h) (z : n ≡ 0) {a : Act} where
    pub decide-control : h.kind ≡ 0 → a ≡ control_of r h (said_of r payload) → a ≡ decision_of l i h payload room
    unfolding decision_of
    decide-control k d = rw (named, ← e, eq-eqb n 0 z, eq-eqb h.kind 0 k) d

    module _ (control : h.kind ≡ 0 → ⊥) where
      pub decide-single : h.kind ≡ 1 → a ≡ single_of room h → a ≡ decision_of l i h payload room
      unfolding decision_of content_of
      decide-single k d = rw (named, ← e, eq-eqb n 0 z, ne_eqb h.kind 0 control, eq-eqb h.kind 1 k) d

      module _ (single : h.kind ≡ 1 → ⊥) where
        pub decide-first : h.kind ≡ 2 → a ≡ first_of r (shares_in l.rows - share_of r) h (value_be (part payload 0 4)) (value_be (part payload 4 4))
            → a ≡ decision_of l i h payload room
        unfolding decision_of content_of
        decide-first k d = rw (named, ← e, eq-eqb n 0 z, ne_eqb h.kind 0 control, ne_eqb h.kind 1 single, eq-eqb h.kind 2 k) d

        pub decide-next : (h.kind ≡ 2 → ⊥) → a ≡ next_for (message_at r (place_of h.service.0)) room h → a ≡ decision_of l i h payload room
        unfolding decision_of content_of
        decide-next k d = rw (named, ← e, eq-eqb n 0 z, ne_eqb h.kind 0 control, ne_eqb h.kind 1 single, ne_eqb h.kind 2 k) d

-- ---- what is told

-- by the decision's form
pub told_by : (k : Case) (os payload p o : List ℕ) (act known : Act) {x : Told} → act ≡ known → x ≡ told_of k os payload p o known → x ≡ told_of k os payload p o act
told_by k os payload p o act known e q = q ∙ ap (λ (d : Act). told_of k os payload p o d) (sym e)

-- a reply that was written
pub told_reply : (kind : ℕ → ℕ → Answer) (consumed : ℕ) (p : List ℕ) {x w : Sent} → x ≡ w → told (kind consumed x.count) p x.out ≡ told (kind consumed w.count) p w.out
told_reply kind consumed p e = ap (λ (y : Sent). told (kind consumed y.count) p y.out) e

-- what was written of a message, by the bytes that were due
pub written_is : (x due total : ℕ) (os p o : List ℕ) {o' : List ℕ} → o' ≡ delivered x due os p o → due ≡ total → total ≤ length o → o' ≡ laid (take total (block_bytes x os p)) o
written_is x due total os p o e d h = e ∙ ap (λ (n : ℕ). delivered x n os p o) d ∙ deliver_laid x total os p o h

-- a message that was delivered
pub told_delivery : (k : Case) (os payload p o : List ℕ) {p' o' : List ℕ} → p' ≡ appended k.mine (k.message.total - k.message.missing) payload os p
    → o' ≡ laid (take k.message.total (block_bytes k.mine os p')) o
    → told (answer.Delivered k.consumed k.from.service k.message.total) p' o' ≡ told_of k os payload p o Deliver
told_delivery k os payload p o {p' = p'} fed written =
    ap (λ (x : List ℕ). told (answer.Delivered k.consumed k.from.service k.message.total) p' x) written
    ∙ ap (λ (x : List ℕ). told (answer.Delivered k.consumed k.from.service k.message.total) x (laid (take k.message.total (block_bytes k.mine os x)) o)) fed

-- ---- an answer that leaves the state, and one that stores a link

-- a state as the inner functions find it, by their types: as many bytes as it should be, and bytes they are
abbrev pub Ready : List ℕ → Type 0
Ready s = (length s ≡ 2688) × AreBytes s

pub state_left : (s : List ℕ) → Ready s → (a : Answer) (p o : List ℕ) {w : After} → after a (link_of s) p o ≡ w → left a s p o ≡ left_by s w
state_left s ready a p o e = ap (λ (x : List ℕ). left a x p o) (sym (stored_same s ready.1 ready.0)) ∙ ap (left_by s) e

pub row_left : (s : List ℕ) → Ready s → (i : ℕ) → i < 8 → (r : Row) (s' : List ℕ) (a : Answer) (p o : List ℕ) {w : After} → s' ≡ with_row_bytes s i r
    → after a (with_row (link_of s) i r) p o ≡ w → left a s' p o ≡ left_by s w
row_left s ready i inside r s' a p o put e =
    ap (λ (x : List ℕ). left a x p o) (put ∙ sym (stored_row s i r ready.1 ready.0 inside)) ∙ ap (left_by s) e

-- the call where the bytes are a state
pub called_in : (s p input o : List ℕ) (g : Grant) {x : Left} → is_state s ≡ true → x ≡ left_by s (call_of (link_of s) p input o g) → x ≡ call_in s p input o g
unfolding call_in
called_in s p input o g t e = e ∙ rw t

-- what the code has of a case is the case's: whom a reply comes from, a message, its owner, the block map
module _ (k : Case) (os payload p o : List ℕ) where
  abbrev by : Origin → ℕ → MessageId → List ℕ → List ℕ
  by x info message bytes = reply_bytes x.version x.service info x.session message bytes

  pub replied_is : (kind : ℕ → ℕ → Answer) (info : ℕ) {f : Origin} {m₁ m₂ : MessageId} {b₁ b₂ : List ℕ} {n : ℕ} {o' : List ℕ} → f ≡ k.from → m₁ ≡ m₂ → b₁ ≡ b₂
      → sent n o' ≡ sent_of (by f info m₁ b₁) o
      → told (kind k.consumed n) p o' ≡ told (kind k.consumed (length (by k.from info m₂ b₂))) p (laid (by k.from info m₂ b₂) o)
  replied_is kind info {m₁ = m₁} {b₁ = b₁} from numbered carried written =
      told_reply kind k.consumed p
      (written ∙ ap (λ (x : Origin). sent_of (by x info m₁ b₁) o) from ∙ ap₂ (λ (m : MessageId) (b : List ℕ). sent_of (by k.from info m b) o) numbered carried)

  -- the same where number and bytes are not the row's
  pub replied_plain : (kind : ℕ → ℕ → Answer) (info : ℕ) (m : MessageId) (b : List ℕ) {f : Origin} {n : ℕ} {o' : List ℕ} → f ≡ k.from → sent n o' ≡ sent_of (by f info m b) o
      → told (kind k.consumed n) p o' ≡ told (kind k.consumed (length (by k.from info m b))) p (laid (by k.from info m b) o)
  replied_plain kind info m b from written = replied_is kind info {m₁ = m} {m₂ = m} {b₁ = b} {b₂ = b} from refl refl written

  module _ {x : ℕ} {m : Reassembly} {map : List ℕ} (mine : x ≡ k.mine) (message : m ≡ k.message) (owned : map ≡ os) where
    pub fed-is : appended x (m.total - m.missing) payload map p ≡ appended k.mine (k.message.total - k.message.missing) payload os p
    fed-is =
        ap₂ (λ (y : ℕ) (n : Reassembly). appended y (n.total - n.missing) payload map p) mine message
        ∙ ap (λ (l : List ℕ). appended k.mine (k.message.total - k.message.missing) payload l p) owned

    pub delivered-is : {p' o' : List ℕ} → p' ≡ appended x (m.total - m.missing) payload map p → o' ≡ laid (take m.total (block_bytes x map p')) o
        → told (answer.Delivered k.consumed k.from.service m.total) p' o' ≡ told_of k os payload p o Deliver
    delivered-is {p' = p'} {o' = o'} fed written =
        ap (λ (n : Reassembly). told (answer.Delivered k.consumed k.from.service n.total) p' o') message
        ∙ told_delivery k os payload p o (fed ∙ fed-is)
        (written ∙ ap₂ (λ (y : ℕ) (n : Reassembly). laid (take n.total (block_bytes y map p')) o) mine message
        ∙ ap (λ (l : List ℕ). laid (take k.message.total (block_bytes k.mine l p')) o) owned)

-- ---- row and block map after a decision

-- a row stored where it stands changes nothing
same_rows : (rs : List Row) (i : ℕ) → i < length rs → set rs i (get_or rs i no_row) ≡ rs
same_rows [] i h = absurd (omega arith)
same_rows (r ∷ rs) zero h = refl
same_rows (r ∷ rs) (suc i) h = ap (λ (l : List Row). r ∷ l) (same_rows rs i (omega arith))

-- a decision that changes nothing leaves row and block map
row_same : (r : Row) (h : Header) (hash : ℕ) (act : Act) → changes r.version act ≡ false → row_after r h hash act ≡ r
unfolding settled_row
row_same r h hash (Refuse n) e = refl
row_same r h hash (Drop n) e = absurd (true≢false e)
row_same r h hash Accept e = refl
row_same r h hash Beat e = refl
row_same r h hash Start e = absurd (true≢false e)
row_same r h hash NoStart e = refl
row_same r h hash Stop e = absurd (true≢false e)
row_same r h hash Close e = absurd (true≢false e)
row_same r h hash (NoEnd named) e = refl
row_same r h hash (Claim total count) e = absurd (true≢false e)
row_same r h hash Append e = absurd (true≢false e)
row_same r h hash Deliver e = absurd (true≢false e)
row_same r h hash Single e = rw e

owners_same : (version i place : ℕ) (os : List ℕ) (act : Act) → changes version act ≡ false → owners_after i place os act ≡ os
owners_same version i place os (Refuse n) e = refl
owners_same version i place os (Drop n) e = absurd (true≢false e)
owners_same version i place os Accept e = refl
owners_same version i place os Beat e = refl
owners_same version i place os Start e = refl
owners_same version i place os NoStart e = refl
owners_same version i place os Stop e = absurd (true≢false e)
owners_same version i place os Close e = absurd (true≢false e)
owners_same version i place os (NoEnd named) e = refl
owners_same version i place os (Claim total count) e = absurd (true≢false e)
owners_same version i place os Append e = refl
owners_same version i place os Deliver e = absurd (true≢false e)
owners_same version i place os Single e = refl

owners_length : (i place : ℕ) (os : List ℕ) (act : Act) → length (owners_after i place os act) ≡ length os
owners_length i place os (Refuse n) = refl
owners_length i place os (Drop n) = release_length (owner_of i place) (owner_of i place) os
owners_length i place os Accept = refl
owners_length i place os Beat = refl
owners_length i place os Start = refl
owners_length i place os NoStart = refl
owners_length i place os Stop = release_length (owner_of i place) (owner_of i place) os
owners_length i place os Close = release_length (owner_of i 0) (owner_of i 4) os
owners_length i place os (NoEnd named) = refl
owners_length i place os (Claim total count) = claim_length (owner_of i place) (need_of total) os
owners_length i place os Append = refl
owners_length i place os Deliver = release_length (owner_of i place) (owner_of i place) os
owners_length i place os Single = refl

-- ---- the state's bytes after a decision: s before it

module _ (s : List ℕ) (i : ℕ) (h : Header) (hash : ℕ) (act : Act) (ready : Ready s) (inside : i < 8) where
  -- the code reads its row off the state
  row_is : get_or (link_of s).rows i no_row ≡ row_in s i
  row_is = row_of_link s no_row i inside

  -- row and owners are put one after the other
  pub noted : (place : ℕ) (r : Row) (s₁ s₂ : List ℕ) → place ≡ place_of h.service.0 → r ≡ row_after (row_in s i) h hash act → s₁ ≡ with_row_bytes s i r
      → s₂ ≡ with_owners_bytes s₁ (owners_after i place (link_of s₁).owners act) → s₂ ≡ stored_in s (link_after (link_of s) i h hash act)
  noted place r s₁ s₂ at row put owned =
      let os : List ℕ = owners_after i (place_of h.service.0) (link_of s).owners act in
      let owned-then : (link_of s₁).owners ≡ (link_of s).owners = ap (λ (x : List ℕ). (link_of x).owners) put ∙ owners_of s i r ready.0 inside in
      let same : owners_after i place (link_of s₁).owners act ≡ os = rw (owned-then, at) in
      let then : r ≡ row_after (get_or (link_of s).rows i no_row) h hash act = row ∙ ap (λ (x : Row). row_after x h hash act) (sym row_is) in
      let long : length os ≡ 256 = owners_length i (place_of h.service.0) (link_of s).owners act ∙ part_length s 544 256 (omega (arith, ready.0)) in
      owned ∙ rw (same, put) (sym (stored_both s i r os ready.1 ready.0 inside long))
      ∙ ap (λ (x : Row). stored_in s (with_owners (with_row (link_of s) i x) os)) then

  -- a decision that changes nothing
  pub not_noted : changes (row_in s i).version act ≡ false → s ≡ stored_in s (link_after (link_of s) i h hash act)
  not_noted e =
      let l : Link = link_of s in
      let r : Row = get_or l.rows i no_row in
      let row : row_after r h hash act ≡ r = row_same r h hash act (ap (λ (x : Row). changes x.version act) row_is ∙ e) in
      let owned : owners_after i (place_of h.service.0) l.owners act ≡ l.owners = owners_same (row_in s i).version i (place_of h.service.0) l.owners act e in
      let link : link_after l i h hash act ≡ l
      = ap₂ (λ (x : Row) (os : List ℕ). with_owners (with_row l i x) os) row owned ∙ ap (λ (rs : List Row). with_rows l rs) (same_rows l.rows i inside) in
      sym (ap (stored_in s) link ∙ stored_same s ready.1 ready.0)

-- creation where nothing is refused
pub created_in : (s s' : List ℕ) (v : Version) (mtu : ℕ) {n : ℕ} → length s ≡ 2688 → settings_fit v mtu ≡ true → n ≡ 0 → s' ≡ created_bytes v mtu
    → made n s' ≡ create_in s v mtu
unfolding create_in
created_in s s' v mtu long fit done put = rw (eq-eqb (length s) 2688 long, fit, done, put)

-- ---- all three

module _ (l : Link) (i : ℕ) (h : Header) (consumed : ℕ) (g : Grant) (payload p o : List ℕ) (inside : i < length l.rows) where
  abbrev row : Row
  row = get_or l.rows i no_row

  abbrev after-told : Link → Act → After
  after-told q act =
      let t = told_of (case_of l i h.service g.hash consumed) l.owners payload p o act in
      after t.answer q t.pool t.out

  -- a decision after which the row is as it was
  stays : (act : Act) → link_after l i h g.hash act ≡ with_row l i row → after-told (link_after l i h g.hash act) act ≡ after-told l act
  stays act e = ap (λ (q : Link). after-told q act) (e ∙ ap (λ (rs : List Row). with_rows l rs) (same_rows l.rows i inside))

  applied_parts : (act : Act) → after-told (link_after l i h g.hash act) act ≡ applied l i p o h consumed payload g act
  applied_parts (Refuse n) = stays (Refuse n) refl
  applied_parts (Drop n) = refl
  applied_parts Accept = stays Accept refl
  applied_parts Beat = stays Beat refl
  applied_parts Start = refl
  applied_parts NoStart = stays NoStart refl
  applied_parts Stop = refl
  applied_parts Close = refl
  applied_parts (NoEnd named) = stays (NoEnd named) refl
  applied_parts (Claim total count) = refl
  applied_parts Append = refl
  applied_parts Deliver = refl
  applied_parts Single = refl

  -- what the code makes of state, answer and buffers is what is done about the decision
  pub within_is : (s s' : List ℕ) (act : Act) (a : Answer) (p' o' : List ℕ) → act ≡ decision_of l i h payload (length o)
      → told a p' o' ≡ told_of (case_of l i h.service g.hash consumed) l.owners payload p o act → s' ≡ stored_in s (link_after l i h g.hash act)
      → left a s' p' o' ≡ left_by s (applied l i p o h consumed payload g (decision_of l i h payload (length o)))
  within_is s s' act a p' o' decided said changed =
      ap₂ (λ (t : Told) (x : List ℕ). left t.answer x t.pool t.out) said changed
      ∙ ap (left_by s) (applied_parts act)
      ∙ ap (λ (d : Act). left_by s (applied l i p o h consumed payload g d)) decided
