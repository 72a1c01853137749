-- A call that names a session is answered alike in states that agree on its row, its page and the settings, unless it asks to go above its
-- guarantee: the decision knows one more number, the room of the others, and only the last room check reads it.
-- Assumes nothing.
use Prim.Native.Nat.{ℕ, ◌+◌, ◌-◌, ◌≤◌, max}
use mathlib.Core.Path.{◌≡◌, refl, ap, ap₂, ◌∙◌, sym, subst}
use mathlib.Core.Bool.{true, not}
use mathlib.Core.Option.{Option, none, some}
use mathlib.Core.List.{List, []}
use native.Mathlib.Omega.{arith}
use lib.Dec.{T, eqb, leb}
use lib.ListN.{length, get_or}
use borrow.Author.Tests.{le-leb}
use Rattle.numbers.specs.Bytes.{pick, unless, part, laid}
use Rattle.numbers.specs.Numbers.{value_be}
use Rattle.numbers.proofs.Choices.{split, unless_elim}
use Rattle.frame.specs.declared.Header.{Header}
use Rattle.frame.specs.declared.ServiceType.{ServiceType}
use Rattle.frame.specs.declared.Extent.{Extent}
use Rattle.frame.specs.declared.Reading.TheVariants as reading
use Rattle.frame.specs.Read.{read_of}
use Rattle.frame.specs.Message.{totals_fit}
use Rattle.session.specs.declared.Row.{Row}
use Rattle.session.specs.declared.Act.{Act}
use Rattle.session.specs.declared.Act.TheVariants.{Refuse, Drop, Accept, Beat, Start, NoStart, Stop, Close, NoEnd, Claim, Append, Deliver, Single}
use Rattle.session.specs.Rows.{no_message_id, no_row, message_at}
use Rattle.session.specs.Rules.{reply_version, barred_by}
use Rattle.payload.specs.declared.version.Version.{Version}
use Rattle.payload.specs.Tags.{hash_id}
use Rattle.payload.specs.Reply.{nak_payload}
use Rattle.session.specs.Decide.{place_of, need_of, held_of, share_of, first_of, control_of, content_of}
use Rattle.link.specs.declared.Link.{Link}
use Rattle.link.specs.State.{index_of, shares_in}
use Rattle.link.specs.declared.Answer.{Answer}
use Rattle.link.specs.declared.Answer.TheVariants as answer
use Rattle.link.specs.Reply.{reply_bytes, start_ack, start_nak, end_ack, end_nak, beat_ack, granted_payload}
use Rattle.link.specs.Call.{After, said_of, decision_of, applied}
use Rattle.link.specs.Book.{Request, Command, call, Seen, within, ask_of, Due, due_on, names, Page, needs_in, reaches_room, ModestOn, ModestIn}
use Rattle.link.specs.Claim.{State, event_of, is_open, DeliversDue}
use Rattle.link.specs.Pages.{notes_from, page_of, pages, Sane}
use Rattle.link.proofs.Table.{shares_modest}
use Rattle.link.proofs.Deliveries.{Gives, row_gives}
use Rattle.link.proofs.Holdings.{needs_held, open_index}
use Rattle.link.proofs.Calls.{payload_in, row_act, row_call, two_calls}
use Rattle.link.proofs.Shown.{rules_say, row_open, row_is, page_of_lem}
use Rattle.link.proofs.Lists.{Alike}

-- the decision, by what it knows of the link
abbrev decide : ℕ → ℕ → Row → ℕ → Header → List ℕ → ℕ → Act
decide major mtu r others h payload room =
    unless (eqb (barred_by major mtu r h) 0) (Refuse (barred_by major mtu r h))
    (pick (eqb h.kind 0) (control_of r h (said_of r payload)) (content_of r others room h (value_be (part payload 0 4)) (value_be (part payload 4 4))))

decision_is : (l : Link) (n : ℕ) (h : Header) (payload : List ℕ) (room : ℕ) (r : Row) → get_or l.rows n no_row ≡ r
    → decision_of l n h payload room ≡ decide l.version.major l.mtu r (shares_in l.rows - share_of r) h payload room
unfolding decision_of
decision_is l n h payload room r e = rw e

-- what two calls show alike
abbrev Like : After → After → Type 0
Like v w = (v.answer ≡ w.answer) × (v.out ≡ w.out)

-- the same bytes are due, so the same are delivered
same_bytes_lem : (q : Request) (due : Option Due) (c : ℕ) (v : ServiceType) (n : ℕ) (out₁ out₂ : List ℕ)
    → DeliversDue due (record { command = call q; answer = answer.Delivered c v n; out = out₁ }) → DeliversDue due (record { command = call q; answer = answer.Delivered c v n; out = out₂ }) → out₁ ≡ out₂
same_bytes_lem q none c v n out₁ out₂ f g = let z : ◌≡◌ {A = ℕ} 0 1 = cc in absurd (omega arith)
same_bytes_lem q (some x) c v n out₁ out₂ f g = f.bytes ∙ sym g.bytes

-- a frame of a session on which two states agree
module _ (s₁ s₂ : State) (q : Request) (k₁ : Sane s₁) (k₂ : Sane s₂) (h : Header) (e : Extent) (a : Alike h.session.0 s₁ s₂) where
  abbrev i : ℕ
  i = h.session.0

  abbrev payload : List ℕ
  payload = payload_in q e

  abbrev r : Row
  r = a.the_row

  abbrev n₁ : ℕ
  n₁ = index_of h.session.0 s₁.link.rows

  abbrev n₂ : ℕ
  n₂ = index_of h.session.0 s₂.link.rows

  abbrev done₁ : Act → After
  done₁ act = applied s₁.link n₁ s₁.pool q.out h e.consumed payload q.grant act

  abbrev done₂ : Act → After
  done₂ act = applied s₂.link n₂ s₂.pool q.out h e.consumed payload q.grant act

  open₁ : is_open s₁ i ≡ true
  open₁ = row_open s₁ i r a.row₁

  open₂ : is_open s₂ i ≡ true
  open₂ = row_open s₂ i r a.row₂

  is₁ : get_or s₁.link.rows n₁ no_row ≡ r
  is₁ = row_is s₁ i r a.row₁

  is₂ : get_or s₂.link.rows n₂ no_row ≡ r
  is₂ = row_is s₂ i r a.row₂

  -- bytes by the settings and the row are the same
  bytes_same : (F : Version → ℕ → Row → List ℕ) → F s₁.link.version s₁.link.mtu (get_or s₁.link.rows n₁ no_row) ≡ F s₂.link.version s₂.link.mtu (get_or s₂.link.rows n₂ no_row)
  bytes_same F =
      ap (λ (v : Version). F v s₁.link.mtu (get_or s₁.link.rows n₁ no_row)) a.version
      ∙ ap (λ (t : ℕ). F s₂.link.version t (get_or s₁.link.rows n₁ no_row)) a.mtu
      ∙ ap (λ (x : Row). F s₂.link.version s₂.link.mtu x) (is₁ ∙ sym is₂)

  -- a reply, by the settings and the row
  replied_like : (kind : ℕ → ℕ → Answer) (F : Version → ℕ → Row → List ℕ)
      → (let x : List ℕ = F s₁.link.version s₁.link.mtu (get_or s₁.link.rows n₁ no_row) in
      let y : List ℕ = F s₂.link.version s₂.link.mtu (get_or s₂.link.rows n₂ no_row) in
      (kind e.consumed (length x) ≡ kind e.consumed (length y)) × (laid x q.out ≡ laid y q.out))
  replied_like kind F = (ap (λ (x : List ℕ). kind e.consumed (length x)) (bytes_same F), ap (λ (x : List ℕ). laid x q.out) (bytes_same F))

  acts_like : (due : Option Due) (act : Act) → Gives q due (done₁ act) → Gives q due (done₂ act) → Like (done₁ act) (done₂ act)
  acts_like due (Refuse n) f g = (refl, refl)
  acts_like due (Drop n) f g = (refl, refl)
  acts_like due Accept f g = (refl, refl)
  acts_like due Beat f g = replied_like answer.Beat (λ v t x. reply_bytes (reply_version v.major x) h.service beat_ack x.id no_message_id [])
  acts_like due Start f g = replied_like answer.Acked (λ v t x. reply_bytes (reply_version v.major x) h.service start_ack x.id x.next (granted_payload x.version q.grant.hash t))
  acts_like due NoStart f g = replied_like answer.Nacked (λ v t x. reply_bytes (reply_version v.major x) h.service start_nak x.id no_message_id [])
  acts_like due Stop f g = replied_like answer.Acked (λ v t x. reply_bytes (reply_version v.major x) h.service end_ack x.id x.next [])
  acts_like due Close f g = replied_like answer.Acked (λ v t x. reply_bytes (reply_version v.major x) h.service end_ack x.id x.next [])
  acts_like due (NoEnd named) f g = replied_like answer.Nacked (λ v t x. reply_bytes (reply_version v.major x) h.service end_nak x.id no_message_id (pick named (nak_payload hash_id) []))
  acts_like due (Claim total count) f g = (refl, refl)
  acts_like due Append f g = (refl, refl)
  acts_like due Deliver f g =
      let total : (message_at (get_or s₁.link.rows n₁ no_row) (place_of h.service.0)).total ≡ (message_at (get_or s₂.link.rows n₂ no_row) (place_of h.service.0)).total
      = ap (λ (x : Row). (message_at x (place_of h.service.0)).total) (is₁ ∙ sym is₂) in (
        ap (λ (x : ℕ). answer.Delivered e.consumed h.service x) total,
        same_bytes_lem q due e.consumed h.service _ (done₁ Deliver).out (done₂ Deliver).out
            (subst (λ (x : ℕ). DeliversDue due (record { command = call q; answer = answer.Delivered e.consumed h.service x; out = (done₁ Deliver).out })) total (f tt)) (g tt),
      )
  acts_like due Single f g = (refl, refl)

  -- ---- within the guarantee, both states decide alike

  abbrev others₁ : ℕ
  others₁ = shares_in s₁.link.rows - share_of r

  abbrev others₂ : ℕ
  others₂ = shares_in s₂.link.rows - share_of r

  -- a First Frame: only its last room check reads the others' room, and then it is answered there
  first_agreed : (total count : ℕ) → (T (reaches_room (done₂ (first_of r others₂ h total count)).answer) → needs_in (notes_from s₂ n₂ 0 r.messages) + need_of total ≤ r.guarantee)
      → first_of r others₁ h total count ≡ first_of r others₂ h total count
  unfolding first_of
  first_agreed total count m =
      let held : ℕ = held_of r + need_of total in
      split (totals_fit total count)
      (λ t. split (not (message_at r (place_of h.service.0)).live)
      (λ u. split (leb (held_of r + need_of total) r.cap)
      (λ v.
      let at : T (reaches_room (done₂ (unless (leb (others₂ + max held r.guarantee) 256) (Refuse 21) (Claim total count))).answer) → needs_in (notes_from s₂ n₂ 0 r.messages) + need_of total ≤ r.guarantee
      = rw (t, u, v) at m in
      let w = at (unless_elim (λ (act : Act). T (reaches_room (done₂ act).answer)) (leb (others₂ + max held r.guarantee) 256) _ _ (λ _. tt) (λ _. tt)) in
      let z : held ≤ r.guarantee = rw (needs_held s₂ n₂ 0 r.messages) at w in
      let fits₁ : others₁ + max held r.guarantee ≤ 256
      = rw is₁ at (shares_modest s₁.link.rows n₁ held 256 (open_index s₁ i open₁).1 (rules_say s₁.link k₁.rules).shares (rw is₁ z)) in
      let fits₂ : others₂ + max held r.guarantee ≤ 256
      = rw is₂ at (shares_modest s₂.link.rows n₂ held 256 (open_index s₂ i open₂).1 (rules_say s₂.link k₂.rules).shares (rw is₂ z)) in
      rw (t, u, v, le-leb (others₁ + max held r.guarantee) 256 fits₁, le-leb (others₂ + max held r.guarantee) 256 fits₂))
      (λ v. rw (t, u, v)))
      (λ u. rw (t, u)))
      (λ t. rw t)

  decide_agreed : (major mtu space : ℕ) → ModestOn (some (page_of s₂ n₂ r)) (within i (ask_of h payload)) (done₂ (decide major mtu r others₂ h payload space)).answer
      → decide major mtu r others₁ h payload space ≡ decide major mtu r others₂ h payload space
  unfolding ask_of content_of
  decide_agreed major mtu space m =
      split (eqb (barred_by major mtu r h) 0)
      (λ t. split (eqb h.kind 0) (λ u. rw (t, u)) λ u.
      split (eqb h.kind 1) (λ v. rw (t, u, v)) λ v.
      split (eqb h.kind 2) (λ w. rw (t, u, v, w) (first_agreed _ _ (rw (t, u, v, w) at m))) (λ w. rw (t, u, v, w)))
      (λ t. rw t)

  pub decided_alike : ModestOn (pages s₂ i) (within i (ask_of h payload)) (row_call s₂ q h e).answer → row_act s₁ q h e ≡ row_act s₂ q h e
  decided_alike m =
      let space : ℕ = length q.out in
      let d₂ = decision_is s₂.link n₂ h payload space r is₂ in
      let page : pages s₂ i ≡ some (page_of s₂ n₂ r) = page_of_lem s₂ i open₂ ∙ ap (λ (x : Row). some (page_of s₂ n₂ x)) is₂ in
      decision_is s₁.link n₁ h payload space r is₁
      ∙ ap (λ (v : Version). decide v.major s₁.link.mtu r others₁ h payload space) a.version
      ∙ ap (λ (t : ℕ). decide s₂.link.version.major t r others₁ h payload space) a.mtu
      ∙ decide_agreed s₂.link.version.major s₂.link.mtu space
      (subst (λ (d : Act). ModestOn (some (page_of s₂ n₂ r)) (within i (ask_of h payload)) (done₂ d).answer) d₂
      (subst (λ (p : Option Page). ModestOn p (within i (ask_of h payload)) (row_call s₂ q h e).answer) page m))
      ∙ sym d₂

  -- and answer alike
  row_like : read_of q.input ≡ reading.Frame h e → ModestOn (pages s₂ i) (within i (ask_of h payload)) (row_call s₂ q h e).answer → Like (row_call s₁ q h e) (row_call s₂ q h e)
  row_like f m =
      let same = decided_alike m in
      let due : Option Due = due_on (pages s₂ i) (ask_of h payload) in
      let g₁ : Gives q due (row_call s₁ q h e) = subst (λ (p : Option Page). Gives q (due_on p (ask_of h payload)) (row_call s₁ q h e)) a.page (row_gives s₁ q k₁ h e f open₁) in
      subst (λ (x : Act). Like (done₁ x) (row_call s₂ q h e)) (sym same) (acts_like due (row_act s₂ q h e) (subst (λ (x : Act). Gives q due (done₁ x)) same g₁) (row_gives s₂ q k₂ h e f open₂))

-- the law
pub same_answer : (s₁ s₂ : State) (c : Command) (i : ℕ) → Sane s₁ → Sane s₂ → Alike i s₁ s₂ → T (names i c)
    → ModestIn (pages s₂ i) c (event_of s₂ c).answer → event_of s₂ c ≡ event_of s₁ c
same_answer s₁ s₂ (call q) i k₁ k₂ a t m =
    let w = two_calls s₁ s₂ q k₁ k₂ (λ (j : ℕ) (x : Seen) (w₁ w₂ : After). ModestOn (pages s₂ j) x w₂.answer → Like w₁ w₂) (λ _ _ _ _ _. (refl, refl))
    (λ h e f b. row_like s₁ s₂ q k₁ k₂ h e b f) i t a m in
    sym (ap₂ (λ (x : Answer) (o : List ℕ). record { command = call q; answer = x; out = o }) w.0 w.1)
