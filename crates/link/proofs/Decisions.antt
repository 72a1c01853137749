-- The decision on a frame of a row, by its cases: which decisions there are, what the book sees each of them asked for, and what the row and the frame
-- keep to where it is taken. The chains of tests are walked here once; every law about decisions goes by these cases.
-- Assumes nothing.
use Prim.Native.Nat.{ℕ, ◌+◌, ◌-◌, ◌≤◌, max}
use mathlib.Core.Path.{◌≡◌, refl}
use mathlib.Core.Logic.{◌⊎◌}
use mathlib.Core.Bool.{Bool, true, false, ◌&&◌, ◌||◌, not}
use mathlib.Core.List.{List}
use native.Mathlib.Omega.{arith}
use lib.Dec.{eqb, leb}
use lib.ListN.{get_or}
use borrow.Author.Tests.{leb-true, eqb-true, eqb-false, not-true, ne_eqb}
use Rattle.numbers.specs.Bytes.{pick, part}
use Rattle.numbers.specs.Numbers.{value_be}
use Rattle.numbers.proofs.Choices.{either, unless_elim}
use Rattle.frame.specs.declared.Header.{Header}
use Rattle.frame.specs.Message.{totals_fit}
use Rattle.session.specs.declared.Reassembly.{Reassembly}
use Rattle.session.specs.declared.Row.{Row}
use Rattle.session.specs.declared.Said.{Said}
use Rattle.session.specs.declared.Act.{Act}
use Rattle.session.specs.declared.Act.TheVariants.{Refuse, Drop, Accept, Beat, Start, NoStart, Stop, Close, NoEnd, Claim, Append, Deliver, Single}
use Rattle.session.specs.Rows.{no_row, message_at}
use Rattle.session.specs.Rules.{version_fits, mtu_fits, service_fits, command_fits, barred_by}
use Rattle.session.specs.Decide.{is_hash, place_of, need_of, held_of, share_of, first_of, sized, single_of, startable, starting_of, endable, hash_of, ending_of, control_of, content_of}
use Rattle.session.proofs.Laws.{Continues, Next, next_is}
use Rattle.session.proofs.Laws as laws
use Rattle.link.specs.declared.Link.{Link}
use Rattle.link.specs.State.{shares_in}
use Rattle.link.specs.Call.{said_of, decision_of}
use Rattle.link.specs.Book.{Ask, single, first, next, end, other, ask_of}

-- a test that two choices share
pub both_by : {A B : Type 0} (P : A → B → Type 0) (b : Bool) (x y : A) (u v : B) → (b ≡ true → P x u) → (b ≡ false → P y v) → P (pick b x y) (pick b u v)
both_by P true x y u v f g = f refl
both_by P false x y u v f g = g refl

-- ---- 13 to 17

-- what they leave
pub record Served (major mtu : ℕ) (r : Row) (h : Header) : Type 0 where
  pub flag : h.flag ≡ false
  pub version : version_fits major r h.version ≡ true
  pub mtu_fits_lem : mtu_fits mtu r h.size ≡ true
  pub service : service_fits r h ≡ true
  pub command : command_fits r h ≡ true

-- their numbers are below 24; where none is given, all of it holds
barred : (major mtu : ℕ) (r : Row) (h : Header) → (barred_by major mtu r h ≤ 23) × (barred_by major mtu r h ≡ 0 → Served major mtu r h)
unfolding barred_by
barred major mtu r h =
    let P : ℕ → Type 0 = λ c. (c ≤ 23) × (c ≡ 0 → Served major mtu r h) in
    let bars : (c : ℕ) → 1 ≤ c → c ≤ 23 → P c = λ c a b. (b, (λ z. absurd (omega arith))) in
    unless_elim P (not h.flag) 13 _ (λ _. bars 13 (omega arith) (omega arith)) λ t₁.
    unless_elim P (version_fits major r h.version) 14 _ (λ _. bars 14 (omega arith) (omega arith)) λ t₂.
    unless_elim P (mtu_fits mtu r h.size) 15 _ (λ _. bars 15 (omega arith) (omega arith)) λ t₃.
    unless_elim P (service_fits r h) 16 _ (λ _. bars 16 (omega arith) (omega arith)) λ t₄.
    unless_elim P (command_fits r h) 17 0 (λ _. bars 17 (omega arith) (omega arith)) λ t₅.
    (omega arith, (λ _. record { flag = not-true h.flag t₁; version = t₂; mtu_fits_lem = t₃; service = t₄; command = t₅ }))

-- ---- services and places

place_one : (service : ℕ) → eqb service 0x07 ≡ true → place_of service ≡ 1
unfolding place_of
place_one service e = let z : service ≡ 0x07 = eqb-true service 0x07 e in rw z

place_other : (service : ℕ) → eqb service 0x07 ≡ false → place_of service ≡ 1 → ⊥
unfolding place_of
place_other service e =
    let P : ℕ → Type 0 = λ p. p ≡ 1 → ⊥ in
    either P (eqb service 0x00) 0 _ (λ _ z. omega arith) λ _.
    rw e
    (either P (eqb service 0x0A) 2 _ (λ _ z. omega arith) λ _.
    either P (eqb service 0x0B) 3 4 (λ _ z. omega arith) (λ _ z. omega arith))

-- ---- the decisions

module _ (l : Link) (i : ℕ) (h : Header) (payload : List ℕ) where
  abbrev r : Row
  r = get_or l.rows i no_row

  abbrev place : ℕ
  place = place_of h.service.0

  abbrev m : Reassembly
  m = message_at r place

  -- the frame passed 13 to 17
  abbrev In : Type 0
  In = Served l.version.major l.mtu r h

  -- what is asked, and what is decided
  pub data Decided : Ask → Act → Type 0 where
    -- 11 and 13 to 23
    refuses : {ask : Ask} {n : ℕ} → n ≤ 23 → Decided ask (Refuse n)
    -- control frames
    accepts : Decided other Accept
    beats : Decided other Beat
    starts : Decided other Start
    starts-not : Decided other NoStart
    stops : (place ≡ 1 → ⊥) → Decided (end place) Stop
    closes : place ≡ 1 → Decided (end place) Close
    ends_not : {named : Bool} → Decided (end place) (NoEnd named)
    -- a Single Frame, a First Frame
    hands-over : In → Decided (single place payload) Single
    claims : {total count : ℕ} → In → (h.kind ≡ 0 → ⊥) → totals_fit total count ≡ true → m.live ≡ false → held_of r + need_of total ≤ r.cap
        → (shares_in l.rows - share_of r) + max (held_of r + need_of total) r.guarantee ≤ 256 → Decided (first place h.message.0 total count) (Claim total count)
    -- a consecutive frame: 24 and 25, one that is not the last, the last
    drops : {n : ℕ} → (n ≡ 24) ⊎ (n ≡ 25) → Continues h m → Decided (next place h.message.0 payload) (Drop n)
    appends : Continues h m → sized m h.size ≡ true → (m.frames ≡ 1 → ⊥) → Decided (next place h.message.0 payload) Append
    delivers : Continues h m → sized m h.size ≡ true → m.frames ≡ 1 → Decided (next place h.message.0 payload) Deliver

  single_decided : (room : ℕ) → In → Decided (single place payload) (single_of room h)
  unfolding single_of
  single_decided room q = unless_elim (Decided (single place payload)) (leb h.size room) _ _ (λ _. refuses (omega arith)) (λ _. hands-over q)

  first_decided : (total count : ℕ) → In → (h.kind ≡ 0 → ⊥) → Decided (first place h.message.0 total count) (first_of r (shares_in l.rows - share_of r) h total count)
  unfolding first_of
  first_decided total count q n =
      let P : Act → Type 0 = Decided (first place h.message.0 total count) in
      let others : ℕ = shares_in l.rows - share_of r in
      unless_elim P (totals_fit total count) _ _ (λ _. refuses (omega arith)) λ t₁.
      unless_elim P (not m.live) _ _ (λ _. refuses (omega arith)) λ t₂.
      unless_elim P (leb (held_of r + need_of total) r.cap) _ _ (λ _. refuses (omega arith)) λ t₃.
      unless_elim P (leb (others + max (held_of r + need_of total) r.guarantee) 256) _ _ (λ _. refuses (omega arith)) λ t₄.
      claims q n t₁ (not-true m.live t₂) (leb-true (held_of r + need_of total) r.cap t₃) (leb-true (others + max (held_of r + need_of total) r.guarantee) 256 t₄)

  next_decided : {act : Act} → Next m h act → Decided (next place h.message.0 payload) act
  next_decided (laws.refuses b) = refuses b
  next_decided (laws.drops d c) = drops d c
  next_decided (laws.appends c sizes more) = appends c sizes more
  next_decided (laws.delivers c sizes one) = delivers c sizes one

  end_decided : (said : Said) → Decided (end place) (ending_of r h said)
  unfolding ending_of
  end_decided said =
      let P : Act → Type 0 = Decided (end place) in
      unless_elim P (endable r h.service.0) _ _ (λ _. ends_not) λ _.
      unless_elim P (is_hash said.hash (hash_of r h.service.0)) _ _ (λ _. ends_not) λ _.
      either P (eqb h.service.0 0x07) _ _ (λ e. closes (place_one h.service.0 e)) (λ e. stops (place_other h.service.0 e))

  control_decided : (said : Said) → Decided (pick (eqb h.info 0x04) (end place) other) (control_of r h said)
  unfolding control_of starting_of
  control_decided said =
      let P : Act → Type 0 = Decided other in
      either (Decided _) (eqb h.info 0x01) _ _
      (λ e. let z : h.info ≡ 1 = eqb-true h.info 1 e in
      rw (ne_eqb h.info 4 (λ u. omega arith))
      (unless_elim P (startable r h.service.0 && (not (eqb r.version 5) || said.readable)) _ _ (λ _. starts-not) (λ _. starts))) λ _.
      both_by Decided (eqb h.info 0x04) _ _ _ _ (λ _. end_decided said) λ _.
      either P (eqb h.info 0x00) _ _ (λ _. beats) (λ _. accepts)

  -- the decision is one of them
  pub decided : (room : ℕ) → Decided (ask_of h payload) (decision_of l i h payload room)
  unfolding decision_of ask_of content_of
  decided room =
      let b : ℕ = barred_by l.version.major l.mtu r h in
      let by = barred l.version.major l.mtu r h in
      unless_elim (Decided (ask_of h payload)) (eqb b 0) (Refuse b) _ (λ _. refuses by.0) λ t.
      let q : In = by.1 (eqb-true b 0 t) in
      both_by Decided (eqb h.kind 0) _ _ _ _ (λ _. control_decided (said_of r payload)) λ n.
      both_by Decided (eqb h.kind 1) _ _ _ _ (λ _. single_decided room q) λ _.
      both_by Decided (eqb h.kind 2) _ _ _ _ (λ _. first_decided (value_be (part payload 0 4)) (value_be (part payload 4 4)) q (eqb-false h.kind 0 n)) (λ _. next_decided (next_is m h room))
