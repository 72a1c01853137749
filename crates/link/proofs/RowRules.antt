-- Each change that a decision makes to a row keeps that row's rules: a message set, a version settled, a service started or stopped.
-- Two laws, of a message set and of all else remade, and one change after another.
-- Assumes nothing.
use mathlib.Core.Path.{◌≡◌, refl, sym, ap, subst, ◌∙◌}
use Prim.Native.Nat.{ℕ, ◌+◌, ◌≤◌, ◌<◌, max, min}
use native.Mathlib.Omega.{arith}
use mathlib.Core.Bool.{true, false, true≢false}
use mathlib.Core.List.{List}
use lib.Dec.{eqb, leb}
use lib.ListN.{length, get_or, set, length-set}
use lib.Seq.{get_or-set_same, get_or-set_other}
use borrow.Author.Tests.{eqb-true, lt-ltb, ne_eqb}
use Rattle.numbers.proofs.Choices.{split, either}
use Rattle.frame.specs.declared.Header.{Header}
use Rattle.frame.specs.declared.ServiceType.{ServiceType}
use Rattle.frame.specs.declared.MessageId.{MessageId}
use Rattle.frame.specs.Message.{totals_fit}
use Rattle.session.specs.declared.Reassembly.{Reassembly}
use Rattle.session.specs.declared.Running.{Running}
use Rattle.session.specs.declared.Row.{Row}
use Rattle.session.specs.Rows.{no_reassembly, not_running, with_messages, with_message_at, message_at, settled_row, announced, shortened, with_service, acked_row, started_row, stopped_row, dropped_row}
use Rattle.session.specs.Rules.{version_fits, is_running, service_fits}
use Rattle.session.specs.Decide.{place_of, need_of, message_blocks, held_in, held_of, share_of, sized}
use Rattle.link.specs.State.{version_allowed, service_at}
use Rattle.link.proofs.Each.{set_each, sum_set}
use Rattle.link.proofs.RowFacts.{place_below, place_service, runs_at, Fits, fits_none, fits_announced, fits_shortened, RowFacts}

-- ---- held blocks

-- the sum over the messages after one of them was set
held_set : (ms : List Reassembly) (k : ℕ) (m : Reassembly) → k < length ms → held_in (set ms k m) + message_blocks (get_or ms k no_reassembly) ≡ held_in ms + message_blocks m
unfolding held_in
held_set ms k m h = sum_set held_in message_blocks (λ a l. refl) ms k m no_reassembly h

pub held_idle : (m : Reassembly) → m.live ≡ false → message_blocks m ≡ 0
unfolding message_blocks
held_idle m e = rw e

-- ---- versions

-- a settled row takes only its own version
pub fits_settled : (major : ℕ) (r : Row) (v : ℕ) → version_fits major r v ≡ true → eqb r.version 0 ≡ false → v ≡ r.version
unfolding version_fits
fits_settled major r v e t = eqb-true v r.version (rw t at e)

-- a version that fits is allowed: an unsettled row takes those that an opening allows
pub fits_allowed : (major : ℕ) (r : Row) (v : ℕ) → version_allowed major r.version ≡ true → version_fits major r v ≡ true → version_allowed major v ≡ true
unfolding version_fits version_allowed
fits_allowed major r v a e =
    split (eqb r.version 0)
    (λ t. let q : leb v (min major 4) ≡ true = rw t at e in rw q)
    (λ t. let q : v ≡ r.version = eqb-true v r.version (rw t at e) in rw q a)

-- 16 passed by a frame of type 1 to 3: its service runs
pub runs_in : (r : Row) (h : Header) → (h.kind ≡ 0 → ⊥) → service_fits r h ≡ true → is_running r h.version h.service.0 ≡ true
unfolding service_fits
runs_in r h n e = rw (ne_eqb h.kind 0 n) at e

-- ---- one row before and after

-- what a decision keeps in a row that stays open: blocks are freed or claimed at one place, and nothing else changes in size
pub record RowKept (major others place : ℕ) (r after : Row) (freed claimed : ℕ) : Type 0 where
  pub facts : RowFacts major after
  pub same_id : after.id ≡ r.id
  pub held : held_of after + freed ≡ held_of r + claimed
  pub shares : others + share_of r ≤ 256 → others + share_of after ≤ 256
  pub elsewhere : (k : ℕ) → (k ≡ place → ⊥) → message_at after k ≡ message_at r k
  pub here : message_blocks (message_at after place) + freed ≡ message_blocks (message_at r place) + claimed

-- a row with another version and message counter and other streams
abbrev remade : Row → ℕ → MessageId → Running → Running → Row
remade r v n a b = record { id = r.id; guarantee = r.guarantee; cap = r.cap; version = v; next = n; hash = r.hash; audio = a; video = b; messages = r.messages }

abbrev versioned : Row → ℕ → Row
versioned r v = remade r v r.next r.audio r.video

settled_is : (r : Row) (v : ℕ) → (eqb r.version 0 ≡ false → v ≡ r.version) → settled_row r v ≡ versioned r v
unfolding settled_row
settled_is r v f = either (λ (x : Row). x ≡ versioned r v) (eqb r.version 0) (versioned r v) r (λ t. refl) (λ t. sym (ap (versioned r) (f t)))

pub message_at_is : (r : Row) (p : ℕ) (m : Reassembly) → p < 5 → with_message_at r p m ≡ with_messages r (set r.messages p m)
unfolding with_message_at
message_at_is r p m h = rw (lt-ltb p 5 h)

-- what runs under two streams goes on under others, if these run where they did
runs_with : (r : Row) (v : ℕ) (n : MessageId) (t : ℕ) (a b : Running) → (t ≡ 0x0A → r.audio.on ≡ true → a.on ≡ true) → (t ≡ 0x0B → r.video.on ≡ true → b.on ≡ true)
    → is_running r v t ≡ true → is_running (remade r v n a b) v t ≡ true
unfolding is_running
runs_with r v n t a b f g e =
    split (eqb t 0x0A) (λ u. rw u (f (eqb-true t 0x0A u) (rw u at e))) λ u.
    split (eqb t 0x0B) (λ w. rw (u, w) (g (eqb-true t 0x0B w) (rw (u, w) at e))) (λ w. rw (u, w) (rw (u, w) at e))

module _ (major others p : ℕ) where
  abbrev Kept : Row → Row → ℕ → ℕ → Type 0
  Kept r after freed claimed = RowKept major others p r after freed claimed

  -- one change after another
  kept_then : {r d e : Row} {f₁ c₁ f₂ c₂ : ℕ} (f c : ℕ) → f ≡ f₁ + f₂ → c ≡ c₁ + c₂ → Kept r d f₁ c₁ → Kept d e f₂ c₂ → Kept r e f c
  kept_then f c u v x y = record {
    facts = y.facts;
    same_id = y.same_id ∙ x.same_id;
    held = omega (arith, x.held, y.held);
    shares = λ h. y.shares (x.shares h);
    elsewhere = λ k n. y.elsewhere k n ∙ x.elsewhere k n;
    here = omega (arith, x.here, y.here);
  }

  -- no message changed, and each open one's service still runs
  kept_remade : (r : Row) (v : ℕ) (n : MessageId) (a b : Running) → RowFacts major r → version_allowed major v ≡ true → (v ≡ 0 → r.version ≡ 0)
      → ((k : ℕ) → k < 5 → (message_at r k).live ≡ true → runs_at r k ≡ true → runs_at (remade r v n a b) k ≡ true) → Kept r (remade r v n a b) 0 0
  kept_remade r v n a b f w z g = record {
    facts = record {
      offer = f.offer;
      most = f.most;
      within = f.within;
      allowed = w;
      unsettled = λ y. f.unsettled (z y);
      messages = λ k h l.
          let o = f.messages k h l in
          record {
            running = g k (omega (arith, f.five)) l o.running;
            totals = o.totals;
            some_frames = o.some_frames;
            frames_most = o.frames_most;
            missing_least = o.missing_least;
            missing_most = o.missing_most;
          };
      five = f.five;
    };
    same_id = refl;
    held = refl;
    shares = λ h. h;
    elsewhere = λ k n. refl;
    here = refl;
  }

  kept_versioned : (r : Row) (v : ℕ) → RowFacts major r → version_allowed major v ≡ true → 1 ≤ v → (eqb r.version 0 ≡ false → v ≡ r.version) → Kept r (versioned r v) 0 0
  unfolding is_running
  kept_versioned r v f a q s =
      kept_remade r v r.next r.audio r.video f a (λ z. absurd (omega arith)) (λ k h l e.
      split (eqb r.version 0)
      (λ t. absurd (true≢false (sym l ∙ f.unsettled (eqb-true r.version 0 t) k (omega (arith, f.five)))))
      (λ t. subst (λ (x : ℕ). is_running r x (service_at k) ≡ true) (sym (s t)) e))

  -- a single frame
  pub kept_single : (r : Row) (v : ℕ) → RowFacts major r → version_allowed major v ≡ true → 1 ≤ v → (eqb r.version 0 ≡ false → v ≡ r.version) → Kept r (settled_row r v) 0 0
  kept_single r v f a q s = subst (λ (x : Row). Kept r x 0 0) (sym (settled_is r v s)) (kept_versioned r v f a q s)

  -- a service's stream changed, its ACK counted: an open message of that service wants the stream to run
  kept_service : (r : Row) (s : ServiceType) (x : Running) → RowFacts major r → ((k : ℕ) → k < 5 → (message_at r k).live ≡ true → service_at k ≡ s.0 → x.on ≡ true)
      → Kept r (acked_row (with_service r s x)) 0 0
  unfolding with_service
  kept_service r s x f on =
      let P : Row → Type 0 = λ y. Kept r (acked_row y) 0 0 in
      let with : (a b : Running) → ((k : ℕ) → k < 5 → (message_at r k).live ≡ true → service_at k ≡ 0x0A → r.audio.on ≡ true → a.on ≡ true)
      → ((k : ℕ) → k < 5 → (message_at r k).live ≡ true → service_at k ≡ 0x0B → r.video.on ≡ true → b.on ≡ true) → P (remade r r.version r.next a b)
      = λ a b u w. kept_remade r r.version _ a b f f.allowed (λ z. z) (λ k h l e. runs_with r r.version _ (service_at k) a b (u k h l) (w k h l) e) in
      either P (eqb s.0 0x0A) _ _ (λ t. with x r.video (λ k h l e _. on k h l (e ∙ sym (eqb-true s.0 0x0A t))) (λ k h l e q. q)) λ _.
      either P (eqb s.0 0x0B) _ _ (λ t. with r.audio x (λ k h l e q. q) (λ k h l e _. on k h l (e ∙ sym (eqb-true s.0 0x0B t))))
      (λ _. with r.audio r.video (λ k h l e q. q) (λ k h l e q. q))

  -- a service started
  pub kept_start : (r : Row) (s : ServiceType) (hash : ℕ) → RowFacts major r → Kept r (acked_row (started_row r s hash)) 0 0
  kept_start r s hash f = kept_service r s (record { on = true; hash = hash }) f (λ k h l e. refl)

  module _ (below : p < 5) where
    -- a message set
    kept_set : (r : Row) (m : Reassembly) (freed claimed : ℕ) → RowFacts major r → (r.version ≡ 0 → m.live ≡ false) → Fits (runs_at r p) m
        → message_blocks m + freed ≡ message_blocks (message_at r p) + claimed → held_of r + claimed ≤ r.cap + freed
        → ((n : ℕ) → n + freed ≡ held_of r + claimed → others + share_of r ≤ 256 → others + max n r.guarantee ≤ 256)
        → Kept r (with_message_at r p m) freed claimed
    unfolding is_running
    kept_set r m freed claimed f z o e c w =
        let ms : List Reassembly = r.messages in
        let at : p < length ms = omega (arith, f.five) in
        let sum : held_in (set ms p m) + message_blocks (message_at r p) ≡ held_of r + message_blocks m = held_set ms p m at in
        let same : length (set ms p m) ≡ length ms = length-set ms p m in
        let h : held_in (set ms p m) + freed ≡ held_of r + claimed = omega arith in
        subst (λ (x : Row). Kept r x freed claimed) (sym (message_at_is r p m below)) (record {
          facts = record {
            offer = f.offer;
            most = f.most;
            within = omega arith;
            allowed = f.allowed;
            unsettled = λ y k i. set_each (λ _ (x : Reassembly). x.live ≡ false) ms p m no_reassembly at (z y) (λ k i n. f.unsettled y k i) k (omega arith);
            messages = λ k i. set_each (λ (k : ℕ) (x : Reassembly). Fits (runs_at r k) x) ms p m no_reassembly at o (λ k i n. f.messages k i) k (omega arith);
            five = omega (arith, f.five);
          };
          same_id = refl;
          held = h;
          shares = w (held_in (set ms p m)) h;
          elsewhere = λ k n. get_or-set_other ms p k m no_reassembly n;
          here = ap (λ (x : Reassembly). message_blocks x + freed) (get_or-set_same ms p m no_reassembly at) ∙ e;
        })

    -- an admitted First Frame
    pub kept-claim : (r : Row) (v : ℕ) (i : MessageId) (total count : ℕ) → RowFacts major r → version_allowed major v ≡ true → 1 ≤ v
        → (eqb r.version 0 ≡ false → v ≡ r.version) → is_running r v (service_at p) ≡ true → totals_fit total count ≡ true → (message_at r p).live ≡ false
        → held_of r + need_of total ≤ r.cap → others + max (held_of r + need_of total) r.guarantee ≤ 256
        → Kept r (settled_row (with_message_at r p (announced i total count)) v) 0 (need_of total)
    unfolding message_blocks is_running
    kept-claim r v i total count f a q s u t n c w =
        let m : Reassembly = announced i total count in
        let k : Kept r (versioned r v) 0 0 = kept_versioned r v f a q s in
        let is : settled_row (with_message_at r p m) v ≡ with_message_at (versioned r v) p m
        = ap (λ (x : Row). settled_row x v) (message_at_is r p m below) ∙ settled_is (with_messages r (set r.messages p m)) v s ∙ sym (message_at_is (versioned r v) p m below) in
        let d : message_blocks (message_at r p) ≡ 0 = held_idle (message_at r p) n in
        subst (λ (x : Row). Kept r x 0 (need_of total)) (sym is)
        (kept_then 0 (need_of total) (omega arith) (omega arith) k
        (kept_set (versioned r v) m 0 (need_of total) k.facts (λ z. absurd (omega arith)) (fits_announced _ i total count u t) (omega arith) (omega arith) (λ k g _. omega arith)))

    -- a message that gives way to one that is not larger
    kept_put : (r : Row) (m : Reassembly) (freed : ℕ) → RowFacts major r → Fits (runs_at r p) m → ((message_at r p).live ≡ false → m.live ≡ false)
        → message_blocks m + freed ≡ message_blocks (message_at r p) → Kept r (with_message_at r p m) freed 0
    kept_put r m freed f o l e =
        kept_set r m freed 0 f (λ z. l (f.unsettled z p (omega (arith, f.five)))) o (omega arith) (omega (arith, f.within)) (λ k g h. omega arith)

    -- a message dropped or delivered
    pub kept-drop : (r : Row) → RowFacts major r → Kept r (dropped_row r p) (message_blocks (message_at r p)) 0
    kept-drop r f = kept_put r no_reassembly (message_blocks (message_at r p)) f (fits_none _) (λ _. refl) (omega (arith, held_idle no_reassembly refl))

    -- a message fed
    pub kept-fed : (r : Row) (size : ℕ) → RowFacts major r → sized (message_at r p) size ≡ true → ((message_at r p).frames ≡ 1 → ⊥)
        → Kept r (with_message_at r p (shortened (message_at r p) size)) 0 0
    unfolding message_blocks
    kept-fed r size f s n =
        kept_put r (shortened (message_at r p) size) 0 f (fits_shortened (runs_at r p) (message_at r p) size (f.messages p (omega (arith, f.five))) s n) (λ l. l) (omega arith)

-- a service stopped: its message goes with it
pub kept_stop : (major others : ℕ) (r : Row) (s : ServiceType) → RowFacts major r
    → RowKept major others (place_of s.0) r (acked_row (stopped_row (dropped_row r (place_of s.0)) s)) (message_blocks (message_at r (place_of s.0))) 0
kept_stop major others r s f =
    let p : ℕ = place_of s.0 in
    let b : p < 5 = place_below s.0 in
    let d : Row = dropped_row r p in
    let k : RowKept major others p r d (message_blocks (message_at r p)) 0 = kept-drop major others p b r f in
    let gone : (message_at d p).live ≡ false
    = ap (λ (y : Row). (message_at y p).live) (message_at_is r p no_reassembly b) ∙ ap (λ (y : Reassembly). y.live) (get_or-set_same r.messages p no_reassembly no_reassembly (omega (arith, f.five))) in
    kept_then major others p (message_blocks (message_at r p)) 0 (omega arith) (omega arith) k
    (kept_service major others p d s not_running k.facts (λ j h l e.
    let q : j ≡ p = sym (place_service j h) ∙ ap place_of e in
    absurd (true≢false (sym l ∙ subst (λ (y : ℕ). (message_at d y).live ≡ false) (sym q) gone))))
