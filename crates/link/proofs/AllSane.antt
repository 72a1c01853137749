-- Every call leads from a state within the rules to another one: by the cases of the call, each from its own law.
-- Assumes nothing.
use mathlib.Core.Path.{◌≡◌, refl, sym, ◌∙◌}
use Prim.Native.Nat.{ℕ, ◌-◌, ◌≤◌}
use mathlib.Core.Logic.{⊎_elim}
use mathlib.Core.Bool.{true}
use mathlib.Core.List.{List}
use lib.Dec.{leb}
use lib.ListN.{length, length-set}
use borrow.Author.Tests.{leb-true}
use Rattle.numbers.specs.Bytes.{part}
use Rattle.numbers.proofs.Choices.{and_both}
use Rattle.frame.proofs.Laws.{fault_none}
use Rattle.frame.proofs.Answers.{frame_sound}
use Rattle.payload.specs.declared.version.Version.{Version}
use Rattle.link.specs.declared.Link.{Link}
use Rattle.link.specs.State.{index_of, version_allowed, settings_fit}
use Rattle.link.specs.Call.{After}
use Rattle.link.specs.Book.{Request, Command, call, Seen}
use Rattle.link.specs.Claim.{State, state_after}
use Rattle.link.specs.Pages.{Sane}
use Rattle.link.proofs.Shown.{is_open_lem}
use Rattle.link.proofs.Table.{five_set, ids_set, lowest_between}
use Rattle.link.proofs.Decisions.{decided}
use Rattle.link.proofs.Calls.{new_row, admitted, guard_is, Called, short, refused, nacked, acked, in_row, called}
use Rattle.link.proofs.RowFacts.{open_facts}
use Rattle.link.proofs.TableRules.{session-sane}
use Rattle.link.proofs.OpeningRules.{old_allowed, new_allowed, opened_rules}

major_some : (v : Version) (mtu : ℕ) → settings_fit v mtu ≡ true → 1 ≤ v.major
unfolding settings_fit
major_some v mtu e = leb-true 1 v.major (and_both (leb 1 v.major) _ e).0

module _ (s : State) (q : Request) (k : Sane s) where
  call_sane : {x : Seen} {w : After} → Called s.link s.pool q.input q.out q.grant x w → Sane (record { link = w.link; pool = w.pool })
  call_sane short = k
  call_sane (refused b) = k
  call_sane nacked = k
  call_sane (acked {v = v} t a u) =
      let l : Link = s.link in
      let allowed : version_allowed l.version.major v ≡ true
      = ⊎_elim (λ e. rw e (old_allowed l.version.major (major_some l.version l.mtu k.settings))) (λ e. rw (e.0, e.1) new_allowed) u in
      record {
        rows = length-set l.rows (index_of 0 l.rows) (new_row l q.grant v) ∙ k.rows;
        five = five_set l.rows (index_of 0 l.rows) (new_row l q.grant v) k.five refl;
        ids = ids_set l.rows (index_of 0 l.rows) (new_row l q.grant v) (admitted l.rows q.grant a).0 (lowest_between l.rows k.rows).1 k.ids;
        owners = k.owners;
        pool = k.pool;
        settings = k.settings;
        rules = opened_rules l q.grant v k.rows k.five k.rules (sym (guard_is s q.grant k) ∙ t) a allowed;
      }
  call_sane (in_row h e f t b a) =
      let i : ℕ = h.session.0 in
      let n : ℕ = index_of i s.link.rows in
      let payload : List ℕ = part q.input e.start (e.end - e.start) in
      session-sane s i n k (open_facts s i k (is_open_lem s i a)) h e.consumed payload q.out q.grant (fault_none h (frame_sound q.input h e f))
      (decided s.link n h payload (length q.out))

-- the law `sane` of one call
pub sane : (s : State) (c : Command) → Sane s → Sane (state_after s c)
sane s (call q) k = call_sane s q k (called s.link s.pool q.input q.out q.grant)
