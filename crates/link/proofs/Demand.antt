-- Demand 3, proved: the laws about one call, gathered, and the theorem about every list of calls.
-- Assumes nothing.
use Prim.Native.Nat.{ℕ}
use mathlib.Core.Path.{◌≡◌}
use mathlib.Core.Bool.{true}
use mathlib.Core.List.{List}
use lib.Dec.{eqb}
use lib.ListN.{length}
use borrow.Author.Tests.{eqb-true}
use Rattle.numbers.proofs.Choices.{split}
use Rattle.payload.specs.declared.version.Version.{Version}
use Rattle.link.specs.State.{settings_fit, created_link}
use Rattle.link.specs.Book.{Command}
use Rattle.link.specs.Claim.{state_after_all, created, DemandThree}
use Rattle.link.specs.Pages.{Sane}
use Rattle.link.proofs.Lists.{Laws, all_sane, demanded}
use Rattle.link.proofs.AllSane.{sane}
use Rattle.link.proofs.BookAfter.{told}
use Rattle.link.proofs.Settings.{settings}
use Rattle.link.proofs.Others.{other_row, other_page}
use Rattle.link.proofs.Answers.{same_answer}
use Rattle.link.proofs.SameAfter.{same_after}
use Rattle.link.proofs.Opens.{opens_row}
use Rattle.link.proofs.Shown.{shown}
use Rattle.link.proofs.Holdings.{holds}
use Rattle.link.proofs.AllBlocks.{all_blocks}
use Rattle.link.proofs.Deliveries.{hands}
use Rattle.link.proofs.Created.{created_sane, created_book}
use Rattle.link.proofs.Barred.{other_pool, other_settings, demanded_barred}

-- every law about one call
pub laws : Laws
laws = record {
  sane = sane;
  told = told;
  settings = settings;
  other_row = other_row;
  other_page = other_page;
  same_answer = same_answer;
  same_after = same_after;
  opens = opens_row;
  shown = λ s i k. shown s i;
  holds = holds;
  all_blocks = all_blocks;
  hands = hands;
}

-- the theorem
pub demand_three : DemandThree
demand_three v mtu pool cs =
    split (settings_fit v mtu)
    (λ f. split (eqb (length pool) 65536)
    (λ l. demanded laws (created v mtu pool) (created_sane v mtu pool f (eqb-true (length pool) 65536 l)) (created_book v mtu pool) cs)
    (λ l. demanded_barred v mtu pool (other_pool (created_link v mtu) (length pool) l) cs))
    (λ f. demanded_barred v mtu pool (other_settings (created_link v mtu) (length pool) f) cs)

-- every state after a list keeps the state rules
pub rules_kept : (v : Version) (mtu : ℕ) (pool : List ℕ) → settings_fit v mtu ≡ true → length pool ≡ 65536 → (cs : List Command) → Sane (state_after_all (created v mtu pool) cs)
rules_kept v mtu pool f l cs = all_sane laws (created v mtu pool) cs (created_sane v mtu pool f l)
