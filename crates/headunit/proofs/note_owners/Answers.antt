-- `headunit::note_owners` meets its contract.
-- Assumes nothing.
use mathlib.Core.Path.{sym}
use mathlib.Core.Logic.{⊎_elim}
use Rattle.state.proofs.Stored.{owners_stay}
use Rattle.headunit.proofs.note_owners.Goals as goal

pub returns-in-Refuse : goal.returns-in-Refuse
returns-in-Refuse c = let stay = sym (owners_stay c.args.link.now c.told-link) in
    ⊎_elim (λ x. rw x.1 stay) (⊎_elim (λ e. rw e stay) (⊎_elim (λ e. rw e stay) (λ e. rw e stay))) c.in-Refuse.is

pub returns-in-NoStart : goal.returns-in-NoStart
returns-in-NoStart c = let stay = sym (owners_stay c.args.link.now c.told-link) in
    ⊎_elim (λ e. rw e stay) (⊎_elim (λ x. rw x.1 stay) (⊎_elim (λ e. rw e stay) (λ e. rw e stay))) c.in-NoStart.is
