-- `headunit::create` meets its contract.
-- Assumes nothing.
use mathlib.Core.Path.{ap, sym, ◌∙◌}
use native.Mathlib.Omega.{arith}
use lib.ListN.{length}
use borrow.Author.Tests.{eq-eqb, ne_eqb}
use Rattle.state.specs.Calls.{made, create_in}
use Rattle.headunit.proofs.Parts.{created_in}
use Rattle.headunit.proofs.create.Goals as goal

pub returns-in_default-clause-created : goal.returns-in_default-clause-created
unfolding create_in
returns-in_default-clause-created c = rw (ne_eqb (length c.args.link.now) 2688 (λ z. c.in_default.ensures.cases z))

pub returns-then-not-settings_fit-clause-created : goal.returns-then-not-settings_fit-clause-created
unfolding create_in
returns-then-not-settings_fit-clause-created c =
    let array = c.in-Some.ensures.cases in
    ap (made 10) array.same ∙ rw (eq-eqb (length c.args.link.now) 2688 array.long, sym c.settings_fit.ensures ∙ c.if-not-settings_fit.true)

pub returns-clause-created : goal.returns-clause-created
returns-clause-created c = let a = c.args in
    created_in a.link.now _ a.version a.mtu c.in-Some.ensures.cases.long (sym c.settings_fit.ensures ∙ c.if-not-settings_fit.false) (omega arith) c.create.ensures
