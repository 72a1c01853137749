-- `rules::look` meets its contract.
-- Assumes nothing.
use mathlib.Core.Path.{◌≡◌, ap, sym, ◌∙◌}
use mathlib.Core.Bool.{true}
use Rattle.frame.specs.declared.SessionId.{SessionId}
use Rattle.link.specs.State.{version_allowed}
use Rattle.state.specs.Layout.{row_of}
use Rattle.rules.specs.Parts.{none_live}
use Rattle.rules.proofs.Quiet.{quiet_free, quiet_open}
use borrow.Author.Rules.{rules}
use borrow.Author.Tests.{eqb-true, eqb-false}
use Rattle.rules.proofs.look.Goals as goal

pub returns-then-not-is_quiet : goal.returns-then-not-is_quiet
returns-then-not-is_quiet c = rw (← c.read_row.ensures) c.look_open.ensures

pub returns-then-eq : goal.returns-then-eq
returns-then-eq c =
    let h = c.head_of-head in
    let a = c.args in
    let none : none_live (row_of a.bytes.now).messages ≡ true = sym c.is_quiet.ensures ∙ c.if-not-is_quiet.false in
    let named : h.result.id.0 ≡ (row_of a.bytes.now).id.0 = ap (λ (id : SessionId). id.0) h.ensures.named in
    quiet_free a.major a.map.now a.i.number (row_of a.bytes.now) none h.result.guarantee h.result.cap h.ensures.granted
    h.ensures.capped (sym named ∙ eqb-true h.result.id.0 0 (sym c.eq.ensures ∙ c.if-eq.true))

pub returns : goal.returns
returns c =
    let h = c.head_of-head in
    let a = c.args in
    let none : none_live (row_of a.bytes.now).messages ≡ true = sym c.is_quiet.ensures ∙ c.if-not-is_quiet.false in
    let named : h.result.id.0 ≡ (row_of a.bytes.now).id.0 = ap (λ (id : SessionId). id.0) h.ensures.named in
    let allowed = c.version_allowed.ensures ∙ ap (version_allowed a.major) h.ensures.settled in
    rw c.from.ensures (quiet_open a.major a.map.now a.i.number (row_of a.bytes.now) none h.result.guarantee h.result.cap
    c.version_allowed.result h.ensures.granted h.ensures.capped allowed (λ e. eqb-false h.result.id.0 0 (sym c.eq.ensures ∙ c.if-eq.false) (named ∙ e))
    (search rules))
