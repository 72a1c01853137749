-- `payload::front` meets its contract: each return by the tests that led to it: type, key, tag.
-- Assumes nothing.
use native.Mathlib.Omega.{arith}
use mathlib.Core.Path.{refl, ◌∙◌, sym}
use Rattle.std.proofs.lemmas.Result.{err_from_is_err_and}
use Rattle.payload.proofs.Outcomes.{said, head_type, head-key, head-clash, head-value}
use Rattle.payload.proofs.front.Goals as goal

pub returns-in_err-kind : goal.returns-in_err-kind
returns-in_err-kind c =
    let p = err_from_is_err_and c.from_residual.result c.from_residual.ensures.1 in
    rw (p.1, p.2) (head_type _ _ _ _ _ (sym c.try_from.ensures ∙ c.in_err-kind.was))

pub returns-then-end-stop : goal.returns-then-end-stop
returns-then-end-stop c = head-key _ _ _ _ _ _ (sym c.try_from.ensures ∙ c.in_ok-kind.was) _ c.find-stop.ensures.value (omega arith)

pub returns-then-does_clash : goal.returns-then-does_clash
returns-then-does_clash c =
    head-clash _ _ _ _ _ _ (sym c.try_from.ensures ∙ c.in_ok-kind.was) _ c.find-stop.ensures.value (omega arith) _ c.tag_at-tag.ensures (sym c.does_clash.ensures ∙ said c.does_clash.result c.if-does_clash.true refl)

pub returns : goal.returns
returns c =
    head-value _ _ _ _ _ _ (sym c.try_from.ensures ∙ c.in_ok-kind.was) _ c.find-stop.ensures.value (omega arith) _ c.tag_at-tag.ensures (sym c.does_clash.ensures ∙ said c.does_clash.result c.if-does_clash.false refl)
