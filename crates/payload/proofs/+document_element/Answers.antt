-- `payload::document` and `payload::element`, which call each other, meet their contracts: one lemma of proofs/Rest for each return.
-- A nested document leaves the tags as they were, so that an element need not hand them up. Assumes nothing.
use mathlib.Core.Path.{refl, ◌∙◌, sym}
use native.Mathlib.Omega.{arith}
use Rattle.std.proofs.lemmas.Result.{err_from_is_err_and}
use Rattle.payload.proofs.Within.{document_in}
use Rattle.payload.proofs.Rest.{rest_used_up, rest-closes, rest-early, rest-fault, rest-next, document_deep, document-wrong, document-elements, value_inside, element_bad, element-nested, element-fault, element-plain, element-malformed, some_place, no_place}
use Rattle.payload.proofs.TopLevel.{document_keeps}
use Rattle.payload.proofs.+document_element.Goals as goal

pub document-returns-then-too_deep : goal.document-returns-then-too_deep
document-returns-then-too_deep t c = document_deep _ _ _ _ _ _ (omega arith)

pub document-returns-then-end-at-lt4 : goal.document-returns-then-end-at-lt4
document-returns-then-end-at-lt4 t c = document-wrong _ _ _ _ _ _ refl _ (λ z. omega arith) (λ p q r. omega arith)

pub document-returns-then-size-lt5 : goal.document-returns-then-size-lt5
document-returns-then-size-lt5 t c = document-wrong _ _ _ _ _ _ c.size_at-size.ensures _ (λ z. omega arith) (λ p q r. omega arith)

pub document-loop-place-init : goal.document-loop-place-init
document-loop-place-init t c = (
  omega arith,
  record { bound = _; suffices = omega arith; says = document-elements _ _ _ _ _ _ c.size_at-size.ensures _ (λ z. omega arith) (omega arith) (omega arith) (omega arith) },
)

pub document-returns-then-place-last : goal.document-returns-then-place-last
document-returns-then-place-last t c = rest-closes c.loop-place.invariant.1 c.loop-place-test.true c.if-bytes-place-eq0.true c.if-place-last.true

pub document-returns-then-bytes-place-eq0 : goal.document-returns-then-bytes-place-eq0
document-returns-then-bytes-place-eq0 t c = rest-early c.loop-place.invariant.1 c.loop-place-test.true c.if-bytes-place-eq0.true (λ z. omega arith)

pub document-loop-place-smaller : goal.document-loop-place-smaller
document-loop-place-smaller t c =
    let n = rest-next c.loop-place.invariant.1 c.loop-place-test.true c.if-bytes-place-eq0.false c.element.ensures.result_value (document_in _ _ _) c.in_ok-next.was c.with_tag-so_far.ensures in
    omega (arith, n.0)

pub document-loop-place-preserved : goal.document-loop-place-preserved
document-loop-place-preserved t c =
    let n = rest-next c.loop-place.invariant.1 c.loop-place-test.true c.if-bytes-place-eq0.false c.element.ensures.result_value (document_in _ _ _) c.in_ok-next.was c.with_tag-so_far.ensures in
    (omega (arith, n.0), n.2)

pub document-returns-in_err-next : goal.document-returns-in_err-next
document-returns-in_err-next t c =
    let p = err_from_is_err_and c.from_residual.result c.from_residual.ensures.1 in
    rw (p.1, p.2) (rest-fault c.loop-place.invariant.1 c.loop-place-test.true c.if-bytes-place-eq0.false c.element.ensures.result_value c.in_err-next.was)

pub document-returns : goal.document-returns
document-returns t c = rest_used_up c.loop-place.invariant.1 c.loop-place-test.false

pub element-returns-in_err-kind-clause-result_value : goal.element-returns-in_err-kind-clause-result_value
element-returns-in_err-kind-clause-result_value t c =
    let p = err_from_is_err_and c.from_residual.result c.from_residual.ensures.1 in
    rw (p.1, p.2) (element_bad _ _ _ _ _ _ (sym c.front.ensures ∙ c.in_err-kind.was))

pub element-document-requires : goal.element-document-requires
element-document-requires t c = omega (arith, value_inside _ _ _ _ _ (sym c.front.ensures ∙ c.in_ok-kind.was))

pub element-plain-requires : goal.element-plain-requires
element-plain-requires t c = omega (arith, value_inside _ _ _ _ _ (sym c.front.ensures ∙ c.in_ok-kind.was))

pub element-returns-in_err-next-clause-result_value : goal.element-returns-in_err-next-clause-result_value
element-returns-in_err-next-clause-result_value t c =
    let p = err_from_is_err_and c.from_residual-in_err-next.result c.from_residual-in_err-next.ensures.1 in
    rw (p.1, p.2) (element-fault _ _ _ _ _ _ (sym c.front.ensures ∙ c.in_ok-kind.was) (sym c.is_nested.ensures ∙ c.if-is_nested.true) (sym c.document.ensures ∙ c.in_err-next.was))

pub element-returns-in_err-next-2-clause-result_value : goal.element-returns-in_err-next-2-clause-result_value
element-returns-in_err-next-2-clause-result_value t c =
    let p = err_from_is_err_and c.from_residual-in_err-next-2.result c.from_residual-in_err-next-2.ensures.1 in
    let m = no_place _ c.ok_or.ensures.value c.in_err-next-2.was in
    rw (p.1, p.2, m.1) (element-malformed _ _ _ _ _ _ (sym c.front.ensures ∙ c.in_ok-kind.was) (sym c.is_nested.ensures ∙ c.if-is_nested.false) (sym c.plain.ensures ∙ m.0))

pub element-returns-in_ok-next-clause-result_value : goal.element-returns-in_ok-next-clause-result_value
element-returns-in_ok-next-clause-result_value t c =
    element-nested _ _ _ _ _ _ (sym c.front.ensures ∙ c.in_ok-kind.was) (sym c.is_nested.ensures ∙ c.if-is_nested.true) (document_keeps _ _) (sym c.document.ensures ∙ c.in_ok-next.was)

pub element-returns-in_ok-next-clause-step_in : goal.element-returns-in_ok-next-clause-step_in
element-returns-in_ok-next-clause-step_in t c = (value_inside _ _ _ _ _ (sym c.front.ensures ∙ c.in_ok-kind.was)).1

pub element-returns-in_ok-next-2-clause-result_value : goal.element-returns-in_ok-next-2-clause-result_value
element-returns-in_ok-next-2-clause-result_value t c =
    element-plain _ _ _ _ _ _ (sym c.front.ensures ∙ c.in_ok-kind.was) (sym c.is_nested.ensures ∙ c.if-is_nested.false) (sym c.plain.ensures ∙ some_place _ c.ok_or.ensures.value c.in_ok-next-2.was)

pub element-returns-in_ok-next-2-clause-step_in : goal.element-returns-in_ok-next-2-clause-step_in
element-returns-in_ok-next-2-clause-step_in t c = (value_inside _ _ _ _ _ (sym c.front.ensures ∙ c.in_ok-kind.was)).1
