-- `headunit::call` meets its contract.
-- Assumes nothing.
use mathlib.Core.Path.{◌≡◌, ap, ◌∙◌, sym}
use mathlib.Core.Bool.{false}
use mathlib.Core.List.{List}
use Prim.Native.Nat.{ℕ}
use lib.ListN.{length}
use borrow.Author.Tests.{ne_eqb, not-true, not-false}
use Rattle.link.specs.declared.Answer.TheVariants as answer
use Rattle.link.specs.declared.Grant.{Grant}
use Rattle.state.specs.Layout.{link_of}
use Rattle.state.specs.Calls.{is_state, call_in, Told, told_of, left, left_by}
use Rattle.headunit.proofs.Laws.{short_is, read_refused, read_frame, out_of_range}
use Rattle.headunit.proofs.Parts.{Ready, state_left, called_in}
use Rattle.headunit.proofs.call.Goals as goal

-- the lent bytes are those of the array that the code makes of them
lent : (s link p input o : List ℕ) (g : Grant) {x : Told} → s ≡ link → x ≡ told_of (call_in s p input o g) → x ≡ told_of (call_in link p input o g)
lent s link p input o g same e = e ∙ ap (λ (y : List ℕ). told_of (call_in y p input o g)) same

pub returns-in_default : goal.returns-in_default
unfolding call_in is_state
returns-in_default c = rw (ne_eqb (length c.args.link.now) 2688 (λ z. c.in_default.ensures.cases z))

no_state : (s p input o : List ℕ) (g : Grant) → is_state s ≡ false → told_of (left (answer.Refused 10) s p o) ≡ told_of (call_in s p input o g)
unfolding call_in
no_state s p input o g e = rw e

pub returns-then-not-is_state : goal.returns-then-not-is_state
returns-then-not-is_state c = let a = c.args in
    let s = c.in-Some.state.now in
    lent s a.link.now a.pool.now a.input.now a.out.now a.grant c.in-Some.ensures.cases.same (no_state s a.pool.now a.input.now a.out.now a.grant (sym c.is_state.ensures.0 ∙ c.if-not-is_state.true))

pub returns-then-not-seen : goal.returns-then-not-seen
returns-then-not-seen c = let a = c.args in
    let s = c.in-Some.state.now in
    let same = c.in-Some.ensures.cases.same in
    let ready : Ready s = (ap length same ∙ c.in-Some.ensures.cases.long, c.is_state.ensures.1) in
    let is = sym c.is_state.ensures.0 ∙ c.if-not-is_state.false in
    lent s a.link.now a.pool.now a.input.now a.out.now a.grant same (ap told_of (called_in s a.pool.now a.input.now a.out.now a.grant is (state_left s ready _ a.pool.now a.out.now
    (out_of_range (link_of s) a.pool.now a.input.now a.out.now a.grant (sym c.survey-seen.ensures.0 ∙ not-true c.survey-seen.result.fit c.if-not-seen.true)))))

pub take-requires : goal.take-requires
take-requires c = let fit = not-false c.survey-seen.result.fit c.if-not-seen.false in
    (sym c.read.ensures ∙ c.in-Frame.is, (sym c.survey-seen.ensures.0 ∙ fit, c.survey-seen.ensures.1.1.1 fit))

pub returns-in-Short : goal.returns-in-Short
returns-in-Short c = let a = c.args in
    let s = c.in-Some.state.now in
    let same = c.in-Some.ensures.cases.same in
    let ready : Ready s = (ap length same ∙ c.in-Some.ensures.cases.long, c.is_state.ensures.1) in
    let is = sym c.is_state.ensures.0 ∙ c.if-not-is_state.false in
    let fit = sym c.survey-seen.ensures.0 ∙ not-false c.survey-seen.result.fit c.if-not-seen.false in
    lent s a.link.now a.pool.now a.input.now a.out.now a.grant same (ap told_of (called_in s a.pool.now a.input.now a.out.now a.grant is (state_left s ready (answer.Short c.in-Short.needed) a.pool.now a.out.now
    (short_is (link_of s) a.pool.now a.input.now a.out.now a.grant c.in-Short.needed fit (sym c.read.ensures ∙ c.in-Short.is)))))

pub returns-in-Refused : goal.returns-in-Refused
returns-in-Refused c = let a = c.args in
    let s = c.in-Some.state.now in
    let same = c.in-Some.ensures.cases.same in
    let ready : Ready s = (ap length same ∙ c.in-Some.ensures.cases.long, c.is_state.ensures.1) in
    let is = sym c.is_state.ensures.0 ∙ c.if-not-is_state.false in
    let fit = sym c.survey-seen.ensures.0 ∙ not-false c.survey-seen.result.fit c.if-not-seen.false in
    lent s a.link.now a.pool.now a.input.now a.out.now a.grant same (ap told_of (called_in s a.pool.now a.input.now a.out.now a.grant is (state_left s ready _ a.pool.now a.out.now
    (read_refused (link_of s) a.pool.now a.input.now a.out.now a.grant _ fit (sym c.read.ensures ∙ c.in-Refused.is)))))

pub returns-in-Frame : goal.returns-in-Frame
returns-in-Frame c = let a = c.args in
    let s = c.in-Some.state.now in
    let same = c.in-Some.ensures.cases.same in
    let ready : Ready s = (ap length same ∙ c.in-Some.ensures.cases.long, c.is_state.ensures.1) in
    let is = sym c.is_state.ensures.0 ∙ c.if-not-is_state.false in
    let fit = sym c.survey-seen.ensures.0 ∙ not-false c.survey-seen.result.fit c.if-not-seen.false in
    lent s a.link.now a.pool.now a.input.now a.out.now a.grant same (ap told_of (called_in s a.pool.now a.input.now a.out.now a.grant is (c.take.ensures
    ∙ ap (left_by s) (read_frame (link_of s) a.pool.now a.input.now a.out.now a.grant _ _ fit (sym c.read.ensures ∙ c.in-Frame.is)))))
