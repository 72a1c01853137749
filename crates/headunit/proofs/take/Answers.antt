-- `headunit::take` meets its contract.
-- Assumes nothing.
use mathlib.Core.Path.{◌≡◌, refl, ◌∙◌, sym, ap}
use native.Mathlib.Omega.{arith}
use lib.ListN.{length}
use Rattle.numbers.proofs.Laws.{known_bytes}
use Rattle.frame.proofs.ThereAndBack.{payload_length}
use Rattle.link.specs.State.{index_of}
use Rattle.link.proofs.Guards.{guard_settings}
use Rattle.rules.specs.Parts.{index_in}
use Rattle.rules.proofs.Ids.{index_ids}
use Rattle.state.specs.Layout.{link_of}
use Rattle.state.specs.Calls.{left_by}
use Rattle.headunit.proofs.Laws.{frame_small, frame_opens, frame_within, frame_nobody, frame_unknown, serves}
use Rattle.headunit.proofs.Parts.{state_left}
use Rattle.headunit.proofs.take.Goals as goal

pub returns-then-out-lt-LEAST_OUT : goal.returns-then-out-lt-LEAST_OUT
returns-then-out-lt-LEAST_OUT c = let a = c.args in
    let s = a.link.now in
    state_left s (c.told-link, known_bytes s c.fits-link) _ a.pool.now a.out.now (frame_small (link_of s) a.pool.now a.input.now a.out.now a.header a.extent a.grant (omega (arith, c.if-out-lt-LEAST_OUT.true)))

pub open-requires : goal.open-requires
open-requires c = let a = c.args in
    (omega (arith, c.if-out-lt-LEAST_OUT.false), ((guard_settings (link_of a.link.now) (length a.pool.now) a.grant c.requires.1.0).0, c.requires.1.1))

pub returns-then-is_opening : goal.returns-then-is_opening
returns-then-is_opening c = let a = c.args in
    let s = a.link.now in
    c.before.«open».ensures a.pool.now ∙ ap (left_by s) (frame_opens (link_of s) a.pool.now a.input.now a.out.now a.header a.extent a.grant _ (omega (arith, c.if-out-lt-LEAST_OUT.false)) c.payload-payload.ensures (sym c.is_opening.ensures ∙ c.if-is_opening.true) refl)

pub returns-then-header-eq0 : goal.returns-then-header-eq0
returns-then-header-eq0 c = let a = c.args in
    let s = a.link.now in
    state_left s (c.told-link, known_bytes s c.fits-link) _ a.pool.now a.out.now
    (frame_nobody (link_of s) a.pool.now a.input.now a.out.now a.header a.extent a.grant _ (omega (arith, c.if-out-lt-LEAST_OUT.false)) c.payload-payload.ensures (sym c.is_opening.ensures ∙ c.if-is_opening.false) c.if-header-eq0.true)

pub returns-in_default : goal.returns-in_default
returns-in_default c = let a = c.args in
    let s = a.link.now in
    let seen = c.requires.1.1 in
    let id = a.header.session in
    let at : index_in id a.seen.ids ≡ index_of id.0 (link_of s).rows = ap (index_in id) seen.names ∙ index_ids id (link_of s).rows in
    state_left s (c.told-link, known_bytes s c.fits-link) _ a.pool.now a.out.now
    (frame_unknown (link_of s) a.pool.now a.input.now a.out.now a.header a.extent a.grant _ (omega (arith, c.if-out-lt-LEAST_OUT.false)) c.payload-payload.ensures (index_in id a.seen.ids)
    (sym c.is_opening.ensures ∙ c.if-is_opening.false) c.if-header-eq0.false at seen.eight (omega (arith, c.in_default.ensures)))

pub within-requires : goal.within-requires
within-requires c = let a = c.args in
    let l = link_of a.link.now in
    let seen = c.requires.1.1 in
    let id = a.header.session in
    let at : c.in-Some.i.number ≡ index_of id.0 l.rows = c.in-Some.ensures ∙ ap (index_in id) seen.names ∙ index_ids id l.rows in (
      serves l (length a.pool.now) a.grant c.in-Some.i.number a.input.now a.header a.extent a.out.now c.requires.1.0 c.requires.0 at seen.eight c.in-Some.i.below
          c.if-header-eq0.false (omega (arith, c.if-out-lt-LEAST_OUT.false)),
      (ap length c.payload-payload.ensures ∙ payload_length a.input.now a.header a.extent c.requires.0, seen.shares),
    )

pub returns : goal.returns
returns c = let a = c.args in
    let s = a.link.now in
    let seen = c.requires.1.1 in
    let id = a.header.session in
    let at : c.in-Some.i.number ≡ index_of id.0 (link_of s).rows = c.in-Some.ensures ∙ ap (index_in id) seen.names ∙ index_ids id (link_of s).rows in
    c.within.ensures ∙ ap (left_by s) (frame_within (link_of s) a.pool.now a.input.now a.out.now a.header a.extent a.grant _ (omega (arith, c.if-out-lt-LEAST_OUT.false)) c.payload-payload.ensures c.in-Some.i.number
    (sym c.is_opening.ensures ∙ c.if-is_opening.false) c.if-header-eq0.false at seen.eight c.in-Some.i.below refl)

pub invariant_of-shared : goal.invariant_of-shared
invariant_of-shared c = record { bound = c.requires.1.1.bound }
