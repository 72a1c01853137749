-- `headunit::decide` meets its contract.
-- Assumes nothing.
use Prim.Native.Nat.{ℕ, ◌-◌}
use mathlib.Core.Path.{refl, ap, ◌∙◌}
use native.Mathlib.Omega.{arith}
use Rattle.numbers.specs.Bytes.{part}
use Rattle.numbers.specs.Numbers.{value_be}
use Rattle.session.specs.declared.Reassembly.{Reassembly}
use Rattle.session.specs.Rows.{no_row, message_at}
use Rattle.session.specs.Decide.{share_of, first_of, next_for}
use Rattle.state.specs.Layout.{row_in, link_of}
use Rattle.state.proofs.Rows.{row_of_link}
use Rattle.headunit.proofs.Parts.{decide_barred, decide-control, decide-single, decide-first, decide-next}
use Rattle.headunit.proofs.decide.Goals as goal

pub returns-in-Err : goal.returns-in-Err
returns-in-Err c = let a = c.args in
    let s = a.link.now in
    let r = row_of_link s no_row a.i.number a.i.below in
    decide_barred (link_of s) a.i.number a.header a.payload.now a.room (row_in s a.i.number) r c.in-Err.refusal c.in-Err.ensures.lowest (λ z. omega (arith, c.in-Err.ensures.numbered))

pub returns-in-0 : goal.returns-in-0
returns-in-0 c = let a = c.args in
    let s = a.link.now in
    let r = row_of_link s no_row a.i.number a.i.below in
    decide-control (link_of s) a.i.number a.header a.payload.now a.room (row_in s a.i.number) r 0 c.in_default.ensures.lowest refl c.in-0.is c.control.ensures

pub returns-in-1 : goal.returns-in-1
returns-in-1 c = let a = c.args in
    let s = a.link.now in
    let r = row_of_link s no_row a.i.number a.i.below in
    decide-single (link_of s) a.i.number a.header a.payload.now a.room (row_in s a.i.number) r 0 c.in_default.ensures.lowest refl (λ z. omega (arith, c.in-1.is)) c.in-1.is c.single.ensures

pub returns-in-2 : goal.returns-in-2
returns-in-2 c = let a = c.args in
    let s = a.link.now in
    let r = row_of_link s no_row a.i.number a.i.below in
    decide-first (link_of s) a.i.number a.header a.payload.now a.room (row_in s a.i.number) r 0 c.in_default.ensures.lowest refl (λ z. omega (arith, c.in-2.is)) (λ z. omega (arith, c.in-2.is)) c.in-2.is
    (c.first.ensures ∙ ap (λ (n : ℕ). first_of (row_in s a.i.number) (n - share_of (row_in s a.i.number)) a.header (value_be (part a.payload.now 0 4)) (value_be (part a.payload.now 4 4))) c.requires)

pub returns-in_default-kind : goal.returns-in_default-kind
returns-in_default-kind c = let a = c.args in
    let s = a.link.now in
    let r = row_of_link s no_row a.i.number a.i.below in
    let other = c.in_default-kind in
    decide-next (link_of s) a.i.number a.header a.payload.now a.room (row_in s a.i.number) r 0 c.in_default.ensures.lowest refl (λ z. omega (arith, other)) (λ z. omega (arith, other)) (λ z. omega (arith, other))
    (c.next_for.ensures ∙ ap (λ (m : Reassembly). next_for m a.room a.header) c.message_at.ensures
    ∙ ap (λ (n : ℕ). next_for (message_at (row_in s a.i.number) n) a.room a.header) c.place_of-place.ensures.0)
