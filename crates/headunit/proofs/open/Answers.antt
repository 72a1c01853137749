-- `headunit::open` meets its contract.
-- Assumes nothing.
use Prim.Native.Nat.{ℕ}
use mathlib.Core.Path.{◌≡◌, refl, ◌∙◌, ap, sym}
use mathlib.Core.Bool.{true, false}
use Rattle.std.specs.Prelude.{Option, Result, is_some}
use Rattle.numbers.proofs.Laws.{known_bytes}
use Rattle.payload.specs.declared.version.Version.{Version}
use Rattle.payload.specs.declared.reply.Parameter.{Parameter}
use Rattle.link.specs.Call.{wish_of, admits}
use Rattle.rules.specs.Parts.{lowest_unused}
use Rattle.rules.proofs.Ids.{lowest_ids}
use Rattle.state.specs.Layout.{link_of}
use Rattle.state.specs.Calls.{left_by}
use Rattle.state.specs.declared.RowNumber.{RowNumber}
use Rattle.headunit.specs.Unit.{wished}
use Rattle.headunit.proofs.Laws.{opening_rejected, opening_refused, opening_granted, wished_least}
use Rattle.headunit.proofs.Parts.{state_left}
use Rattle.headunit.proofs.open.Goals as goal

-- what is wished, by the link's own version
known : {x : Result (Option Version) Parameter} {n m : ℕ} (payload : _) → x ≡ wished (wish_of n payload) → n ≡ m → wished (wish_of m payload) ≡ x
known payload e f = sym (e ∙ ap (λ (k : ℕ). wished (wish_of k payload)) f)

pub opened-requires : goal.opened-requires
opened-requires c = let a = c.args in
    let l = link_of a.link.now in
    let p = c.requires in
    let seen = p.1.1 in
    let is = known a.payload.now c.wish_of.ensures c.major-major.ensures ∙ c.in-Ok.is in (
      (c.free_row.ensures l seen).first c.in-Some.i c.in-Some.is,
      (
        c.lowest_free-id.ensures ∙ ap (lowest_unused 255 1) seen.names ∙ lowest_ids 255 1 l.rows,
        (p.0, (p.1.0, λ v e. wished_least l.version.major a.payload.now (wish_of l.version.major a.payload.now) c.in-Ok.wish refl is v e)),
      ),
    )

pub returns-in-Err : goal.returns-in-Err
returns-in-Err c = let a = c.args in
    let s = a.link.now in
    let l = link_of s in
    let is = known a.payload.now c.wish_of.ensures c.major-major.ensures ∙ c.in-Err.is in
    λ p. state_left s (c.told-link, known_bytes s c.fits-link) _ p _ (c.not_opened.ensures l p a.grant c.major-major.ensures
    ∙ sym (opening_rejected l p a.out.now a.consumed a.grant (wish_of l.version.major a.payload.now) c.in-Err.rejected is))

pub returns-in-None : goal.returns-in-None
returns-in-None c = let a = c.args in
    let s = a.link.now in
    let l = link_of s in
    let is = known a.payload.now c.wish_of.ensures c.major-major.ensures ∙ c.in-Ok.is in
    let full : admits l.rows a.grant ≡ false = sym (c.free_row.ensures l c.requires.1.1).admitted ∙ ap (λ (x : Option RowNumber). is_some x) c.in-None.is in
    λ p. state_left s (c.told-link, known_bytes s c.fits-link) _ p _ (c.not_opened-in-None.ensures l p a.grant c.major-major.ensures
    ∙ sym (opening_refused l p a.out.now a.consumed a.grant (wish_of l.version.major a.payload.now) c.in-Ok.wish is full))

pub returns-in-Some : goal.returns-in-Some
returns-in-Some c = let a = c.args in
    let s = a.link.now in
    let l = link_of s in
    let is = known a.payload.now c.wish_of.ensures c.major-major.ensures ∙ c.in-Ok.is in
    let fits : admits l.rows a.grant ≡ true = sym (c.free_row.ensures l c.requires.1.1).admitted ∙ ap (λ (x : Option RowNumber). is_some x) c.in-Some.is in
    λ p. c.opened.ensures p ∙ ap (left_by s) (sym (opening_granted l p a.out.now a.consumed a.grant (wish_of l.version.major a.payload.now) c.in-Ok.wish is fits))
