-- `rules::survey` meets its contract.
-- Assumes nothing.
use Prim.Native.Nat.{◌+◌}
use mathlib.Core.Path.{◌≡◌, refl, ap, ◌∙◌}
use lib.Dec.{eqb}
use Rattle.blocks.specs.Map.{free_in}
use Rattle.link.specs.State.{settings_fit}
use Rattle.state.specs.Layout.{link_of}
use Rattle.state.proofs.Steps.{owners_length}
use Rattle.rules.specs.Parts.{ids_of, distinct_in}
use Rattle.rules.proofs.Counts.{overview_told}
use borrow.Author.Rules.{rules}
use Rattle.rules.proofs.survey.Goals as goal

pub returns : goal.returns
returns c =
    let a = c.args in
    let l = link_of a.link.now in
    let o = c.owners.ensures in
    let s = c.sum_rows-sums.ensures in
    let whole = owners_length a.link.now c.told-link in
    let names : c.ids-ids.result ≡ ids_of l.rows = c.ids-ids.ensures in
    let settings : c.settings_fit.result ≡ settings_fit l.version l.mtu
    = c.settings_fit.ensures ∙ rw (c.version-version.ensures, c.mtu.ensures) in
    let free : c.rest_free-rest.result ≡ eqb (c.sum_rows-sums.result.held + free_in l.owners) 256 = c.rest_free-rest.ensures ∙ rw o in
    let distinct = c.distinct.ensures ∙ ap distinct_in names in
    overview_told l a.pool a.grant _ _ _ whole s settings c.grant_fits.ensures distinct free names refl refl (search rules)
