-- `state::ids` meets its contract. Assumes nothing.
use mathlib.Core.Path.{◌∙◌}
use borrow.Author.Rules.{rules}
use Rattle.session.specs.Rows.{no_session_id}
use Rattle.state.specs.Fields.{number_at}
use Rattle.state.specs.Layout.{row_place}
use Rattle.state.proofs.Made.{made}
use Rattle.state.proofs.Rows.{id_as, ids_are}
use Rattle.state.proofs.ids.Goals as goal

pub returns : goal.returns
returns c =
    let s = c.args.state.now in
    made _ (λ i. id_as (number_at s (row_place i) 1)) _ (λ i r q k. search rules) _ no_session_id 8 c.from_fn.ensures.items ∙ ids_are s
