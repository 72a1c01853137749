-- `state::message_at` meets its contract.
-- Assumes nothing.
use Prim.Native.Nat.{ℕ}
use mathlib.Core.Path.{ap, ◌∙◌}
use mathlib.Core.List.{List}
use Rattle.state.specs.Layout.{message_of}
use Rattle.state.proofs.Rows.{message_in_lem}
use Rattle.state.proofs.message_at.Goals as goal

pub returns : goal.returns
returns c =
    let a = c.args in
    c.message.ensures ∙ ap (λ (t : List ℕ). message_of t a.place) c.row_bytes.ensures ∙ message_in_lem _ a.place c.requires
