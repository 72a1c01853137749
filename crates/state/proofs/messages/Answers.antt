-- `state::messages` meets its contract. Assumes nothing.
use borrow.Author.Rules.{rules}
use Rattle.session.specs.Rows.{no_reassembly}
use Rattle.state.specs.Layout.{message_of}
use Rattle.state.proofs.Made.{made}
use Rattle.state.proofs.messages.Goals as goal

pub returns : goal.returns
returns c = made _ (λ place. message_of c.args.row.now place) _ (λ i r q k. search rules) _ no_reassembly 5 c.from_fn.ensures.items
