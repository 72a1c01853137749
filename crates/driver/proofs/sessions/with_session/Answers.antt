-- `driver::sessions::with_session` meets its contract: the parts of a row, one behind the other; row and owners are those of the state.
-- Assumes nothing.
use Rattle.std.proofs.Common.{ℕ, leb, List, [], ◌∷◌, ap}
use Rattle.numbers.specs.Bytes.{pick}
use Rattle.lines.specs.Decimal.{decimal_of}
use Rattle.text.proofs.Texts.{then, renamed}
use Rattle.driver.proofs.States.{session_read}
use Rattle.driver.proofs.sessions.with_session.Goals as goal

pub returns : goal.returns
returns c =
    let a = c.args in
    let held = renamed (ap (λ (n : ℕ). 44 ∷ decimal_of n) c.held.ensures.0) c.number-held.ensures in
    let messages = then held (then c.byte.ensures c.with_messages.ensures) in
    let said = then c.with_numbers-numbers.ensures (then c.with_services-services.ensures messages) in
    let mark : List ℕ = pick (leb a.text.end a.start) [] (59 ∷ []) in
    session_read mark a.link.now a.i.number c.row_at-row.ensures c.owners.ensures (then c.joint.ensures said)
