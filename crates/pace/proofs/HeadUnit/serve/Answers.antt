-- Both runs are those of the script.
use Rattle.pace.proofs.Laws.{script_served}
use Rattle.pace.proofs.HeadUnit.serve.Goals as goal

pub returns : goal.returns
returns c =
    let a = c.args in
    let k = a.self.now in
    script_served a.script.now
    c.be4-size.ensures
    c.be4.ensures
    c.min-first.ensures
    c.be4-2.ensures
    c.min-again.ensures
    c.be4-calls.ensures
    c.min-start.ensures
    c.min-middle.ensures
    c.min-end.ensures
    k.state
    k.pool
    k.out
    c.start.ensures
    c.count_places.ensures
    c.go_over.ensures
    c.go_over-2.ensures
