-- `sender::Sendable::put_first` meets its contract: the two numbers fill the eight bytes.
-- Assumes nothing.
use mathlib.Core.Path.{◌≡◌, ◌∙◌, refl, ap}
use Prim.Native.Nat.{ℕ}
use mathlib.Core.List.{List, ◌++◌}
use lib.ListN.{length}
use Rattle.numbers.specs.Numbers.{bytes_be}
use Rattle.frame.specs.Write.{put_of}
use Rattle.sender.specs.Sender.{plan, bytes_of}
use Rattle.sender.proofs.Laws.{first_fault, totals_put, totals_length}
use Rattle.sender.proofs.Sendable.put_first.Goals as goal

pub put-requires : goal.put-requires
put-requires c =
    let a = c.args in
    let e : c.put_be4-2.new.out ≡ bytes_be 4 a.total ++ bytes_be 4 a.count = totals_put a.total a.count _ _ _ refl c.put_be4.ensures c.put_be4-2.ensures in
    let n : length c.put_be4-2.new.out ≡ 8 = ap length e ∙ totals_length a.total a.count in
    rw n (first_fault a.self.outgoing a.self.ready)

pub returns : goal.returns
returns c =
    let a = c.args in
    let e : c.put_be4-2.new.out ≡ bytes_be 4 a.total ++ bytes_be 4 a.count = totals_put a.total a.count _ _ _ refl c.put_be4.ensures c.put_be4-2.ensures in
    c.put.ensures ∙ ap (λ (l : List ℕ). put_of (bytes_of (plan a.self.outgoing 2 0 l)) a.out.now) e
