-- What fits into the buffer is all that makes a difference.
use Rattle.std.proofs.Common.{◌≡◌, ℕ, ◌++◌, length, take, ap, ◌∙◌, arith}
use Rattle.text.proofs.Lists.{put_front}
use Rattle.bench.specs.Pieces.{kept_in}
use Rattle.bench.proofs.Kept.add.Goals as goal

pub returns : goal.returns
returns c =
    let k = c.args.self.now in
    let e = c.put-self.ensures in
    let room : length k.chars ≡ 3001 = omega arith in
    ap (take c.put-self.result) e.buffer_after
    ∙ put_front k.chars c.args.part.now k.filled e.value
    ∙ ap (λ (n : ℕ). take n (kept_in k ++ c.args.part.now)) room
