-- `benchline::put_verdict` meets its contract: by the answer's cases. What is written is the front of out, so it has room.
-- Assumes nothing.
use Rattle.std.proofs.Common.{[], ◌∷◌, arith, length-append}
use Rattle.lines.specs.Hex.{hex_of}
use Rattle.lines.proofs.Characters.{length_hex}
use Rattle.benchline.specs.Line.{spaced}
use Rattle.benchline.proofs.Texts.{spaced_most, spaced_service, front_short}
use Rattle.benchline.proofs.put_verdict.Goals as goal

pub returns-in-Acked-clause-upper_bound : goal.returns-in-Acked-clause-upper_bound
returns-in-Acked-clause-upper_bound c =
    let q = c.front-in-Acked.result.now in
    let short = front_short c.in-Acked.count c.args.out.now c.front-in-Acked.ensures in
    omega (arith, c.put_reply.ensures.ends, spaced_most (hex_of q), length_hex q, short)

pub returns-in-Delivered-clause-upper_bound : goal.returns-in-Delivered-clause-upper_bound
returns-in-Delivered-clause-upper_bound c =
    let s = c.in-Delivered.service.0 in
    let q = c.front.result.now in
    let short = front_short c.in-Delivered.count c.args.out.now c.front.ensures in
    let parts = length-append (spaced (hex_of (s ∷ []))) (spaced (hex_of q)) in
    omega (arith, c.put_delivery.ensures.ends, parts, spaced_service s, spaced_most (hex_of q), length_hex q, short)
