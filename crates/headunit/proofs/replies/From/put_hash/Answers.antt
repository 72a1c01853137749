-- `headunit::replies::From::put_hash` meets its contract.
-- Assumes nothing.
use mathlib.Core.Path.{◌∙◌, ap, refl}
use mathlib.Core.List.{List}
use Prim.Native.Nat.{ℕ}
use lib.ListN.{length, replicate}
use native.Mathlib.Omega.{arith}
use Rattle.numbers.specs.Numbers.{bytes_be}
use Rattle.numbers.proofs.Laws.{length_be}
use Rattle.link.specs.Reply.{reply_bytes}
use Rattle.link.proofs.Replies.{reply_infos}
use Rattle.headunit.specs.Unit.{sent_of}
use Rattle.headunit.proofs.Laws.{raw_put}
use Rattle.headunit.proofs.replies.From.put_hash.Goals as goal

pub put-requires : goal.put-requires
put-requires c =
    let hash = c.args.hash in
    let raw = raw_put (replicate 4 0) (bytes_be 4 hash) refl (length_be 4 hash) c.put_be4.ensures in
    (c.requires, (reply_infos.0, omega (arith, ap length raw, length_be 4 hash)))

pub returns : goal.returns
returns c =
    let a = c.args in
    let raw = raw_put (replicate 4 0) (bytes_be 4 a.hash) refl (length_be 4 a.hash) c.put_be4.ensures in
    c.put.ensures ∙ ap (λ (p : List ℕ). sent_of (reply_bytes a.self.version a.self.service 2 a.self.session a.message p) a.out.now) raw
