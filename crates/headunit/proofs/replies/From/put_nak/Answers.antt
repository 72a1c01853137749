-- `headunit::replies::From::put_nak` meets its contract.
-- Assumes nothing.
use mathlib.Core.Path.{refl}
use Prim.Native.Nat.{◌≤◌}
use lib.ListN.{length, replicate}
use native.Mathlib.Omega.{arith}
use Rattle.payload.specs.Reply.{nak_payload, name_of}
use Rattle.headunit.proofs.Laws.{payload_done, nak_short}
use Rattle.headunit.proofs.replies.From.put_nak.Goals as goal

pub unwrap-size-requires : goal.unwrap-size-requires
unwrap-size-requires c =
    let bytes = nak_payload (name_of c.in-Some.parameter) in
    let short : length bytes ≤ 49 = nak_short c.in-Some.parameter in
    rw (payload_done bytes (replicate 64 0) (omega arith) c.write_nak.ensures).0 refl
