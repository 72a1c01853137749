-- `blocks::claim_singly` meets its contract. The loop's invariant is `Claiming`; each search that finds a block is a turn, and each end is a law.
-- Assumes nothing.
use mathlib.Core.Path.{◌≡◌, refl}
use Prim.Native.Nat.{ℕ, ◌+◌, ◌-◌, ◌≤◌}
use mathlib.Core.List.{List, ◌++◌}
use lib.ListN.{length, take, drop}
use Rattle.blocks.specs.Map.{claimed, looked_for}
use native.Mathlib.Omega.{arith}
use Rattle.blocks.proofs.Search.{Claiming, claiming_done, claiming_found, claiming_lost}
use Rattle.blocks.proofs.Turns.{found_in, found_none}
use Rattle.blocks.proofs.claim_singly.Goals as goal

-- at first so many are wanted as are to be claimed
begun : (owner count before first : ℕ) (map : List ℕ) {wanted : ℕ} → wanted ≡ count → first ≤ length map → before ≤ first
    → Claiming owner (take first map ++ claimed owner count (drop first map)) (before + looked_for count (drop first map)) map wanted before first
begun owner count before first map e h g = rw e (record { inside = h; counted = g; taken = refl; seen = refl })

pub loop-init : goal.loop-init
loop-init c = begun _ c.args.count _ _ _ (omega arith) (omega arith) (omega arith)

pub seek-found-requires : goal.seek-found-requires
seek-found-requires c = omega (arith, c.loop.invariant.counted)

-- no block is left
pub returns-in_default : goal.returns-in_default
returns-in_default c =
    let lost = claiming_lost c.loop.invariant refl c.seek-found.ensures.1 (found_none _ c.loop.map c.seek-found.ensures.0 c.in_default.is) (omega arith) in
    record { value = lost.0; map_after = lost.1 }

pub bounds-map-block : goal.bounds-map-block
bounds-map-block c = (found_in _ c.loop.map c.seek-found.ensures.0 c.in-Some.is).1

pub overflow_add-from : goal.overflow_add-from
overflow_add-from c = record { fits = omega (arith, (found_in _ c.loop.map c.seek-found.ensures.0 c.in-Some.is).1) }

pub loop-preserved : goal.loop-preserved
loop-preserved c =
    let found = found_in _ c.loop.map c.seek-found.ensures.0 c.in-Some.is in
    let z : c.args.count - (c.loop.counter + 1) ≡ c.args.count - c.loop.counter - 1 = omega arith in
    rw z (claiming_found c.loop.invariant found.0 c.seek-found.ensures.1 (omega (arith, found.1)) (omega arith) refl)

pub returns : goal.returns
returns c =
    let done = claiming_done c.loop.invariant (omega arith) in
    record { value = done.0; map_after = done.1 }
