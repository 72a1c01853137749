-- `blocks::seek` meets its contract. The loop's invariant: the block looked at last is the first one and those passed, what was looked at and what will be are the
-- whole count, and the next free block is the same from the one behind it on as from the first. Assumes nothing.
use Prim.Native.Nat.{ℕ, ◌+◌, ◌<◌, ◌≤◌}
use mathlib.Core.Path.{◌≡◌, refl, sym, ◌∙◌}
use mathlib.Core.Logic.{◌≢◌}
use mathlib.Core.List.{List}
use native.Mathlib.Omega.{arith}
use lib.ListN.{length, drop, get_or}
use Rattle.blocks.specs.Map.{free, looked_for, nth_from}
use Rattle.blocks.proofs.Turns.{find_here, find_not, found_is, found_past, part_length, entry_is}
use Rattle.blocks.proofs.Search.{looked_here, looked_past, looked_end}
use Rattle.blocks.proofs.seek.Goals as goal

-- at a block: a free one, a held one, the end
module _ (map : List ℕ) (at : ℕ) where
  here : get_or map at 0 ≡ free → at < length map → (looked_for 1 (drop at map) ≡ 1) × (nth_from free at 0 map ≡ at)
  here e h = (looked_here map at h e, omega (arith, find_here free 0 map at h e refl))

  past : get_or map at 0 ≢ free → at < length map
      → (looked_for 1 (drop at map) ≡ 1 + looked_for 1 (drop (at + 1) map)) × (nth_from free at 0 map ≡ nth_from free (at + 1) 0 map)
  past e h = (looked_past map at h e, omega (arith, find_not free 0 map at h e))

  end : length map ≤ at → (looked_for 1 (drop at map) ≡ 0) × (length map ≤ nth_from free at 0 map)
  end h = (looked_end map at 1 h, omega arith)

-- block and count, the count first: a search from another block on, or one that does not count the block found, is refused on it
told : {A B : Type 0} → B → A → A × B
told count block = (block, count)

pub returns-then-at-map : goal.returns-then-at-map
returns-then-at-map c =
    let map = c.args.map.now in
    let over = end map c.args.first.0 (omega arith) in
    (found_past _ map (omega (arith, over.1)), omega (arith, over.0))

pub returns-then-map-at-eq-FREE : goal.returns-then-map-at-eq-FREE
returns-then-map-at-eq-FREE c =
    let map = c.args.map.now in
    let entry = here map _ c.if-map-at-eq-FREE.true (omega arith) in
    told (omega (arith, entry.0)) (found_is _ _ map (omega (arith, entry.1)) (omega arith))

pub loop-entry-init : goal.loop-entry-init
loop-entry-init c =
    let entry = past c.args.map.now _ c.if-map-at-eq-FREE.false (omega arith) in
    (omega arith, omega arith, omega (arith, entry.0), omega (arith, entry.1))

pub returns-then-entry-eq-FREE : goal.returns-then-entry-eq-FREE
returns-then-entry-eq-FREE c =
    let l = c.loop-entry in
    let map = c.args.map.now in
    let within : l.at.0 + 1 < length map = omega (arith, part_length map (c.args.first.0 + 1)) in
    let entry = here map (l.at.0 + 1) (sym (entry_is map _ _ (omega arith)) ∙ c.if-entry-eq-FREE.true) within in
    told (omega (arith, entry.0)) (found_is _ _ map (omega (arith, entry.1)) within)

pub loop-entry-preserved : goal.loop-entry-preserved
loop-entry-preserved c =
    let l = c.loop-entry in
    let map = c.args.map.now in
    let within : l.at.0 + 1 < length map = omega (arith, part_length map (c.args.first.0 + 1)) in
    let entry = past map (l.at.0 + 1) (λ e. c.if-entry-eq-FREE.false (entry_is map _ _ (omega arith) ∙ e)) within in
    (omega arith, omega arith, omega (arith, entry.0), omega (arith, entry.1))

pub returns : goal.returns
returns c =
    let l = c.loop-entry in
    let map = c.args.map.now in
    let over = end map (l.at.0 + 1) (omega (arith, part_length map (c.args.first.0 + 1))) in
    (found_past _ map (omega (arith, over.1)), omega (arith, over.0))
