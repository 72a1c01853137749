-- `state::create` meets its contract.
-- Assumes nothing.
use mathlib.Core.Path.{◌≡◌, refl, ap, ◌∙◌}
use mathlib.Core.List.{List, ◌++◌}
use Prim.Native.Nat.{ℕ}
use native.Mathlib.Omega.{arith}
use lib.ListN.{length, replicate, length-replicate}
use borrow.Rule.Slice.PartMut.{put_mid, same_len_mid}
use Rattle.state.specs.Calls.{settings_bytes, created_bytes}
use Rattle.state.proofs.Creation.{filled, created_whole}
use borrow.Author.Rules.{rules}
use Rattle.state.proofs.create.Goals as goal

pub returns : goal.returns
unfolding created_bytes
returns c =
    let v = c.args.version in
    let a = c.put_settings.new.state in
    let l : length a ≡ 2688 = c.put_settings.array_long in
    let b = put_mid 8 536 a c.fill.new.self in
    let m = same_len_mid 8 536 a c.fill.new.self c.fill.ensures.len ∙ l in
    let d = put_mid 544 256 b c.copy_from_slice.new.self in
    let n : length d ≡ 2688 = same_len_mid 544 256 b c.copy_from_slice.new.self c.copy_from_slice.ensures.len ∙ m in
    let zeros = filled a c.fill.new.self 8 536 (omega (arith, l)) (c.fill.ensures.after (λ y e. e)) in
    let more = filled d c.fill-2.new.self 800 1888 (omega (arith, n)) (c.fill-2.ensures.after (λ y e. e)) in
    created_whole v c.args.mtu c.args.state.now (replicate 536 0) c.free_map-free.result (replicate 1888 0) c.told-state (length-replicate {A = ℕ} 536 0) (search rules) (length-replicate {A = ℕ} 1888 0)
    _ _ _ _ _ _ _ c.put_settings.ensures zeros refl c.copy_from_slice.ensures.after refl more refl
    ∙ ap (λ (x : List ℕ). settings_bytes v c.args.mtu ++ (replicate 536 0 ++ (x ++ replicate 1888 0))) c.free_map-free.ensures
