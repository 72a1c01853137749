-- Delivering, a block at a time: up to the owner's next block there is nothing to copy; that block's share, as far as it is due, goes to out, and what is due
-- of the blocks behind it goes right behind. By induction along the map, and by the laws of parts. Assumes nothing.
use Prim.Native.Nat.{ℕ, suc, ◌+◌, ◌-◌, ◌*◌, ◌<◌, ◌≤◌, min}
use mathlib.Core.Path.{◌≡◌, refl, ap, sym, ◌∙◌}
use mathlib.Core.List.{List, [], ◌∷◌, ◌++◌, append-nil}
use native.Mathlib.Omega.{arith}
use lib.ListN.{length, take, drop, length-take, length-drop, drop_of_length-le}
use lib.Seq.{take-nil, drop-nil, take_all, take-take, drop-drop, length-take-le, take-append-le, take-append-add}
use denote.Ref.{MutBor, at_last}
use Rattle.numbers.proofs.Choices.{same_or_not}
use Rattle.blocks.specs.Map.{block_size, nth_number}
use Rattle.blocks.specs.Pool.{block_bytes, over, delivered, delivered_from}
use Rattle.blocks.proofs.Over.{compare, over_nothing, over_again, over_cut}
use Rattle.blocks.proofs.Counts.{place_here, place_not}
use Rattle.blocks.proofs.Contents.{bytes_mine, bytes_not, bytes_none}
use Rattle.blocks.proofs.Turns.{next_block}

-- the bytes of the blocks before belong to others
bytes_skip : (owner k : ℕ) (map pool : List ℕ) → k ≡ nth_number owner 0 map → block_bytes owner map pool ≡ block_bytes owner (drop k map) (drop (block_size * k) pool)
unfolding block_bytes nth_number
bytes_skip owner k [] pool g = rw (drop-nil k)
bytes_skip owner k (o ∷ map) pool g =
    same_or_not o owner
    (λ e. let q : k ≡ 0 = g ∙ place_here owner 0 o map e refl in rw q)
    (λ e.
    let q : k ≡ suc (nth_number owner 0 map) = g ∙ place_not owner 0 o map e in
    let m : block_size * suc (nth_number owner 0 map) ≡ block_size + block_size * nth_number owner 0 map = omega arith in
    bytes_not owner o map pool e ∙ bytes_skip owner (nth_number owner 0 map) map (drop block_size pool) refl
    ∙ rw (q, m, drop-drop (block_size * nth_number owner 0 map) block_size pool))

-- the first `due` of a block and what is behind it
take_share : (due n : ℕ) (a b : List ℕ) → n ≡ min (length a) due → take due (a ++ b) ≡ take n a ++ take (due - n) b
take_share due n a b e =
    compare due (length a)
    (λ h.
    let q : n ≡ due = omega arith in
    let z : due - due ≡ 0 = omega arith in
    take-append-le due a b h ∙ rw (q, z) (sym (append-nil (take due a))))
    (λ h.
    let q : n ≡ length a = omega arith in
    let w : due ≡ length a + (due - length a) = omega arith in
    let all : take (length a) a ≡ a = take_all (length a) a (omega arith) in
    rw (q, all) (ap (λ (i : ℕ). take i (a ++ b)) w ∙ take-append-add a b (due - length a)))

-- some of what is due lies in a block that starts inside the pool: the bytes still due fall
pub due_falls : {due n size start bytes : ℕ} → 0 < due → start < bytes → size ≡ min block_size (bytes - start) → n ≡ min size due → due - n < due
due_falls h inside sized least = omega arith

-- ---- the whole delivery, and the reference to out

-- what is due beyond out's end is not delivered
whole_from : (owner due most : ℕ) (map pool out : List ℕ) → most ≡ min due (length out)
    → delivered_from owner 0 0 most map pool out ≡ delivered owner due map pool out
unfolding delivered delivered_from
whole_from owner due most map pool out e =
    compare due (length out)
    (λ h. let z : most ≡ due = omega arith in rw z)
    (λ h. over_cut most (block_bytes owner map pool) out (omega arith) ∙ sym (over_cut due (block_bytes owner map pool) out (omega arith)))

pub deliver_whole : (owner due : ℕ) (map pool : List ℕ) (x : MutBor (List ℕ)) {most : ℕ} → most ≡ min due (length x.now)
    → {r : MutBor (List ℕ)} → r ≡ at_last x (delivered_from owner 0 0 most map pool x.now) → r ≡ at_last x (delivered owner due map pool x.now)
deliver_whole owner due map pool x {most} least e = e ∙ ap (at_last x) (whole_from owner due most map pool x.now least)

-- a slice that was lent under a name comes back as a reference of that name showed it last
pub came_back : {place : ℕ × ℕ} {γ : ℕ} {r : MutBor (List ℕ)} {l after : List ℕ}
    → r ≡ record { ref_ptr = place; ghost_name = γ; now = l } → (γ ≡ r.ghost_name → after ≡ r.now) → after ≡ l
came_back e back = back (sym (ap (λ x. x.ghost_name) e)) ∙ ap (λ x. x.now) e

-- ---- from block b on: each end of a call, with the reference to out

module _ (owner b at due : ℕ) (map pool : List ℕ) (x : MutBor (List ℕ)) where
  -- nothing is put over out
  stays : take due (block_bytes owner (drop b map) (drop (block_size * b) pool)) ≡ [] → x ≡ at_last x (delivered_from owner b at due map pool x.now)
  unfolding delivered_from
  stays none = ap (at_last x) (sym (ap (λ (s : List ℕ). over at s x.now) none ∙ over_nothing at x.now))

  pub deliver_nothing : due ≡ 0 → x ≡ at_last x (delivered_from owner b at due map pool x.now)
  deliver_nothing e = stays (rw e)

  -- k is the owner's next block
  module _ {k : ℕ} (is : k ≡ b + nth_number owner 0 (drop b map)) where
    from_next : block_bytes owner (drop b map) (drop (block_size * b) pool) ≡ block_bytes owner (drop k map) (drop (block_size * k) pool)
    from_next =
        let j : ℕ = nth_number owner 0 (drop b map) in
        let m : block_size * (b + j) ≡ block_size * b + block_size * j = omega arith in
        bytes_skip owner j (drop b map) (drop (block_size * b) pool) refl ∙ rw (is, m, drop-drop j b map, drop-drop (block_size * j) (block_size * b) pool)

    -- the owner has no more block
    pub deliver-no-block : length map ≤ k → x ≡ at_last x (delivered_from owner b at due map pool x.now)
    unfolding block_bytes
    deliver-no-block h = stays (rw (from_next, drop_of_length-le map {i = k} h) (take-nil due))

    -- its next block lies past the pool's end
    pub deliver-no-pool : length pool ≤ block_size * k → x ≡ at_last x (delivered_from owner b at due map pool x.now)
    deliver-no-pool h = stays (rw (from_next, drop_of_length-le pool {i = block_size * k} h, bytes_none owner (drop k map)) (take-nil due))

    module _ (below : k < length map) {start size n : ℕ} (begins : start ≡ block_size * k) (sized : size ≡ min block_size (length pool - start))
        (least : n ≡ min size due) where
      -- what is due: this block's share, and then what is due of the blocks behind it
      share : take due (block_bytes owner (drop b map) (drop (block_size * b) pool))
          ≡ take n (drop start pool) ++ take (due - n) (block_bytes owner (drop (k + 1) map) (drop (block_size * (k + 1)) pool))
      share =
          let m : block_size * (k + 1) ≡ start + block_size = omega arith in
          let rest : List ℕ = block_bytes owner (drop (k + 1) map) (drop block_size (drop start pool)) in
          let first : block_bytes owner (drop b map) (drop (block_size * b) pool) ≡ take block_size (drop start pool) ++ rest =
          from_next ∙ rw (next_block owner map b k is below, begins) (bytes_mine owner owner (drop (k + 1) map) (drop (block_size * k) pool) refl) in
          let few : n ≡ min (length (take block_size (drop start pool))) due = omega (arith, length-take block_size (drop start pool), length-drop start pool) in
          ap (take due) first ∙ take_share due n (take block_size (drop start pool)) rest few
          ∙ rw (take-take n block_size (drop start pool) (omega arith), m, ← drop-drop block_size start pool)

      -- the share goes to out, and the rest right behind it
      pub deliver-more : start < length pool → {o : List ℕ} → o ≡ over at (take (start + n - start) (drop start pool)) x.now
          → {r : MutBor (List ℕ)} → r ≡ at_last x (delivered_from owner (k + 1) (at + n) (due - n) map pool o)
          → r ≡ at_last x (delivered_from owner b at due map pool x.now)
      unfolding delivered_from
      deliver-more inside put e =
          let z : start + n - start ≡ n = omega arith in
          let all : length (take n (drop start pool)) ≡ n = length-take-le n (drop start pool) (omega (arith, length-drop start pool)) in
          e ∙ ap (at_last x) (sym (ap (λ (s : List ℕ). over at s x.now) share ∙ over_again at (take n (drop start pool)) _ x.now ∙ rw (all, put, z)))
