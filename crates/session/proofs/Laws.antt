-- The decision on a consecutive frame, by its cases, for the crates above: 22 and 23 come first, so that 24 and 25 "drop the one message they name" and
-- no other frame adds to it. By the definition's tests.
-- Assumes nothing.
use Rattle.std.proofs.Common.{◌≡◌, ℕ, ◌≤◌, true, eqb, leb, ◌⊎◌, refl, inl, inr, arith, ne_eqb, eqb-true}
use borrow.Author.Tests.{eqb-false}
use Rattle.numbers.proofs.Choices.{unless_elim}
use Rattle.frame.specs.declared.Header.{Header}
use Rattle.session.specs.declared.Reassembly.{Reassembly}
use Rattle.session.specs.declared.Act.{Act}
use Rattle.session.specs.declared.Act.TheVariants.{Refuse, Drop, Append, Deliver}
use Rattle.session.specs.Decide.{due_number, sized, next_for}

-- a message is open, and it is the one that the frame names
pub record Continues (h : Header) (m : Reassembly) : Type 0 where
  pub live : m.live ≡ true
  pub same : h.message.0 ≡ m.id.0

module _ (m : Reassembly) (h : Header) where
  -- under another id the frame is refused with 23, whatever number and size it has: "Lowest place in this order wins"
  pub other_id : (room : ℕ) → m.live ≡ true → (h.message.0 ≡ m.id.0 → ⊥) → next_for m room h ≡ Refuse 23
  unfolding next_for
  other_id room live other = rw (ne_eqb h.message.0 m.id.0 other, live)

  -- what is decided, and what then holds
  pub data Next : Act → Type 0 where
    -- 22, 23 and 11
    refuses : {n : ℕ} → n ≤ 23 → Next (Refuse n)
    -- 24 and 25, a frame that is not the last, the last
    drops : {n : ℕ} → (n ≡ 24) ⊎ (n ≡ 25) → Continues h m → Next (Drop n)
    appends : Continues h m → sized m h.size ≡ true → (m.frames ≡ 1 → ⊥) → Next Append
    delivers : Continues h m → sized m h.size ≡ true → m.frames ≡ 1 → Next Deliver

  -- the decision is one of them
  pub next_is : (room : ℕ) → Next (next_for m room h)
  unfolding next_for
  next_is room =
      unless_elim Next m.live _ _ (λ _. refuses (omega arith)) λ live.
      unless_elim Next (eqb h.message.0 m.id.0) _ _ (λ _. refuses (omega arith)) λ same.
      let c : Continues h m = record { live = live; same = eqb-true h.message.0 m.id.0 same } in
      unless_elim Next (eqb h.info (due_number m)) _ _ (λ _. drops (inl refl) c) λ _.
      unless_elim Next (sized m h.size) _ _ (λ _. drops (inr refl) c) λ sizes.
      unless_elim Next (eqb m.frames 1) _ _ (λ more. appends c sizes (eqb-false m.frames 1 more)) λ one.
      unless_elim Next (leb m.total room) _ _ (λ _. refuses (omega arith)) (λ _. delivers c sizes (eqb-true m.frames 1 one))
