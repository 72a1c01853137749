-- A row without an open message: what its rules come to, and that all blocks are free where none is held. Assumes nothing.
use Prim.Native.Nat.{ℕ, suc, ◌+◌, ◌≤◌}
use mathlib.Core.Path.{◌≡◌, refl, sym, ◌∙◌}
use mathlib.Core.Logic.{◌≢◌}
use mathlib.Core.Bool.{Bool, true, false, ◌&&◌, ◌||◌, not}
use mathlib.Core.List.{List, [], ◌∷◌}
use native.Mathlib.Omega.{arith}
use lib.Dec.{eqb, leb}
use lib.ListN.{length}
use borrow.Author.Tests.{eq-eqb, ne_eqb, le-leb}
use Rattle.numbers.proofs.Choices.{and_both, and_yes, same_or_not}
use Rattle.blocks.specs.Map.{held_by, free_in}
use Rattle.blocks.proofs.Counts.{held_mine, held_not, held_most}
use Rattle.session.specs.declared.Reassembly.{Reassembly}
use Rattle.session.specs.declared.Row.{Row}
use Rattle.session.specs.Decide.{held_of}
use Rattle.link.specs.State.{all, all_from, room_fits, version_allowed, unsettled_fits, message_fits, free_fits}
use Rattle.rules.specs.Parts.{none_live, open_fit, row_sound, of_session, Looked}
use Rattle.rules.proofs.Counts.{idle_held, idle_open}

quiet_one : (live rest : Bool) → not live ≡ true → not live || rest ≡ true
quiet_one true rest e = cc
quiet_one false rest e = refl

or_true : (b c : Bool) → c ≡ true → b || c ≡ true
or_true true c e = refl
or_true false c e = e

idle_messages : (r : Row) (n : ℕ) (ms : List Reassembly) → none_live ms ≡ true → all_from n (message_fits r) ms ≡ true
unfolding message_fits
idle_messages r n [] e = refl
idle_messages r n (m ∷ ms) e =
    let p = and_both (not m.live) (none_live ms) e in
    and_yes _ _ (quiet_one m.live _ p.0) (idle_messages r (suc n) ms p.1)

module _ (major : ℕ) (map : List ℕ) (i : ℕ) (r : Row) (none : none_live r.messages ≡ true) where
  held_none : held_of r ≡ 0
  held_none = idle_held r.messages none

  pub quiet_free : (g k : ℕ) → g ≡ r.guarantee → k ≡ r.cap → r.id.0 ≡ 0 → Looked major map i r (eqb g 0 && eqb k 0) 0 0
  unfolding row_sound free_fits of_session
  quiet_free g k e f h = record {
    fits = rw (e, f, eq-eqb r.id.0 0 h, none) (bools (eqb r.guarantee 0) (eqb r.cap 0));
    holds = rw (eq-eqb r.id.0 0 h);
    most = omega arith;
    shares = rw (eq-eqb r.id.0 0 h);
    bound = omega arith;
  }
    where
      bools : (p q : Bool) → p && q ≡ p && (q && true)
      bools true true = refl
      bools true false = refl
      bools false q = refl

  pub quiet_open : (g k : ℕ) (v : Bool) → g ≡ r.guarantee → k ≡ r.cap → v ≡ version_allowed major r.version → r.id.0 ≢ 0 → g ≤ 65535
      → Looked major map i r (leb g k && (leb k 256 && v)) 0 g
  unfolding row_sound room_fits unsettled_fits of_session
  quiet_open g k v e f j h l =
      let own : open_fit map i r.messages ≡ true = idle_open map i 0 r.messages none in
      let held : leb (held_of r) r.cap ≡ true = le-leb (held_of r) r.cap (omega (arith, held_none)) in
      let settled : not (eqb r.version 0) || none_live r.messages ≡ true = or_true (not (eqb r.version 0)) (none_live r.messages) none in
      let messages : all_from 0 (message_fits r) r.messages ≡ true = idle_messages r 0 r.messages none in
      record {
        fits =
            rw (e, f, j, ne_eqb r.id.0 0 h, own, held, settled, messages)
            (bools (leb r.guarantee r.cap) (leb r.cap 256) (version_allowed major r.version));
        holds = rw (ne_eqb r.id.0 0 h) (sym held_none);
        most = omega arith;
        shares = rw (ne_eqb r.id.0 0 h) (omega (arith, held_none));
        bound = omega arith;
      }
    where
      bools : (p q v : Bool) → p && (q && v) ≡ (p && (q && true)) && (v && (true && true))
      bools true true true = refl
      bools true true false = refl
      bools true false v = refl
      bools false q v = refl

-- every block is free where the free ones are as many as there are
pub free_all : (map : List ℕ) → all (λ (o : ℕ). eqb o 0) map ≡ eqb (free_in map) (length map)
free_all [] = sym (eq-eqb (free_in []) 0 (omega (arith, held_most 0 [])))
free_all (o ∷ map) =
    same_or_not o 0
    (λ e. rw (eq-eqb o 0 e) (free_all map ∙ same (held_by 0 map) (length map) (held_by 0 (o ∷ map)) (held_mine 0 o map e)))
    (λ n. rw (ne_eqb o 0 n) (sym (ne_eqb (held_by 0 (o ∷ map)) (suc (length map)) (λ z. omega (arith, held_not 0 o map n, held_most 0 map)))))
  where
    same : (a b c : ℕ) → c ≡ suc a → eqb a b ≡ eqb c (suc b)
    same a b c e =
        same_or_not a b
        (λ f. rw (eq-eqb a b f) (sym (eq-eqb c (suc b) (omega arith))))
        (λ n. rw (ne_eqb a b n) (sym (ne_eqb c (suc b) (λ z. n (omega arith)))))

pub rest_all : (map : List ℕ) (held : ℕ) (free : Bool) → length map ≡ 256 → held ≡ 0 → free ≡ all (λ (o : ℕ). eqb o 0) map → free ≡ eqb (held + free_in map) 256
rest_all map held free l e f =
    let z : held + free_in map ≡ free_in map = omega arith in
    f ∙ free_all map ∙ rw (l, z)
