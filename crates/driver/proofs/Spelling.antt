-- Texts that hold a line: how one begins, ends with bytes, grows, and the line that it makes. By the laws of take, drop and append. Assumes nothing.
use Rattle.std.proofs.Common.{◌≡◌, ℕ, zero, suc, ◌-◌, eqb, List, [], ◌∷◌, ◌++◌, length, take, sym, refl, ap, ◌∙◌, append_assoc, append-nil, arith, eqb-true}
use lib.Seq.{take-append_seam, drop-append_seam}
use borrow.Author.Tests.{eqb-false}
use Rattle.numbers.proofs.Choices.{split}
use Rattle.text.specs.declared.Text.{Text}
use Rattle.text.specs.Said.{said, Started, Longer, Marked}
use Rattle.text.proofs.Texts.{cut_twice, started, renamed}
use Rattle.driver.specs.Spelling.{Spelled, plain, with_hex, behind, line_of, Holds, text_line}

-- the front of two lists
take_both : (n : ℕ) (a b : List ℕ) → take n (a ++ b) ≡ take n a ++ take (n - length a) b
take_both zero a b =
    let z : 0 - length a ≡ 0 = omega arith in
    sym (ap (λ (i : ℕ). take i b) z)
take_both (suc n) [] b =
    let z : suc n - 0 ≡ suc n = omega arith in
    sym (ap (λ (i : ℕ). take i b) z)
take_both (suc n) (x ∷ a) b =
    let z : suc n - suc (length a) ≡ n - length a = omega arith in
    ap (λ (t : List ℕ). x ∷ t) (take_both n a b ∙ sym (ap (λ (i : ℕ). take n a ++ take i b) z))

module _ {s : List ℕ} {r : Text} where
  pub held : Started s r → Holds (plain s) r
  held f = record { says = f.says; within = f.within; ends = f.ends; cut = f.cut; size = f.size }

-- bytes as the last word, as `Text::hex` puts them
module _ {s : List ℕ} {t r : Text} {n : ℕ} (f : Started s t) where
  pub held_hex : (n ≡ 0 → Longer t (32 ∷ 45 ∷ []) r) × ((n ≡ 0 → ⊥) → Marked t (32 ∷ []) n r) → Holds (with_hex s n) r
  held_hex h =
      split (eqb n 0)
      (λ e. rw e (held (started f (h.0 (eqb-true n 0 e)))))
      λ e.
      let g = h.1 (eqb-false n 0 e) in
      let says = g.says ∙ ap (λ (u : List ℕ). take 4096 (u ++ 32 ∷ [])) f.says ∙ cut_twice 4096 s (32 ∷ []) in
      rw e (record {
        says = says ∙ ap (take 4096) (sym (append-nil (s ++ 32 ∷ [])));
        within = g.within;
        ends = g.ends;
        cut = g.cut ∙ g.ends ∙ ap length says;
        size = g.size;
      })

-- characters behind a line
module _ {l : Spelled} {t : Text} (f : Holds l t) where
  pub held_more : {s : List ℕ} {r : Text} → Longer t s r → Holds (behind l s) r
  held_more {s} g =
      record {
        says = g.says ∙ ap (λ (u : List ℕ). take 4096 (u ++ s)) f.says ∙ cut_twice 4096 (l.before ++ l.after) s ∙ ap (take 4096) (append_assoc l.before l.after s);
        within = g.within;
        ends = g.ends;
        cut = g.cut ∙ f.cut;
        size = g.size ∙ f.size;
      }

  -- the line that a text makes is the one that it holds
  pub line_held : (out : List ℕ) → text_line t out ≡ line_of l out
  line_held out =
      let a = l.before in
      let b = l.after ++ 10 ∷ [] in
      let says : take 4096 (said t ++ 10 ∷ []) ≡ take 4096 a ++ take (4096 - length a) b =
      ap (λ (u : List ℕ). take 4096 (u ++ 10 ∷ [])) f.says ∙ cut_twice 4096 (a ++ l.after) (10 ∷ []) ∙ ap (take 4096) (append_assoc a l.after (10 ∷ [])) ∙ take_both 4096 a b in
      rw (f.cut, f.size, says, take-append_seam (take 4096 a) (take (4096 - length a) b), drop-append_seam (take 4096 a) (take (4096 - length a) b)) refl

-- the last of several pieces
module _ {t r : Text} {a : List ℕ} where
  pub alone : Longer t a r → Longer t (a ++ []) r
  alone f = renamed (sym (append-nil a)) f
