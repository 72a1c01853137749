-- The small readers, one lemma for each outcome: which facts of the numbers lead to which answer. A function's proof states them by `omega`,
-- from the tests that its code made, so that a wrong test fails at numbers. Assumes nothing.
use Prim.Native.Nat.{ℕ, ◌+◌, ◌-◌, ◌≤◌, ◌<◌}
use mathlib.Core.Path.{◌≡◌, refl, sym, ◌∙◌}
use mathlib.Core.List.{List}
use mathlib.Core.Bool.{Bool, true, false}
use native.Mathlib.Omega.{arith}
use lib.ListN.{length, get_or}
use borrow.Author.Tests.{eq-eqb, ne_eqb, lt-ltb, le-ltb, le-leb}
use Rattle.std.specs.Prelude.{Option, Some, None, Ok, Err}
use Rattle.numbers.specs.Bytes.{part}
use Rattle.numbers.specs.Numbers.{value_le}
use Rattle.numbers.proofs.Choices.{split, either}
use Rattle.payload.specs.Tags.{clashes, no_tags}
use Rattle.payload.specs.Walk.{Walk, read_type, kind_of, string_fits, string_of, tag_at, key_stop, head_of, document_of, answer, payload_of}
use Rattle.payload.specs.declared.Span.{Span}
use Rattle.payload.specs.declared.Tags.{Tags}
use Rattle.payload.specs.declared.Tag.{Tag}
use Rattle.payload.proofs.Within.{string_fits_lem}

-- what a test of the code said is what the definition's test says, where they are one
pub said : {b v : Bool} (test : Bool) → b ≡ v → b ≡ test → test ≡ v
said test e same = sym same ∙ e

-- a string: its length fits and its last byte is 0, or that is refuted
module _ (s : List ℕ) (v end n : ℕ) (e : n ≡ value_le (part s v 4)) where
  pub string_good : 4 ≤ end - v → 1 ≤ n → n ≤ end - v - 4 → get_or s (v + 3 + n) 0 ≡ 0 → Some (v + 4 + n) ≡ string_of s v end
  unfolding string_of
  string_good a b c d = rw (← e, le-leb 4 (end - v) a, le-leb 1 n b, le-leb n (end - v - 4) c, eq-eqb (get_or s (v + 3 + n) 0) 0 d)

  pub string_bad : (4 ≤ end - v → 1 ≤ n → n ≤ end - v - 4 → get_or s (v + 3 + n) 0 ≡ 0 → ⊥) → None ≡ string_of s v end
  unfolding string_of
  string_bad out =
      rw (← e) (either (λ (w : Option ℕ). None ≡ w) (string_fits s v end n) _ None (λ f. let g = string_fits_lem s v end n f in absurd (out g.0 g.1 g.2 g.3)) (λ f. refl))

-- the type of a number: one that is read, or 31
kind_read : (n : ℕ) {k : ℕ} → kind_of n ≡ Ok k → (read_type n ≡ true) × (n ≡ k)
kind_read n e = split (read_type n) (λ f. let g = rw f at e in (f, cc)) (λ f. absurd (let g = rw f at e in let z : ◌≡◌ {A = ℕ} 0 1 = cc in omega arith))

kind_unread : (n : ℕ) {k : ℕ} → kind_of n ≡ Err k → (read_type n ≡ false) × (31 ≡ k)
kind_unread n e = split (read_type n) (λ f. absurd (let g = rw f at e in let z : ◌≡◌ {A = ℕ} 0 1 = cc in omega arith)) (λ f. let g = rw f at e in (f, cc))

-- what stands before a value: a type that is not read; a key without its 0; a clash; else the value
module _ (top : Bool) (s : List ℕ) (at end : ℕ) (t : Tags) where
  pub head_type : {k : ℕ} → kind_of (get_or s at 0) ≡ Err k → Err k ≡ head_of top s at end t
  unfolding head_of
  head_type e = let u = kind_unread (get_or s at 0) e in rw (u.0, ← u.1)

  module _ (kind : ℕ) (r : kind_of (get_or s at 0) ≡ Ok kind) (stop : ℕ) (e : stop ≡ key_stop s at end) where
    pub head-key : end ≤ stop → Err 32 ≡ head_of top s at end t
    unfolding head_of
    head-key b = rw ((kind_read (get_or s at 0) r).0, ← e, le-ltb stop end b)

    module _ (b : stop < end) (tag : Tag) (f : tag ≡ tag_at top s (at + 1) stop) where
      pub head-clash : clashes t tag kind ≡ true → Err 34 ≡ head_of top s at end t
      unfolding head_of
      head-clash c = let k = kind_read (get_or s at 0) r in rw (k.0, ← e, lt-ltb stop end b, ← f, k.1, c)

      pub head-value : clashes t tag kind ≡ false → Ok (kind, tag, stop + 1) ≡ head_of top s at end t
      unfolding head_of
      head-value c = let k = kind_read (get_or s at 0) r in rw (k.0, ← e, lt-ltb stop end b, ← f, k.1, c)

-- tags of which none is there, as `default` makes them, are no tags
pub is_no_tags : {t : Tags} → (t.version ≡ None) × ((t.hash ≡ None) × ((t.mtu ≡ None) × (t.rejected ≡ None))) → t ≡ no_tags
is_no_tags {t} e = go e.0 e.1.0 e.1.1.0 e.1.1.1
  where
    go : {v r : Option Span} {h m : Option ℕ} → v ≡ None → h ≡ None → m ≡ None → r ≡ None → record { version = v; hash = h; mtu = m; rejected = r } ≡ no_tags
    go a b c d = rw (a, b, c, d)

-- a payload whose length fits is the walk of its document
module _ (s : List ℕ) (n : ℕ) (e : n ≡ value_le (part s 0 4)) where
  pub payload-walked : (length s ≡ 0 → ⊥) → 5 ≤ length s → length s ≤ 1024 → n ≡ length s → (walk : Walk) (levels : ℕ) (tags : Tags) → walk ≡ document_of levels true s 0 (length s) tags → levels ≡ 8 → tags ≡ no_tags → answer walk ≡ payload_of s
  unfolding payload_of
  payload-walked a b c d walk levels tags w l t = rw (w, l, t, ne_eqb (length s) 0 a, le-leb 5 (length s) b, le-leb (length s) 1024 c, ← e, eq-eqb n (length s) d)
