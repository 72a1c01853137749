-- "held and free blocks make 256": the needs of all sessions in the book are what all rows hold, since each id stands in one row at most and a free row
-- holds nothing. By induction along the rows.
-- Assumes nothing.
use Prim.Native.Nat.{ℕ, zero, suc, ◌+◌, ◌≤◌, ◌<◌}
use mathlib.Core.Path.{◌≡◌, refl, ap, sym, ◌∙◌}
use mathlib.Core.Bool.{Bool, true, not}
use mathlib.Core.List.{List, [], ◌∷◌}
use native.Mathlib.Omega.{arith}
use lib.Dec.{eqb}
use lib.ListN.{length, get_or}
use borrow.Author.Tests.{eq-eqb, ne_eqb, lt-ltb, not-true}
use Rattle.numbers.specs.Bytes.{pick}
use Rattle.numbers.proofs.Choices.{and_both, same_or_not}
use Rattle.blocks.specs.Map.{free_in}
use Rattle.session.specs.declared.Reassembly.{Reassembly}
use Rattle.session.specs.declared.Row.{Row}
use Rattle.session.specs.Rows.{no_row}
use Rattle.session.specs.Decide.{held_in, held_of}
use Rattle.link.specs.State.{index_of, distinct_ids, all}
use Rattle.link.specs.Book.{Book, needs_at, needs_in_all}
use Rattle.link.specs.Claim.{State}
use Rattle.link.specs.Pages.{pages, Sane}
use Rattle.link.proofs.Shown.{Rules, rules_say, is_open_lem, page_of_lem, closed_page, missing_closed}
use Rattle.link.proofs.Table.{id_at, index_here, index_later, index_below, distinct_head, distinct_tail}
use Rattle.link.proofs.Holdings.{row_fits_at, needs_held}
use Rattle.link.proofs.RowRules.{held_idle}
use Rattle.link.proofs.TableRules.{helds_in, forty}
use Rattle.link.proofs.OpeningRules.{free_idle}

-- ---- sums over n numbers from k on

unfoldable sum_from : (ℕ → ℕ) → ℕ → ℕ → ℕ
sum_from f zero k = 0
sum_from f (suc n) k = f k + sum_from f n (suc k)

sum_none : (f : ℕ → ℕ) → ((j : ℕ) → f j ≡ 0) → (n k : ℕ) → sum_from f n k ≡ 0
unfolding sum_from
sum_none f z zero k = refl
sum_none f z (suc n) k = omega (arith, z k, sum_none f z n (suc k))

module _ (f g : ℕ → ℕ) (i : ℕ) (same : (j : ℕ) → (j ≡ i → ⊥) → f j ≡ g j) where
  -- where two agree but at one number that is not among them
  sum_same : (n k : ℕ) → i < k → sum_from f n k ≡ sum_from g n k
  unfolding sum_from
  sum_same zero k h = refl
  sum_same (suc n) k h = omega (arith, same k (λ z. omega arith), sum_same n (suc k) (omega arith))

  -- and where it is, and the second has nothing there
  sum_one : g i ≡ 0 → (n k : ℕ) → k ≤ i → i < k + n → sum_from f n k ≡ f i + sum_from g n k
  unfolding sum_from
  sum_one z zero k a b = absurd (omega arith)
  sum_one z (suc n) k a b =
      same_or_not k i
      (λ e. omega (arith, ap f e, ap g e, sum_same n (suc k) (omega arith)))
      (λ d. omega (arith, same k d, sum_one z n (suc k) (omega arith) (omega arith)))

-- ---- what the session with an id holds, by its row

unfoldable held_at : List Row → ℕ → ℕ
held_at [] i = 0
held_at (r ∷ rs) i = pick (eqb r.id.0 i) (held_of r) (held_at rs i)

at_here : (r : Row) (rs : List Row) (i : ℕ) → r.id.0 ≡ i → held_at (r ∷ rs) i ≡ held_of r
unfolding held_at
at_here r rs i e = ap (λ (t : Bool). pick t (held_of r) (held_at rs i)) (eq-eqb r.id.0 i e)

at_later : (r : Row) (rs : List Row) (i : ℕ) → (r.id.0 ≡ i → ⊥) → held_at (r ∷ rs) i ≡ held_at rs i
unfolding held_at
at_later r rs i d = ap (λ (t : Bool). pick t (held_of r) (held_at rs i)) (ne_eqb r.id.0 i d)

at_none : (i : ℕ) → held_at [] i ≡ 0
unfolding held_at
at_none i = refl

at_index : (i : ℕ) (rs : List Row) → index_of i rs < length rs → held_at rs i ≡ held_of (get_or rs (index_of i rs) no_row)
at_index i [] h = absurd (omega arith)
at_index i (r ∷ rs) h =
    same_or_not r.id.0 i
    (λ e. at_here r rs i e ∙ ap (λ (k : ℕ). held_of (get_or (r ∷ rs) k no_row)) (sym (index_here i r rs e)))
    (λ d. at_later r rs i d ∙ at_index i rs (omega (arith, index_later i r rs d)) ∙ ap (λ (k : ℕ). held_of (get_or (r ∷ rs) k no_row)) (sym (index_later i r rs d)))

at_missing : (i : ℕ) (rs : List Row) → index_of i rs ≡ length rs → held_at rs i ≡ 0
at_missing i [] e = at_none i
at_missing i (r ∷ rs) e =
    same_or_not r.id.0 i
    (λ q. absurd (omega (arith, index_here i r rs q)))
    (λ d. at_later r rs i d ∙ at_missing i rs (omega (arith, index_later i r rs d)))

-- all ids together: what all rows hold
rows_sum : (rs : List Row) → distinct_ids rs ≡ true → ((k : ℕ) → k < length rs → id_at rs k ≤ 255) → ((k : ℕ) → k < length rs → id_at rs k ≡ 0 → held_of (get_or rs k no_row) ≡ 0)
    → sum_from (held_at rs) 255 1 ≡ helds_in rs
unfolding helds_in
rows_sum [] d b z = sum_none (held_at []) at_none 255 1
rows_sum (r ∷ rs) d b z =
    let rest = rows_sum rs (distinct_tail r rs d) (λ k h. b (suc k) (omega arith)) (λ k h. z (suc k) (omega arith)) in
    let i : ℕ = r.id.0 in
    let same : (j : ℕ) → (j ≡ i → ⊥) → held_at (r ∷ rs) j ≡ held_at rs j = λ j n. at_later r rs j (λ e. n (sym e)) in
    same_or_not i 0
    (λ e. omega (arith, sum_same (held_at (r ∷ rs)) (held_at rs) i same 255 1 (omega arith), z 0 (omega arith) e))
    (λ n. omega (
      arith,
      at_here r rs i refl,
      b 0 (omega arith),
      sum_one (held_at (r ∷ rs)) (held_at rs) i same (at_missing i rs (distinct_head r rs d n)) 255 1 (omega arith) (omega (arith, b 0 (omega arith))),
    ))

-- ---- the book

-- a session's needs in the book are what its row holds
page_needs : (s : State) (i : ℕ) → 1 ≤ i → needs_at (pages s i) ≡ held_at s.link.rows i
page_needs s i h =
    let rs : List Row = s.link.rows in
    let n : ℕ = index_of i rs in
    same_or_not n (length rs)
    (λ e. ap needs_at (closed_page s i (missing_closed s i e)) ∙ sym (at_missing i rs e))
    (λ d. let below : n < length rs = omega (arith, index_below i rs) in
    ap needs_at (page_of_lem s i (is_open_lem s i (rw (ne_eqb i 0 (λ z. omega arith), lt-ltb n (length rs) below)))) ∙ needs_held s n 0 (get_or rs n no_row).messages ∙ sym (at_index i rs below))

book_sum : (b : Book) (f : ℕ → ℕ) → ((i : ℕ) → 1 ≤ i → needs_at (b i) ≡ f i) → (n k : ℕ) → 1 ≤ k → needs_in_all b n k ≡ sum_from f n k
unfolding needs_in_all sum_from
book_sum b f e zero k h = refl
book_sum b f e (suc n) k h = omega (arith, e k h, book_sum b f e n (suc k) (omega arith))

-- messages none of which is open hold nothing
idle_held : (ms : List Reassembly) → all (λ (m : Reassembly). not m.live) ms ≡ true → held_in ms ≡ 0
unfolding held_in
idle_held [] e = refl
idle_held (m ∷ ms) e =
    let p = and_both (not m.live) (all (λ (m : Reassembly). not m.live) ms) e in
    omega (arith, held_idle m (not-true m.live p.0), idle_held ms p.1)

-- the law
pub all_blocks : (s : State) → Sane s → needs_in_all (pages s) 255 1 + free_in s.link.owners ≡ 256
all_blocks s k =
    let rs : List Row = s.link.rows in
    let major : ℕ = s.link.version.major in
    let rules : Rules s.link = rules_say s.link k.rules in
    let free : (j : ℕ) → j < length rs → id_at rs j ≡ 0 → held_of (get_or rs j no_row) ≡ 0
    = λ j h e. idle_held (get_or rs j no_row).messages (free_idle major s.link.owners j (get_or rs j no_row) e (row_fits_at major s.link.owners rs j rules.rows h)) in
    omega (
      arith,
      book_sum (pages s) (held_at rs) (page_needs s) 255 1 (omega arith),
      rows_sum rs rules.ids k.ids free,
      forty major s.link.owners rs k.rows k.five rules.rows,
      rules.blocks,
    )
