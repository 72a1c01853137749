-- The table of rows: where an id stands, and what storing a row at an index does to ids, sums, tests and the lowest free id. For any rows.
-- By induction along the list; the last by counting the ids that rows can take. Assumes nothing.
use Prim.Native.Nat.{ℕ, zero, suc, ◌+◌, ◌-◌, ◌≤◌, ◌<◌, max, min}
use mathlib.Core.Path.{◌≡◌, refl, ap, sym, subst, ◌∙◌}
use mathlib.Core.Logic.{◌≢◌}
use mathlib.Core.Bool.{Bool, true, ◌||◌}
use mathlib.Core.List.{List, [], ◌∷◌}
use native.Mathlib.Omega.{arith}
use lib.Dec.{eqb, ltb}
use lib.ListN.{length, get_or, set, length-set}
use borrow.Author.Tests.{eqb-true, eqb-false, eq-eqb, ne_eqb, lt-ltb, le-ltb}
use Rattle.numbers.specs.Bytes.{pick}
use Rattle.numbers.proofs.Choices.{and_both, same_or_not, split}
use Rattle.blocks.specs.Map.{Outside}
use Rattle.session.specs.declared.Row.{Row}
use Rattle.frame.specs.declared.SessionId.{SessionId}
use Rattle.session.specs.Rows.{no_row, free_row, opened_row}
use Rattle.session.specs.Decide.{message_blocks, held_in, held_of, share_of}
use Rattle.link.specs.State.{index_of, owner_of, shares_in, distinct_ids, lowest_free}
use Rattle.link.specs.Book.{Book, there, lowest_not_in}
use Rattle.link.specs.Pages.{FiveEach}
use Rattle.link.proofs.Each.{set_each, sum_set}

-- ---- 1. where an id stands

-- the id of the row at an index; 0 past the last
abbrev pub id_at : List Row → ℕ → ℕ
id_at rs k = (get_or rs k no_row).id.0

-- the first row has the id
pub index_here : (i : ℕ) (r : Row) (rs : List Row) → r.id.0 ≡ i → index_of i (r ∷ rs) ≡ 0
unfolding index_of
index_here i r rs e = ap (λ (t : Bool). pick t 0 (suc (index_of i rs))) (eq-eqb r.id.0 i e)

-- the first row has another
pub index_later : (i : ℕ) (r : Row) (rs : List Row) → r.id.0 ≢ i → index_of i (r ∷ rs) ≡ suc (index_of i rs)
unfolding index_of
index_later i r rs n = ap (λ (t : Bool). pick t 0 (suc (index_of i rs))) (ne_eqb r.id.0 i n)

-- no rows
pub index_none : (i : ℕ) → index_of i [] ≡ 0
unfolding index_of
index_none i = refl

-- at most the number of rows
pub index_below : (i : ℕ) (rs : List Row) → index_of i rs ≤ length rs
index_below i [] = omega (arith, index_none i)
index_below i (r ∷ rs) =
    same_or_not r.id.0 i
    (λ e. omega (arith, index_here i r rs e))
    (λ n. omega (arith, index_later i r rs n, index_below i rs))

-- the row found has the id
pub index_row : (i : ℕ) (rs : List Row) → index_of i rs < length rs → id_at rs (index_of i rs) ≡ i
index_row i [] h = absurd (omega arith)
index_row i (r ∷ rs) h =
    same_or_not r.id.0 i
    (λ e. ap (λ (k : ℕ). id_at (r ∷ rs) k) (index_here i r rs e) ∙ e)
    (λ n. ap (λ (k : ℕ). id_at (r ∷ rs) k) (index_later i r rs n) ∙ index_row i rs (omega (arith, index_later i r rs n)))

-- it is the first that has it
index_first : (i : ℕ) (rs : List Row) (j : ℕ) → j < length rs → id_at rs j ≡ i → index_of i rs ≤ j
index_first i [] j h e = absurd (omega arith)
index_first i (r ∷ rs) zero h e = omega (arith, index_here i r rs e)
index_first i (r ∷ rs) (suc j) h e =
    same_or_not r.id.0 i
    (λ q. omega (arith, index_here i r rs q))
    (λ n. omega (arith, index_later i r rs n, index_first i rs j (omega arith) e))

-- an index past the last: no row has the id
pub index_missing : (i : ℕ) (rs : List Row) → index_of i rs ≡ length rs → (j : ℕ) → j < length rs → id_at rs j ≢ i
index_missing i rs e j h q = omega (arith, index_first i rs j h q)

-- and back
missing_index : (i : ℕ) (rs : List Row) → ((j : ℕ) → j < length rs → id_at rs j ≢ i) → index_of i rs ≡ length rs
missing_index i rs f =
    same_or_not (index_of i rs) (length rs) (λ e. e) λ d.
    let below : index_of i rs < length rs = omega (arith, index_below i rs) in
    absurd (f (index_of i rs) below (index_row i rs below))

-- distinct ids: no later row has the first one's
pub distinct_head : (r : Row) (rs : List Row) → distinct_ids (r ∷ rs) ≡ true → r.id.0 ≢ 0 → index_of r.id.0 rs ≡ length rs
unfolding distinct_ids
distinct_head r rs e n =
    let t : eqb r.id.0 0 || eqb (index_of r.id.0 rs) (length rs) ≡ true = (and_both _ (distinct_ids rs) e).0 in
    eqb-true (index_of r.id.0 rs) (length rs) (rw (ne_eqb r.id.0 0 n) at t)

-- the rest has distinct ids
pub distinct_tail : (r : Row) (rs : List Row) → distinct_ids (r ∷ rs) ≡ true → distinct_ids rs ≡ true
unfolding distinct_ids
distinct_tail r rs e = (and_both (eqb r.id.0 0 || eqb (index_of r.id.0 rs) (length rs)) (distinct_ids rs) e).1

-- and back
distinct_cons : (r : Row) (rs : List Row) → (r.id.0 ≢ 0 → index_of r.id.0 rs ≡ length rs) → distinct_ids rs ≡ true → distinct_ids (r ∷ rs) ≡ true
unfolding distinct_ids
distinct_cons r rs f e =
    split (eqb r.id.0 0) (λ q. rw (q, e)) (λ q. rw (q, eq-eqb (index_of r.id.0 rs) (length rs) (f (eqb-false r.id.0 0 q)), e))

-- where ids are distinct, only one row has an id other than 0
pub distinct_one : (rs : List Row) (j k : ℕ) → distinct_ids rs ≡ true → j < length rs → k < length rs → id_at rs j ≡ id_at rs k → id_at rs j ≢ 0 → j ≡ k
distinct_one [] j k g a b e z = absurd (omega arith)
distinct_one (r ∷ rs) zero zero g a b e z = refl
distinct_one (r ∷ rs) zero (suc k) g a b e z = absurd (index_missing r.id.0 rs (distinct_head r rs g z) k (omega arith) (sym e))
distinct_one (r ∷ rs) (suc j) zero g a b e z = absurd (index_missing r.id.0 rs (distinct_head r rs g (λ w. z (e ∙ w))) j (omega arith) e)
distinct_one (r ∷ rs) (suc j) (suc k) g a b e z = ap suc (distinct_one rs j k (distinct_tail r rs g) (omega arith) (omega arith) e z)

-- ---- 2. storing a row

-- an id that both the old and the new row have, or neither, stands where it stood
index_set : (i : ℕ) (rs : List Row) (k : ℕ) (r : Row) → eqb r.id.0 i ≡ eqb (id_at rs k) i → index_of i (set rs k r) ≡ index_of i rs
unfolding index_of
index_set i [] k r e = refl
index_set i (q ∷ rs) zero r e = ap (λ (t : Bool). pick t 0 (suc (index_of i rs))) e
index_set i (q ∷ rs) (suc k) r e = ap (λ (n : ℕ). pick (eqb q.id.0 i) 0 (suc n)) (index_set i rs k r e)

pub index_set_other : (i : ℕ) (rs : List Row) (k : ℕ) (r : Row) → id_at rs k ≢ i → r.id.0 ≢ i → index_of i (set rs k r) ≡ index_of i rs
index_set_other i rs k r a b = index_set i rs k r (ne_eqb r.id.0 i b ∙ sym (ne_eqb (id_at rs k) i a))

pub index_set_same : (i : ℕ) (rs : List Row) (k : ℕ) (r : Row) → r.id.0 ≡ id_at rs k → index_of i (set rs k r) ≡ index_of i rs
index_set_same i rs k r e = index_set i rs k r (ap (λ (x : ℕ). eqb x i) e)

-- an id that no row had is in none after a row without it
pub missing_set : (i : ℕ) (rs : List Row) (k : ℕ) (r : Row) → index_of i rs ≡ length rs → r.id.0 ≢ i → index_of i (set rs k r) ≡ length (set rs k r)
missing_set i [] k r m n = m
missing_set i (q ∷ rs) zero r m n = index_later i r rs n ∙ sym (index_later i q rs (λ e. omega (arith, index_here i q rs e))) ∙ m
missing_set i (q ∷ rs) (suc k) r m n =
    let d : q.id.0 ≢ i = λ e. omega (arith, index_here i q rs e) in
    index_later i q (set rs k r) d ∙ ap suc (missing_set i rs k r (omega (arith, index_later i q rs d)) n)

-- an id that no row had stands where its row was stored
pub index_set_new : (i : ℕ) (rs : List Row) (k : ℕ) (r : Row) → k < length rs → index_of i rs ≡ length rs → r.id.0 ≡ i → index_of i (set rs k r) ≡ k
index_set_new i [] k r h m e = absurd (omega arith)
index_set_new i (q ∷ rs) zero r h m e = index_here i r rs e
index_set_new i (q ∷ rs) (suc k) r h m e =
    let d : q.id.0 ≢ i = λ z. omega (arith, index_here i q rs z) in
    index_later i q (set rs k r) d ∙ ap suc (index_set_new i rs k r (omega arith) (omega (arith, index_later i q rs d)) e)

-- an id whose one row is stored over is in none
pub index_set_gone : (i : ℕ) (rs : List Row) (k : ℕ) (r : Row) → distinct_ids rs ≡ true → k < length rs → id_at rs k ≡ i → i ≢ 0 → r.id.0 ≢ i
    → index_of i (set rs k r) ≡ length (set rs k r)
index_set_gone i rs k r g h e z n =
    missing_index i (set rs k r) λ j b.
    set_each (λ _ (x : Row). x.id.0 ≢ i) rs k r no_row h n
    (λ j b d q. d (distinct_one rs j k g b h (q ∙ sym e) (λ w. z (sym q ∙ w)))) j (omega (arith, length-set rs k r))

-- ids stay distinct where no other row has the new row's
pub distinct_set : (rs : List Row) (k : ℕ) (r : Row) → (r.id.0 ≢ 0 → (j : ℕ) → j < length rs → j ≢ k → id_at rs j ≢ r.id.0)
    → distinct_ids rs ≡ true → distinct_ids (set rs k r) ≡ true
distinct_set [] k r f g = g
distinct_set (q ∷ rs) zero r f g =
    distinct_cons r rs (λ n. missing_index r.id.0 rs (λ j b. f n (suc j) (omega arith) (λ e. omega arith))) (distinct_tail q rs g)
distinct_set (q ∷ rs) (suc k) r f g =
    distinct_cons q (set rs k r)
    (λ n. missing_set q.id.0 rs k r (distinct_head q rs g n) (λ e. f (λ z. n (sym e ∙ z)) 0 (omega arith) (λ z. omega arith) (sym e)))
    (distinct_set rs k r (λ n j b d. f n (suc j) (omega arith) (λ e. d (omega arith))) (distinct_tail q rs g))

-- ---- 3. the sum of shares

-- a row's share goes out, another's comes in
pub shares_set : (rs : List Row) (k : ℕ) (r : Row) → k < length rs → shares_in (set rs k r) + share_of (get_or rs k no_row) ≡ shares_in rs + share_of r
unfolding shares_in
shares_set rs k r h = sum_set shares_in share_of (λ a l. refl) rs k r no_row h

-- each share is part of the sum
pub share_below : (rs : List Row) (k : ℕ) → k < length rs → share_of (get_or rs k no_row) ≤ shares_in rs
unfolding held_in
share_below rs k h = omega (arith, shares_set rs k no_row h)

-- within its guarantee a row finds room, whatever the others hold
pub shares_modest : (rs : List Row) (k held most : ℕ) → k < length rs → shares_in rs ≤ most → held ≤ (get_or rs k no_row).guarantee
    → (shares_in rs - share_of (get_or rs k no_row)) + max held (get_or rs k no_row).guarantee ≤ most
shares_modest rs k held most h s p = omega (arith, share_below rs k h)

-- ---- 4. the lowest free id

-- the first one tried is free
lowest_here : (n k : ℕ) (rs : List Row) → index_of k rs ≡ length rs → lowest_free (suc n) k rs ≡ k
unfolding lowest_free
lowest_here n k rs e = ap (λ (t : Bool). pick t k (lowest_free n (suc k) rs)) (eq-eqb (index_of k rs) (length rs) e)

-- the first one tried is in a row
lowest_later : (n k : ℕ) (rs : List Row) → index_of k rs ≢ length rs → lowest_free (suc n) k rs ≡ lowest_free n (suc k) rs
unfolding lowest_free
lowest_later n k rs h = ap (λ (t : Bool). pick t k (lowest_free n (suc k) rs)) (ne_eqb (index_of k rs) (length rs) h)

-- none is left to try
lowest_none : (k : ℕ) (rs : List Row) → lowest_free 0 k rs ≡ 0
unfolding lowest_free
lowest_none k rs = refl

-- how many rows have an id of k or more
unfoldable above : ℕ → List Row → ℕ
above k [] = 0
above k (r ∷ rs) = min 1 (suc r.id.0 - k) + above k rs

above_most : (k : ℕ) (rs : List Row) → above k rs ≤ length rs
unfolding above
above_most k [] = omega arith
above_most k (r ∷ rs) = omega (arith, above_most k rs)

above_less : (k : ℕ) (rs : List Row) → above (suc k) rs ≤ above k rs
unfolding above
above_less k [] = omega arith
above_less k (r ∷ rs) = omega (arith, above_less k rs)

-- an id in a row takes one of them
above_one : (k : ℕ) (rs : List Row) → index_of k rs ≢ length rs → suc (above (suc k) rs) ≤ above k rs
unfolding above
above_one k [] h = absurd (h (index_none k))
above_one k (r ∷ rs) h =
    same_or_not r.id.0 k (λ e. omega (arith, above_less k rs)) (λ n. omega (arith, above_one k rs (λ e. h (index_later k r rs n ∙ ap suc e))))

-- where none is found, each is in a row
none_free : (n k : ℕ) (rs : List Row) → 0 < k → lowest_free n k rs ≡ 0 → n ≤ above k rs
none_free zero k rs h e = omega arith
none_free (suc n) k rs h e =
    same_or_not (index_of k rs) (length rs)
    (λ q. absurd (omega (arith, lowest_here n k rs q)))
    (λ q. omega (arith, above_one k rs q, none_free n (suc k) rs (omega arith) (sym (lowest_later n k rs q) ∙ e)))

-- with more ids than rows, one is found
lowest_some : (n k : ℕ) (rs : List Row) → 0 < k → length rs < n → 0 < lowest_free n k rs
lowest_some n k rs h s =
    same_or_not (lowest_free n k rs) 0
    (λ e. absurd (omega (arith, none_free n k rs h e, above_most k rs)))
    (λ q. omega arith)

-- what is found: it is among those tried, no row has it, and each before it is in a row
pub record Lowest (n k : ℕ) (rs : List Row) (i : ℕ) : Type 0 where
  pub from : k ≤ i
  pub to : i < k + n
  pub unused : index_of i rs ≡ length rs
  pub used : (j : ℕ) → k ≤ j → j < i → index_of j rs < length rs

-- what is found is the lowest
lowest_is : (n k : ℕ) (rs : List Row) → 0 < lowest_free n k rs → Lowest n k rs (lowest_free n k rs)
lowest_is zero k rs h = absurd (omega (arith, lowest_none k rs))
lowest_is (suc n) k rs h =
    same_or_not (index_of k rs) (length rs)
    (λ e. subst (Lowest (suc n) k rs) (sym (lowest_here n k rs e))
    (record { from = omega arith; to = omega arith; unused = e; used = λ j p q. absurd (omega arith) }))
    (λ d. let w = lowest_is n (suc k) rs (omega (arith, lowest_later n k rs d)) in
    subst (Lowest (suc n) k rs) (sym (lowest_later n k rs d))
    (record {
      from = omega (arith, w.from);
      to = omega (arith, w.to);
      unused = w.unused;
      used = λ j p q. same_or_not j k
          (λ e. subst (λ (x : ℕ). index_of x rs < length rs) (sym e) (omega (arith, index_below k rs)))
          (λ f. w.used j (omega arith) q);
    }))

-- eight rows always leave one
pub lowest_of_eight : (rs : List Row) → length rs ≡ 8 → Lowest 255 1 rs (lowest_free 255 1 rs)
lowest_of_eight rs e = lowest_is 255 1 rs (lowest_some 255 1 rs (omega arith) (omega arith))

-- from 1 to 255
pub lowest_between : (rs : List Row) → length rs ≡ 8 → (1 ≤ lowest_free 255 1 rs) × (lowest_free 255 1 rs ≤ 255)
lowest_between rs e = let w = lowest_of_eight rs e in (w.from, omega (arith, w.to))

-- a book of the same ids has the same lowest
pub lowest_book : (b : Book) (rs : List Row) → ((i : ℕ) → 1 ≤ i → there (b i) ≡ ltb (index_of i rs) (length rs))
    → (n k : ℕ) → 1 ≤ k → lowest_not_in b n k ≡ lowest_free n k rs
unfolding lowest_not_in
lowest_book b rs f zero k h = sym (lowest_none k rs)
lowest_book b rs f (suc n) k h =
    same_or_not (index_of k rs) (length rs)
    (λ e. ap (λ (t : Bool). pick t (lowest_not_in b n (suc k)) k) (f k h ∙ le-ltb (index_of k rs) (length rs) (omega arith)) ∙ sym (lowest_here n k rs e))
    (λ d. ap (λ (t : Bool). pick t (lowest_not_in b n (suc k)) k) (f k h ∙ lt-ltb (index_of k rs) (length rs) (omega (arith, index_below k rs)))
    ∙ lowest_book b rs f n (suc k) (omega arith) ∙ sym (lowest_later n k rs d))

-- ---- 5. five places, and the rows that are made

-- and so after storing a row of five
pub five_set : (rs : List Row) (k : ℕ) (r : Row) → FiveEach rs → length r.messages ≡ 5 → FiveEach (set rs k r)
five_set [] k r f e = tt
five_set (q ∷ rs) zero r f e = (e, f.1)
five_set (q ∷ rs) (suc k) r f e = (f.0, five_set rs k r f.1 e)

-- ids that are bytes, after storing a row whose id is one
pub ids_set : (rs : List Row) (n : ℕ) (r : Row) → n < length rs → r.id.0 ≤ 255 → ((k : ℕ) → k < length rs → id_at rs k ≤ 255)
    → (k : ℕ) → k < length (set rs n r) → id_at (set rs n r) k ≤ 255
ids_set rs n r h b f k i = set_each (λ _ (x : Row). x.id.0 ≤ 255) rs n r no_row h b (λ j q _. f j q) k (omega (arith, length-set rs n r))

-- a free row holds nothing
pub free_held : held_of free_row ≡ 0
unfolding held_in message_blocks
free_held = refl

-- a new row holds nothing
pub opened_held : (i : SessionId) (g c v h : ℕ) → held_of (opened_row i g c v h) ≡ 0
unfolding held_in message_blocks
opened_held i g c v h = refl

-- ---- the owners' numbers

pub owner_next : (i place : ℕ) → owner_of i (suc place) ≡ suc (owner_of i place)
unfolding owner_of
owner_next i place = omega arith

pub owner_some : (i place : ℕ) → owner_of i place ≡ 0 → ⊥
unfolding owner_of
owner_some i place e = omega arith

-- owners of two rows or places differ
pub owner_apart : (i k p q : ℕ) → p < 5 → q < 5 → ((k ≡ i) × (q ≡ p) → ⊥) → owner_of k q ≢ owner_of i p
unfolding owner_of
owner_apart i k p q a b n e = let x : k ≡ i = omega arith in let y : q ≡ p = omega arith in n (x, y)

-- a row's owners stand together, and no other row's among them
pub owner_outside : (i k q : ℕ) → q < 5 → k ≢ i → Outside (owner_of i 0) (owner_of i 4) (owner_of k q)
unfolding owner_of
owner_outside i k q h n a b = n (omega arith)

pub owner_inside : (i q : ℕ) → q < 5 → (owner_of i 0 ≤ owner_of i q) × (owner_of i q ≤ owner_of i 4) × (suc (owner_of i 4) - owner_of i 0 ≡ 5)
unfolding owner_of
owner_inside i q h = (omega arith, omega arith, omega arith)
