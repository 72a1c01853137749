-- Bytes put into a buffer piece by piece: a step, two steps after each other, and the answer of a public writer.
-- By the laws of take and drop. Assumes nothing.
use Prim.Native.Nat.{ℕ, ◌+◌, ◌-◌, ◌≤◌, ◌<◌}
use mathlib.Core.Path.{◌≡◌, ap, ◌∙◌, sym}
use mathlib.Core.List.{List, [], ◌++◌, append_assoc, append-nil}
use native.Mathlib.Omega.{arith}
use borrow.Author.Tests.{le-leb, lt-leb}
use borrow.Rule.Slice.PartMut.{put_mid}
use lib.ListN.{length, take, drop, length-append, length-take, drop_of_length-le}
use lib.Seq.{length-take-le, take_all, take_at, drop_at, drop-drop, paste}
use Rattle.std.specs.Prelude.{Err}
use Rattle.numbers.specs.Bytes.{part, put_at, laid}
use Rattle.numbers.proofs.Laws.{put_fits}
use Rattle.payload.specs.Append.{Appended, wrote, put_of}
use Rattle.payload.specs.Version.{saying_of}
use Rattle.payload.specs.declared.version.Version.{Version}

-- one more piece, right behind
module _ (a b : List ℕ) {at n m : ℕ} {o p q : List ℕ} (room : at + length a ≤ length o) where
  pub more : Appended at a o n p → Appended n b p m q → Appended at (a ++ b) o m q
  more e f =
      let z = take at o ++ a in
      let l : length z ≡ n = omega (arith, length-append (take at o) a, length-take-le at o (omega arith), e.ends) in
      let p' : p ≡ z ++ drop (at + length a) o = e.puts ∙ sym (append_assoc (take at o) a (drop (at + length a) o)) in
      let near : take n p ≡ z = rw p' (take_at z (drop (at + length a) o) n l) in
      let past : drop n p ≡ drop (at + length a) o = rw p' (drop_at z (drop (at + length a) o) n l) in
      let k : at + length a + length b ≡ at + length (a ++ b) = omega (arith, length-append a b) in
      let far : drop (n + length b) p ≡ drop (at + length (a ++ b)) o = sym (drop-drop (length b) n p) ∙ ap (drop (length b)) past ∙ drop-drop (length b) (at + length a) o ∙ ap (λ (i : ℕ). drop i o) k in
      record {
        ends = omega (arith, length-append a b, e.ends, f.ends);
        puts = f.puts ∙ rw (near, far, append_assoc, append_assoc);
      }

-- the same bytes under another name
pub renamed : {a b : List ℕ} {at m : ℕ} {o q : List ℕ} → a ≡ b → Appended at a o m q → Appended at b o m q
renamed e f = rw e at f

-- a number of w bytes
pub number_put : (w : ℕ) (b : List ℕ) (at : ℕ) (o q : List ℕ) → length b ≡ w → at + w ≤ length o → q ≡ put_at o at w b → Appended at b o (at + w) q
number_put w b at o q l h e =
    let t : take w b ≡ b = take_all w b (omega arith) in
    let f : paste o at b w ≡ take at o ++ (b ++ drop (at + w) o) = rw (t, append_assoc) in
    let z : at + w ≡ at + length b = omega arith in
    record { ends = z; puts = e ∙ put_fits o at w b h ∙ f ∙ rw z }

-- bytes laid into a part of the buffer that is as long as they are
pub part_put : (b : List ℕ) (at n : ℕ) (o : List ℕ) {r : List ℕ} → n ≡ at + length b → r ≡ laid b (part o at (n - at)) → Appended at b o n (put_mid at (n - at) o r)
part_put b at n o e f =
    let z : n - at ≡ length b = omega arith in
    let m : drop (length b) (part o at (length b)) ≡ [] = drop_of_length-le (part o at (length b)) {i = length b} (omega (arith, length-take (length b) (drop at o))) in
    record { ends = e; puts = rw (f, z, m, append-nil, drop-drop) }

-- what a public writer answers where so many bytes have no room
pub too_small : (b o : List ℕ) {k : ℕ} → length b ≡ k → length o < k → wrote (Err 11) o ≡ put_of b o
too_small b o {k} e h = rw (e, lt-leb k (length o) h)

-- what a public writer answers whose bytes say a version
module _ (v : Version) (b o : List ℕ) where
  pub out_of_range : v.major < 1 → wrote (Err 10) o ≡ saying_of v b o
  out_of_range h = rw (lt-leb 1 v.major h)

  pub in_range_put : 1 ≤ v.major → put_of b o ≡ saying_of v b o
  in_range_put h = rw (le-leb 1 v.major h)
