-- Text put into a buffer part by part: parts with their space, and a line's whole text. By the laws of take and drop and of `Appended`. Assumes nothing.
use Rattle.std.proofs.Common.{◌≡◌, ℕ, ◌+◌, ◌-◌, ◌<◌, ◌≤◌, List, [], ◌∷◌, ◌++◌, length, take, sym, refl, ap, ◌∙◌, append_assoc, arith, length-append, take-append-drop, length-take, Option, Some, None, IsSome}
use Rattle.numbers.specs.Bytes.{part}
use Rattle.lines.specs.Text.{encoded, written_of}
use Rattle.lines.specs.Hex.{hex_of}
use Rattle.lines.specs.Decimal.{decimal_of}
use Rattle.lines.proofs.Characters.{length_hex}
use Rattle.payload.specs.Append.{Appended}
use Rattle.payload.proofs.Appends.{more, renamed}
use Rattle.payload.proofs.Writers.{rest_full}
use Rattle.link.specs.Values.{Kind, short, refused, reply, silent, delivery, Values}
use Rattle.headunit.specs.Unit.{sent, sent_of}
use Rattle.benchline.specs.Line.{spaced, verdict_by, verdict_of, text_of}

-- the front of a buffer is no longer than the buffer
pub front_short : {q : List ℕ} (n : ℕ) (o : List ℕ) → q ≡ take n o → length q ≤ length o
front_short n o e = omega (arith, ap length e, length-take n o)

-- a writer of `lines` has an answer where its text fits into what is left of a buffer
pub rest_some : {a : Option ℕ} {r : List ℕ} (d o : List ℕ) (at : ℕ) → at + length d ≤ length o → encoded a r ≡ written_of d (part o at (length o - at)) → IsSome a
rest_some {a = Some n} d o at room e = refl
rest_some {a = None} d o at room e = absurd (rest_full d o at room e refl)

-- a part with its space
pub spaced_some : (d : List ℕ) → 0 < length d → 32 ∷ d ≡ spaced d
spaced_some [] h = absurd (omega arith)
spaced_some (b ∷ d) h = refl

pub spaced_most : (d : List ℕ) → length (spaced d) ≤ length d + 1
spaced_most [] = omega arith
spaced_most (b ∷ d) = omega arith

pub spaced_service : (s : ℕ) → length (spaced (hex_of (s ∷ []))) ≡ 3
unfolding hex_of
spaced_service s = refl

-- no bytes, no part
pub none_put : (bytes o : List ℕ) (at : ℕ) → length bytes ≡ 0 → Appended at (spaced (hex_of bytes)) o at o
unfolding hex_of
none_put [] o at h =
    let z : at + 0 ≡ at = omega arith in
    record { ends = sym z; puts = rw (z, take-append-drop) }
none_put (b ∷ bytes) o at h = absurd (omega arith)

-- some bytes: a space and their digits
pub part_put : (bytes o : List ℕ) {at n m : ℕ} {p q : List ℕ} → 0 < length bytes → at + 1 ≤ length o → Appended at (32 ∷ []) o n p → Appended n (hex_of bytes) p m q
    → Appended at (spaced (hex_of bytes)) o m q
part_put bytes o h room e f =
    renamed (spaced_some (hex_of bytes) (omega (arith, length_hex bytes))) (more (32 ∷ []) (hex_of bytes) room e f)

-- no verdict is empty
verdict_by_lem : (k : Kind) (v : Values) (out : List ℕ) → 32 ∷ verdict_by k v out ≡ spaced (verdict_by k v out)
verdict_by_lem short v out = refl
verdict_by_lem refused v out = refl
verdict_by_lem (reply r) v out = refl
verdict_by_lem silent v out = refl
verdict_by_lem delivery v out = refl

pub verdict_some : (v : Values) (out : List ℕ) → 32 ∷ verdict_of v out ≡ spaced (verdict_of v out)
verdict_some v out = verdict_by_lem v.kind v out

-- number and space, the verdict, and the newline
joined : (d v : List ℕ) → 32 ∷ v ≡ spaced v → ((d ++ 32 ∷ []) ++ v) ++ 10 ∷ [] ≡ d ++ (spaced v ++ 10 ∷ [])
joined d v e = rw (← e, append_assoc, append_assoc)

module _ (number : ℕ) (v o : List ℕ) where
  pub text_put : {n m k : ℕ} {p q r : List ℕ} → m ≤ length o → 32 ∷ v ≡ spaced v → Appended 0 (decimal_of number ++ 32 ∷ []) o n p → Appended n v p m q → Appended m (10 ∷ []) q k r
      → sent k r ≡ sent_of (text_of number v) o
  text_put {r = r} room s e f g =
      let begin = decimal_of number ++ 32 ∷ [] in
      let near : 0 + length begin ≤ length o = omega (arith, e.ends, f.ends) in
      let far : 0 + length (begin ++ v) ≤ length o = omega (arith, length-append begin v, e.ends, f.ends) in
      let all = renamed (joined (decimal_of number) v s) (more (begin ++ v) (10 ∷ []) far (more begin v near e f) g) in
      let z : 0 + length (text_of number v) ≡ length (text_of number v) = omega arith in
      ap (λ (i : ℕ). sent i r) (all.ends ∙ z) ∙ ap (λ (l : List ℕ). sent (length (text_of number v)) l) (all.puts ∙ rw z)
