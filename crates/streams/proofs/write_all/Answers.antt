-- What one more write took stands behind what was taken before.
use Rattle.std.proofs.Common.{◌≡◌, ℕ, ◌-◌, List, ◌++◌, refl, length, take, drop, sym, ap, ◌∙◌, subst}
use Rattle.std.proofs.lemmas.List.{append_assoc, take_at, take_rest, take-append-drop}
use Rattle.std.specs.Io.KnownBytes.{Appends}
use Rattle.std.proofs.KnownBytes.{Appends-trans}
use Rattle.streams.proofs.write_all.Goals as goal

front_of : (bytes front rest : List ℕ) → bytes ≡ front ++ rest → front ≡ take (length front) bytes
front_of bytes front rest e = rw e (sym (take_at front rest (length front) refl))

-- n of the bytes that were left went behind the front
one_more : (bytes front rest : List ℕ) (n : ℕ) → bytes ≡ front ++ rest → bytes ≡ (front ++ take n rest) ++ take (length rest - n) (drop n rest)
one_more bytes front rest n e = e ∙ ap (λ l. front ++ l) (sym (take-append-drop n rest)) ∙ sym (append_assoc front (take n rest) (drop n rest)) ∙ ap (λ l. (front ++ take n rest) ++ l) (sym (take_rest rest n))

pub returns-then-count-eq0-clause-front : goal.returns-then-count-eq0-clause-front
returns-then-count-eq0-clause-front g c =
    let i = c.loop-rest.invariant in
    let more = one_more _ i.0 _ c.write-count.result i.1 in
    (length (i.0 ++ take c.write-count.result c.loop-rest.rest.now), subst (Appends _ _) (front_of _ _ _ more) (Appends-trans _ _ _ _ _ i.2 c.write-count.ensures.bytes))

pub loop-rest-preserved : goal.loop-rest-preserved
loop-rest-preserved g c =
    let i = c.loop-rest.invariant in
    (i.0 ++ take c.write-count.result c.loop-rest.rest.now, one_more _ i.0 _ c.write-count.result i.1, Appends-trans _ _ _ _ _ i.2 c.write-count.ensures.bytes)

pub returns-clause-front : goal.returns-clause-front
returns-clause-front g c =
    let i = c.loop-rest.invariant in
    (length i.0, subst (Appends _ _) (front_of _ i.0 _ i.1) i.2)
