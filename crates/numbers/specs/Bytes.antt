-- Lists of bytes and buffers: parts, bytes put into a buffer, and the two ways to choose that all definitions use.
-- Assumes nothing.
use Rattle.std.specs.Prelude.{ℕ, ◌-◌, ◌<◌, Bool, true, false, ◌&&◌, List, [], ◌∷◌, ◌++◌, leb, length, take, drop}
use Rattle.std.proofs.Math.Seq.{paste}

-- the first where the test holds, else the second
abbrev pub pick : {A : Type 0} → Bool → A → A → A
pick true a b = a
pick false a b = b

-- unless the test holds, the first; else the second
abbrev pub unless : {A : Type 0} → Bool → A → A → A
unless true refusal rest = rest
unless false refusal rest = refusal

-- each of them is a byte, as in every slice of bytes
abbrev pub AreBytes : List ℕ → Type 0
AreBytes [] = Unit {0}
AreBytes (b ∷ bs) = (b < 256) × AreBytes bs

-- the w bytes of s from at on, as far as s has them
abbrev pub part : List ℕ → ℕ → ℕ → List ℕ
part s at w = take w (drop at s)

-- the bytes to the front of a buffer: "Bytes of out past those written stay."
abbrev pub laid : List ℕ → List ℕ → List ℕ
laid bytes out = bytes ++ drop (length bytes) out

-- w bytes from at on lie inside n bytes
unfoldable pub fits_in : ℕ → ℕ → ℕ → Bool
fits_in n at w = leb at n && leb w (n - at)

-- a buffer with the w bytes bs put from at on, where all of them fit; else as it was
unfoldable pub put_at : List ℕ → ℕ → ℕ → List ℕ → List ℕ
put_at s at w bs = pick (fits_in (length s) at w) (paste s at bs w) s
