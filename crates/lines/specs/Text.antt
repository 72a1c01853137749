-- What hexadecimal and decimal text share: tests on characters, and text that goes to the front of a lent buffer.
-- A character is its number, as '0' is 48; a buffer is the list of its bytes. Assumes nothing.
use Rattle.std.specs.Prelude.{ℕ, List, [], ◌∷◌, Bool, true, ◌&&◌, length, leb, ltb, Option, Some, None}
use Rattle.numbers.specs.Bytes.{pick, laid}

-- whether b lies from low to high, both included
abbrev pub between : ℕ → ℕ → ℕ → Bool
between low high b = leb low b && leb b high

-- whether the test holds of each character
abbrev pub every : (ℕ → Bool) → List ℕ → Bool
every test [] = true
every test (b ∷ t) = test b && every test t

-- what a call that writes text leaves: its answer and the buffer
pub record Encoding : Type 0 where
  pub answer : Option ℕ
  pub buffer : List ℕ

abbrev pub encoded : Option ℕ → List ℕ → Encoding
encoded r out = record { answer = r; buffer = out }

-- the text goes to the front of the buffer; no answer, with nothing written, where the buffer is too short
unfoldable pub written_of : List ℕ → List ℕ → Encoding
written_of text out = pick (ltb (length out) (length text)) (encoded None out) (encoded (Some (length text)) (laid text out))
