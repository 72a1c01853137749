-- What the writers of this crate leave. 11 is document 01's. Assumes nothing.
use Rattle.std.specs.Prelude.{ℕ, ◌+◌, ◌≡◌, List, ◌++◌, leb, length, take, drop, Result, Ok, Err}
use Rattle.numbers.specs.Bytes.{unless, laid}

-- a buffer with the bytes put from at on
abbrev pub placed : ℕ → List ℕ → List ℕ → List ℕ
placed at bytes out = take at out ++ (bytes ++ drop (at + length bytes) out)

-- what a small writer leaves: the bytes stand in the buffer from at on, and it answers where they end
pub record Appended (at : ℕ) (bytes before : List ℕ) (end : ℕ) (after : List ℕ) : Type 0 where
  pub ends : end ≡ at + length bytes
  pub puts : after ≡ placed at bytes before

-- what a public writer leaves: its answer and the buffer
pub record Wrote : Type 0 where
  pub answer : Result ℕ ℕ
  pub out : List ℕ

abbrev pub wrote : Result ℕ ℕ → List ℕ → Wrote
wrote a o = record { answer = a; out = o }

-- the bytes to the front of the buffer; 11, and nothing, where it is "too small for the bytes due"
abbrev pub put_of : List ℕ → List ℕ → Wrote
put_of bytes out = unless (leb (length bytes) (length out)) (wrote (Err 11) out) (wrote (Ok (length bytes)) (laid bytes out))
