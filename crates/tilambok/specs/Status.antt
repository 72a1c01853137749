-- What every C function answers: a status, which is its result, and a value through a number that the caller lends.
-- Document 01: "When an answer is an enum, the promises use a definition that gives this paper's number and values for each case." A refusal's status is the
-- paper's number; 0 for done and 128 for Short are ours, as the C header tells them. No refusal has these numbers.
-- Assumes nothing.
use Rattle.std.specs.Prelude.{ℕ, ◌^◌, ◌≤◌, ◌<◌, List, Result as Answer, Ok, Err}
use Rattle.frame.specs.Write.{Wrote}

-- the status, and the lent number as the call left it
pub record Result : Type 0 where
  pub status : ℕ
  pub value : ℕ

abbrev pub result_of : ℕ → ℕ → Result
result_of s v = record { status = s; value = v }

abbrev pub done : ℕ → Result
done v = result_of 0 v

-- "Short with the bytes needed in all"
abbrev pub short : ℕ → Result
short n = result_of 128 n

-- "All leave everything unchanged": the lent number stays
abbrev pub refused : ℕ → ℕ → Result
refused value n = result_of n value

-- what a call leaves: its result, and the bytes that were lent to be written
pub record Left : Type 0 where
  pub result : Result
  pub lent : List ℕ

abbrev pub left : ℕ → List ℕ → ℕ → Left
left s b v = record { result = result_of s v; lent = b }

-- a writer's answer: done with the bytes written, or refused
abbrev pub written_result : ℕ → Answer ℕ ℕ → Result
written_result value (Ok n) = done n
written_result value (Err n) = refused value n

-- the same, with the out buffer as the writer left it
abbrev pub answered : ℕ → Wrote → Left
answered value w = record { result = written_result value w.answer; lent = w.out }

-- a refusal's number, which no other status is
abbrev pub IsRefusal : ℕ → Type 0
IsRefusal n = (1 ≤ n) × (n < 128)

-- a value has room in its 32 bits
abbrev pub WrittenFits : Answer ℕ ℕ → Type 0
WrittenFits (Ok n) = n < 2 ^ 32
WrittenFits (Err n) = IsRefusal n
