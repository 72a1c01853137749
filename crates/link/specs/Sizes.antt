-- How large the numbers of an answer are, for a caller who keeps them in 32 bits, and a refusal's in one byte beside other marks. Proved in proofs/Sizes.
-- Assumes nothing.
use Rattle.std.specs.Prelude.{ℕ, ◌≤◌, ◌<◌, List}
use Rattle.link.specs.declared.Link.{Link}
use Rattle.link.specs.declared.Grant.{Grant}
use Rattle.link.specs.declared.Answer.{Answer}
use Rattle.link.specs.declared.Answer.TheVariants as answer
use Rattle.link.specs.Call.{call_of}
use Rattle.link.specs.Search.{Shaped}

-- a refusal is one of document 01's numbers, a frame has at most 12 + 131,072 bytes, a reply fits the least out, and what is delivered is a frame's payload or
-- a message of at most 65,536 bytes
abbrev pub Small : Answer → Type 0
Small (answer.Short n) = n ≤ 131084
Small (answer.Refused n) = (1 ≤ n) × (n ≤ 25)
Small (answer.Acked c n) = (c ≤ 131084) × (n ≤ 128)
Small (answer.Nacked c n) = (c ≤ 131084) × (n ≤ 128)
Small (answer.Beat c n) = (c ≤ 131084) × (n ≤ 128)
Small (answer.Accepted c) = c ≤ 131084
Small (answer.Delivered c v n) = (c ≤ 131084) × (n ≤ 131072)

-- for every link as code gives it, whatever it holds, any pool, input, out and offer
abbrev pub AnswersSmall : Type 0
AnswersSmall =
    (l : Link) → Shaped l → l.version.minor < 256 → l.version.patch < 256 → (p s o : List ℕ) (g : Grant) → Small (call_of l p s o g).answer
