-- What the code hands up from an element: its tag and its value's place, not the tags, which the document's loop alone changes. What it
-- says is an element's walk (`stepped`). Nothing here is needed to read `payload_of`. Assumes nothing.
use Rattle.std.specs.Prelude.{ℕ, ◌≤◌, List, Result, Ok, Err}
use Rattle.payload.specs.Tags.{with_tag}
use Rattle.payload.specs.Walk.{Walk}
use Rattle.payload.specs.declared.Tags.{Tags}
use Rattle.payload.specs.declared.Tag.{Tag}

-- the place past an element, its tag and its value's place; or the first fault
abbrev pub Step : Type 0
Step = Result (ℕ × Tag × ℕ) ℕ

-- the walk that a step stands for, with the tags t before it
abbrev pub stepped : List ℕ → Tags → Step → Walk
stepped s t (Ok (n, tag, v)) = Ok (n, with_tag s t tag v)
stepped s t (Err k) = Err k

-- the value starts inside its document
abbrev pub StepIn : ℕ → Step → Type 0
StepIn hi (Ok (n, tag, v)) = v ≤ hi
StepIn hi (Err k) = Unit {0}
