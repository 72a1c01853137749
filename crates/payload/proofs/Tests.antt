-- A test that the code makes is the test of the definitions: the comparison of a key with a name. Assumes nothing.
use Prim.Native.Nat.{ℕ}
use mathlib.Core.Path.{◌≡◌}
use mathlib.Core.List.{List}
use mathlib.Core.Bool.{Bool}
use Rattle.payload.specs.Tags.{same_bytes}

-- the test whether a key is a name, which stands in the program as a slice
pub key_is : (key : List ℕ) {slice name : List ℕ} {r b : Bool} → r ≡ same_bytes key slice → slice ≡ name → r ≡ b → same_bytes key name ≡ b
key_is key e f g = rw (← f, ← e) g
