-- "Services: 00, 07 RPC, 0A audio, 0B video, 0F bulk (hex)." The names are those of the code (src/service).
-- Assumes nothing.
use Rattle.std.specs.Prelude.{ℕ, List, [], ◌∷◌}

abbrev pub control : ℕ
control = 0x00

abbrev pub rpc : ℕ
rpc = 0x07

abbrev pub audio : ℕ
audio = 0x0A

abbrev pub video : ℕ
video = 0x0B

abbrev pub bulk : ℕ
bulk = 0x0F

-- in the order of their places: each session has one for each, and a message stands at its service's
abbrev pub all : List ℕ
all = control ∷ rpc ∷ audio ∷ video ∷ bulk ∷ []
