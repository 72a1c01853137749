-- The frames among document 01's marked cases, as one list, and what it says of each: it is read as that header and payload, and
-- written as those bytes; and the numbers and totals around document 02's A2. Proved in proofs/Figures. Assumes nothing.
use Rattle.std.specs.Prelude.{ℕ, true, false, List, [], ◌∷◌, map, ◌≡◌}
use Rattle.frame.specs.declared.Header.{Header}
use Rattle.frame.specs.declared.Reading.TheVariants.{Frame}
use Rattle.frame.specs.Message.{frame_number, totals_fit}
use Rattle.frame.specs.Read.{extent_of, read_of}
use Rattle.frame.specs.Write.{frame_bytes}

pub record Figure : Type 0 where
  pub bytes : List ℕ
  pub header : Header
  pub payload : List ℕ

abbrev header : ℕ → ℕ → ℕ → ℕ → ℕ → ℕ → ℕ → Header
header version kind service info session size message = record {
  version = version;
  flag = false;
  kind = kind;
  service = record { 0 = service };
  info = info;
  session = record { 0 = session };
  size = size;
  message = record { 0 = message };
}

-- "opening"
abbrev opening : Figure
opening = record { bytes = 0x10 ∷ 0x07 ∷ 0x01 ∷ 0 ∷ 0 ∷ 0 ∷ 0 ∷ 0 ∷ []; header = header 1 0 0x07 0x01 0 0 0; payload = [] }

-- "NAK: `40 07 03` and nine zeros"
abbrev nak : Figure
nak = record { bytes = 0x40 ∷ 0x07 ∷ 0x03 ∷ 0 ∷ 0 ∷ 0 ∷ 0 ∷ 0 ∷ 0 ∷ 0 ∷ 0 ∷ 0 ∷ []; header = header 4 0 0x07 0x03 0 0 0; payload = [] }

-- "version 5, total 600, count 2"
abbrev first_frame : Figure
first_frame = record {
  bytes = 0x52 ∷ 0x07 ∷ 0 ∷ 0x01 ∷ 0 ∷ 0 ∷ 0 ∷ 0x08 ∷ 0 ∷ 0 ∷ 0 ∷ 0x07 ∷ 0 ∷ 0 ∷ 0x02 ∷ 0x58 ∷ 0 ∷ 0 ∷ 0 ∷ 0x02 ∷ [];
  header = header 5 2 0x07 0 1 8 7;
  payload = 0 ∷ 0 ∷ 0x02 ∷ 0x58 ∷ 0 ∷ 0 ∷ 0 ∷ 0x02 ∷ [];
}

abbrev pub figures : List Figure
figures = opening ∷ nak ∷ first_frame ∷ []

pub record Right (f : Figure) : Type 0 where
  pub read : read_of f.bytes ≡ Frame f.header (extent_of f.header)
  pub written : frame_bytes f.header f.payload ≡ f.bytes

abbrev pub AllRight : List Figure → Type 0
AllRight [] = Unit {0}
AllRight (f ∷ fs) = Right f × AllRight fs

-- "The number after 255 is 1 again": frames of a message of 65,536, then the 256th of 256 and of 257, and the last one of 400
abbrev pub NumbersRight : Type 0
NumbersRight =
    (map (λ (k : ℕ). frame_number k 65536) (1 ∷ 2 ∷ 254 ∷ 255 ∷ 256 ∷ 257 ∷ 510 ∷ 511 ∷ 65535 ∷ 65536 ∷ []) ≡ 1 ∷ 2 ∷ 254 ∷ 255 ∷ 1 ∷ 2 ∷ 255 ∷ 1 ∷ 255 ∷ 0 ∷ [])
    × (frame_number 256 256 ∷ frame_number 256 257 ∷ frame_number 400 400 ∷ [] ≡ 0 ∷ 1 ∷ 0 ∷ [])

-- "18 loses its bound 256 on the count": 400 frames, and as many frames as bytes, up to 65,536
abbrev pub TotalsRight : Type 0
TotalsRight =
    totals_fit 16000 400 ∷ totals_fit 257 257 ∷ totals_fit 65536 65536 ∷ totals_fit 257 258 ∷ totals_fit 65537 1 ∷ totals_fit 1 0 ∷ totals_fit 0 0 ∷ []
    ≡ true ∷ true ∷ true ∷ false ∷ false ∷ false ∷ false ∷ []
