-- What a frame's header may say: document 01, "Frame layout", and the refusals 1 to 6 of its table.
-- Assumes nothing.
use Rattle.std.specs.Prelude.{ℕ, Bool, false, ◌&&◌, ◌||◌, not, List, [], ◌∷◌, eqb, leb}
use Rattle.numbers.specs.Bytes.{pick, unless}
use Rattle.frame.specs.declared.Header.{Header}
use Rattle.frame.specs.declared.ServiceType.{ServiceType}

-- whether a number is among those of a list
abbrev pub is_in : ℕ → List ℕ → Bool
is_in n [] = false
is_in n (m ∷ ms) = eqb n m || is_in n ms

-- 1: "version 0 or above 5"
unfoldable pub known_version : ℕ → Bool
known_version v = not (eqb v 0) && leb v 5

-- 3: "Services: 00, 07 RPC, 0A audio, 0B video, 0F bulk (hex)"
unfoldable pub listed_service : ServiceType → Bool
listed_service s = is_in s.0 (0x00 ∷ 0x07 ∷ 0x0A ∷ 0x0B ∷ 0x0F ∷ [])

-- 4: "Control infos: 00 to 09, FD, FE, FF". "Single and First Frames may carry any info"; a consecutive frame's is its number, judged by its session
unfoldable pub info_fits : ℕ → ℕ → Bool
info_fits kind info = not (eqb kind 0) || (leb info 0x09 || leb 0xFD info)

-- 5: "flag set in version 1 or on a First Frame"
unfoldable pub flag_fits : ℕ → ℕ → Bool → Bool
flag_fits v kind flag = not (flag && (eqb v 1 || eqb kind 2))

-- "Largest data size: 1,488 in versions 1 and 2 (000's table), 131,072 in 3 to 5"
unfoldable pub largest : ℕ → ℕ
largest v = pick (leb v 2) 1488 131072

-- 6: "First Frame size not 8, consecutive size 0, or above the largest"
unfoldable pub size_fits : ℕ → ℕ → ℕ → Bool
size_fits v kind size = (not (eqb kind 2) || eqb size 8) && ((not (eqb kind 3) || not (eqb size 0)) && leb size (largest v))

-- the lowest of the refusals 1 to 6 that a header earns; 0 if none. 2: "frame type above 3"
unfoldable pub fault_of : Header → ℕ
fault_of h =
    unless (known_version h.version) 1
    (unless (leb h.kind 3) 2
    (unless (listed_service h.service) 3
    (unless (info_fits h.kind h.info) 4
    (unless (flag_fits h.version h.kind h.flag) 5
    (unless (size_fits h.version h.kind h.size) 6 0)))))

-- "Versions 2 to 5 add a message id (4 bytes). Version 1 has an 8-byte header"
unfoldable pub header_size : ℕ → ℕ
header_size v = pick (eqb v 1) 8 12
