-- Version strings, what they say and which are written, by computation: document 01's marked ones among them. Assumes nothing.
use mathlib.Core.Path.{◌≡◌, refl}
use mathlib.Core.List.{[], ◌∷◌, map}
use Rattle.std.specs.Prelude.{Some, None, Ok, Err}
use Rattle.lines.specs.Place.{index_of}
use Rattle.lines.specs.Decimal.{value_from, value_of, number_of, digits_by, decimal_of}
use Rattle.payload.specs.Append.{wrote}
use Rattle.payload.specs.Version.{version, part_of, version_from, version_of, version_text, write_version_of}

-- "5.4.1", "5.0.0", "255.255.255"; "5.04.1", "0.9.9", "256.0.0", "5.4", "5.4.1.", "", "5..1", "00.0.0", "5.4.x"
readings :
    map version_of
    ((53 ∷ 46 ∷ 52 ∷ 46 ∷ 49 ∷ []) ∷ (53 ∷ 46 ∷ 48 ∷ 46 ∷ 48 ∷ [])
    ∷ (50 ∷ 53 ∷ 53 ∷ 46 ∷ 50 ∷ 53 ∷ 53 ∷ 46 ∷ 50 ∷ 53 ∷ 53 ∷ [])
    ∷ (53 ∷ 46 ∷ 48 ∷ 52 ∷ 46 ∷ 49 ∷ []) ∷ (48 ∷ 46 ∷ 57 ∷ 46 ∷ 57 ∷ []) ∷ (50 ∷ 53 ∷ 54 ∷ 46 ∷ 48 ∷ 46 ∷ 48 ∷ [])
    ∷ (53 ∷ 46 ∷ 52 ∷ []) ∷ (53 ∷ 46 ∷ 52 ∷ 46 ∷ 49 ∷ 46 ∷ []) ∷ []
    ∷ (53 ∷ 46 ∷ 46 ∷ 49 ∷ []) ∷ (48 ∷ 48 ∷ 46 ∷ 48 ∷ 46 ∷ 48 ∷ []) ∷ (53 ∷ 46 ∷ 52 ∷ 46 ∷ 120 ∷ []) ∷ [])
    ≡ Some (version 5 4 1) ∷ Some (version 5 0 0) ∷ Some (version 255 255 255)
    ∷ None ∷ None ∷ None ∷ None ∷ None ∷ None ∷ None ∷ None ∷ None ∷ []
unfolding index_of value_from value_of number_of part_of version_from version_of
readings = refl

-- "0.4.1" is not written, with room and without; "5.4.1" needs five bytes
writings :
    write_version_of (version 0 4 1) [] ∷ write_version_of (version 0 4 1) (1 ∷ 2 ∷ 3 ∷ 4 ∷ 5 ∷ 6 ∷ []) ∷ write_version_of (version 5 4 1) (1 ∷ 2 ∷ 3 ∷ 4 ∷ [])
    ∷ write_version_of (version 5 4 1) (1 ∷ 2 ∷ 3 ∷ 4 ∷ 5 ∷ 6 ∷ []) ∷ []
    ≡ wrote (Err 10) [] ∷ wrote (Err 10) (1 ∷ 2 ∷ 3 ∷ 4 ∷ 5 ∷ 6 ∷ []) ∷ wrote (Err 11) (1 ∷ 2 ∷ 3 ∷ 4 ∷ [])
    ∷ wrote (Ok 5) (53 ∷ 46 ∷ 52 ∷ 46 ∷ 49 ∷ 6 ∷ []) ∷ []
unfolding digits_by decimal_of version_text
writings = refl
