-- Version strings. Document 01, "Control payloads": "A version string is three decimal parts of value 0 to 255, no spare zeros, major at
-- least 1." Assumes nothing.
use Rattle.std.specs.Prelude.{ℕ, ◌+◌, Bool, ◌&&◌, ◌||◌, List, ◌∷◌, ◌++◌, eqb, leb, ltb, length, take, drop, get_or, Option, Some, None, Result, Ok, Err}
use Rattle.lines.specs.Place.{index_of}
use Rattle.lines.specs.Decimal.{number_of, decimal_of}
use Rattle.lines.specs.declared.NumberFault.{NumberFault}
use Rattle.numbers.specs.Bytes.{pick, unless}
use Rattle.payload.specs.Append.{Wrote, wrote, put_of}
use Rattle.payload.specs.declared.version.Version.{Version}

abbrev pub version : ℕ → ℕ → ℕ → Version
version a b c = record { major = a; minor = b; patch = c }

-- the text before the first dot, all of it where there is none; and the text past that dot
abbrev pub before_dot : List ℕ → List ℕ
before_dot text = take (index_of 46 text) text

abbrev pub after_dot : List ℕ → List ℕ
after_dot text = drop (index_of 46 text + 1) text

-- "no spare zeros": a zero in front of other characters
abbrev pub spare_zero : List ℕ → Bool
spare_zero text = leb 2 (length text) && eqb (get_or text 0 0) 48

-- what decimal text says, as far as a part may say it: "value 0 to 255"
abbrev pub part_value : Result ℕ NumberFault → Option ℕ
part_value (Ok n) = unless (leb n 255) None (Some n)
part_value (Err fault) = None

-- what a part says: "value 0 to 255, no spare zeros"
unfoldable pub part_of : List ℕ → Option ℕ
part_of text = pick (spare_zero text) None (part_value (number_of text))

-- "three decimal parts .., major at least 1"
unfoldable pub version_from : Option ℕ → Option ℕ → Option ℕ → Option Version
version_from (Some a) (Some b) (Some c) = unless (leb 1 a) None (Some (version a b c))
version_from a b c = None

-- the version that a text says; a fourth part stays in the third, which is then no number
unfoldable pub version_of : List ℕ → Option Version
version_of text = version_from (part_of (before_dot text)) (part_of (before_dot (after_dot text))) (part_of (after_dot (after_dot text)))

-- "protocolVersion (string)": the string of a version, whatever its numbers; it is written only where it can be read (`write_version_of`)
unfoldable pub version_text : Version → List ℕ
version_text v = decimal_of v.major ++ (46 ∷ (decimal_of v.minor ++ (46 ∷ decimal_of v.patch)))

-- what a writer leaves whose bytes say a version: 10, "settings .. out of range", and nothing, where no string says it ("major at least 1"); else the bytes, or 11
abbrev pub saying_of : Version → List ℕ → List ℕ → Wrote
saying_of v bytes out = unless (leb 1 v.major) (wrote (Err 10) out) (put_of bytes out)

-- the string of a version to the front of the buffer
abbrev pub write_version_of : Version → List ℕ → Wrote
write_version_of v out = saying_of v (version_text v) out

-- x is below y, or is y and the rest holds
abbrev pub below_or : ℕ → ℕ → Bool → Bool
below_or x y rest = ltb x y || (eqb x y && rest)

-- a comes before b or is b: "compared by major, minor, patch"
unfoldable pub at_most : Version → Version → Bool
at_most a b = below_or a.major b.major (below_or a.minor b.minor (leb a.patch b.patch))

-- "the lesser of both versions"
unfoldable pub lesser_of : Version → Version → Version
lesser_of a b = pick (at_most a b) a b
