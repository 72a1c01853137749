-- The types that are read and their numbers, for the model of `Kind`: a type is seen as its number, and the number gives the type back. The names are those
-- of the code (src/kind). Assumes nothing.
use Rattle.std.specs.Prelude.{ℕ, eqb, refl, ◌≡◌}
use Rattle.std.proofs.Common.{ap}
use Rattle.numbers.specs.Bytes.{pick}
use Rattle.payload.specs.declared.kind.BsonType.{BsonType}
use Rattle.payload.specs.declared.kind.BsonType.TheVariants.{Double, String, Document, Array, Boolean, Null, Int32, Int64}
use Rattle.payload.specs.declared.kind.Kind.TheInside.{Inside}

-- a type's number, in bsonspec.org's grammar
abbrev pub number_of : BsonType → ℕ
number_of Double = 0x01
number_of String = 0x02
number_of Document = 0x03
number_of Array = 0x04
number_of Boolean = 0x08
number_of Null = 0x0A
number_of Int32 = 0x10
number_of Int64 = 0x12

-- the type with a number; the last one for a number that none has
abbrev pub type_of : ℕ → BsonType
type_of n =
    pick (eqb n 0x01) Double
    (pick (eqb n 0x02) String
    (pick (eqb n 0x03) Document
    (pick (eqb n 0x04) Array
    (pick (eqb n 0x08) Boolean
    (pick (eqb n 0x0A) Null
    (pick (eqb n 0x10) Int32
    Int64))))))

-- no two types have one number
pub type_back : (t : BsonType) → type_of (number_of t) ≡ t
type_back Double = refl
type_back String = refl
type_back Document = refl
type_back Array = refl
type_back Boolean = refl
type_back Null = refl
type_back Int32 = refl
type_back Int64 = refl

pub read_back : (k : Inside) → record { bson = type_of (number_of k.bson) } ≡ k
read_back k = ap (λ (t : BsonType). record { bson = t }) (type_back k.bson)
