-- The place of a byte among others. Assumes nothing.
use Rattle.std.specs.Prelude.{ℕ, suc, List, [], ◌∷◌, eqb}
use Rattle.numbers.specs.Bytes.{pick}

-- how many bytes stand before the first b; all of them where there is none
unfoldable pub index_of : ℕ → List ℕ → ℕ
index_of b [] = 0
index_of b (x ∷ bytes) = pick (eqb x b) 0 (suc (index_of b bytes))
