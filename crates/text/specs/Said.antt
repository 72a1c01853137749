-- What a text says, and what becomes of it when a piece is put behind it. A character is its number, as 'A' is 65. Assumes nothing.
use Rattle.std.specs.Prelude.{ℕ, ◌≤◌, ◌≡◌, List, ◌++◌, length, take}
use Rattle.text.specs.declared.Text.{Text}

-- the characters before its end
abbrev pub said : Text → List ℕ
said t = take t.end t.chars

-- r says this, cut at 4,096 characters, and spells no bytes
pub record Started (piece : List ℕ) (r : Text) : Type 0 where
  pub says : said r ≡ take 4096 piece
  pub within : r.end ≤ 4096
  pub ends : r.end ≡ length (said r)
  pub cut : r.cut ≡ 0
  pub size : r.size ≡ 0

-- r says what t said and this behind it, cut at 4,096 characters, and spells the same bytes at the same place
pub record Longer (t : Text) (piece : List ℕ) (r : Text) : Type 0 where
  pub says : said r ≡ take 4096 (said t ++ piece)
  pub within : r.end ≤ 4096
  pub ends : r.end ≡ length (said r)
  pub cut : r.cut ≡ t.cut
  pub size : r.size ≡ t.size

-- the same, but r spells so many bytes behind what it says
pub record Marked (t : Text) (piece : List ℕ) (count : ℕ) (r : Text) : Type 0 where
  pub says : said r ≡ take 4096 (said t ++ piece)
  pub within : r.end ≤ 4096
  pub ends : r.end ≡ length (said r)
  pub cut : r.cut ≡ r.end
  pub size : r.size ≡ count
