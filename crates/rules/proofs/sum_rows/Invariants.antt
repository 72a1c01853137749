-- `rules::sum_rows` meets its contract.
-- Assumes nothing.
use Prim.Native.Nat.{ℕ, ◌+◌, ◌*◌, ◌≤◌}
use mathlib.Core.Path.{◌≡◌}
use mathlib.Core.Bool.{Bool, ◌&&◌}
use lib.ListN.{drop}
use Rattle.link.specs.declared.Link.{Link}
use Rattle.link.specs.State.{all_from}
use Rattle.state.specs.Layout.{link_of}
use Rattle.rules.specs.Parts.{row_sound, held_sum, share_sum}
use Rattle.rules.proofs.sum_rows.Given as goal

-- what was found in the rows before the i-th and what the others come to make the whole
abbrev pub Passed : Link → Bool → ℕ → ℕ → ℕ → Type 0
Passed l fit held shared i =
    (fit && all_from i (row_sound l.version.major l.owners) (drop i l.rows) ≡ all_from 0 (row_sound l.version.major l.owners) l.rows)
    × ((held ≤ i * 83886080)
    × ((held + held_sum (drop i l.rows) ≡ held_sum l.rows)
    × ((shared ≤ i * 83886080)
    × (shared + share_sum (drop i l.rows) ≡ share_sum l.rows))))

abbrev pub invariant-loop-number : goal.invariant-loop-number
invariant-loop-number l = Passed (link_of l.link) l.fit l.held l.shared l.number
