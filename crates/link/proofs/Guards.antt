-- What 10 leaves: settings in range, and versions of open rows that replies may carry. By the state rules.
-- Assumes nothing.
use Prim.Native.Nat.{ℕ, ◌≤◌, ◌<◌, min}
use mathlib.Core.Path.{◌≡◌, refl}
use mathlib.Core.Bool.{Bool, true, false, ◌&&◌, ◌||◌}
use native.Mathlib.Omega.{arith}
use lib.Dec.{eqb, leb}
use lib.ListN.{length, get_or}
use borrow.Author.Tests.{leb-true, eqb-true, eqb-false}
use Rattle.numbers.proofs.Choices.{and_both, either}
use Rattle.session.specs.declared.Row.{Row}
use Rattle.session.specs.Rows.{no_row}
use Rattle.session.specs.Rules.{reply_version}
use Rattle.link.specs.declared.Link.{Link}
use Rattle.link.specs.declared.Grant.{Grant}
use Rattle.link.specs.State.{version_allowed, row_fits, rules_hold, settings_fit, grant_fits, guard_of}
use Rattle.link.proofs.Shown.{rules_say}
use Rattle.link.proofs.Holdings.{row_fits_at, row_rules}

-- "M 1 to 5", "an mtu from 1,500 to 131,084"
pub guard_settings : (l : Link) (n : ℕ) (g : Grant) → guard_of l n g ≡ true → (1 ≤ l.version.major) × ((l.version.major ≤ 5) × (l.mtu ≤ 131084))
unfolding guard_of settings_fit
guard_settings l n g e =
    let a = and_both (eqb n 65536) _ e in
    let b = and_both (settings_fit l.version l.mtu) _ a.1 in
    let c = and_both (leb 1 l.version.major) _ b.0 in
    let d = and_both (leb l.version.major 5) _ c.1 in
    let f = and_both (leb 1500 l.mtu) (leb l.mtu 131084) d.1 in
    (leb-true 1 l.version.major c.0, (leb-true l.version.major 5 d.0, leb-true l.mtu 131084 f.1))

-- an open row's version is one that replies may carry
pub guard_version : (l : Link) (n : ℕ) (g : Grant) (i : ℕ) → guard_of l n g ≡ true → i < length l.rows → ((get_or l.rows i no_row).id.0 ≡ 0 → ⊥)
    → (1 ≤ reply_version l.version.major (get_or l.rows i no_row)) × (reply_version l.version.major (get_or l.rows i no_row) ≤ 5)
unfolding guard_of reply_version version_allowed
guard_version l n g i e h z =
    let a = and_both (eqb n 65536) _ e in
    let b = and_both (settings_fit l.version l.mtu) _ a.1 in
    let c = and_both (grant_fits g) (rules_hold l) b.1 in
    let r : Row = get_or l.rows i no_row in
    let m = guard_settings l n g e in
    let t : row_fits l.version.major l.owners i r ≡ true = row_fits_at l.version.major l.owners l.rows i (rules_say l c.1).rows h in
    let allowed = (row_rules l.version.major i l.owners r t z).version in
    let most : r.version ≤ 5 = or_most (leb r.version (min l.version.major 4)) (eqb l.version.major 5 && eqb r.version 5) allowed
    (λ s. omega (arith, leb-true r.version (min l.version.major 4) s)) (λ s. omega (arith, eqb-true r.version 5 (and_both (eqb l.version.major 5) (eqb r.version 5) s).1)) in
    either (λ (v : ℕ). (1 ≤ v) × (v ≤ 5)) (eqb r.version 0) (min l.version.major 4) r.version
    (λ s. (omega (arith, m.0), omega arith)) (λ s. let d : r.version ≡ 0 → ⊥ = eqb-false r.version 0 s in (omega arith, most))
  where
    or_most : {X : Type 0} (a b : Bool) → a || b ≡ true → (a ≡ true → X) → (b ≡ true → X) → X
    or_most true b q f k = f refl
    or_most false b q f k = k q
