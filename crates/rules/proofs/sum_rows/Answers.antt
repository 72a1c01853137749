-- `rules::sum_rows` meets its contract.
-- Assumes nothing.
use Prim.Native.Nat.{◌≤◌, ◌<◌}
use mathlib.Core.Path.{◌≡◌, refl, ap, sym, ◌∙◌}
use native.Mathlib.Omega.{arith}
use lib.ListN.{length, get_or}
use Rattle.session.specs.Rows.{no_row}
use Rattle.session.specs.Decide.{held_of, share_of}
use Rattle.state.specs.Layout.{row_of, link_of}
use Rattle.state.proofs.Rows.{row_of_link}
use Rattle.rules.specs.Parts.{row_sound, of_session}
use Rattle.rules.proofs.Folds.{from_turn, from_end}
use Rattle.rules.proofs.Turns.{held_at, held_end, share_at, share_end}
use Rattle.rules.proofs.sum_rows.Goals as goal

pub loop-number-init : goal.loop-number-init
loop-number-init c = (refl, (omega arith, (omega arith, (omega arith, omega arith))))

pub loop-number-preserved : goal.loop-number-preserved
loop-number-preserved c =
    let l = c.loop-number in
    let s = c.args.link.now in
    let k = link_of s in
    let sound = row_sound k.version.major k.owners in
    let inside : l.number < length k.rows = omega arith in
    let row = get_or k.rows l.number no_row in
    let same : row_of c.row_bytes.result.now ≡ row = ap row_of c.row_bytes.ensures ∙ sym (row_of_link s no_row l.number inside) in
    let one = c.look-one.ensures in
    let fits : c.look-one.result.fit ≡ sound l.number row = one.fits ∙ rw (same, c.major-major.ensures, c.owners-owners.ensures) in
    let holds : c.look-one.result.held ≡ of_session held_of row = one.holds ∙ ap (of_session held_of) same in
    let shares : c.look-one.result.shared ≡ of_session share_of row = one.shares ∙ ap (of_session share_of) same in
    let held = held_at k.rows l.number inside in
    let shared = share_at k.rows l.number inside in
    let turned = sym (from_turn no_row l.fit sound k.rows l.number inside) ∙ l.invariant.0 in
    let kept = l.invariant.1.1.1 in
    (rw fits turned, (omega (arith, one.most), (omega arith, (omega (arith, one.bound, kept.0), omega (arith, kept.1)))))

pub returns : goal.returns
returns c =
    let l = c.loop-number in
    let k = link_of c.args.link.now in
    let done : length k.rows ≤ l.number = omega arith in
    record {
      fits = sym (from_end l.fit (row_sound k.version.major k.owners) k.rows l.number done) ∙ l.invariant.0;
      holds = omega (arith, held_end k.rows l.number done);
      most = omega arith;
      shares = omega (arith, share_end k.rows l.number done);
      bound = omega arith;
      eight = refl;
      five = (refl, (refl, (refl, (refl, (refl, (refl, (refl, (refl, tt))))))));
    }
