-- `payload::version::write` meets its contract: the major is judged first, then out's room; then the string goes to the front.
-- Assumes nothing.
use native.Mathlib.Omega.{arith}
use mathlib.Core.Path.{ap, refl, ◌∙◌}
use mathlib.Core.List.{List}
use Rattle.std.specs.Prelude.{ℕ}
use Rattle.payload.specs.Append.{put_of}
use Rattle.payload.specs.Version.{version_text}
use Rattle.payload.proofs.Appends.{too_small, out_of_range, in_range_put}
use Rattle.payload.proofs.version.write.Goals as goal

pub returns-then-unsaid : goal.returns-then-unsaid
returns-then-unsaid c = let v = c.args.version in out_of_range v (version_text v) _ (omega arith)

pub returns-then-out-end : goal.returns-then-out-end
returns-then-out-end c =
    let v = c.args.version in
    too_small (version_text v) _ refl (omega arith) ∙ in_range_put v (version_text v) _ (omega arith)

pub returns : goal.returns
returns c =
    let v = c.args.version in
    c.write.ensures ∙ ap (λ (e : List ℕ). put_of e c.args.out.now) (c.version.ensures.value ∙ rw c.new-text.ensures) ∙ in_range_put v (version_text v) _ (omega arith)
