-- `driver::commands::with_tags` meets its contract: three pieces.
-- Assumes nothing.
use Rattle.std.proofs.Common.{◌≡◌, ℕ, Bool, [], ◌∷◌, Option, None, Some, ap, ◌∙◌}
use Rattle.std.specs.Bool.{then_some}
use Rattle.std.specs.Option.{MatchOption, IsSomeAnd}
use Rattle.text.proofs.Texts.{then, renamed}
use Rattle.driver.specs.Answers.{tag_text}
use Rattle.driver.proofs.commands.with_tags.Goals as goal

-- a number in a wider type is the same
given : (o r : Option ℕ) → MatchOption o (r ≡ None) (λ x. IsSomeAnd r (λ y. y ≡ x)) → r ≡ o
given None r e = e
given (Some x) (Some y) e = ap Some e
given (Some x) None e = absurd e

pub returns : goal.returns
returns c =
    let t = c.args.tags in
    let hash = renamed (ap (tag_text (32 ∷ 104 ∷ 97 ∷ 115 ∷ 104 ∷ 61 ∷ [])) (given t.hash c.map.result c.map.ensures.cases)) c.with_tag-after.ensures in
    let is = c.then_some.ensures ∙ ap (λ (b : Bool). then_some b 1) c.is_some.ensures in
    let rejected = renamed (ap (tag_text (32 ∷ 114 ∷ 101 ∷ 106 ∷ 101 ∷ 99 ∷ 116 ∷ 101 ∷ 100 ∷ 61 ∷ [])) is) c.with_tag.ensures in
    then hash (then c.with_tag-after-2.ensures rejected)
