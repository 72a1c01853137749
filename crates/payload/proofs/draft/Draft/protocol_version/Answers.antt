-- `payload::draft::Draft::protocol_version` meets its contract: head, length, text and a 0, each right behind the last.
-- Assumes nothing.
use native.Mathlib.Omega.{arith}
use mathlib.Core.Path.{◌∙◌}
use Rattle.std.specs.Prelude.{◌+◌}
use Rattle.payload.specs.Tags.{protocol_version}
use Rattle.payload.specs.Version.{version_text}
use Rattle.payload.proofs.Replies.{string_drafted}
use Rattle.payload.proofs.draft.Draft.protocol_version.Goals as goal

pub returns-clause-value : goal.returns-clause-value
returns-clause-value c =
    string_drafted protocol_version (version_text c.args.version) (c.size.result + 1) _ (omega (arith, c.size.ensures.1)) (c.byte.ensures.value ∙ rw (c.version.ensures.value, c.number.ensures.value, c.head.ensures.value))
