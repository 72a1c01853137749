-- `payload::reply::write_rejected` meets its contract: the document of the array of the name goes to the front.
-- Assumes nothing.
use mathlib.Core.Path.{ap, ◌∙◌}
use mathlib.Core.List.{List}
use Rattle.std.specs.Prelude.{ℕ}
use Rattle.payload.specs.Append.{put_of}
use Rattle.payload.specs.Reply.{document, array_element, rejected_element, nak_payload}
use Rattle.payload.proofs.reply.write_rejected.Goals as goal

pub returns : goal.returns
unfolding array_element rejected_element nak_payload
returns c =
    c.write.ensures
    ∙ ap (λ (e : List ℕ). put_of (document e) c.args.out.now) (c.document.ensures.value ∙ rw (c.as_slice.ensures, c.string.ensures.value, c.new-names.ensures, c.head.ensures.value, c.new-elements.ensures))
