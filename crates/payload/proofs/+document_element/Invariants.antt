-- `payload::document` and `payload::element`, which call each other. The measure of each is twice the sum of the levels left and the bytes left, and
-- one more for `element`: an element starts inside its document and has a level less below it; a document inside an element starts behind the
-- element's type. The loop keeps: the elements from `place` on say what the document says. Assumes nothing.
use Prim.Native.Nat.{◌+◌, ◌*◌, ◌-◌, ◌≤◌}
use mathlib.Core.Bool.{false}
use Rattle.payload.specs.Walk.{document_of}
use Rattle.payload.proofs.Rest.{Rest}
use Rattle.payload.proofs.+document_element.Given as goal

abbrev pub decreases-document : goal.decreases-document
decreases-document l = 2 * (l.levels + (l.end - l.at))

abbrev pub decreases-element : goal.decreases-element
decreases-element l = 2 * (l.levels + (l.end - l.at)) + 1

abbrev pub invariant-document-loop-place : goal.invariant-document-loop-place
invariant-document-loop-place l =
    (l.initial.place ≤ l.place) × Rest (document_of (l.levels - 1) false l.bytes) l.top l.bytes l.last (document_of l.levels l.top l.bytes l.at l.end l.initial.so_far) l.place l.so_far

abbrev pub decreases-document-loop-place : goal.decreases-document-loop-place
decreases-document-loop-place l = l.last - l.place
