-- Every refusal of `send` is one of document 01's. Assumes nothing.
use Prim.Native.Nat.{ℕ}
use mathlib.Core.Path.{refl}
use mathlib.Core.Bool.{◌||◌}
use mathlib.Core.List.{List}
use lib.Dec.{leb}
use lib.ListN.{length}
use Rattle.figures.proofs.Listed.{listed}
use Rattle.numbers.proofs.Choices.{unless_elim}
use Rattle.frame.specs.Rules.{known_version, listed_service}
use Rattle.frame.specs.Message.{totals_fit}
use Rattle.frame.proofs.Listed.{ListedIn, put_listed}
use Rattle.sender.specs.declared.Outgoing.{Outgoing}
use Rattle.sender.specs.Sender.{chunk_fits, fits_one, count_of, frame_at, last_place, bytes_of, send_of}

pub send_listed : (o : Outgoing) (k : ℕ) (m out : List ℕ) → ListedIn (send_of o k m out)
unfolding send_of
send_listed o k m out =
    unless_elim ListedIn (known_version o.version) _ _ (λ t. listed 1 refl) λ t.
    unless_elim ListedIn (listed_service o.service) _ _ (λ t. listed 3 refl) λ t.
    unless_elim ListedIn (chunk_fits o.version o.chunk) _ _ (λ t. listed 10 refl) λ t.
    unless_elim ListedIn (fits_one o m || totals_fit (length m) (count_of o m)) _ _ (λ t. listed 18 refl) λ t.
    unless_elim ListedIn (leb k (last_place o m)) _ _ (λ t. listed 26 refl) (λ t. put_listed (bytes_of (frame_at o m k)) out)
