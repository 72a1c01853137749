-- The longest burst arrives whole: `arrives_whole` at a chunk of one byte. Assumes nothing.
use Prim.Native.Nat.{ℕ, ◌≤◌}
use mathlib.Core.Path.{◌≡◌, ◌∙◌}
use mathlib.Core.Bool.{true, false}
use mathlib.Core.List.{List}
use native.Mathlib.Omega.{arith}
use lib.Dec.{leb}
use lib.ListN.{length}
use borrow.Author.Tests.{leb-true, lt-leb}
use Rattle.numbers.proofs.Choices.{and_both}
use Rattle.payload.specs.declared.version.Version.{Version}
use Rattle.sender.specs.declared.Outgoing.{Outgoing}
use Rattle.sender.specs.Sender.{fits_one, Accepted}
use Rattle.sender.proofs.ReadBack.{last_several}
use Rattle.sender.proofs.Bursts.{any_counts}
use Rattle.link.specs.State.{settings_fit}
use Rattle.link.specs.Bursts.{LongestBurst}
use Rattle.link.proofs.CutFrames.{told_by}
use Rattle.link.proofs.Arrival.{arrives_whole}

mtu_least : (v : Version) (mtu : ℕ) → settings_fit v mtu ≡ true → 1500 ≤ mtu
unfolding settings_fit
mtu_least v mtu e =
    let p = and_both (leb 1 v.major) _ e in
    let q = and_both (leb v.major 5) _ p.1 in
    leb-true 1500 mtu (and_both (leb 1500 mtu) (leb mtu 131084) q.1).0

more_than_one : (o : Outgoing) (m : List ℕ) → o.chunk ≡ 1 → length m ≡ 65536 → fits_one o m ≡ false
unfolding fits_one
more_than_one o m one whole = lt-leb (length m) o.chunk (omega arith)

pub longest_burst : LongestBurst
longest_burst s k o m small opened one whole first f accepted rest order =
    let taken : Accepted o m = (told_by o m small first 0 f).accepted in (
      last_several o m taken (more_than_one o m one whole) ∙ (any_counts o m taken.ready).one_byte_each one ∙ whole,
      arrives_whole s k o m small opened (λ _. omega (arith, mtu_least s.link.version s.link.mtu k.settings)) first f accepted rest order,
    )
