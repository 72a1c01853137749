-- The sender refuses with 18 by the length alone: a message has no more frames than bytes, so up to 65,536 bytes its count is never above the total.
-- Assumes nothing.
use Prim.Native.Nat.{ℕ, ◌+◌, ◌-◌, ◌/◌, ◌≤◌}
use mathlib.Core.Path.{◌≡◌, sym}
use mathlib.Core.Bool.{◌||◌, true, false}
use mathlib.Core.List.{List}
use native.Mathlib.Omega.{arith}
use native.Mathlib.Nat.{div-le_self}
use lib.ListN.{length}
use Rattle.numbers.proofs.Choices.{split}
use Rattle.frame.specs.Message.{totals_fit}
use Rattle.frame.proofs.Message.{TotalsRange, totals_unfit, totals_fit_lem}
use Rattle.sender.specs.declared.Outgoing.{Outgoing}
use Rattle.sender.specs.Sender.{fits_one, count_of, Ready}
use Rattle.sender.specs.Bursts.{AnyCounts}
use Rattle.sender.proofs.Counts.{chunk_range, several_length, count_is}
use Rattle.sender.proofs.Laws.{sends-18}

module _ (o : Outgoing) (m : List ℕ) (r : Ready o) where
  -- what is announced of a message of more than one chunk
  range : fits_one o m ≡ false → length m ≤ 65536 → TotalsRange (length m) (count_of o m)
  range several most =
      let some : 1 ≤ length m = several_length o m several in
      let count : (length m - 1) / o.chunk + 1 ≡ count_of o m = count_is o m some (chunk_range o.version o.chunk r.chunk).0 in
      record { some_bytes = some; most_bytes = most; some_frames = omega arith; most_frames = omega (arith, div-le_self (length m - 1) o.chunk) }

  totals : length m ≤ 65536 → fits_one o m || totals_fit (length m) (count_of o m) ≡ true
  totals most = split (fits_one o m) (λ e. rw e) (λ e. rw (e, totals_fit_lem (range e most)))

  one_byte_each : o.chunk ≡ 1 → count_of o m ≡ length m
  unfolding count_of
  one_byte_each e = rw e (omega arith)

pub any_counts : AnyCounts
any_counts o m r = record {
  taken = λ most. record { ready = r; totals = totals o m r most };
  too_long = λ more several k out. sym (sends-18 o k m out r several (sym (totals_unfit (λ range. omega (arith, range.most_bytes)))));
  one_byte_each = one_byte_each o m r;
}
