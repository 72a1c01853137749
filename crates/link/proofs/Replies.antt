-- A reply's bytes: the frame has no fault, so it is read back as the header and payload that were meant. By the laws of the frame layer.
-- Assumes nothing.
use Prim.Native.Nat.{ℕ, ◌^◌, ◌≤◌, ◌<◌}
use mathlib.Core.Path.{◌≡◌, refl}
use mathlib.Core.Bool.{true}
use mathlib.Core.List.{List}
use native.Mathlib.Omega.{arith}
use lib.ListN.{length}
use borrow.Author.Tests.{le-leb}
use Rattle.frame.specs.declared.ServiceType.{ServiceType}
use Rattle.frame.specs.declared.SessionId.{SessionId}
use Rattle.frame.specs.declared.MessageId.{MessageId}
use Rattle.frame.specs.Rules.{listed_service, info_fits, flag_fits, largest, size_fits, fault_of}
use Rattle.frame.specs.ReadBack.{as_read, ReadsAs}
use Rattle.frame.proofs.Laws.{no_fault, known, largest_range}
use Rattle.frame.proofs.ThereAndBack.{read_back}
use Rattle.link.specs.Reply.{reply_header, reply_bytes, rpc}

-- the infos of replies are listed
pub reply_infos : (info_fits 0 0x02 ≡ true) × (info_fits 0 0x03 ≡ true) × (info_fits 0 0x05 ≡ true) × (info_fits 0 0x06 ≡ true) × (info_fits 0 0xFF ≡ true)
unfolding info_fits
reply_infos = (refl, refl, refl, refl, refl)

pub rpc_listed : listed_service rpc ≡ true
unfolding listed_service
rpc_listed = refl

module _ (v : ℕ) (service : ServiceType) (info : ℕ) (session : SessionId) (payload : List ℕ)
    (least : 1 ≤ v) (most : v ≤ 5) (listed : listed_service service ≡ true) (fits : info_fits 0 info ≡ true) (short : length payload ≤ 1488) where
  pub reply_sound : (message : MessageId) → fault_of (reply_header v service info session (length payload) message) ≡ 0
  unfolding flag_fits size_fits
  reply_sound message =
      no_fault (reply_header v service info session (length payload) message) (record {
        version = known v least most;
        kind = omega arith;
        service = listed;
        info = fits;
        flag = refl;
        size = le-leb (length payload) (largest v) (omega (arith, largest_range v));
      })

  -- any reply: a version of a frame, a listed service, one of the five infos, a message id of 32 bits
  pub reply_back : (message : MessageId) → message.0 < 2 ^ 32
      → ReadsAs (reply_bytes v service info session message payload) (as_read (reply_header v service info session (length payload) message)) payload
  reply_back message small = read_back (reply_header v service info session (length payload) message) payload (reply_sound message) refl small
