-- What a C caller may conclude from a status alone, for every function and whatever is lent. Document 01 of its refusals: "All leave everything unchanged but
-- 24, 25".
-- Proved in proofs/Refusals.
-- Assumes nothing.
use Rattle.std.specs.Prelude.{ℕ, ◌%◌, ◌^◌, ◌≤◌, ◌<◌, ◌≡◌, ◌⊎◌, List, []}
use Rattle.numbers.specs.Bytes.{AreBytes}
use Rattle.frame.specs.declared.Header.{Header}
use Rattle.sender.specs.declared.Outgoing.{Outgoing}
use Rattle.rpc.specs.declared.Fields.{Fields}
use Rattle.payload.specs.declared.version.Version.{Version}
use Rattle.link.specs.declared.Grant.{Grant}
use Rattle.link.specs.declared.Answer.TheVariants as answer
use Rattle.link.specs.Call.{after}
use Rattle.link.specs.Refusal.{DropsNamed}
use Rattle.state.specs.Layout.{link_of}
use Rattle.state.specs.Calls.{Made}
use Rattle.tilambok.specs.Status.{Left}
use Rattle.tilambok.specs.Frames.{tilambok_read_frame, tilambok_write_header, tilambok_write_frame}
use Rattle.tilambok.specs.Sending.{tilambok_send}
use Rattle.tilambok.specs.Payloads.{tilambok_rpc_form, tilambok_read_rpc, tilambok_write_rpc}
use Rattle.tilambok.specs.Links.{report, Done, tilambok_link_call, tilambok_link_create}

-- what a call left, where these bytes and this number were lent
pub record Plain (lent : List ℕ) (value : ℕ) (w : Left) : Type 0 where
  -- an `int` holds it, and cut to one byte it is the same number: only 0 becomes 0
  pub small : w.result.status ≤ 128
  pub cut : w.result.status % 2 ^ 8 ≡ w.result.status
  -- what is not done changed no lent byte, and what is neither done nor Short not the lent number either
  pub bytes : (w.result.status ≡ 0 → ⊥) → w.lent ≡ lent
  pub number : (w.result.status ≡ 0 → ⊥) → (w.result.status ≡ 128 → ⊥) → w.result.value ≡ value

-- what a creation of a link left, where this state was lent
pub record PlainMade (lent : List ℕ) (w : Made) : Type 0 where
  pub small : w.refused ≤ 132
  pub cut : w.refused % 2 ^ 8 ≡ w.refused
  pub bytes : (w.refused ≡ 0 → ⊥) → w.state ≡ lent

-- what a call of a link left, where these bytes and numbers were lent
pub record PlainLink (s p input o : List ℕ) (service consumed value : ℕ) (w : Done) : Type 0 where
  pub small : w.report.status ≤ 132
  pub cut : w.report.status % 2 ^ 8 ≡ w.report.status
  -- a status from 1 to 127 is a refusal's number, and the three lent numbers are as they were; Short changed the last one alone
  pub refusal : 1 ≤ w.report.status → w.report.status < 128 → (w.report.status ≤ 25) × (w.report ≡ report w.report.status service consumed value)
  pub short : w.report.status ≡ 128 → w.report ≡ report 128 service consumed w.report.value
  -- Short, and every refusal but 24 and 25, changed no lent byte
  pub bytes : (w.report.status ≡ 0 → ⊥) → w.report.status ≤ 128 → (w.report.status ≡ 24 → ⊥) → (w.report.status ≡ 25 → ⊥)
      → (w.state ≡ s) × (w.pool ≡ p) × (w.out ≡ o)
  -- 24 and 25 "drop the one message they name", and changed nothing else
  pub drops : (w.report.status ≡ 24) ⊎ (w.report.status ≡ 25)
      → DropsNamed (link_of s) p input o (after (answer.Refused w.report.status) (link_of w.state) w.pool w.out)

-- every function; a message id has 32 bits, tilambok_rpc_form is lent no bytes, and a state is bytes
pub record EveryStatus : Type 0 where
  pub read_frame : (bytes fields : List ℕ) (value : ℕ) → Plain fields value (tilambok_read_frame bytes fields value)
  pub write_header : (h : Header) (out : List ℕ) (value : ℕ) → Plain out value (tilambok_write_header h out value)
  pub write_frame : (h : Header) (payload out : List ℕ) (value : ℕ) → Plain out value (tilambok_write_frame h payload out value)
  pub send : (o : Outgoing) (k : ℕ) (message out : List ℕ) (value : ℕ) → o.message.0 < 2 ^ 32 → Plain out value (tilambok_send o k message out value)
  pub rpc_form : (service value : ℕ) → Plain [] value (record { result = tilambok_rpc_form service value; lent = [] })
  pub read_rpc : (form version : ℕ) (payload fields : List ℕ) (value : ℕ) → Plain fields value (tilambok_read_rpc form version payload fields value)
  pub write_rpc : (form version : ℕ) (f : Fields) (json bulk out : List ℕ) (value : ℕ) → Plain out value (tilambok_write_rpc form version f json bulk out value)
  pub link_create : (s : List ℕ) (v : Version) (mtu : ℕ) → PlainMade s (tilambok_link_create s v mtu)
  pub link_call : (s p input o : List ℕ) (g : Grant) (service consumed value : ℕ) → AreBytes s
      → PlainLink s p input o service consumed value (tilambok_link_call s p input o g service consumed value)
