-- Every refusal of the reader and of the writers is one of document 01's. Assumes nothing.
use Prim.Native.Nat.{ℕ}
use mathlib.Core.Path.{refl, sym, subst}
use mathlib.Core.Bool.{Bool, true, false}
use mathlib.Core.List.{List}
use native.Mathlib.Omega.{arith}
use lib.Dec.{leb}
use lib.ListN.{length}
use Rattle.std.specs.Prelude.{Result, Ok, Err, IfErr}
use Rattle.figures.specs.Refusal.{Listed}
use Rattle.figures.proofs.Listed.{listed, listed_run}
use Rattle.numbers.proofs.Choices.{unless_elim}
use Rattle.payload.specs.declared.version.Version.{Version}
use Rattle.payload.specs.declared.Tags.{Tags}
use Rattle.payload.specs.Append.{Wrote, put_of}
use Rattle.payload.specs.Version.{saying_of, version_text, write_version_of}
use Rattle.payload.specs.Reply.{ack_payload, write_ack_of}
use Rattle.payload.specs.Walk.{length_fits, payload_of}
use Rattle.payload.proofs.Order.{Refusal, refusal_range}

-- 30, or 31 to 34
pub read_listed : (s : List ℕ) → IfErr (payload_of s) Listed
read_listed s = by (length_fits s) (payload_of s) (refusal_range s)
  where
    by : (fits : Bool) (r : Result Tags ℕ) → Refusal fits r → IfErr r Listed
    by fits (Ok t) h = tt
    by true (Err n) h = listed_run 31 4 n refl h.0 (omega (arith, h.1))
    by false (Err n) h = subst Listed (sym h) (listed 30 refl)

-- what a writer leaves: where its answer is a refusal, it is one of those
abbrev pub ListedIn : Wrote → Type 0
ListedIn w = IfErr w.answer Listed

pub put_listed : (bytes out : List ℕ) → ListedIn (put_of bytes out)
put_listed bytes out = unless_elim ListedIn (leb (length bytes) (length out)) _ _ (λ t. listed 11 refl) (λ t. tt)

saying_listed : (v : Version) (bytes out : List ℕ) → ListedIn (saying_of v bytes out)
saying_listed v bytes out = unless_elim ListedIn (leb 1 v.major) _ _ (λ t. listed 10 refl) (λ t. put_listed bytes out)

pub write_version_listed : (v : Version) (out : List ℕ) → ListedIn (write_version_of v out)
write_version_listed v out = saying_listed v (version_text v) out

pub write_ack_listed : (hash mtu : ℕ) (v : Version) (out : List ℕ) → ListedIn (write_ack_of hash mtu v out)
write_ack_listed hash mtu v out = saying_listed v (ack_payload hash mtu v) out
