-- The way through everything: the link hands over just the bytes that were written, on the service that they were sent on, so the reader reads them back.
-- Assumes nothing.
use Prim.Native.Nat.{ℕ}
use mathlib.Core.Path.{◌≡◌, refl, ap, ◌∙◌, sym, subst}
use mathlib.Core.Option.{Option, none, some}
use mathlib.Core.List.{List, [], ◌∷◌}
use native.Mathlib.Omega.{arith}
use lib.ListN.{length, take, drop, get_or}
use lib.Seq.{take_at}
use Rattle.frame.specs.declared.ServiceType.{ServiceType}
use Rattle.sender.specs.declared.Outgoing.{Outgoing}
use Rattle.link.specs.Values.{service_bytes, values_of}
use Rattle.link.specs.Book.{Event, call}
use Rattle.link.specs.Claim.{out_before}
use Rattle.link.specs.Arrival.{Arrives, last_event}
use Rattle.link.proofs.Arrival.{arrives_whole}
use Rattle.rpc.specs.Rules.{form_of}
use Rattle.rpc.specs.ReadBack.{ReadsAs}
use Rattle.rpc.specs.Through.{handed_over, form_by, ThroughAll}
use Rattle.rpc.proofs.ThereAndBack.{written_read_back}

-- a service that is told by its byte has its form
service_form : (told : Option ServiceType) (s : ServiceType) → service_bytes told ≡ s.0 ∷ [] → form_by told ≡ form_of s
service_form none s e = absurd (omega (arith, ap length e))
service_form (some t) s e = ap (λ (bytes : List ℕ). form_of (record { 0 = get_or bytes 0 0 })) e

-- what arrives is what is handed over
handed_is : (o : Outgoing) (m : List ℕ) (e : Event) → Arrives o m e → handed_over e ≡ m
handed_is o m e a =
    ap (λ (n : ℕ). take n e.out) a.whole ∙ ap (take (length m)) a.bytes ∙ take_at m (drop (length m) (out_before e.command)) (length m) refl

pub through_all : ThroughAll
through_all h size n json bulk buffer left o fits wrote_it form s k small opened mtu first f accepted rest order =
    let m : List ℕ = take n left in
    let e : Event = last_event s (call first) rest in
    let a : Arrives o m e = arrives_whole s k o m small opened mtu first f accepted rest order in
    record {
      form = service_form (values_of e.answer).service o.service a.on ∙ form;
      reads = subst (λ (bytes : List ℕ). ReadsAs o.version bytes h size json bulk) (sym (handed_is o m e a))
          (written_read_back o.version h size n json bulk buffer left fits wrote_it);
    }
