-- What a status alone says: by cases of each function's answer, whose numbers have room (`FrameResults`, `PayloadResults`), and by what a refused call of the
-- link keeps (state/proofs/Lists).
-- Assumes nothing.
use Rattle.std.proofs.Common.{Result, Ok, Err, Option, Some, None}
use Prim.Native.Nat.{ℕ, ◌+◌, ◌≤◌}
use mathlib.Core.Path.{◌≡◌, refl}
use mathlib.Core.Logic.{◌⊎◌, inl, inr, ⊎_elim}
use mathlib.Core.Bool.{◌&&◌}
use mathlib.Core.List.{List, []}
use native.Mathlib.Omega.{arith}
use lib.Dec.{eqb, leb}
use lib.ListN.{length}
use Rattle.numbers.specs.Bytes.{laid}
use Rattle.numbers.proofs.Choices.{unless_elim}
use Rattle.frame.specs.Write.{Wrote, write_header_of, write_of as frame_of}
use Rattle.frame.specs.Read.{read_of}
use Rattle.frame.specs.declared.Reading.{Reading}
use Rattle.frame.specs.declared.Reading.TheVariants.{Frame, Refused, Short}
use Rattle.rpc.specs.Rules.{form_of}
use Rattle.rpc.specs.Layout.{header_of, fields_of}
use Rattle.rpc.specs.Read.{read_of as payload_of}
use Rattle.rpc.specs.Write.{write_of}
use Rattle.rpc.specs.declared.Form.{Form}
use Rattle.rpc.specs.declared.Fields.{Fields}
use Rattle.rpc.specs.declared.Content.{Content}
use Rattle.rpc.specs.declared.Content.TheVariants as payload
use Rattle.rpc.proofs.Answers.{refusals}
use Rattle.sender.specs.Sender.{send_of}
use Rattle.payload.specs.declared.version.Version.{Version}
use Rattle.link.specs.declared.Answer.{Answer}
use Rattle.link.specs.declared.Answer.TheVariants as answer
use Rattle.link.specs.State.{settings_fit}
use Rattle.link.specs.Sizes.{Small}
use Rattle.state.specs.Calls.{Left as Kept, left as keptLeft, call_in, created_bytes, made, create_in}
use Rattle.state.specs.Lists.{KeepsIn}
use Rattle.state.proofs.Lists.{refusal_keeps_in, answers_small_in}
use Rattle.tilambok.specs.Status.{left, IsRefusal, written_result, answered}
use Rattle.tilambok.specs.Frames.{ReadingFits, left_by, heard}
use Rattle.tilambok.specs.Payloads.{form_from, form_number, form_result, field_bytes, no_fields, told, left_by as payloadLeft, read_as, start, written_from, write_as}
use Rattle.tilambok.specs.Links.{report, done, done_by}
use Rattle.tilambok.specs.Refusals.{Plain, PlainMade, PlainLink, EveryStatus}
use Rattle.tilambok.proofs.FrameResults.{reading_fits, heard_fits, AnswerFits, Answers, header_answers, frame_answers, send_answers}
use Rattle.tilambok.proofs.PayloadResults.{refusal_range, AnswerSays, write_count}

-- the three kinds of answer
plain_done : (lent b : List ℕ) (value v : ℕ) → Plain lent value (left 0 b v)
plain_done lent b value v = record { small = omega arith; cut = refl; bytes = λ n. absurd (n refl); number = λ n s. absurd (n refl) }

plain_short : (lent : List ℕ) (value v : ℕ) → Plain lent value (left 128 lent v)
plain_short lent value v = record { small = omega arith; cut = refl; bytes = λ n. refl; number = λ n s. absurd (s refl) }

plain_refused : (lent : List ℕ) (value n : ℕ) → IsRefusal n → Plain lent value (left n lent value)
plain_refused lent value n r = record { small = omega arith; cut = omega arith; bytes = λ z. refl; number = λ z s. refl }

read_plain : (fields : List ℕ) (value : ℕ) (r : Reading) → ReadingFits r → Plain fields value (left_by fields value r)
read_plain fields value (Frame h e) f = plain_done fields _ value e.consumed
read_plain fields value (Refused n) f = plain_refused fields value n f
read_plain fields value (Short n) f = plain_short fields value n

write_plain : (out : List ℕ) (value : ℕ) (w : Wrote) → Answers out w → Plain out value (answered value w)
write_plain out value w f = by w.answer f
  where
    by : (a : Result ℕ ℕ) → AnswerFits out a w.out → Plain out value (record { result = written_result value a; lent = w.out })
    by (Ok n) g = plain_done out w.out value n
    by (Err n) g = rw g.1 (plain_refused out value n g.0)

-- ---- payloads

form_plain : (value : ℕ) (c : Option Form) → Plain [] value (record { result = form_result value c; lent = [] })
form_plain value (Some form) = plain_done [] [] value (form_number form)
form_plain value None = plain_refused [] value 10 (omega arith, omega arith)

told_plain : (headed begins : ℕ) (f : Fields) (fields : List ℕ) (value : ℕ) → Plain fields value (told headed begins f fields value)
unfolding told
told_plain headed begins f fields value =
    unless_elim (Plain fields value) (leb 16 (length fields)) (left 11 fields value) (left 0 (laid (field_bytes headed begins f) fields) begins)
    (λ t. plain_refused fields value 11 (omega arith, omega arith)) (λ t. plain_done fields _ value begins)

read_rpc_plain : (version : ℕ) (s fields : List ℕ) (value : ℕ) (c : Option Form) → Plain fields value (read_as c version s fields value)
read_rpc_plain version s fields value None = plain_refused fields value 10 (omega arith, omega arith)
read_rpc_plain version s fields value (Some form) = by (payload_of form version s) refl
  where
    by : (r : Result Content ℕ) → payload_of form version s ≡ r → Plain fields value (payloadLeft fields value r)
    by (Ok (payload.Message h size p)) e = told_plain 1 p.json (fields_of h size) fields value
    by (Ok (payload.Bare p)) e = told_plain 0 p.json no_fields fields value
    by (Err n) e = plain_refused fields value n (refusal_range form version s n (refusals.why form version s n e))

write_rpc_plain : (version : ℕ) (f : Fields) (json bulk out : List ℕ) (value : ℕ) (c : Option Form) → Plain out value (write_as c version f json bulk out value)
write_rpc_plain version f json bulk out value None = plain_refused out value 10 (omega arith, omega arith)
write_rpc_plain version f json bulk out value (Some form) = by w.answer (write_count form version f json bulk out)
  where
    w : Wrote
    w = write_of version (header_of form f) f.size json bulk out

    by : (a : Result ℕ ℕ) → AnswerSays out (start form version + length json + length bulk) a w.out
        → Plain out value (record { result = written_from (start form version) value a; lent = w.out })
    by (Ok n) g = plain_done out w.out value (start form version)
    by (Err n) g = rw g.1 (plain_refused out value n g.0)

-- ---- the link

create_plain : (s : List ℕ) (v : Version) (mtu : ℕ) → PlainMade s (create_in s v mtu)
unfolding create_in
create_plain s v mtu =
    unless_elim (PlainMade s) (eqb (length s) 2688 && settings_fit v mtu) (made 10 s) (made 0 (created_bytes v mtu))
    (λ t. record { small = omega arith; cut = refl; bytes = λ z. refl }) (λ t. record { small = omega arith; cut = refl; bytes = λ z. absurd (z refl) })

module _ (s p input o : List ℕ) (service consumed value : ℕ) (s' p' o' : List ℕ) where
  abbrev PlainBy : Answer → Type 0
  PlainBy a = PlainLink s p input o service consumed value (done_by service consumed value (keptLeft a s' p' o'))

  -- an accepted call: its mark is 0 or above 128
  accepted_plain : (m v c n : ℕ) → (m ≡ 0) ⊎ ((129 ≤ m) × (m ≤ 132)) → PlainLink s p input o service consumed value (done (report m v c n) s' p' o')
  accepted_plain m v c n (inl e) = record {
    small = omega arith;
    cut = omega arith;
    refusal = λ a b. absurd (omega arith);
    short = λ z. absurd (omega arith);
    bytes = λ z l a b. absurd (z e);
    drops = λ d. absurd (⊎_elim (λ x. omega arith) (λ x. omega arith) d);
  }
  accepted_plain m v c n (inr e) = record {
    small = e.1;
    cut = omega (arith, e.0, e.1);
    refusal = λ a b. absurd (omega (arith, e.0));
    short = λ z. absurd (omega (arith, e.0));
    bytes = λ z l a b. absurd (omega (arith, e.0));
    drops = λ d. absurd (⊎_elim (λ x. omega (arith, e.0)) (λ x. omega (arith, e.0)) d);
  }

  call_plain : (a : Answer) → Small a → KeepsIn s p input o (keptLeft a s' p' o') a → PlainBy a
  call_plain (answer.Short n) f k = record {
    small = omega arith;
    cut = refl;
    refusal = λ a b. absurd (omega arith);
    short = λ z. refl;
    bytes = λ z l a b. k;
    drops = λ d. absurd (⊎_elim (λ x. omega arith) (λ x. omega arith) d);
  }
  call_plain (answer.Refused n) f (inl k) = record {
    small = omega (arith, f.1);
    cut = omega (arith, f.1);
    refusal = λ a b. (f.1, refl);
    short = λ z. absurd (omega (arith, f.1));
    bytes = λ z l a b. k.2;
    drops = λ d. absurd (⊎_elim k.0 k.1 d);
  }
  call_plain (answer.Refused n) f (inr k) = record {
    small = omega (arith, f.1);
    cut = omega (arith, f.1);
    refusal = λ a b. (f.1, refl);
    short = λ z. absurd (omega (arith, f.1));
    bytes = λ z l a b. absurd (⊎_elim a b k.0);
    drops = λ d. k.1;
  }
  call_plain (answer.Acked c n) f k = accepted_plain 129 service c n (inr (omega arith, omega arith))
  call_plain (answer.Nacked c n) f k = accepted_plain 130 service c n (inr (omega arith, omega arith))
  call_plain (answer.Beat c n) f k = accepted_plain 131 service c n (inr (omega arith, omega arith))
  call_plain (answer.Accepted c) f k = accepted_plain 0 service c 0 (inl refl)
  call_plain (answer.Delivered c v n) f k = accepted_plain 132 v.0 c n (inr (omega arith, omega arith))

pub every_status : EveryStatus
every_status = record {
  read_frame = λ bytes fields value. read_plain fields value (heard fields (read_of bytes)) (heard_fits fields (read_of bytes) (reading_fits bytes));
  write_header = λ h out value. write_plain out value (write_header_of h out) (header_answers h out);
  write_frame = λ h payload out value. write_plain out value (frame_of h payload out) (frame_answers h payload out);
  send = λ o k message out value small. write_plain out value (send_of o k message out) (send_answers o k message out small);
  rpc_form = λ service value. form_plain value (form_of (record { 0 = service }));
  read_rpc = λ form version payload fields value. read_rpc_plain version payload fields value (form_from form);
  write_rpc = λ form version f json bulk out value. write_rpc_plain version f json bulk out value (form_from form);
  link_create = create_plain;
  link_call = λ s p input o g service consumed value b.
      let w : Kept = call_in s p input o g in
      call_plain s p input o service consumed value w.state w.pool w.out w.answer (answers_small_in s b p input o g)
      (refusal_keeps_in s b p input o g);
}
