-- The numbers of a row fit their bytes: those of a row that was read off bytes, and of each row that a call makes of it. So it is read back as it was put.
-- Assumes nothing.
use Prim.Native.Nat.{ℕ, zero, suc, ◌+◌, ◌*◌, ◌%◌, ◌^◌, ◌≤◌, ◌<◌}
use mathlib.Core.Path.{◌≡◌, refl, ◌∙◌}
use mathlib.Core.Bool.{Bool, true, false}
use mathlib.Core.List.{List, [], ◌∷◌}
use native.Mathlib.Omega.{arith}
use lib.Dec.{eqb, ltb}
use lib.ListN.{length, get_or, drop, set, length-drop, length-set}
use lib.Seq.{length-take-le}
use Rattle.numbers.specs.Bytes.{AreBytes, part}
use Rattle.numbers.proofs.Choices.{either}
use Rattle.numbers.proofs.Laws.{value_below_le, bytes_take, bytes_drop}
use Rattle.frame.specs.declared.SessionId.{SessionId}
use Rattle.frame.specs.declared.ServiceType.{ServiceType}
use Rattle.frame.specs.declared.Header.{Header}
use Rattle.frame.proofs.Message.{totals_range}
use Rattle.session.specs.declared.Reassembly.{Reassembly}
use Rattle.session.specs.declared.Running.{Running}
use Rattle.session.specs.declared.Row.{Row}
use Rattle.session.specs.declared.Act.{Act}
use Rattle.session.specs.Rows.{no_reassembly, no_row, free_row, opened_row, with_message_at, with_service, settled_row, acked_row}
use Rattle.session.specs.Decide.{place_of, row_after}
use Rattle.link.specs.declared.Link.{Link}
use Rattle.link.specs.Book.{Ask}
use Rattle.link.proofs.Decisions.{Decided, refuses, accepts, beats, starts, starts-not, stops, closes, ends_not, hands-over, claims, drops, appends, delivers}
use Rattle.state.specs.Fields.{AllFit, number_at}
use Rattle.state.specs.Layout.{kept, flags_in, message_of, message_in, message_fields, row_of, row_place, row_in, Sound}
use Rattle.state.proofs.Rows.{lives_fit, services_fit, messages_fit, row_sound_lem}

-- ---- what a row's types say of its numbers

pub record Small (m : Reassembly) : Type 0 where
  pub id : m.id.0 < 2 ^ 32
  pub total : m.total < 2 ^ 32
  pub count : m.count < 2 ^ 32
  pub frames : m.frames < 2 ^ 32
  pub missing : m.missing < 2 ^ 32

abbrev AllSmall : List Reassembly → Type 0
AllSmall [] = Unit {0}
AllSmall (m ∷ ms) = Small m × AllSmall ms

pub record Fitting (r : Row) : Type 0 where
  pub id : r.id.0 < 256
  pub version : r.version < 256
  pub guarantee : r.guarantee < 2 ^ 16
  pub cap : r.cap < 2 ^ 16
  pub next : r.next.0 < 2 ^ 32
  pub hash : r.hash < 2 ^ 32
  pub audio : r.audio.hash < 2 ^ 32
  pub video : r.video.hash < 2 ^ 32
  pub messages : AllSmall r.messages
  pub five : length r.messages ≡ 5

no_message_lem : Small no_reassembly
no_message_lem = record { id = omega arith; total = omega arith; count = omega arith; frames = omega arith; missing = omega arith }

small_at : (ms : List Reassembly) (k : ℕ) → AllSmall ms → Small (message_in ms k)
small_at [] zero h = no_message_lem
small_at [] (suc k) h = no_message_lem
small_at (m ∷ ms) zero h = h.0
small_at (m ∷ ms) (suc k) h = small_at ms k h.1

small_set : (ms : List Reassembly) (k : ℕ) (m : Reassembly) → AllSmall ms → Small m → AllSmall (set ms k m)
small_set [] zero m h g = tt
small_set [] (suc k) m h g = tt
small_set (a ∷ ms) zero m h g = (g, h.1)
small_set (a ∷ ms) (suc k) m h g = (h.0, small_set ms k m h.1 g)

-- ---- a row that is read off bytes

pub number_below : (t : List ℕ) (at w : ℕ) → AreBytes t → at + w ≤ length t → number_at t at w < 256 ^ w
number_below t at w b h =
    let l : length (part t at w) ≡ w = length-take-le w (drop at t) (omega (arith, length-drop at t)) in
    rw l at (value_below_le (part t at w) (bytes_take w (drop at t) (bytes_drop at t b)))

module _ (t : List ℕ) (b : AreBytes t) (l : length t ≡ 129) where
  read : (k : ℕ) → k < 5 → Small (message_of t k)
  read k h = record {
    id = number_below t (29 + k * 20) 4 b (omega arith);
    total = number_below t (29 + k * 20 + 4) 4 b (omega arith);
    count = number_below t (29 + k * 20 + 4 + 4) 4 b (omega arith);
    frames = number_below t (29 + k * 20 + 4 + 4 + 4) 4 b (omega arith);
    missing = number_below t (29 + k * 20 + 4 + 4 + 4 + 4) 4 b (omega arith);
  }

  read_fitting : Fitting (row_of t)
  read_fitting = record {
    id = number_below t 0 1 b (omega arith);
    version = number_below t 1 1 b (omega arith);
    guarantee = number_below t 2 2 b (omega arith);
    cap = number_below t 4 2 b (omega arith);
    next = number_below t 13 4 b (omega arith);
    hash = number_below t 17 4 b (omega arith);
    audio = number_below t 21 4 b (omega arith);
    video = number_below t 25 4 b (omega arith);
    messages = (read 0 (omega arith), (read 1 (omega arith), (read 2 (omega arith), (read 3 (omega arith), (read 4 (omega arith), tt)))));
    five = refl;
  }

  kept_below : (at : ℕ) (f : Bool) → at + 1 ≤ 129 → kept (number_at t at 1) f < 256
  kept_below at true h = either (λ (n : ℕ). n < 256) (eqb (number_at t at 1) 0) 1 (number_at t at 1) (λ _. omega arith) (λ _. number_below t at 1 b (omega arith))
  kept_below at false h = omega arith

  -- such a row fits the bytes of any other
  pub fitting_sound : (r : Row) → Fitting r → Sound (flags_in t) r
  fitting_sound r f =
      let m : (k : ℕ) → AllFit (message_fields (message_in r.messages k))
      = λ k. let s = small_at r.messages k f.messages in (s.id, (s.total, (s.count, (s.frames, (s.missing, tt))))) in
      let live : (k at : ℕ) → at + 1 ≤ 129 → kept (number_at t at 1) (message_in r.messages k).live < 256
      = λ k at h. kept_below at (message_in r.messages k).live h in
      row_sound_lem (flags_in t) r (f.id, (f.version, (f.guarantee, (f.cap, tt))))
      (lives_fit (flags_in t) r.messages (live 0 6 (omega arith)) (live 1 7 (omega arith)) (live 2 8 (omega arith)) (live 3 9 (omega arith))
      (live 4 10 (omega arith)))
      (services_fit (flags_in t) r (kept_below 11 r.audio.on (omega arith)) (kept_below 12 r.video.on (omega arith))
      (f.next, (f.hash, (f.audio, (f.video, tt)))))
      (messages_fit r.messages (m 0) (m 1) (m 2) (m 3) (m 4))
      f.five

-- the bytes of row i
module _ (s : List ℕ) (i : ℕ) (b : AreBytes s) (l : length s ≡ 2688) (h : i < 8) where
  abbrev bytes : List ℕ
  bytes = part s (row_place i) 129

  are_bytes : AreBytes bytes
  are_bytes = bytes_take 129 (drop (row_place i) s) (bytes_drop (row_place i) s b)

  long : length bytes ≡ 129
  long = length-take-le 129 (drop (row_place i) s) (omega (arith, length-drop (row_place i) s))

  pub row_fitting : Fitting (row_in s i)
  row_fitting = read_fitting bytes are_bytes long

  pub row_fits : (r : Row) → Fitting r → Sound (flags_in (part s (row_place i) 129)) r
  row_fits r f = fitting_sound bytes are_bytes long r f

-- ---- what a call makes of a row

pub fitting_free : Fitting free_row
fitting_free = record {
  id = omega arith;
  version = omega arith;
  guarantee = omega arith;
  cap = omega arith;
  next = omega arith;
  hash = omega arith;
  audio = omega arith;
  video = omega arith;
  messages = (no_message_lem, (no_message_lem, (no_message_lem, (no_message_lem, (no_message_lem, tt)))));
  five = refl;
}

pub fitting_opened : (i : SessionId) (g c v h : ℕ) → i.0 < 256 → g < 2 ^ 16 → c < 2 ^ 16 → v < 256 → h < 2 ^ 32 → Fitting (opened_row i g c v h)
fitting_opened i g c v h a b d e f = record {
  id = a;
  version = e;
  guarantee = b;
  cap = d;
  next = omega arith;
  hash = f;
  audio = omega arith;
  video = omega arith;
  messages = (no_message_lem, (no_message_lem, (no_message_lem, (no_message_lem, (no_message_lem, tt)))));
  five = refl;
}

-- another version and message counter, other streams
abbrev remade : Row → ℕ → ℕ → Running → Running → Row
remade r v n a c = record {
  id = r.id;
  guarantee = r.guarantee;
  cap = r.cap;
  version = v;
  next = record { 0 = n };
  hash = r.hash;
  audio = a;
  video = c;
  messages = r.messages;
}

fitting_remade : (r : Row) (v n : ℕ) (a c : Running) → Fitting r → v < 256 → n < 2 ^ 32 → a.hash < 2 ^ 32 → c.hash < 2 ^ 32 → Fitting (remade r v n a c)
fitting_remade r v n a c f p q x y = record {
  id = f.id;
  version = p;
  guarantee = f.guarantee;
  cap = f.cap;
  next = q;
  hash = f.hash;
  audio = x;
  video = y;
  messages = f.messages;
  five = f.five;
}

fitting_message : (r : Row) (place : ℕ) (m : Reassembly) → Fitting r → Small m → Fitting (with_message_at r place m)
unfolding with_message_at
fitting_message r place m f g =
    either Fitting (ltb place 5) _ r
    (λ _. record {
      id = f.id;
      version = f.version;
      guarantee = f.guarantee;
      cap = f.cap;
      next = f.next;
      hash = f.hash;
      audio = f.audio;
      video = f.video;
      messages = small_set r.messages place m f.messages g;
      five = length-set r.messages place m ∙ f.five;
    })
    (λ _. f)

-- 24 and 25 ask nothing of frame and offer
pub dropped_fitting : (r : Row) (place : ℕ) → Fitting r → Fitting (with_message_at r place no_reassembly)
dropped_fitting r place f = fitting_message r place no_reassembly f no_message_lem

fitting_settled : (r : Row) (v : ℕ) → Fitting r → v < 256 → Fitting (settled_row r v)
unfolding settled_row
fitting_settled r v f h =
    either Fitting (eqb r.version 0) _ r (λ _. fitting_remade r v r.next.0 r.audio r.video f h f.next f.audio f.video) (λ _. f)

fitting_service : (r : Row) (s : ServiceType) (x : Running) → Fitting r → x.hash < 2 ^ 32 → Fitting (with_service r s x)
unfolding with_service
fitting_service r s x f h =
    either Fitting (eqb s.0 0x0A) _ _ (λ _. fitting_remade r r.version r.next.0 x r.video f f.version f.next h f.video) λ _.
    either Fitting (eqb s.0 0x0B) _ r (λ _. fitting_remade r r.version r.next.0 r.audio x f f.version f.next f.audio h) (λ _. f)

fitting_acked : (r : Row) → Fitting r → Fitting (acked_row r)
fitting_acked r f = fitting_remade r r.version ((r.next.0 + 1) % 2 ^ 32) r.audio r.video f f.version (omega arith) f.audio f.video

-- a decision on a row, by its cases: of the frame, its version and its message id count, of the offer its hash
module _ (l : Link) (i : ℕ) (h : Header) (payload : List ℕ) (hash : ℕ) where
  abbrev row : Row
  row = get_or l.rows i no_row

  abbrev place : ℕ
  place = place_of h.service.0

  pub after_fitting : {ask : Ask} {act : Act} → Fitting (get_or l.rows i no_row) → h.version < 256 → h.message.0 < 2 ^ 32 → hash < 2 ^ 32
      → Decided l i h payload ask act → Fitting (row_after (get_or l.rows i no_row) h hash act)
  after_fitting f v m x (refuses b) = f
  after_fitting f v m x accepts = f
  after_fitting f v m x beats = f
  after_fitting f v m x starts = fitting_acked _ (fitting_service row h.service (record { on = true; hash = hash }) f x)
  after_fitting f v m x starts-not = f
  after_fitting f v m x (stops d) = fitting_acked _ (fitting_service _ h.service _ (dropped_fitting row place f) (omega arith))
  after_fitting f v m x (closes d) = fitting_free
  after_fitting f v m x ends_not = f
  after_fitting f v m x (hands-over q) = fitting_settled row h.version f v
  after_fitting f v m x (claims {total = total} {count = count} q n fit a b c) =
      let t = totals_range total count fit in
      let bytes : total < 2 ^ 32 = omega (arith, t) in
      let frames : count < 2 ^ 32 = omega (arith, t) in
      fitting_settled _ h.version (fitting_message row place _ f (record { id = m; total = bytes; count = frames; frames = frames; missing = bytes })) v
  after_fitting f v m x (drops d c) = dropped_fitting row place f
  after_fitting f v m x (appends c a b) =
      let s = small_at row.messages place f.messages in
      fitting_message row place _ f
      (record { id = s.id; total = s.total; count = s.count; frames = omega (arith, s.frames); missing = omega (arith, s.missing) })
  after_fitting f v m x (delivers c a b) = dropped_fitting row place f
