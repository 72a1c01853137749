-- The frames of a message that our sender cut, as the link meets them: each at the front of an input is read as it was meant, and where so many have come the
-- next one has the number that is due and a size that fits.
-- Assumes nothing.
use Prim.Native.Nat.{ℕ, zero, suc, ◌+◌, ◌-◌, ◌*◌, ◌^◌, ◌≤◌, ◌<◌}
use mathlib.Core.Path.{◌≡◌, refl, ap, ◌∙◌, sym}
use mathlib.Core.Bool.{true, false}
use mathlib.Core.List.{List, ◌++◌}
use native.Mathlib.Omega.{arith}
use lib.Dec.{eqb}
use lib.ListN.{length, take, drop, length-take, length-drop}
use lib.Seq.{take_all}
use borrow.Author.Tests.{eq-eqb, ne_eqb, le-leb}
use Rattle.numbers.specs.Bytes.{part}
use Rattle.numbers.specs.Numbers.{value_be, bytes_be}
use Rattle.frame.specs.declared.Header.{Header}
use Rattle.frame.specs.declared.MessageId.{MessageId}
use Rattle.frame.specs.declared.Reading.TheVariants as reading
use Rattle.frame.specs.Read.{extent_of, read_of}
use Rattle.frame.specs.ReadBack.{as_read, payload_part}
use Rattle.frame.specs.Message.{frame_number}
use Rattle.sender.specs.declared.Outgoing.{Outgoing}
use Rattle.sender.specs.Sender.{fits_one, count_of, chunk_of, Planned, plan, header_for, frame_at, bytes_of, last_place, Accepted}
use Rattle.sender.specs.ReadBack.{SentMessage}
use Rattle.sender.proofs.Counts.{chunk_range, several_length, starts, ends, whole_chunk, some_chunk}
use Rattle.sender.proofs.Laws.{at_first, at_next, totals_length}
use Rattle.sender.proofs.ReadBack.{Told, sent_told, sent_read_back, last_several}
use Rattle.session.specs.declared.Reassembly.{Reassembly}
use Rattle.session.specs.declared.Act.TheVariants.{Append, Deliver}
use Rattle.session.specs.Decide.{due_number, sized, next_for}
use Rattle.link.specs.Book.{Request}
use Rattle.link.specs.Arrival.{Fronts}

-- so many chunks hold at least so many bytes more
gap : (a d chunk : ℕ) → 1 ≤ chunk → a * chunk + d ≤ (a + d) * chunk
gap a zero chunk h = let z : a + 0 ≡ a = omega arith in rw z (omega arith)
gap a (suc d) chunk h =
    let z : a + suc d ≡ suc (a + d) = omega arith in
    let y : suc (a + d) * chunk ≡ (a + d) * chunk + chunk = omega arith in
    rw z (omega (arith, gap a d chunk h))

-- a message of more than one chunk that our sender sends
pub record Cut (o : Outgoing) (m : List ℕ) : Type 0 where
  pub accepted : Accepted o m
  pub several : fits_one o m ≡ false
  pub message : o.message.0 < 2 ^ 32

-- a header of our sender as it is read, and its message id
abbrev pub heard_for : Outgoing → ℕ → ℕ → ℕ → Header
heard_for o kind info size = as_read (header_for o kind info size)

abbrev pub id_read : Outgoing → MessageId
id_read o = (heard_for o 0 0 0).message

-- a frame at the front of an input is read as it was meant
module _ (o : Outgoing) (m : List ℕ) (small : o.message.0 < 2 ^ 32) (q : Request) (k : ℕ) (f : Fronts o m k q) where
  pub told_by : Told o k m f.n f.left
  told_by = sent_told o k m f.buffer f.left f.n f.sent

  input_is : q.input ≡ bytes_of (frame_at o m k) ++ f.behind
  input_is = f.input ∙ ap (λ (x : List ℕ). x ++ f.behind) told_by.bytes

  module _ (kind info : ℕ) (p : List ℕ) (is : frame_at o m k ≡ plan o kind info p) where
    abbrev meant : Header
    meant = heard_for o kind info (length p)

    pub front_reads : read_of q.input ≡ reading.Frame meant (extent_of meant)
    front_reads =
        ap read_of input_is
        ∙ ((sent_read_back o m told_by.accepted small).each k told_by.place).back.read f.behind
        ∙ ap (λ (x : Planned). reading.Frame (as_read x.header) (extent_of (as_read x.header))) is

    -- its bytes are all that is consumed
    pub front-size : (extent_of meant).consumed ≡ length (bytes_of (frame_at o m k))
    front-size =
        ap (λ (x : Planned). (extent_of (as_read x.header)).consumed) (sym is) ∙ ((sent_read_back o m told_by.accepted small).each k told_by.place).back.consumed

    pub front-payload : payload_part q.input (extent_of meant) ≡ p
    front-payload =
        ap (λ (x : List ℕ). payload_part x (extent_of meant)) input_is
        ∙ ap (λ (x : Planned). payload_part (bytes_of (frame_at o m k) ++ f.behind) (extent_of (as_read x.header))) (sym is)
        ∙ ((sent_read_back o m told_by.accepted small).each k told_by.place).back.carried f.behind
        ∙ ap (λ (x : Planned). x.payload) is

module _ (o : Outgoing) (m : List ℕ) (cut : Cut o m) where
  abbrev c : ℕ
  c = count_of o m

  pub wide : 1 ≤ o.chunk
  wide = (chunk_range o.version o.chunk cut.accepted.ready.chunk).0

  pub some_bytes : 1 ≤ length m
  some_bytes = several_length o m cut.several

  pub last_is : last_place o m ≡ c
  last_is = last_several o m cut.accepted cut.several

  sent : SentMessage o m
  sent = sent_read_back o m cut.accepted cut.message

  -- the first frame tells the total and the count
  abbrev pub lengths : List ℕ
  lengths = bytes_be 4 (length m) ++ bytes_be 4 c

  pub first_frame : frame_at o m 0 ≡ plan o 2 0 lengths
  first_frame = at_first o 0 m cut.several refl

  pub total_told : value_be (part lengths 0 4) ≡ length m
  total_told = ap (λ (x : Planned). value_be (take 4 x.payload)) (sym first_frame) ∙ (sent.pieces cut.several).total

  pub count_told : value_be (part lengths 4 4) ≡ c
  count_told =
      ap value_be (take_all 4 (drop 4 lengths) (omega (arith, length-drop 4 lengths, totals_length (length m) c)))
      ∙ ap (λ (x : Planned). value_be (drop 4 x.payload)) (sym first_frame) ∙ (sent.pieces cut.several).count

  -- the message in the row when so many consecutive frames have come
  abbrev pub partly : ℕ → Reassembly
  partly j = record { live = true; id = id_read o; total = length m; count = c; frames = c - j; missing = length m - j * o.chunk }

  -- the frame after j others
  abbrev pub after-header : ℕ → Header
  after-header j = heard_for o 3 (frame_number (suc j) c) (length (chunk_of o m (suc j)))

  pub after_frame : (j : ℕ) → frame_at o m (suc j) ≡ plan o 3 (frame_number (suc j) c) (chunk_of o m (suc j))
  after_frame j = at_next o (suc j) m cut.several (λ z. omega arith)

  -- the size of its chunk
  pub chunk_size : (j : ℕ) → suc j < c → length (chunk_of o m (suc j)) ≡ o.chunk
  chunk_size j h = whole_chunk o m some_bytes wide (suc j) (omega arith) h

  pub chunk_most : (j : ℕ) → j < c → length (chunk_of o m (suc j)) ≤ o.chunk
  chunk_most j h = (some_chunk o m some_bytes wide (suc j) (omega arith) (omega arith)).1

  pub chunk_next : (j : ℕ) → suc j * o.chunk ≡ j * o.chunk + o.chunk
  chunk_next j = omega arith

  -- the last one is what is missing
  chunk_last : (j : ℕ) → suc j ≡ c → length (chunk_of o m (suc j)) ≡ length m - j * o.chunk
  unfolding chunk_of
  chunk_last j h =
      let z : suc j - 1 ≡ j = omega arith in
      let l : length m ≤ suc j * o.chunk = rw h (ends o m some_bytes wide) in
      rw z (length-take o.chunk (drop (j * o.chunk) m) ∙ omega (arith, length-drop (j * o.chunk) m, chunk_next j))

  -- its number is due, and its size fits
  number_due : (j : ℕ) → j < c → eqb (frame_number (suc j) c) (due_number (partly j)) ≡ true
  unfolding due_number
  number_due j h =
      let z : suc j ≡ c - (c - j) + 1 = omega arith in
      eq-eqb (frame_number (suc j) c) (frame_number (c - (c - j) + 1) c) (ap (λ (x : ℕ). frame_number x c) z)

  sized_inner : (j : ℕ) → suc j < c → sized (partly j) (length (chunk_of o m (suc j))) ≡ true
  unfolding sized
  sized_inner j h =
      let size : ℕ = length (chunk_of o m (suc j)) in
      let e : size ≡ o.chunk = chunk_size j h in
      let y = chunk_next j in
      let a : suc j * o.chunk < length m = starts o m some_bytes wide (suc j) h in
      let d : ℕ = c - 1 - suc j in
      let u : suc j + d ≡ c - 1 = omega arith in
      let g : suc j * o.chunk + d ≤ (c - 1) * o.chunk = rw u at (gap (suc j) d o.chunk wide) in
      let b : (c - 1) * o.chunk < length m = starts o m some_bytes wide (c - 1) (omega arith) in
      rw (le-leb size (length m - j * o.chunk) (omega arith), le-leb (c - j - 1) (length m - j * o.chunk - size) (omega arith), ne_eqb (c - j) 1 (λ z. omega arith))

  sized_last : (j : ℕ) → suc j ≡ c → sized (partly j) (length (chunk_of o m (suc j))) ≡ true
  unfolding sized
  sized_last j h =
      let size : ℕ = length (chunk_of o m (suc j)) in
      let e : size ≡ length m - j * o.chunk = chunk_last j h in
      rw (le-leb size (length m - j * o.chunk) (omega arith), le-leb (c - j - 1) (length m - j * o.chunk - size) (omega arith), eq-eqb (c - j) 1 (omega arith), eq-eqb (length m - j * o.chunk) size (sym e))

  -- the decision on it
  pub appends : (j room : ℕ) → suc j < c → next_for (partly j) room (after-header j) ≡ Append
  unfolding next_for
  appends j room h = rw (eq-eqb (id_read o).0 (id_read o).0 refl, number_due j (omega arith), sized_inner j h, ne_eqb (c - j) 1 (λ z. omega arith))

  pub delivers : (j room : ℕ) → suc j ≡ c → length m ≤ room → next_for (partly j) room (after-header j) ≡ Deliver
  unfolding next_for
  delivers j room h g =
      rw (eq-eqb (id_read o).0 (id_read o).0 refl, number_due j (omega arith), sized_last j h, eq-eqb (c - j) 1 (omega arith), le-leb (length m) room g)
