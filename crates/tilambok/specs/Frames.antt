-- What the C side gets for the answers of the frame reader and the writers: a status and a value, and what is left in the lent bytes.
-- Document 01, "The bench program and the C side": "Our capture adapter is written in C and calls the frame reader and header writer."
-- The places of fields are ours, as the C header tells them. Assumes nothing.
use Rattle.std.specs.Prelude.{ℕ, ◌^◌, ◌<◌, not, List, ◌∷◌, ◌++◌, eqb, leb, length, get_or}
use Rattle.numbers.specs.Bytes.{part, pick, unless, laid}
use Rattle.numbers.specs.Numbers.{bytes_be, value_be}
use Rattle.frame.specs.Read.{read_of}
use Rattle.frame.specs.Write.{write_header_of, write_of}
use Rattle.frame.specs.declared.Header.{Header}
use Rattle.frame.specs.declared.Reading.{Reading}
use Rattle.frame.specs.declared.Reading.TheVariants.{Frame, Refused, Short}
use Rattle.tilambok.specs.Status.{Result, done, refused, short, Left, answered, IsRefusal}

-- "a frame (.. bytes consumed), a refusal, or Short with the bytes needed in all"
abbrev pub reading_result : ℕ → Reading → Result
reading_result value (Frame h e) = done e.consumed
reading_result value (Refused n) = refused value n
reading_result value (Short n) = short n

-- the value has room in its 32 bits, and the payload's start in its byte
abbrev pub ReadingFits : Reading → Type 0
ReadingFits (Frame h e) = (e.consumed < 2 ^ 32) × (e.start < 256)
ReadingFits (Refused n) = IsRefusal n
ReadingFits (Short n) = n < 2 ^ 32

-- the 16 bytes that tell a frame whose payload starts at start
unfoldable pub field_bytes : Header → ℕ → List ℕ
field_bytes h start =
    h.version ∷ pick h.flag 1 0 ∷ h.kind ∷ h.service.0 ∷ h.info ∷ h.session.0 ∷ start ∷ 0 ∷ (bytes_be 4 h.size ++ bytes_be 4 h.message.0)

-- fields taken apart again
unfoldable pub header_in : List ℕ → Header
header_in f = record {
  version = get_or f 0 0;
  flag = not (eqb (get_or f 1 0) 0);
  kind = get_or f 2 0;
  service = record { 0 = get_or f 3 0 };
  info = get_or f 4 0;
  session = record { 0 = get_or f 5 0 };
  size = value_be (part f 8 4);
  message = record { 0 = value_be (part f 12 4) };
}

-- the header that a caller's numbers describe; flag 0 is clear, any other value is set
abbrev pub header_from : ℕ → ℕ → ℕ → ℕ → ℕ → ℕ → ℕ → ℕ → Header
header_from version flag kind service info session size message = record {
  version = version;
  flag = not (eqb flag 0);
  kind = kind;
  service = record { 0 = service };
  info = info;
  session = record { 0 = session };
  size = size;
  message = record { 0 = message };
}

-- the reader's answer to a caller who lends these fields: a frame needs 16 bytes there, else 11
abbrev pub heard : List ℕ → Reading → Reading
heard fields (Frame h e) = unless (leb 16 (length fields)) (Refused 11) (Frame h e)
heard fields (Refused n) = Refused n
heard fields (Short n) = Short n

-- a frame's fields go to the front, and what is past them stays; the other answers write nothing
abbrev pub fields_after : List ℕ → Reading → List ℕ
fields_after fields (Frame h e) = laid (field_bytes h e.start) fields
fields_after fields (Refused n) = fields
fields_after fields (Short n) = fields

-- what a reading leaves to a caller who lends these fields and this number
abbrev pub left_by : List ℕ → ℕ → Reading → Left
left_by fields value r = record { result = reading_result value r; lent = fields_after fields r }

-- "the frame reader": what tilambok_read_frame leaves, its result and the fields
abbrev pub tilambok_read_frame : List ℕ → List ℕ → ℕ → Left
tilambok_read_frame bytes fields value = left_by fields value (heard fields (read_of bytes))

-- "and header writer": what tilambok_write_header leaves, its result and the out buffer
abbrev pub tilambok_write_header : Header → List ℕ → ℕ → Left
tilambok_write_header h out value = answered value (write_header_of h out)

-- the same of tilambok_write_frame, which is ours: the whole frame
abbrev pub tilambok_write_frame : Header → List ℕ → List ℕ → ℕ → Left
tilambok_write_frame h payload out value = answered value (write_of h payload out)
