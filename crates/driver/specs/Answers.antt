-- The answers to the commands that need no link: docs/DRIVER.md, "command, answer". What the calls do is `read_of` (frame/specs/Read), `write_of`
-- (frame/specs/Write), `send_of` (sender/specs/Sender), `payload_of` (payload/specs/Walk), and for what is inside messages rpc's
-- own `read_of` (rpc/specs/Read) and `write_of` (rpc/specs/Write). Assumes nothing.
use Rattle.std.specs.Prelude.{ℕ, ◌-◌, ◌%◌, List, [], ◌∷◌, ◌++◌, length, take, drop, replicate, ◌==◌, slice_index, Option, None, Some, is_some, Result, Ok, Err}
use Rattle.std.specs.Bool.{then_some}
use Rattle.numbers.specs.Bytes.{pick, part}
use Rattle.lines.specs.Decimal.{decimal_of}
use Rattle.text.specs.Pieces.{fitting, put_into, check_of, digits_of}
use Rattle.words.specs.declared.Command.{Command}
use Rattle.words.specs.declared.Kind.{Kind}
use Rattle.words.specs.declared.Kind.TheVariants as kind
use Rattle.frame.specs.declared.Header.{Header}
use Rattle.frame.specs.declared.Reading.{Reading}
use Rattle.frame.specs.declared.Reading.TheVariants as reading
use Rattle.frame.specs.Read.{read_of}
use Rattle.frame.specs.Write.{Wrote, write_of}
use Rattle.sender.specs.declared.Outgoing.{Outgoing}
use Rattle.sender.specs.Sender.{send_of}
use Rattle.payload.specs.declared.Span.{Span}
use Rattle.payload.specs.declared.Tags.{Tags}
use Rattle.payload.specs.Walk.{payload_of}
use Rattle.rpc.specs.declared.Form.{Form}
use Rattle.rpc.specs.declared.Form.TheVariants.{Rpc, Bulk, Query}
use Rattle.rpc.specs.declared.Fields.{Fields}
use Rattle.rpc.specs.declared.Header as message
use Rattle.rpc.specs.declared.Content.{Content}
use Rattle.rpc.specs.declared.Content.TheVariants as messages
use Rattle.rpc.specs.Layout as layout
use Rattle.rpc.specs.Read as rpcRead
use Rattle.rpc.specs.Write as rpcWrite
use Rattle.driver.specs.Spelling.{Spelled, plain, with_hex, line_of, parts_line, letter_and, refused_text, numbers_by}

-- the numbers of a command, as many bits as the call takes
abbrev pub byte_at : Command → ℕ → ℕ
byte_at c i = slice_index c.values i % 256

abbrev pub half_at : Command → ℕ → ℕ
half_at c i = slice_index c.values i % 65536

abbrev pub wide_at : Command → ℕ → ℕ
wide_at c i = slice_index c.values i % 4294967296

-- "An out buffer is OUTLEN bytes (at most 131,084), all EE hex before the call."
unfoldable pub untouched_out : List ℕ
untouched_out = replicate 131084 238

abbrev pub lent_out : Command → List ℕ
lent_out c = take c.lent untouched_out

-- what a command leaves: its line, and the out buffer
pub record Filled : Type 0 where
  pub line : Spelled
  pub out : List ℕ

abbrev pub filled : Spelled → List ℕ → Filled
filled line out = record { line = line; out = out }

-- ---- read HEX

-- "version flag type service info session size id"
abbrev pub header_numbers : Header → List ℕ
header_numbers h =
    h.version
    ∷ pick h.flag 1 0
    ∷ h.kind
    ∷ h.service.0
    ∷ h.info
    ∷ h.session.0
    ∷ h.size
    ∷ h.message.0
    ∷ []

-- "F version flag type service info session size id consumed HEX"
abbrev pub frame_line : Header → ℕ → ℕ → Spelled
frame_line h consumed size = with_hex ((70 ∷ []) ++ (numbers_by 32 (header_numbers h) ++ (32 ∷ decimal_of consumed))) size

-- "(the payload last)": it goes to the out buffer
abbrev pub with_payload : Header → ℕ → List ℕ → List ℕ → Filled
with_payload h consumed payload out = filled (frame_line h consumed (length (fitting out 0 payload))) (put_into out 0 payload)

abbrev pub read_by : List ℕ → List ℕ → Reading → Filled
read_by input out (reading.Frame h e) = with_payload h e.consumed (part input e.start (e.end - e.start)) out
read_by input out (reading.Refused n) = filled (plain (refused_text n)) out
read_by input out (reading.Short n) = filled (plain (letter_and 83 n)) out

-- ---- write version flag type service info session size id OUTLEN HEX

abbrev pub header_of : Command → Header
header_of c =
    record {
      version = byte_at c 0;
      flag = (byte_at c 1 == 1);
      kind = byte_at c 2;
      service = record { 0 = byte_at c 3 };
      info = byte_at c 4;
      session = record { 0 = byte_at c 5 };
      size = wide_at c 6;
      message = record { 0 = wide_at c 7 };
    }

-- ---- send version service session id chunk k OUTLEN HEX

abbrev pub outgoing_of : Command → Outgoing
outgoing_of c =
    record {
      version = byte_at c 0;
      service = record { 0 = byte_at c 1 };
      session = record { 0 = byte_at c 2 };
      message = record { 0 = wide_at c 3 };
      chunk = wide_at c 4;
    }

-- ---- rpcwrite FORM version type function correlation size OUTLEN JSON BULK

-- "FORM is `rpc`, `bulk` or `query`": words has 0, 1 or 2 for them
abbrev pub form_at : Command → Form
form_at c = pick (byte_at c 0 == 0) Rpc (pick (byte_at c 0 == 1) Bulk Query)

-- "For `query` function is the query's id and correlation its sequence number"
abbrev pub fields_at : Command → Fields
fields_at c = record { kind = byte_at c 2; id = wide_at c 3; number = wide_at c 4; size = wide_at c 5 }

abbrev pub message_header : Command → message.Header
message_header c = layout.header_of (form_at c) (fields_at c)

-- the bytes of the first word are JSON, those of the second bulk data
abbrev pub rpc_wrote_by : Command → List ℕ → List ℕ → Wrote
rpc_wrote_by c input out = rpcWrite.write_of (byte_at c 1) (message_header c) (wide_at c 5) (take c.first input) (drop c.first input) out

-- the three leave an answer and the out buffer
abbrev pub wrote_as : Kind → Command → List ℕ → List ℕ → Wrote
wrote_as kind.Write c input out = write_of (header_of c) input out
wrote_as kind.RpcWrite c input out = rpc_wrote_by c input out
wrote_as _ c input out = send_of (outgoing_of c) (wide_at c 5) input out

abbrev pub wrote_by : Command → List ℕ → List ℕ → Wrote
wrote_by c input out = wrote_as c.kind c input out

-- "B n CHECK HEX: bytes written, the check of the whole out buffer, the bytes written", or "R n"
abbrev pub written_line : Result ℕ ℕ → List ℕ → Spelled
written_line (Ok n) out = with_hex (letter_and 66 n ++ (32 ∷ decimal_of (check_of out))) n
written_line (Err n) out = plain (refused_text n)

abbrev pub filled_by : Wrote → Filled
filled_by w = filled (written_line w.answer w.out) w.out

-- the four commands that take an out buffer: `read`, and the three that write
abbrev pub filled_as : Kind → Command → List ℕ → List ℕ → Filled
filled_as kind.Read c input out = read_by input out (read_of input)
filled_as _ c input out = filled_by (wrote_by c input out)

unfoldable pub filled_of : Command → List ℕ → List ℕ → Filled
filled_of c input out = filled_as c.kind c input out

-- ---- payload HEX

-- a name, and "`-`" or the tag's number
abbrev pub tag_text : List ℕ → Option ℕ → List ℕ
tag_text name None = name ++ 45 ∷ []
tag_text name (Some value) = name ++ decimal_of value

-- "T version=V": "V is `-` if protocolVersion is absent, else its bytes in hexadecimal without the final 0"
abbrev pub version_text : Option Span → List ℕ → List ℕ
version_text None input = (84 ∷ 32 ∷ 118 ∷ 101 ∷ 114 ∷ 115 ∷ 105 ∷ 111 ∷ 110 ∷ 61 ∷ []) ++ 45 ∷ []
version_text (Some v) input = (84 ∷ 32 ∷ 118 ∷ 101 ∷ 114 ∷ 115 ∷ 105 ∷ 111 ∷ 110 ∷ 61 ∷ []) ++ digits_of (part input v.at v.length)

-- " hash=H mtu=M rejected=J": "H and M are `-` or the tag's bits as an unsigned number; J is `-` or `1`"
abbrev pub tags_text : Tags → List ℕ
tags_text t =
    tag_text (32 ∷ 104 ∷ 97 ∷ 115 ∷ 104 ∷ 61 ∷ []) t.hash
    ++ (tag_text (32 ∷ 109 ∷ 116 ∷ 117 ∷ 61 ∷ []) t.mtu
    ++ tag_text (32 ∷ 114 ∷ 101 ∷ 106 ∷ 101 ∷ 99 ∷ 116 ∷ 101 ∷ 100 ∷ 61 ∷ []) (then_some (is_some t.rejected) 1))

abbrev pub payload_text : List ℕ → Result Tags ℕ → List ℕ
payload_text input (Ok t) = version_text t.version input ++ tags_text t
payload_text input (Err n) = refused_text n

-- ---- the line

abbrev pub line_in : Filled → List ℕ
line_in f = line_of f.line f.out

abbrev pub plain_line : List ℕ → List ℕ
plain_line s = line_of (plain s) []

-- ---- rpc FORM version HEX

-- "P type function correlation size"
abbrev pub fields_text : Fields → List ℕ
fields_text f = (80 ∷ []) ++ numbers_by 32 (f.kind ∷ f.id ∷ f.number ∷ f.size ∷ [])

-- "P - - - -"
abbrev pub bare_text : List ℕ
bare_text = 80 ∷ 32 ∷ 45 ∷ 32 ∷ 45 ∷ 32 ∷ 45 ∷ 32 ∷ 45 ∷ []

-- "P type function correlation size JSON BULK", "at version 1 the form `rpc` reads as `P - - - - JSON -`", or "R n"
abbrev pub rpc_by : List ℕ → Result Content ℕ → List ℕ
rpc_by payload (Ok (messages.Message h size p)) = parts_line (fields_text (layout.fields_of h size)) payload p
rpc_by payload (Ok (messages.Bare p)) = parts_line bare_text payload p
rpc_by payload (Err n) = plain_line (refused_text n)

abbrev pub rpc_answer : Command → List ℕ → List ℕ
rpc_answer c input = rpc_by input (rpcRead.read_of (form_at c) (byte_at c 1) input)

-- ---- any command

-- "exactly one line for each, none for an empty line or one that begins with `#`", and "`?`" for one that is none of these commands
abbrev pub answer_as : Kind → Command → List ℕ → List ℕ
answer_as kind.Silent c input = []
answer_as kind.Payload c input = plain_line (payload_text input (payload_of input))
answer_as kind.Rpc c input = rpc_answer c input
answer_as kind.Read c input = line_in (filled_of c input (lent_out c))
answer_as kind.Write c input = line_in (filled_of c input (lent_out c))
answer_as kind.Send c input = line_in (filled_of c input (lent_out c))
answer_as kind.RpcWrite c input = line_in (filled_of c input (lent_out c))
answer_as kind.Unreadable c input = plain_line (63 ∷ [])
answer_as kind.New c input = plain_line (63 ∷ [])
answer_as kind.Call c input = plain_line (63 ∷ [])

unfoldable pub answer_to : Command → List ℕ → List ℕ
answer_to c input = answer_as c.kind c input
