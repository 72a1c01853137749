-- The link's state as 2,688 bytes of the caller's: what stands where. Numbers have their least significant byte first.
--
--       at   bytes                                          in a row   bytes
--        0       1   this layout's number, 1                       0       1   id, 0 in a free row
--        1       3   the module's version M, m, p                  1       1   settled version, 0 while unsettled
--        4       4   mtu                                           2    2, 2   G and C
--        8     536   reserved (a video profile's lists)            6       5   whether a message is open: 00, 07, 0A, 0B, 0F
--      544     256   each block's owner                           11    1, 1   whether audio runs, whether video does
--      800   1,888   eight rows of 236 bytes                      13      16   the next ACK's number; hashes of 07, audio, video
--                                                                 29     100   five messages: id, total, count, frames and bytes to come
--                                                                129     107   reserved (a second message on each service)
--
-- Reserved bytes are neither read nor written, so that what document 02's A11 and A13 add moves no other byte. Any bytes are some link's: a flag is set where
-- its byte is any but 0, and a flag's byte is written only where it is to say something else.
-- Assumes nothing.
use Rattle.std.specs.Prelude.{ℕ, ◌+◌, ◌*◌, ◌≡◌, Bool, true, false, eqb, List, [], ◌∷◌, ◌++◌, map, length, get_or}
use Rattle.numbers.specs.Bytes.{part, pick, put_at}
use Rattle.frame.specs.declared.SessionId.{SessionId}
use Rattle.session.specs.declared.Reassembly.{Reassembly}
use Rattle.session.specs.declared.Row.{Row}
use Rattle.session.specs.Rows.{no_reassembly}
use Rattle.link.specs.declared.Link.{Link}
use Rattle.state.specs.Fields.{Field, field, packed, AllFit, number_at, flag_at}

-- ---- a row: id, version, guarantee, cap; five times whether a message is open; whether audio and video run, the next ACK's number, the hashes; five messages

abbrev pub message_of : List ℕ → ℕ → Reassembly
message_of s k = record {
  live = flag_at s (6 + k);
  id = record { 0 = number_at s (29 + k * 20) 4 };
  total = number_at s (29 + k * 20 + 4) 4;
  count = number_at s (29 + k * 20 + 4 + 4) 4;
  frames = number_at s (29 + k * 20 + 4 + 4 + 4) 4;
  missing = number_at s (29 + k * 20 + 4 + 4 + 4 + 4) 4;
}

abbrev pub row_of : List ℕ → Row
row_of s = record {
  id = record { 0 = number_at s 0 1 };
  guarantee = number_at s 2 2;
  cap = number_at s 4 2;
  version = number_at s 1 1;
  next = record { 0 = number_at s 13 4 };
  hash = number_at s 17 4;
  audio = record { on = flag_at s 11; hash = number_at s 21 4 };
  video = record { on = flag_at s 12; hash = number_at s 25 4 };
  messages = message_of s 0 ∷ message_of s 1 ∷ message_of s 2 ∷ message_of s 3 ∷ message_of s 4 ∷ [];
}

-- a flag's byte: as it was where it says the same, else 1 or 0
abbrev pub kept : ℕ → Bool → ℕ
kept n true = pick (eqb n 0) 1 n
kept n false = 0

-- the flags' bytes as they were
abbrev pub flags_in : List ℕ → List ℕ
flags_in t = number_at t 6 1 ∷ number_at t 7 1 ∷ number_at t 8 1 ∷ number_at t 9 1 ∷ number_at t 10 1 ∷ number_at t 11 1 ∷ number_at t 12 1 ∷ []

abbrev pub message_in : List Reassembly → ℕ → Reassembly
message_in ms k = get_or ms k no_reassembly

abbrev pub head_fields : Row → List Field
head_fields r = field 1 r.id.0 ∷ field 1 r.version ∷ field 2 r.guarantee ∷ field 2 r.cap ∷ []

abbrev pub live_fields : List ℕ → List Reassembly → List Field
live_fields old ms =
    field 1 (kept (get_or old 0 0) (message_in ms 0).live)
    ∷ field 1 (kept (get_or old 1 0) (message_in ms 1).live)
    ∷ field 1 (kept (get_or old 2 0) (message_in ms 2).live)
    ∷ field 1 (kept (get_or old 3 0) (message_in ms 3).live)
    ∷ field 1 (kept (get_or old 4 0) (message_in ms 4).live)
    ∷ []

abbrev pub four_fields : ℕ → ℕ → ℕ → ℕ → List Field
four_fields a b c d = field 4 a ∷ field 4 b ∷ field 4 c ∷ field 4 d ∷ []

abbrev pub service_fields : List ℕ → Row → List Field
service_fields old r = field 1 (kept (get_or old 5 0) r.audio.on) ∷ field 1 (kept (get_or old 6 0) r.video.on) ∷ four_fields r.next.0 r.hash r.audio.hash r.video.hash

abbrev pub message_fields : Reassembly → List Field
message_fields m = field 4 m.id.0 ∷ field 4 m.total ∷ field 4 m.count ∷ field 4 m.frames ∷ field 4 m.missing ∷ []

abbrev pub all_message_fields : List Reassembly → List Field
all_message_fields ms =
    message_fields (message_in ms 0)
    ++ (message_fields (message_in ms 1) ++ (message_fields (message_in ms 2) ++ (message_fields (message_in ms 3) ++ message_fields (message_in ms 4))))

abbrev pub row_fields : List ℕ → Row → List Field
row_fields old r = head_fields r ++ (live_fields old r.messages ++ (service_fields old r ++ all_message_fields r.messages))

-- a row's 129 bytes, put over those of t
abbrev pub row_bytes : List ℕ → Row → List ℕ
row_bytes t r = packed (row_fields (flags_in t) r)

-- what holds of every row by value
pub record Sound (old : List ℕ) (r : Row) : Type 0 where
  pub fit : AllFit (row_fields old r)
  pub five : length r.messages ≡ 5

-- four fields of a row
pub record HeadOf (r : Row) (id : SessionId) (version guarantee cap : ℕ) : Type 0 where
  pub named : id ≡ r.id
  pub settled : version ≡ r.version
  pub granted : guarantee ≡ r.guarantee
  pub capped : cap ≡ r.cap

-- ---- the state

abbrev pub row_place : ℕ → ℕ
row_place i = 800 + i * 236

abbrev pub row_in : List ℕ → ℕ → Row
row_in s i = row_of (part s (row_place i) 129)

abbrev pub eight : List ℕ
eight = 0 ∷ 1 ∷ 2 ∷ 3 ∷ 4 ∷ 5 ∷ 6 ∷ 7 ∷ []

abbrev pub link_of : List ℕ → Link
link_of s = record {
  version = record { major = number_at s 1 1; minor = number_at s 2 1; patch = number_at s 3 1 };
  mtu = number_at s 4 4;
  rows = map (row_in s) eight;
  owners = part s 544 256;
}

-- the state with row i's bytes
abbrev pub with_row_bytes : List ℕ → ℕ → Row → List ℕ
with_row_bytes s i r = put_at s (row_place i) 129 (row_bytes (part s (row_place i) 129) r)
