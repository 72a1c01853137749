-- The theorem at work: laws that it rests on, at actual states and calls, by computation. A changed definition for which the theorem is false
-- shows here what it answers instead; the must-fail edits are such changes. The calls are past 10, on a pool of one block, which saves the checker
-- most of its steps.
-- Assumes nothing.
use Prim.Native.Nat.{ℕ, ◌+◌, ◌-◌, ◌*◌}
use mathlib.Core.Path.{◌≡◌, refl}
use mathlib.Core.Bool.{true, false}
use mathlib.Core.Option.{Option, none, some}
use mathlib.Core.List.{List, [], ◌∷◌, ◌++◌}
use lib.Dec.{leb}
use lib.ListN.{length, take, replicate}
use Rattle.numbers.specs.Numbers.{value_le, value_be, bytes_le, bytes_be}
use Rattle.frame.specs.declared.ServiceType.{ServiceType}
use Rattle.frame.specs.Rules.{known_version, listed_service, info_fits, flag_fits, largest, size_fits, fault_of, header_size}
use Rattle.frame.specs.Read.{front_of, message_of, read_of}
use Rattle.frame.specs.Write.{message_bytes, frame_bytes}
use Rattle.frame.specs.Message.{frame_number, totals_fit}
use Rattle.payload.specs.Walk.{payload_of, document_of}
use Rattle.blocks.specs.Map.{held_by, held_by_all, free_in, free_map, claimed, released}
use Rattle.blocks.specs.Pool.{block_bytes, over, appended}
use Rattle.session.specs.declared.Row.{Row}
use Rattle.session.specs.Rows.{free_row, opened_row, admitted_row, fed_row, settled_row, with_message_at, with_service}
use Rattle.session.specs.Rules.{reply_version, version_fits, mtu_fits, is_running, service_fits, takes_beats, command_fits, barred_by}
use Rattle.session.specs.Decide.{place_of, need_of, message_blocks, held_in, first_of, due_number, sized, next_for, single_of, startable, starting_of, endable, hash_of, ending_of, control_of, content_of}
use Rattle.link.specs.State.{index_of, owner_of, shares_in, distinct_ids, room_fits, version_allowed, service_at, message_fits, unsettled_fits, blocks_fit, free_fits, row_fits, rules_hold, settings_fit, grant_fits, guard_of, lowest_free}
use Rattle.link.specs.Reply.{granted_payload}
use Rattle.link.specs.Call.{After, reading_of, wish_of, opens, admits, old_version, said_of, decision_of, frame_of, call_of}
use Rattle.link.specs.Values.{values_of}
use Rattle.link.specs.Book.{Command, call, ask_of, seen_of, lowest_not_in, needs_in, needs_at, needs_in_all, added, struck, book_after, Due, due_for, due_of}
use Rattle.link.specs.Claim.{State, is_open, blocks_of, front_size}
use Rattle.link.specs.Pages.{row_of, note_of, notes_from, pages}

-- ---- states: sessions 1 and 2 in the first two rows

-- an open session of version 4 without messages
abbrev row : ℕ → ℕ → ℕ → Row
row i g c = opened_row (record { 0 = i }) g c 4 39027

-- the same with a message 7 on service 07
abbrev row_with : ℕ → ℕ → ℕ → ℕ → ℕ → Row
row_with i g c total count = admitted_row (row i g c) 1 (record { 0 = 7 }) total count

abbrev state : Row → Row → List ℕ → List ℕ → State
state one two owners pool = record {
  link = record { version = record { major = 5; minor = 4; patch = 1 }; mtu = 131084; rows = one ∷ two ∷ replicate 6 free_row; owners = owners };
  pool = pool;
}

abbrev zeros : List ℕ
zeros = replicate 256 0

-- the first n blocks are of the message on 07 of the session in row i
abbrev taken : ℕ → ℕ → List ℕ
taken n i = replicate n (owner_of i 1) ++ replicate (256 - n) 0

-- ---- calls

abbrev give : List ℕ → Command
give input = call (record { input = input; grant = record { guarantee = 100; cap = 256; hash = 39027 }; out = replicate 128 0 })

-- an opening without payload
abbrev enter : Command
enter = give (0x10 ∷ 0x07 ∷ 0x01 ∷ 0 ∷ 0 ∷ 0 ∷ 0 ∷ 0 ∷ [])

-- a frame of version 4 with message id 7
abbrev frame : ℕ → ℕ → ℕ → ℕ → List ℕ → Command
frame session kind service info payload =
    give (frame_bytes (record {
      version = 4;
      flag = false;
      kind = kind;
      service = record { 0 = service };
      info = info;
      session = record { 0 = session };
      size = length payload;
      message = record { 0 = 7 };
    }) payload)

-- a First Frame on service 07
abbrev announce : ℕ → ℕ → ℕ → Command
announce session total count = frame session 2 0x07 0 (bytes_be 4 total ++ bytes_be 4 count)

-- what such a call does
abbrev went : State → Command → After
went s (call q) = reading_of s.link s.pool q.input q.out q.grant (read_of q.input)

abbrev left : State → Command → State
left s c = record { link = (went s c).link; pool = (went s c).pool }

-- ---- laws

-- every state after a list keeps the state rules
abbrev Kept : State → Command → Type 0
Kept s c = rules_hold (went s c).link ≡ true

-- one of these rules: "the sum over sessions of the larger of held and G is at most 256"
abbrev Shared : State → Command → Type 0
Shared s c = leb (shares_in (went s c).link.rows) 256 ≡ true

-- "each open session holds exactly as many blocks as its messages in the book need"
abbrev Room : State → Command → ℕ → Type 0
Room s c i = blocks_of (left s c) i ≡ needs_at (book_after (pages s) c (went s c).answer i)

-- "held and free blocks make 256"
abbrev Counted : State → Command → Type 0
Counted s c = needs_in_all (book_after (pages s) c (went s c).answer) 255 1 + free_in (went s c).link.owners ≡ 256

-- "handed over .. as the bytes joined there"; the service is the message's, and the frame is consumed
abbrev handed : After → List ℕ
handed w = take (values_of w.answer).written w.out

abbrev handed_on : Option ServiceType → List ℕ → Option Due
handed_on none bytes = none
handed_on (some v) bytes = some (record { service = v.0; bytes = bytes })

abbrev Delivered : State → Command → Type 0
Delivered s c =
    (handed_on (values_of (went s c).answer).service (handed (went s c)) ≡ due_of (pages s) c) × ((values_of (went s c).answer).consumed ≡ front_size c)

-- "gets the same answer .. and the same out bytes in both lists", whatever the others do
abbrev Alike : State → State → Command → Type 0
Alike s t c = (values_of (went s c).answer ≡ values_of (went t c).answer) × ((went s c).out ≡ (went t c).out)

record ActualCalls : Type 0 where
  -- a second opening gets another id
  ids : Kept (state (row 1 100 200) free_row free_map zeros) enter
  -- a wrong number drops the message
  drop : Room (state (row_with 1 100 200 600 2) free_row (taken 3 0) zeros) (frame 1 3 0x07 2 (0x2A ∷ [])) 1
  -- the last payload is delivered too
  whole : Delivered (state (fed_row (row_with 1 100 200 3 2) 1 2) free_row (taken 1 0) (10 ∷ 20 ∷ replicate 254 0)) (frame 1 3 0x07 0 (30 ∷ []))
  -- session 2 asks for more than session 1's guarantee leaves
  greed : Shared (state (row 1 100 200) (row 2 100 256) free_map zeros) (announce 2 (157 * 256) 1)
  -- session 1 asks for its guarantee while session 2 holds all that is left
  large : Alike (state (row 1 100 200) (row_with 2 100 256 (156 * 256) 1) (taken 156 1) zeros) (state (row 1 100 200) free_row free_map zeros) (announce 1 (100 * 256) 1)
  -- an ACK's number, beside another session and alone
  acks : Alike (state (row 1 100 200) (row 2 100 256) free_map zeros) (state (row 1 100 200) free_row free_map zeros) (frame 1 0 0x0A 0x01 [])
  -- session 2 closes while it holds blocks
  close : Counted (state (row 1 100 200) (row_with 2 100 256 600 2) (taken 3 1) zeros) (frame 2 0 0x07 0x04 (bytes_be 4 39027))
  close_kept : Kept (state (row 1 100 200) (row_with 2 100 256 600 2) (taken 3 1) zeros) (frame 2 0 0x07 0x04 (bytes_be 4 39027))

actual_calls : ActualCalls
unfolding known_version listed_service info_fits flag_fits largest size_fits fault_of header_size front_of message_of read_of value_le value_be bytes_le bytes_be message_bytes frame_number totals_fit payload_of document_of held_by held_by_all free_map claimed released block_bytes over appended settled_row with_message_at with_service reply_version version_fits mtu_fits is_running service_fits takes_beats command_fits barred_by place_of need_of message_blocks held_in first_of due_number sized next_for single_of startable starting_of endable hash_of ending_of control_of content_of index_of owner_of shares_in distinct_ids room_fits version_allowed service_at message_fits unsettled_fits blocks_fit free_fits row_fits rules_hold settings_fit grant_fits guard_of lowest_free granted_payload wish_of opens admits old_version said_of decision_of frame_of call_of ask_of seen_of lowest_not_in needs_in needs_in_all added struck due_for is_open blocks_of row_of note_of notes_from pages
actual_calls = record { ids = refl; drop = refl; whole = (refl, refl); greed = refl; large = (refl, refl); acks = (refl, refl); close = refl; close_kept = refl }
