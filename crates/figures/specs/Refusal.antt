-- Why a call is refused: document 01's "Answer numbers" with its words, and document 02's of request A1. The names are those of the code (src/refusal).
-- Assumes nothing.
use Rattle.std.specs.Prelude.{ℕ, List, [], ◌∷◌, Contains, Result, Ok, Err}

-- "version 0 or above 5"
abbrev pub bad_version : ℕ
bad_version = 1

-- "frame type above 3"
abbrev pub bad_frame_type : ℕ
bad_frame_type = 2

-- "service not listed"
abbrev pub bad_service : ℕ
bad_service = 3

-- "control info not listed"
abbrev pub bad_control_info : ℕ
bad_control_info = 4

-- "flag set in version 1 or on a First Frame"
abbrev pub bad_flag : ℕ
bad_flag = 5

-- "First Frame size not 8, consecutive size 0, or above the largest"
abbrev pub bad_size : ℕ
bad_size = 6

-- "pool not 65,536 bytes, settings, offer or chunk (0 or above largest) out of range, state rule broken"
abbrev pub bad_settings : ℕ
bad_settings = 10

-- "out under 128 bytes (link), or too small for the bytes due"
abbrev pub too_small : ℕ
too_small = 11

-- "session not open (0 never is; opening excepted)"
abbrev pub not_open : ℕ
not_open = 12

-- "encryption flag set"
abbrev pub encrypted : ℕ
encrypted = 13

-- "version not the settled one; unsettled: above min(M, 4)"
abbrev pub other_version : ℕ
other_version = 14

-- "settled at 5, data size above mtu minus 12"
abbrev pub above_mtu : ℕ
above_mtu = 15

-- "type 1 to 3 on a service not running; 00 always runs, 0F from frame version 2"
abbrev pub not_running : ℕ
not_running = 16

-- "control info other than 00, 01, 04, FF; or 00, FF not on service 00 or not settled at 3 or more"
abbrev pub not_served : ℕ
not_served = 17

-- "total 0 or above 65,536, count 0 .. or above total; sender: likewise, if more than one chunk"; A2 dropped "above 256"
abbrev pub bad_totals : ℕ
bad_totals = 18

-- "message already open"
abbrev pub already_open : ℕ
already_open = 19

-- "held + need above C"
abbrev pub above_cap : ℕ
above_cap = 20

-- "sum of larger-of-held-and-G above 256"
abbrev pub no_room : ℕ
no_room = 21

-- "no message open"
abbrev pub no_message : ℕ
no_message = 22

-- "other message id"
abbrev pub other_message : ℕ
other_message = 23

-- "frame number wrong; message dropped"
abbrev pub bad_frame_number : ℕ
bad_frame_number = 24

-- "sizes wrong; message dropped"
abbrev pub bad_frame_size : ℕ
bad_frame_size = 25

-- "sender: k past the last frame"
abbrev pub no_such_frame : ℕ
no_such_frame = 26

-- "document length not the lent length, or not 5 to 1,024"
abbrev pub bad_length : ℕ
bad_length = 30

-- "type not read"
abbrev pub bad_type : ℕ
bad_type = 31

-- "key, value or nested document runs past its document; string length 0 or its last byte not 0; nested length under 5; a 0 in a type's place before its
-- document's last byte, or the document used up without one; boolean not 0 or 1"
abbrev pub malformed : ℕ
malformed = 32

-- "depth 9, judged before its length"
abbrev pub too_deep : ℕ
too_deep = 33

-- "known tag twice or of another type"
abbrev pub bad_tag : ℕ
bad_tag = 34

-- "payload under 12 bytes"
abbrev pub rpc_too_short : ℕ
rpc_too_short = 40

-- "type not 0 to 2 (query: not 00, 10, 20 or FF)"
abbrev pub rpc_bad_type : ℕ
rpc_bad_type = 41

-- "query id not 1, 2 or FFFFFF (all hex; in the writer also a function id over 28 bits)"
abbrev pub rpc_bad_id : ℕ
rpc_bad_id = 42

-- "JSON size past the end"; in the writer "if the JSON size isn't the JSON's length"
abbrev pub rpc_bad_json_size : ℕ
rpc_bad_json_size = 43

-- "bytes after the JSON on RPC"; in the writer "for bulk on RPC"
abbrev pub rpc_bulk : ℕ
rpc_bulk = 44

-- every one, by rising number
abbrev pub all_refusals : List ℕ
all_refusals =
    bad_version
    ∷ bad_frame_type
    ∷ bad_service
    ∷ bad_control_info
    ∷ bad_flag
    ∷ bad_size
    ∷ bad_settings
    ∷ too_small
    ∷ not_open
    ∷ encrypted
    ∷ other_version
    ∷ above_mtu
    ∷ not_running
    ∷ not_served
    ∷ bad_totals
    ∷ already_open
    ∷ above_cap
    ∷ no_room
    ∷ no_message
    ∷ other_message
    ∷ bad_frame_number
    ∷ bad_frame_size
    ∷ no_such_frame
    ∷ bad_length
    ∷ bad_type
    ∷ malformed
    ∷ too_deep
    ∷ bad_tag
    ∷ rpc_too_short
    ∷ rpc_bad_type
    ∷ rpc_bad_id
    ∷ rpc_bad_json_size
    ∷ rpc_bulk
    ∷ []

-- one of them
abbrev pub Listed : ℕ → Type 0
Listed n = Contains all_refusals n

-- the number that a call is refused with; 0 where it is not
abbrev pub refusal_in : {A : Type 0} → Result A ℕ → ℕ
refusal_in (Ok a) = 0
refusal_in (Err n) = n
