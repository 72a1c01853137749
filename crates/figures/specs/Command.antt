-- The control infos that are served and written, by the protocol's names. The names are those of the code (src/command).
-- Assumes nothing.
use Rattle.std.specs.Prelude.{ℕ}

abbrev pub heartbeat : ℕ
heartbeat = 0

abbrev pub start : ℕ
start = 1

abbrev pub start_ack : ℕ
start_ack = 2

abbrev pub start_nak : ℕ
start_nak = 3

abbrev pub end : ℕ
end = 4

abbrev pub end_ack : ℕ
end_ack = 5

abbrev pub end_nak : ℕ
end_nak = 6

abbrev pub heartbeat_ack : ℕ
heartbeat_ack = 255
