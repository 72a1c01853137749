-- How lines are gathered from the pieces of the input. What the system reads is in no contract of the kit: of that the definitions say nothing.
-- Assumes nothing.
use Rattle.std.specs.Prelude.{ℕ, ◌+◌, ◌-◌, min, Bool, true, false, ◌&&◌, List, length, take, replicate, ◌==◌, nat_lt}
use Rattle.numbers.specs.Bytes.{pick, part}
use Rattle.lines.specs.Place.{index_of}
use Rattle.text.specs.Pieces.{fitting, put_into}
use Rattle.std.proofs.Math.Seq.{slice}
use Rattle.words.specs.Lines.{Left, command_of}
use Rattle.driver.specs.declared.Input.{Input}

-- where the line that goes on at a place ends: at its newline, or with the piece
abbrev pub line_end : List ℕ → ℕ → ℕ
line_end piece at = at + index_of 10 (slice at (length piece) piece)

-- the bytes between two places of what was read go behind what is gathered, as far as they fit; behind them the newline is passed
abbrev pub gathered_from : Input → ℕ → ℕ → List ℕ → Input
gathered_from i at end read =
    record {
      piece = i.piece;
      count = i.count;
      at = min (1 + end) (length read);
      line = put_into i.line i.filled (part read at (end - at));
      filled = min i.filled (length i.line) + length (fitting i.line i.filled (part read at (end - at)));
      ended = nat_lt end (length read);
      more = i.more;
    }

abbrev pub gathered_at : Input → ℕ → List ℕ → Input
gathered_at i at read = gathered_from i at (line_end read at) read

-- a part of a line, or a whole one
abbrev pub part_taken : Input → List ℕ → Input
part_taken i read = gathered_at i (min i.at (length read)) read

-- behind a whole line the next one begins
abbrev pub begun_of : Input → Input
begun_of i =
    record { piece = i.piece; count = i.count; at = i.at; line = i.line; filled = pick i.ended 0 i.filled; ended = i.ended; more = i.more }

-- before the first piece
abbrev pub no_input : Input
no_input = record { piece = replicate 65536 0; count = 0; at = 0; line = replicate 300001 0; filled = 0; ended = false; more = true }

-- what a read of so many bytes leaves: "the last line may lack it", its newline, and nothing more comes
abbrev pub read_into : Input → ℕ → List ℕ → Input
read_into i count piece =
    record { piece = piece; count = count; at = 0; line = i.line; filled = i.filled; ended = (count == 0); more = nat_lt 0 count }

-- one step on: a part of a line from the piece, or what a read of so many bytes leaves
abbrev pub step_of : Input → ℕ → List ℕ → Input
step_of i count piece = pick (nat_lt i.at i.count) (part_taken i (take i.count i.piece)) (read_into i count piece)

-- after a write that failed nothing more is read or written
abbrev pub after_write : Input → Bool → Input
after_write i taken =
    record { piece = i.piece; count = i.count; at = i.at; line = i.line; filled = i.filled; ended = i.ended; more = i.more && taken }

-- how much of the line buffer is a line: nothing while it is not whole, and one byte, which is no command, where it has "more than 300,000 bytes"
abbrev pub line_length : Input → ℕ
line_length i = pick i.ended (pick (nat_lt i.filled 300001) i.filled 1) 0

-- what it says
abbrev pub spoken_line : Input → List ℕ → Left
spoken_line i content = command_of (take (line_length i) i.line) content
