-- Document 01's marked frames and the numbers and totals of A2, by computation. Assumes nothing.
use mathlib.Core.Path.{refl}
use Rattle.numbers.specs.Numbers.{value_le, bytes_le, value_be, bytes_be}
use Rattle.frame.specs.Rules.{known_version, listed_service, info_fits, flag_fits, largest, size_fits, fault_of, header_size}
use Rattle.frame.specs.Message.{frame_number, totals_fit}
use Rattle.frame.specs.Read.{front_of, message_of, read_of}
use Rattle.frame.specs.Write.{message_bytes}
use Rattle.frame.specs.Figures.{AllRight, figures, NumbersRight, TotalsRight}

pub figures_right : AllRight figures
unfolding value_le bytes_le value_be bytes_be known_version listed_service info_fits flag_fits largest size_fits fault_of header_size front_of message_of read_of message_bytes
figures_right = (record { read = refl; written = refl }, (record { read = refl; written = refl }, (record { read = refl; written = refl }, tt)))

pub numbers_right : NumbersRight
unfolding frame_number
numbers_right = (refl, refl)

pub totals_right : TotalsRight
unfolding totals_fit
totals_right = refl
