-- The marked cases of specs/Figures, by computation. Assumes nothing.
use mathlib.Core.Path.{refl}
use Rattle.numbers.specs.Numbers.{value_le, bytes_le, value_be, bytes_be}
use Rattle.frame.specs.Rules.{known_version}
use Rattle.rpc.specs.Rules.{is_bare, id_span, kind_fits, id_fits, fault_of}
use Rattle.rpc.specs.Layout.{layout_bytes, fields_in}
use Rattle.rpc.specs.Read.{message_in, read_of}
use Rattle.rpc.specs.Figures.{AllRight, figures}

pub figures_right : AllRight figures
unfolding value_le bytes_le value_be bytes_be known_version is_bare id_span kind_fits id_fits fault_of layout_bytes fields_in message_in read_of
figures_right = (
  (refl, (refl, (refl, refl))),
  (
    (refl, (refl, (refl, refl))),
    (
      (refl, (refl, (refl, refl))),
      (
        (refl, (refl, (refl, refl))),
        (
          (refl, (refl, refl)),
          ((refl, tt), ((refl, tt), ((refl, tt), ((refl, tt), ((refl, tt), ((refl, tt), tt)))))),
        ),
      ),
    ),
  ),
)
