use Rattle.std.proofs.Common.{◌∙◌, sym, ap}
use Rattle.print_unit.specs.WheelWords.{is_between, received_at}
use Rattle.print_unit.proofs.Figures.{zero-tells}
use Rattle.print_unit.proofs.WheelRows.{received-long}
use Rattle.print_unit.proofs.zero_control.zeros.Goals as goal

pub returns : goal.returns
returns c sets printed k below =
    c.between.ensures k below
    ∙ ap (is_between 48 49) (printed.characters k below)
    ∙ sym (zero-tells (received_at sets k) (received-long sets k))
