use Rattle.std.proofs.Common.{◌∙◌, sym, ap}
use Rattle.print_unit.specs.WheelWords.{is_between, received_at}
use Rattle.print_unit.proofs.Figures.{figure-tells}
use Rattle.print_unit.proofs.WheelRows.{received-long}
use Rattle.print_unit.proofs.zero_control.figures.Goals as goal

pub returns : goal.returns
returns c sets printed k below =
    c.between.ensures k below
    ∙ ap (is_between 49 58) (printed.characters k below)
    ∙ sym (figure-tells (received_at sets k) (received-long sets k))
