use Rattle.print_unit.specs.WheelWords.{received_at}
use Rattle.print_unit.proofs.HiddenWheels.{hides-none}
use Rattle.print_unit.proofs.wheels.hidden_by.Goals as goal

pub returns-then-suppress-symbol-eq0 : goal.returns-then-suppress-symbol-eq0
returns-then-suppress-symbol-eq0 c sets printed k below =
    hides-none (received_at sets) c.args.control c.args.link c.args.suppress c.args.symbol k c.if-suppress-symbol-eq0.true
