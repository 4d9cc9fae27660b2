use Rattle.readback_panels.proofs.ColumnsShown.{none_found}
use Rattle.readback_panels.proofs.card_line.cell_on.Goals as goal

pub returns-in-None : goal.returns-in-None
returns-in-None c =
    none_found c.args.setup.now c.args.wheel c.indicated_on.result (rw c.in-None.is at c.lowest_exit.ensures.none)
