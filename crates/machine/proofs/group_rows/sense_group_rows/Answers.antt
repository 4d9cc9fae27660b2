use Rattle.std.proofs.Common.{◌∙◌, sym, subst}
use Rattle.net.specs.RowSets.{pictures_of}
use Rattle.machine.specs.Rest.{AreBusy}
use Rattle.machine.proofs.RestingRows.{busy-rows, busy-stay}
use Rattle.machine.proofs.group_rows.sense_group_rows.Goals as goal

pub returns-clause-sensed : goal.returns-clause-sensed
returns-clause-sensed c =
    c.sense_marked_rows.ensures
    ∙ busy-rows c.args.busy 0 c.args.groups.now c.args.cycle (pictures_of c.args.pictures.now) c.requires

pub returns-clause-busy : goal.returns-clause-busy
returns-clause-busy c =
    subst (AreBusy c.args.busy)
    (sym (c.sense_marked_rows.ensures ∙ busy-rows c.args.busy 0 c.args.groups.now c.args.cycle (pictures_of c.args.pictures.now) c.requires))
    (busy-stay c.args.busy 0 c.args.groups.now c.args.cycle (pictures_of c.args.pictures.now) c.requires)
