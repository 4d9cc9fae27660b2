use Rattle.std.proofs.Common.{ap, ◌∙◌, ◌||◌}
use Rattle.card_code.specs.Rows.{passing_place}
use Rattle.net.specs.HubRows.{has_row_at}
use Rattle.machine.proofs.Rest.{busy-shows}
use Rattle.machine.proofs.group_rows.emit_group_rows.Goals as goal

pub returns : goal.returns
returns c row exit =
    c.emit_marked_rows.ensures row exit
    ∙ ap (λ b. has_row_at c.args.sets.now (passing_place row) exit || b)
    (busy-shows c.args.busy c.args.groups.now c.args.cycle row exit c.requires)
