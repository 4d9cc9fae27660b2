use Rattle.cli_calls.proofs.Told.{checked}
use Rattle.cli_calls.proofs.doing.check_deck.Goals as goal

pub returns : goal.returns
returns g c =
    let found = c.print_check-checked.ensures in
    let told = c.tell_checked.ensures in
    checked c.print_check-checked.result _ _ _ _ _ _ _ _ found.fine found.stops told.fine told.refused told.told told.once
