use Rattle.hubs.proofs.HubLemmas.{number_of-range}
use Rattle.hubs.specs.Hubs.{number_of}
use Rattle.net.proofs.Sets.{row_gained_at}
use Rattle.net.proofs.picture.Picture.insert_row.Goals as goal

pub returns-in-Some : goal.returns-in-Some
returns-in-Some c other =
    row_gained_at c.self.inside.words _ _ _ c.in-Some.number c.args.bits _ (number_of other) c.self.view_is
    c.in-Some.ensures.value c.in-Some.ensures.range.0 (number_of-range other) c.put_run.ensures
    c.cut_after_hubs.ensures.kept
