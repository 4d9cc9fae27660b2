use Rattle.hubs.specs.Hubs.{number_of}
use Rattle.net.proofs.Sets.{row_read_at, row_cut_at}
use Rattle.net.proofs.picture.Picture.row.Goals as goal

pub returns-in-Some-clause-hubs : goal.returns-in-Some-clause-hubs
returns-in-Some-clause-hubs c other near =
    row_read_at c.self.inside.words _ c.in-Some.number c.run.result _ (number_of other) c.self.view_is
    c.in-Some.ensures.value c.in-Some.ensures.range.0 c.run.ensures near

pub returns-in-Some-clause-cut : goal.returns-in-Some-clause-cut
returns-in-Some-clause-cut c number k is after =
    row_cut_at c.self.inside.words c.in-Some.number c.run.result _ number k
    c.in-Some.ensures.value is c.in-Some.ensures.range.0 c.self.invariant c.run.ensures after
