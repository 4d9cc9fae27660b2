use Rattle.hubs.proofs.HubLemmas.{number_of-range}
use Rattle.hubs.specs.Hubs.{number_of}
use Rattle.net.proofs.Sets.{put_at}
use Rattle.net.proofs.picture.Picture.insert_where.Goals as goal

pub returns-in-Some : goal.returns-in-Some
returns-in-Some c other =
    put_at c.self.inside.words _ _ c.in-Some.number _ (number_of other) c.args.test c.self.view_is c.in-Some.ensures.value
    c.in-Some.ensures.range.0 (number_of-range other) c.put_where.ensures
