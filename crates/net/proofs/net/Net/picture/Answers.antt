use Rattle.net.proofs.Pictures.{picture_found}
use Rattle.net.proofs.net.Net.picture.Goals as goal

pub returns : goal.returns
returns c wiring is_net =
    picture_found wiring c.self.inside.rows c.args.self.now c.exits.inside.words c.words.result.now c.reach.new.words _
    c.args.exits.now c.args.contacts.now c.self.view_is c.exits.view_is c.words.ensures.words c.reach.ensures.short
    c.reach.ensures.reached c.cut_after_hubs.ensures.kept is_net
