use Rattle.std.proofs.Common.{◌≡◌, refl, arith, false, []}
use Rattle.std.proofs.lemmas.Bool.Decides.{nat_tests}
use Rattle.net.specs.HubSets.{has_hub}
use Rattle.net.specs.declared.contacts.TheConstants.{CONTACTS}
use Rattle.net.proofs.Pictures.{picture_found}
use Rattle.net.proofs.WiredPictures.{picture_by_wires}
use Rattle.net.proofs.net.Net.picture_by_wires.Goals as goal

pub returns : goal.returns
returns c met wiring is_net closed idle =
    let apart : c.meet.result ≡ false = grind (arith, nat_tests, met) in
    picture_by_wires c.self.inside.others c.cut_after_hubs.new.words c.self.invariant.others (c.meet.ensures.apart apart) wiring
    (has_hub c.args.exits.now) closed idle
    (picture_found wiring c.self.inside.rows c.args.self.now c.exits.inside.words [] c.reach_by_rows.new.out _
    c.args.exits.now (record { words = [] }) c.self.view_is c.exits.view_is refl c.reach_by_rows.ensures.short
    (c.reach_by_rows.ensures.reached CONTACTS) c.cut_after_hubs.ensures.kept is_net)
