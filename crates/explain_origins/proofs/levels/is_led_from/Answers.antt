use Rattle.std.proofs.Common.{◌∙◌, sym, ap, is_some}
use Rattle.std.proofs.lemmas.Bool.{false≢true}
use Rattle.hubs.proofs.HubLemmas.{hub_numbered}
use Rattle.explain_origins.proofs.Texts.{led-from}
use Rattle.explain_origins.proofs.levels.is_led_from.Goals as goal

pub unreachable-requires : goal.unreachable-requires
unreachable-requires c =
    let hub = hub_numbered c.args.number c.requires.from c.requires.to in
    false≢true (ap is_some (sym c.in_default.is ∙ c.of_number.ensures.found hub.0 hub.1))

pub returns : goal.returns
returns c =
    led-from c.args.setup.now c.args.entry c.in-Some.exit c.args.number c.of_number.result c.is_wired.result c.in-Some.is
    c.of_number.ensures.numbered c.is_wired.ensures
