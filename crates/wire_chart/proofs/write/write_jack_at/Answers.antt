use Rattle.std.proofs.Common.{sym}
use Rattle.std.specs.String.{string_bytes}
use Rattle.hubs.proofs.SetupsWords.WireLists.{on_ok}
use Rattle.wire_chart.proofs.JackGains.{jack_gained, jack_unplugged}
use Rattle.wire_chart.proofs.write.write_jack_at.Goals as goal

pub returns-in-Some : goal.returns-in-Some
returns-in-Some c =
    on_ok c.write_jack_line.result _ _
    (jack_gained c.args.setup.now c.args.place c.in-Some.jack (string_bytes c.args.text.now)
    (string_bytes c.write_jack_line.new.text) c.in-Some.ensures.found c.in-Some.ensures.placed (sym c.if-has_jack.ensures))
    c.write_jack_line.ensures

pub returns-in_default : goal.returns-in_default
returns-in_default c =
    jack_unplugged c.args.setup.now c.args.place c.in-Some.jack (string_bytes c.args.text.now) c.in-Some.ensures.found
    (sym c.if-has_jack.ensures)
