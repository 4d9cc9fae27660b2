use Rattle.std.proofs.Common.{sym}
use Rattle.std.specs.String.{string_bytes}
use Rattle.hubs.proofs.SetupsWords.WireLists.{on_ok}
use Rattle.wire_chart.proofs.StopGains.{stop_gained}
use Rattle.wire_chart.proofs.write.write_stop.Goals as goal

pub returns-then-has_stop : goal.returns-then-has_stop
returns-then-has_stop c =
    on_ok c.write_stop_line.result _ _
    (stop_gained c.args.tape.now c.args.channel c.args.line (string_bytes c.args.text.now)
    (string_bytes c.write_stop_line.new.text) (sym c.if-has_stop.ensures.value))
    c.write_stop_line.ensures
