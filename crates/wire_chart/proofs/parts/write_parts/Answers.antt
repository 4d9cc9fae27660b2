use Rattle.std.specs.String.{string_bytes}
use Rattle.wire_chart.proofs.PartsWritten.{parts-written}
use Rattle.wire_chart.proofs.parts.write_parts.Goals as goal

pub returns : goal.returns
returns c =
    parts-written c.args.version c.args.setup.now c.tape.result.now (string_bytes c.args.text.now)
    (string_bytes c.write_stops.new.text) (string_bytes c.write_jacks.new.text) (string_bytes c.write_all_wires.new.text)
    c.tape.ensures.value c.in_ok-write_stops.ensures c.in_ok-write_jacks.ensures c.in_ok-write_all_wires.ensures
