use Rattle.std.proofs.Common.{◌∙◌}
use Rattle.std.specs.String.{string_bytes}
use Rattle.wire_chart.proofs.ReadBack.{read_back}
use Rattle.wire_chart.proofs.Written.{written}
use Rattle.wire_chart.proofs.write.write_in.Goals as goal

pub returns : goal.returns
returns c =
    let is =
    written c.args.version c.known-setup.result.now c.tape.result.now c.tape-2.result.now (string_bytes c.in_ok-text.text)
    (string_bytes c.write_form.new.text) (string_bytes c.write_stops.new.text)
    (string_bytes c.write_jacks.new.text) (string_bytes c.write_all_wires.new.text) (string_bytes c.push_str.new.self)
    c.tape.ensures.value c.tape-2.ensures.value (c.in_ok-text.ensures.ok ∙ c.title.ensures) c.in_ok-write_form.ensures
    c.in_ok-write_stops.ensures c.in_ok-write_jacks.ensures c.in_ok-write_all_wires.ensures c.in_ok-push_str.ensures.bytes in
    rw (← c.known-setup.ensures.value) (record {
      written = is;
      reads_back = read_back c.args.version c.known-setup.result.now _ (record { wires = rw c.known-setup.ensures.value c.known-setup.ensures.wires; form = c.tape.ensures.form }) is;
    })
