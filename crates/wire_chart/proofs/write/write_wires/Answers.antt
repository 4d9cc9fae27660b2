use Rattle.std.specs.String.{string_bytes}
use Rattle.hubs.specs.declared.hub.Hub.{Hub}
use Rattle.hubs.specs.declared.hub.Hub.TheVariants.{FR}
use Rattle.wire_chart.proofs.WireGains.{no_wire, wire_next, wires_last}
use Rattle.wire_chart.proofs.write.write_wires.Goals as goal

pub loop-wire-init : goal.loop-wire-init
loop-wire-init c = no_wire c.args.version c.args.form (string_bytes c.args.text.now)

pub loop-wire-preserved : goal.loop-wire-preserved
loop-wire-preserved c =
    let d : Hub × Hub = (FR 0, FR 0) in
    wire_next c.args.version c.args.form c.args.wires.now c.loop-wire.wire-index d (string_bytes c.args.text.now)
    (string_bytes c.loop-wire.text) (string_bytes c.write_wire.new.text) c.requires.ordered c.loop-wire-test.true
    c.loop-wire.invariant c.in_ok-write_wire.ensures

pub returns : goal.returns
returns c =
    wires_last c.args.version c.args.form c.args.wires.now c.loop-wire.wire-index (string_bytes c.args.text.now)
    (string_bytes c.loop-wire.text) c.loop-wire-test.false c.loop-wire.invariant
