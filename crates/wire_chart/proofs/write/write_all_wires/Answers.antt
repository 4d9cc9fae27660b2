use Rattle.std.proofs.Common.{subst, sym}
use Rattle.std.specs.String.{string_bytes}
use Rattle.hubs.proofs.SetupsWords.WireLists.{on_ok}
use Rattle.hubs.specs.SetupsWords.Wires.{AreWiresOf}
use Rattle.wire_chart.specs.declared.form.WireForm.TheVariants.{Couple, Plain, Ring}
use Rattle.wire_chart.proofs.WireGains.{all_forms, all_wires}
use Rattle.wire_chart.proofs.write.write_all_wires.Goals as goal

pub returns : goal.returns
returns c =
    let setup = c.args.setup.now in
    let wires = c.as_slice-wires.result.now in
    let are = subst (AreWiresOf setup) (sym c.as_slice-wires.ensures.value) c.in_ok-wires.ensures in
    let old = string_bytes c.args.text.now in
    let rings = string_bytes c.write_wires.new.text in
    let couples = string_bytes c.write_wires-2.new.text in
    let new = string_bytes c.write_wires-3.new.text in
    on_ok c.write_wires-3.result _ _
    (λ plain. all_forms c.args.version setup old rings couples new
    (all_wires c.args.version Ring setup wires old rings are c.in_ok-write_wires.ensures)
    (all_wires c.args.version Couple setup wires rings couples are c.in_ok-write_wires-2.ensures)
    (all_wires c.args.version Plain setup wires couples new are plain))
    c.write_wires-3.ensures
