use Rattle.std.proofs.Common.{◌≡◌, ◌∙◌, ◌++◌, ap, subst, List}
use Rattle.std.specs.Prelude.{OnOk}
use Rattle.counters.specs.Counters.{Counter}
use Rattle.selectors.specs.Pilots.{PilotStates}
use Rattle.storage_units.specs.Storage.{StorageState}
use Rattle.explain_words.specs.TracesWords.Lines.{groups_told, reading_told, storages_told}
use Rattle.explain_words.specs.TracesWords.TracedUnits.{pilots_told}
use Rattle.explain_words.proofs.TracesWords.Pieces.{four_pieces}
use Rattle.explain_words.proofs.traces.lines.write_units.Goals as goal

pub returns : goal.returns
returns c =
    let cycle = c.args.cycle in
    let machine = c.args.machine.now.machine in
    four_pieces c.write_pilots.result c.args.text.now.items c.write_reading.new.text.items c.write_groups.new.text.items
    c.write_storages.new.text.items c.write_pilots.new.text.items (reading_told cycle) (groups_told cycle machine.groups)
    (storages_told cycle machine.storage) (pilots_told machine.pilots) c.in_ok-write_reading.ensures
    (c.in_ok-write_groups.ensures ∙ ap (λ (l : List Counter). c.write_reading.new.text.items ++ groups_told cycle l) c.groups.ensures)
    (c.in_ok-write_storages.ensures ∙ ap (λ (l : List StorageState). c.write_groups.new.text.items ++ storages_told cycle l) c.storage.ensures)
    (subst (λ (p : PilotStates). OnOk c.write_pilots.result (c.write_pilots.new.text.items ≡ c.write_storages.new.text.items ++ pilots_told p))
    c.pilots.ensures c.write_pilots.ensures)
