use Rattle.std.proofs.Common.{All}
use Rattle.readback_panels.proofs.ColumnsShown.{columns_shown, fields_same, kept_more}
use Rattle.readback_panels.proofs.ItemsRead.{read_chains, read_literals, read_nothing, read_total_texts}
use Rattle.readback_panels.specs.Shown.{IsAmountZone}
use Rattle.readback_panels.proofs.reading.drafted.Goals as goal

pub put_card_line-requires-clause-read : goal.put_card_line-requires-clause-read
put_card_line-requires-clause-read c =
    read_chains c.args.setup.now c.new-draft.result c.put_chains.new.draft
    (read_nothing c.args.setup.now c.new-draft.result c.new-draft.ensures) c.in_ok-put_chains.ensures

pub returns-clause-read : goal.returns-clause-read
returns-clause-read c =
    read_literals c.args.setup.now c.put_controls.new.draft c.put_literals.new.draft
    (read_total_texts c.args.setup.now c.put_card_line.new.draft c.put_controls.new.draft c.in_ok-put_card_line.ensures.read
    c.in_ok-put_controls.ensures.gained)
    c.in_ok-put_literals.ensures.gained

pub returns-clause-shows : goal.returns-clause-shows
returns-clause-shows c = λ plugged.
    let card = c.put_card_line.new.draft in
    let controlled = c.put_controls.new.draft in
    let whole = c.put_literals.new.draft in
    let controls = kept_more card controlled c.in_ok-put_controls.ensures.gained.more c.in_ok-put_controls.ensures.gained.gained
    c.in_ok-put_controls.ensures.kept in
    let literals = kept_more controlled whole c.in_ok-put_literals.ensures.gained.more c.in_ok-put_literals.ensures.gained.gained
    (fields_same controlled whole c.put_literals.ensures.fields) in
    let totals : All (λ total. IsAmountZone c.args.setup.now total.zone) c.as_slice-2.result.now
    = rw c.as_slice-2.ensures.value c.in_ok-totals.ensures.zones in
    let amounts : All (IsAmountZone c.args.setup.now) c.as_slice-4.result.now
    = rw c.as_slice-4.ensures.value
    (c.in_ok-add_small_zones.ensures.amounts c.args.setup.now totals c.in_ok-zones.ensures.amounts) in
    columns_shown c.args.setup.now c.as_slice-4.result.now card whole amounts (c.in_ok-put_card_line.ensures.shows plugged)
    (λ wheel column here. literals wheel column (controls wheel column here))
