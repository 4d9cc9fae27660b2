use Rattle.std.proofs.Common.{◌∙◌, sym, true≢false}
use Rattle.readback_panels.proofs.LinksCovered.{if-any, outside}
use Rattle.readback_panels.specs.Zones.{IsInZone}
use Rattle.readback_panels.proofs.card_line.text_on.Goals as goal

pub returns-else-is_in_zone-clause-outside : goal.returns-else-is_in_zone-clause-outside
returns-else-is_in_zone-clause-outside c =
    if-any c.cell_on.result (¬ IsInZone c.args.setup.now c.args.wheel)
    (outside c.args.setup.now c.args.zones.now c.args.wheel c.requires (sym c.is_in_zone.ensures ∙ c.if-is_in_zone.false))

pub returns-then-is_in_zone-clause-found : goal.returns-then-is_in_zone-clause-found
returns-then-is_in_zone-clause-found c = λ column cell.
    absurd (true≢false (sym c.if-is_in_zone.true ∙ c.is_in_zone.ensures ∙ cell.outside))

pub returns-else-is_in_zone-clause-found : goal.returns-else-is_in_zone-clause-found
returns-else-is_in_zone-clause-found c = λ column cell. c.cell_on.ensures column cell.column_on
