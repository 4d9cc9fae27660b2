use Rattle.std.proofs.Common.{◌∙◌, ap, subst, sym}
use Rattle.std.specs.List.{list_all}
use Rattle.chart_lines.specs.ChartsWords.Levels.{control_number}
use Rattle.chart_rules.proofs.ControlFields.{controls-on_card}
use Rattle.chart_rules.specs.HelperOnCard.{AreOnCard}
use Rattle.report_definition.specs.Groups.{is_same_on}
use Rattle.report_misfits.proofs.groups.is_same_at.Goals as goal

pub are_same_on-requires : goal.are_same_on-requires
are_same_on-requires c =
    subst AreOnCard (sym c.control_fields.ensures.value)
    (controls-on_card c.args.chart.now (control_number c.args.level) c.control_fields.ensures.lawful)

pub returns : goal.returns
returns c =
    c.are_same_on.ensures
    ∙ ap (list_all (λ field. is_same_on field c.args.one.now c.args.other.now)) c.control_fields.ensures.value
