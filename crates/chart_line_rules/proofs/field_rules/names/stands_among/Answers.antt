use Rattle.std.proofs.Common.{◌∙◌, ap}
use Rattle.chart_line_rules.specs.FieldRules.Fields.{fields_of, first_place}
use Rattle.chart_lines.specs.ChartsWords.Name.{is_same_name}
use Rattle.chart_line_rules.proofs.FieldRules.Places.{position-front, position-none}
use Rattle.chart_line_rules.proofs.field_rules.names.stands_among.Goals as goal

pub returns-in-Some : goal.returns-in-Some
returns-in-Some c =
    rw c.field_count.ensures
    (position-front (λ field. is_same_name field.name c.args.name) (fields_of c.args.earlier.now) c.requires.0 c.in-Some.place
    (c.in-Some.ensures ∙ ap (λ fields. first_place fields c.args.name) c.requires.1))

pub returns-in-None : goal.returns-in-None
returns-in-None c =
    position-none (λ field. is_same_name field.name c.args.name) (fields_of c.args.earlier.now) c.requires.0
    (c.in-None.ensures ∙ ap (λ fields. first_place fields c.args.name) c.requires.1)
