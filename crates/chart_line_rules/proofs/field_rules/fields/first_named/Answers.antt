use Rattle.std.proofs.Common.{rules, tests, ◌∙◌, sym, ap}
use Rattle.std.specs.Option.{option_map}
use Rattle.std.proofs.lemmas.Iterator.{YieldsList-from_slice}
use Rattle.std.proofs.lemmas.Iterator.Search.{find_from_yields_List}
use Rattle.chart_lines.specs.ChartsWords.Name.{is_same_name}
use Rattle.chart_line_rules.proofs.field_rules.fields.first_named.Goals as goal

pub returns-in_err-field : goal.returns-in_err-field
returns-in_err-field c =
    let found = find_from_yields_List (λ field. is_same_name field.name c.args.name) _ _ c.find.result c.find.ensures.ran
    (YieldsList-from_slice c.args.fields.now cc) (λ x b q k. search (rules, tests)) in
    c.from_residual.ensures ∙ ap (option_map (λ field. field.now)) (sym c.in_err-field.was) ∙ found

pub returns : goal.returns
returns c =
    let found = find_from_yields_List (λ field. is_same_name field.name c.args.name) _ _ c.find.result c.find.ensures.ran
    (YieldsList-from_slice c.args.fields.now cc) (λ x b q k. search (rules, tests)) in
    ap (option_map (λ field. field.now)) (sym c.in_ok-field.was) ∙ found
