use Rattle.std.proofs.Common.{◌≡◌, ◌∙◌, ◌+◌, ◌-◌, ◌++◌, [], ◌∷◌, ap, refl, arith, ℕ, map}
use Rattle.std.specs.List.{range_with_len}
use Rattle.card_code.specs.CardCode.{print_character}
use Rattle.chart_rules.specs.ValidCard.{column_of}
use Rattle.cli_sheets.proofs.SheetsWords.Columns.{column-more, column-none}
use Rattle.cli_sheets.proofs.sheets.fields.write_text.Goals as goal

pub loop-column-init : goal.loop-column-init
loop-column-init c =
    column-none (λ column. print_character (column_of c.args.card.now column)) c.args.text.now.items c.args.field.now.first c.args.field.now.first refl

pub loop-column-preserved : goal.loop-column-preserved
loop-column-preserved c =
    column-more (λ column. print_character (column_of c.args.card.now column)) c.args.text.now.items c.loop-column.text.items
    c.push.new.self.items c.args.field.now.first c.loop-column.column (omega (arith, c.loop-column.auto.column)) c.loop-column.invariant
    (c.in_ok-push.ensures.items
    ∙ ap (λ (x : ℕ). c.loop-column.text.items ++ x ∷ []) (c.print_character.ensures ∙ ap print_character c.column.ensures.value))

pub returns : goal.returns
returns c =
    let all : c.loop-column.column ≡ c.args.field.now.last + 1 = omega (arith, c.loop-column-test.false, c.loop-column.auto.column-end) in
    c.loop-column.invariant
    ∙ ap (λ (n : ℕ). c.args.text.now.items
    ++ map (λ column. print_character (column_of c.args.card.now column)) (range_with_len c.args.field.now.first (n - c.args.field.now.first))) all
