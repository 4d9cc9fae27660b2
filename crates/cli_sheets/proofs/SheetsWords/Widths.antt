-- An item is drawn with a character for each of its wheels.
use Rattle.std.proofs.Common.{◌≡◌, ◌∙◌, sym, ap, ℕ, ◌+◌, ◌-◌, ◌≤◌, List, ◌++◌, Option, Some, None, option_map, length, length-append, replicate, true, nat_lt, if◌then◌else◌, arith}
use Rattle.std.proofs.lemmas.List.{length-replicate}
use Rattle.chart_lines.specs.ChartsWords.Field.{columns_of}
use Rattle.chart_lines.specs.ChartsWords.Literals.{literal_in}
use Rattle.chart_lines.specs.declared.charts.statement.DetailOption.{DetailOption}
use Rattle.chart_lines.specs.declared.charts.statement.Field.{Field}
use Rattle.chart_lines.specs.declared.charts.statement.FieldKind.{FieldKind}
use Rattle.chart_lines.specs.declared.charts.statement.FieldKind.TheVariants as holds
use Rattle.chart_lines.specs.declared.charts.statement.Statement.{Statement}
use Rattle.chart_lines.specs.declared.charts.statement.Statement.TheVariants as says
use Rattle.chart_line_rules.specs.FieldRules.Fields.{first_named}
use Rattle.chart_line_rules.specs.PrintRules.Items.{detail_item, figure_item, figure_width, item_of, mark_width, text_item, total_item}
use Rattle.chart_line_rules.specs.declared.print_rules.items.Figure.{Figure}
use Rattle.chart_line_rules.specs.declared.print_rules.items.Item.{Item}
use Rattle.chart_line_rules.specs.declared.print_rules.items.PrintedLine.{PrintedLine}
use Rattle.report_definition.proofs.EditLaws.{marked-length, point-length}
use Rattle.report_definition.specs.Edits.{free_digits, marked, point}
use Rattle.cli_sheets.specs.SheetsWords.Layout.{drawn, drawn_figure}

-- the parts of an amount's width
sum-of : (digits free dot mark all front middle back : ℕ) → free ≤ digits → all ≡ front + (middle + (back + mark)) → front ≡ free
    → middle ≡ dot → back ≡ digits - free → all ≡ digits + dot + mark
sum-of digits free dot mark all front middle back within is is_front is_middle is_back =
    omega (arith, within, is, is_front, is_middle, is_back)

figure-long : (figure : Figure) → length (drawn_figure figure) ≡ figure_width figure
figure-long figure =
    let free = free_digits figure.digits figure.decimals in
    let front : List ℕ = replicate free 122 in
    let middle = point figure.decimals in
    let back : List ℕ = replicate (figure.digits - free) 57 in
    let last = marked figure.mark true in
    sum-of figure.digits free (if nat_lt 0 figure.decimals then 1 else 0) (mark_width figure.mark) (length (drawn_figure figure))
    (length front) (length middle) (length back) (omega arith)
    (length-append front (middle ++ (back ++ last))
    ∙ ap (λ (n : ℕ). length front + n)
    (length-append middle (back ++ last)
    ∙ ap (λ (n : ℕ). length middle + n) (length-append back last ∙ ap (λ (n : ℕ). length back + n) (marked-length figure.mark true))))
    (length-replicate free 122) (point-length figure.decimals) (length-replicate (figure.digits - free) 57)

-- a text and an amount from a wheel on
text-long : (line : PrintedLine) (wheel columns : ℕ) (item : Item) → text_item line wheel columns ≡ item
    → item.first + length (drawn None item) ≡ item.end
text-long line wheel columns item is =
    sym (ap (λ (i : Item). i.first + length (drawn None i)) is)
    ∙ ap (λ (n : ℕ). wheel + n) (length-replicate (wheel + columns - wheel) 120 ∙ (let e : wheel + columns - wheel ≡ columns = omega arith in e))
    ∙ ap (λ (i : Item). i.end) is

figure-item-long : (line : PrintedLine) (wheel : ℕ) (figure : Figure) (item : Item) → figure_item line wheel figure ≡ item
    → item.first + length (drawn None item) ≡ item.end
figure-item-long line wheel figure item is =
    sym (ap (λ (i : Item). i.first + length (drawn None i)) is)
    ∙ ap (λ (n : ℕ). wheel + n) (figure-long figure)
    ∙ ap (λ (i : Item). i.end) is

literal-long : (line : PrintedLine) (wheel : ℕ) (literal : List ℕ) (item : Item) → Some (text_item line wheel (length literal)) ≡ Some item
    → item.first + length (drawn (Some literal) item) ≡ item.end
literal-long line wheel literal item is =
    let same : text_item line wheel (length literal) ≡ item = cc in
    sym (ap (λ (i : Item). i.first + length literal) same) ∙ ap (λ (i : Item). i.end) same

-- of a field, if it is there
field-long : (of : Field → Item) (field : Option Field) (item : Item)
    → ((field : Field) (item : Item) → of field ≡ item → item.first + length (drawn None item) ≡ item.end)
    → option_map of field ≡ Some item → item.first + length (drawn None item) ≡ item.end
field-long of None item each is = absurd (let none : None ≡ Some item = is in cc)
field-long of (Some field) item each is = let same : of field ≡ item = cc in each field item same

detail-long : (wheel : ℕ) (how : DetailOption) (field : Field) (kind : FieldKind) (item : Item)
    → detail_item wheel how (columns_of field) kind ≡ item → item.first + length (drawn None item) ≡ item.end
detail-long wheel how field holds.Text item is = text-long _ wheel (columns_of field) item is
detail-long wheel how field (holds.Amount decimals rule) item is = figure-item-long _ wheel _ item is

pub item-long : (fields : List Field) (statement : Statement) (item : Item) → item_of fields statement ≡ Some item
    → item.first + length (drawn (literal_in statement) item) ≡ item.end
item-long fields (says.Head line wheel literal) item is = literal-long _ wheel literal item is
item-long fields (says.DetailLiteral wheel literal) item is = literal-long _ wheel literal item is
item-long fields (says.TotalLiteral level wheel literal) item is = literal-long _ wheel literal item is
item-long fields (says.DetailField wheel name how) item is =
    field-long (λ field. detail_item wheel how (columns_of field) field.kind) (first_named fields name) item
    (λ field item. detail-long wheel how field field.kind item) is
item-long fields (says.TotalText level wheel name) item is =
    field-long _ (first_named fields name) item (λ field item. text-long _ wheel (columns_of field) item) is
item-long fields (says.TotalAmount total) item is =
    field-long (λ field. total_item total field.kind) (first_named fields total.name) item
    (λ field item. figure-item-long _ total.wheel _ item) is
item-long fields other item is = absurd (let none : None ≡ Some item = is in cc)
