-- The columns of control fields on valid cards are sets of the twelve rows.
use Rattle.std.proofs.Common.{◌≡◌, ◌∙◌, refl, sym, ap, ℕ, ◌+◌, ◌<◌, ◌==◌, ◌&&◌, Bool, true, false, List, [], ◌∷◌, Contains, Option, Some, arith, if◌then◌else◌}
use Rattle.std.proofs.lemmas.Bool.Decides.{nat_tests}
use Rattle.std.specs.List.{list_all}
use Rattle.proof_cycles.specs.Below.card_code.CardCode.{code, character_in, deck_character}
use Rattle.proof_cycles.specs.Below.card_code.Rows.{is_row_set}
use Rattle.wiring_table.specs.Below.chart_line_rules.FieldRules.Fields.{field_named}
use Rattle.wiring_table.specs.Below.chart_line_rules.FieldRules.Names.{names_amount}
use Rattle.wiring_table.specs.Below.chart_rules.Rules.{IsLawful, breaks}
use Rattle.wiring_table.specs.Below.chart_rules.ValidCard.{IsValidCard, IsText, column_of, is_printed}
use Rattle.wiring_table.specs.Below.chart_rules.declared.rule.Rule.TheVariants as rule
use Rattle.wiring_table.specs.Below.chart_lines.ChartsWords.Chart.{Chart}
use Rattle.wiring_table.specs.Below.chart_lines.ChartsWords.Field.{columns_of}
use Rattle.wiring_table.specs.Below.chart_lines.declared.charts.chart.Line.{Line}
use Rattle.wiring_table.specs.Below.chart_lines.declared.charts.level.ControlLevel.{ControlLevel}
use Rattle.wiring_table.specs.Below.chart_lines.declared.charts.statement.Field.{Field}
use Rattle.wiring_table.specs.Below.chart_lines.declared.charts.statement.Statement.TheVariants as says
use Rattle.wiring_table.proofs.Below.chart_rules.Laws.{kept-line, text-valid}

-- a set with a print character is the set of the first pair, or has its character further on
one-passes : (pair : ℕ × ℕ) (rest : Option ℕ) (set : ℕ) (b : Bool) → (pair.1 == set) ≡ b → is_row_set pair.1 ≡ true
    → (is_printed rest ≡ true → is_row_set set ≡ true) → is_printed (if b then Some pair.0 else rest) ≡ true → is_row_set set ≡ true
one-passes pair rest set true is here there on =
    let same : pair.1 ≡ set = grind (arith, nat_tests, is) in sym (ap is_row_set same) ∙ here
one-passes pair rest set false is here there on = there on

both-pass : (a b : Bool) → (a && b) ≡ true → (a ≡ true) × (b ≡ true)
both-pass true b is = (refl, is)
both-pass false b is = cc

-- a set with a print character in a list of pairs whose sets are all sets of rows is one too
found-set : (pairs : List (ℕ × ℕ)) (set : ℕ) → list_all (λ pair. is_row_set pair.1) pairs ≡ true
    → is_printed (character_in pairs set) ≡ true → is_row_set set ≡ true
found-set [] set all on = cc
found-set (pair ∷ pairs) set all on =
    let both = both-pass (is_row_set pair.1) (list_all (λ p. is_row_set p.1) pairs) all in
    one-passes pair (character_in pairs set) set (pair.1 == set) refl both.0 (found-set pairs set both.1) on

-- a column with a print character is a set of rows
pub printed-set : (set : ℕ) → is_printed (deck_character set) ≡ true → is_row_set set ≡ true
unfolding code deck_character
printed-set set on = found-set code set refl on

-- a control field is a text on every valid card
control-text : (chart : Chart) (card : List ℕ) (line : Line) (level : ControlLevel) (name : List ℕ) (field : Field) → IsLawful chart
    → IsValidCard chart card → Contains chart.lines line → line.statement ≡ says.Control level name
    → field_named chart.lines name ≡ Some field → IsText field.first field.last card
control-text chart card line level name field lawful valid listed controls named =
    let (earlier, right_kind) = kept-line chart lawful line listed rule.WrongKind in
    let no : names_amount (field_named chart.lines name) ≡ false
    = sym (ap (breaks rule.WrongKind chart.lines earlier) controls) ∙ right_kind in
    text-valid chart card name field valid named (sym (ap names_amount named) ∙ no)

-- Each column of a control field of a chart that breaks no rule is a set of the twelve rows on a valid card.
pub control-set : (chart : Chart) (card : List ℕ) (line : Line) (level : ControlLevel) (name : List ℕ) (field : Field) (j : ℕ)
    → IsLawful chart → IsValidCard chart card → Contains chart.lines line → line.statement ≡ says.Control level name
    → field_named chart.lines name ≡ Some field → j < columns_of field → is_row_set (column_of card (field.first + j)) ≡ true
control-set chart card line level name field j lawful valid listed controls named below =
    printed-set (column_of card (field.first + j))
    (control-text chart card line level name field lawful valid listed controls named (field.first + j) (omega arith)
    (omega (arith, below)))
