use Rattle.std.proofs.Common.{◌≡◌, ◌∙◌, ◌+◌, ◌-◌, ◌++◌, [], ◌∷◌, refl, subst, sym, arith, ℕ, List, map}
use Rattle.std.specs.List.{range_with_len}
use Rattle.chart_rules.specs.ValidCard.{column_of}
use Rattle.cli_sheets.proofs.SheetsWords.Columns.{column-more, column-none}
use Rattle.cli_decks.proofs.DeckNotes.KeyReturns.SameKeys.{sets-more}
use Rattle.cli_decks.specs.DeckNotes.KeyReturns.Keys.{AreSetsOf}
use Rattle.cli_decks.proofs.deck_notes.key_returns.keys.add_sets.Goals as goal

pub loop-column-init : goal.loop-column-init
loop-column-init c = λ columns are.
    subst (λ l. AreSetsOf l c.args.key.now.items)
    (column-none (λ column. column_of c.args.card.now column) columns c.args.field.now.first c.args.field.now.first refl) are

pub loop-column-preserved : goal.loop-column-preserved
loop-column-preserved c = λ columns are.
    let column = c.loop-column.column in
    let first = c.args.field.now.first in
    let f : ℕ → ℕ = λ number. column_of c.args.card.now number in
    let before : List ℕ = columns ++ map f (range_with_len first (column - first)) in
    subst (λ l. AreSetsOf l c.push.new.self.items)
    (column-more f columns before (before ++ f column ∷ []) first column (omega (arith, c.loop-column.auto.column)) refl refl)
    (subst (λ l. AreSetsOf (before ++ f column ∷ []) l) (sym c.in_ok-push.ensures.items)
    (sets-more before c.loop-column.key.items (f column) c.set.result (c.loop-column.invariant columns are)
    (c.set.ensures.value ∙ c.column.ensures.value) c.set.ensures.small))

pub returns : goal.returns
returns c = λ columns are.
    let all : c.loop-column.column ≡ c.args.field.now.last + 1 = omega (arith, c.loop-column-test.false, c.loop-column.auto.column-end) in
    let first = c.args.field.now.first in
    subst (λ n. AreSetsOf (columns ++ map (λ column. column_of c.args.card.now column) (range_with_len first (n - first))) c.loop-column.key.items)
    all (c.loop-column.invariant columns are)
