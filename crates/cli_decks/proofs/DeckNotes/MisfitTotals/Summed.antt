-- The total of an amount, card by card.
use Rattle.std.proofs.Common.{◌≡◌, ◌∙◌, sym, ap, ℕ, suc, ◌+ℤ◌, ◌+◌, ◌<◌, List, ◌∷◌, length, drop, get_or, arith}
use Rattle.std.proofs.Math.Seq.{drop-cons}
use Rattle.chart_lines.specs.declared.charts.statement.Field.{Field}
use Rattle.report_definition.specs.Amounts.{value_of}
use Rattle.report_definition.specs.Totals.{total_of}

-- the total of the cards from a place on is that of its card and of the cards after it
pub total_at : (field : Field) (group : List (List ℕ)) (place : ℕ) (card : List ℕ) → place < length group → card ≡ get_or group place card
    → total_of field (drop place group) ≡ value_of field card +ℤ total_of field (drop (place + 1) group)
total_at field group place card there at =
    let next : suc place ≡ place + 1 = omega arith in
    ap (total_of field)
    (drop-cons group place card there ∙ ap (λ (n : ℕ). get_or group place card ∷ drop n group) next)
    ∙ ap (λ (c : List ℕ). value_of field c +ℤ total_of field (drop (place + 1) group)) (sym at)
