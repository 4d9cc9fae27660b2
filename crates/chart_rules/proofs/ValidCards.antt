-- The answer for a whole card.
use Rattle.std.proofs.Common.{ℕ, List, length, Result, Ok, Err, IsOk, IfErr, refl}
use Rattle.std.proofs.lemmas.Option.{slice_get_within}
use Rattle.chart_lines.specs.declared.charts.statement.Field.{Field}
use Rattle.chart_rules.specs.declared.card.CardFault.{CardFault}
use Rattle.chart_rules.specs.ValidCard.{AreValid, IsFirstInvalid}

-- an answer that is Ok where all fields are valid, and else tells of a field that is not
pub IsOk-valid : (fields : List Field) (card : List ℕ) (told : Result (Unit {0}) CardFault) → AreValid fields (length fields) card
    → IfErr told (IsFirstInvalid fields card) → IsOk told
IsOk-valid fields card (Ok done) valid first = refl
IsOk-valid fields card (Err fault) valid first =
    absurd (first.invalid (valid first.place (slice_get_within fields first.place first.field first.is_there) first.field first.is_there))
