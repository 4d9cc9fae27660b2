-- The digit of a counter position, row by row.
use Rattle.std.proofs.Common.{◌≡◌, ◌∙◌, refl, ap, arith, ℕ, ◌+◌, ◌-◌, ◌<◌, ◌≤◌, List, [], ◌∷◌, decimal, if◌then◌else◌}
use Rattle.std.specs.List.{range_with_len}
use Rattle.hubs.specs.declared.hub.Hub.{Hub}
use Rattle.machine.specs.Kept.{kept_at}
use Rattle.machine.specs.declared.kept.KeptPoint.{KeptPoint}
use Rattle.net.specs.HubSets.{has_hub}
use Rattle.explain_words.specs.ExplanationText.Notes.{digit_in, digit_text}
use Rattle.explain_words.specs.ExplanationText.Text.{row_at}
use Rattle.explain_words.proofs.ExplanationText.Gains.{range_front}

-- at the row of a place, or at one behind it
abbrev pub digit_from : List KeptPoint → Hub → ℕ → List ℕ
digit_from points exit place = digit_in points exit (range_with_len place (10 - place))

pub digit_start : (points : List KeptPoint) (exit : Hub) → digit_text points exit ≡ digit_from points exit 0
unfolding digit_text
digit_start points exit = refl

pub digit_step : (points : List KeptPoint) (exit : Hub) (place : ℕ) → place < 10
    → digit_from points exit place
    ≡ (if has_hub (kept_at points (place + 1)).exits exit then decimal (row_at place) else digit_from points exit (place + 1))
digit_step points exit place low =
    let one : 10 - place - 1 ≡ 10 - (place + 1) = omega arith in
    ap (digit_in points exit)
    (range_front place (10 - place) (omega (arith, low)) ∙ ap (λ (n : ℕ). place ∷ range_with_len (place + 1) n) one)

pub digit_end : (points : List KeptPoint) (exit : Hub) (place : ℕ) → 10 ≤ place → digit_from points exit place ≡ []
digit_end points exit place end =
    let none : 10 - place ≡ 0 = omega (arith, end) in ap (λ (n : ℕ). digit_in points exit (range_with_len place n)) none
