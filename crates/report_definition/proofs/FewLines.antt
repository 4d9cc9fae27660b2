-- How many lines an outline has, and how many body lines a report: at most five for each card.
use Rattle.std.proofs.Common.{◌≡◌, refl, ap, ℕ, zero, suc, ◌*◌, ◌≤◌, Bool, true, false, Option, Some, None, List, [], ◌∷◌, length, if◌then◌else◌, length-append, arith}
use Rattle.std.specs.List.{flat_map}
use Rattle.chart_lines.specs.declared.charts.chart.Line.{Line}
use Rattle.report_definition.specs.Breaks.{ended_after, no_cards, taking, cleared, totals_to, chunk_of, flat}
use Rattle.report_definition.specs.ChartForm.{prints_details, prints_totals}
use Rattle.report_definition.specs.Outline.{OutlineLine, Detail, Total, outline_of}
use Rattle.report_definition.specs.Places.{BodyText}
use Rattle.report_definition.specs.Report.{body_of, body_lines}
use Rattle.report_definition.proofs.OutlineByCards.{break-within, deck_by_cards}

-- at most one body line for each line of the outline
pub bodies-few : (lines : List Line) (outline : List OutlineLine) → length (flat_map (body_of lines) outline) ≤ length outline
bodies-few lines [] = omega arith
bodies-few lines (line ∷ outline) =
    let here = one line in
    let more = bodies-few lines outline in
    let both = length-append (body_of lines line) (flat_map (body_of lines) outline) in omega (arith, here, more, both)
  where
    chosen : (b : Bool) (body : BodyText) → length (if b then body ∷ [] else []) ≤ 1
    chosen true body = omega arith
    chosen false body = omega arith

    one : (line : OutlineLine) → length (body_of lines line) ≤ 1
    one (Detail opens card) = chosen (prints_details lines) _
    one (Total level group) = chosen (prints_totals lines level) _

-- there is a total line for each level that ends
totals-length : (level : ℕ) (groups : ℕ → List (List ℕ)) → length (totals_to level groups) ≡ level
totals-length zero groups = refl
totals-length (suc level) groups =
    let more = totals-length level groups in
    let both = length-append (totals_to level groups) (Total (suc level) (groups (suc level)) ∷ []) in omega (arith, more, both)

pub ended-few : (lines : List Line) (card : List ℕ) (next : Option (List ℕ)) → ended_after lines card next ≤ 4
ended-few lines card None = omega arith
ended-few lines card (Some next) = let few = break-within lines 3 card next in omega (arith, few)

-- a card has at most five lines of the outline
pub chunk-few : (lines : List Line) (opens : ℕ) (so_far : ℕ → List (List ℕ)) (card : List ℕ) (next : Option (List ℕ))
    → length (chunk_of opens so_far card (ended_after lines card next)) ≤ 5
chunk-few lines opens so_far card next =
    let few = ended-few lines card next in
    let long = totals-length (ended_after lines card next) (taking card so_far) in omega (arith, few, long)

outline-few : (lines : List Line) (so_far : ℕ → List (List ℕ)) (opens : ℕ) (card : List ℕ) (cards : List (List ℕ))
    → length (flat lines so_far opens card cards) ≤ 5 * length (card ∷ cards)
outline-few lines so_far opens card [] = let few = chunk-few lines opens so_far card None in omega (arith, few)
outline-few lines so_far opens card (next ∷ cards) =
    let ended = ended_after lines card (Some next) in
    let few = chunk-few lines opens so_far card (Some next) in
    let more = outline-few lines (cleared ended (taking card so_far)) ended next cards in
    let both = length-append (chunk_of opens so_far card ended) (flat lines (cleared ended (taking card so_far)) ended next cards) in
    omega (arith, few, more, both)

-- a deck has at most five body lines for each card
pub body_lines-few : (lines : List Line) (cards : List (List ℕ)) → length (body_lines lines cards) ≤ 5 * length cards
body_lines-few lines [] = omega arith
body_lines-few lines (card ∷ cards) =
    let bodies = bodies-few lines (outline_of lines (card ∷ cards)) in
    let same = ap length (deck_by_cards lines (card ∷ cards)) in
    let few = outline-few lines no_cards 4 card cards in omega (arith, bodies, same, few)
