-- Laws of open totals: how they follow the cards, and what they tell.
use Rattle.std.specs.Prelude.{◌≡◌, ℕ, List, map}
use Rattle.std.specs.List.{filter_map}
use Rattle.chart_lines.specs.declared.charts.chart.Line.{Line}
use Rattle.report_definition.specs.Breaks.{cleared, taking}
use Rattle.report_definition.specs.Misfits.{misfits_in}
use Rattle.report_misfits.specs.OpenTotals.{closed_to, misfit_at, open_totals, with_card}

-- A card that is taken into the unfinished groups adds its amounts to the open totals.
abbrev pub CardsAddToOpenTotals : Type 0
CardsAddToOpenTotals =
    (lines : List Line) (so_far : ℕ → List (List ℕ)) (card : List ℕ)
    → map (with_card card) (open_totals lines so_far lines) ≡ open_totals lines (taking card so_far) lines

-- Where groups end, the open totals of their levels begin anew at 0, and the others stay.
abbrev pub EndedGroupsClose : Type 0
EndedGroupsClose =
    (lines : List Line) (so_far : ℕ → List (List ℕ)) (ended : ℕ)
    → map (closed_to ended) (open_totals lines so_far lines) ≡ open_totals lines (cleared ended so_far) lines

-- The misfits of the group of a level that ends are what the open totals tell.
abbrev pub EndedGroupsTellMisfits : Type 0
EndedGroupsTellMisfits =
    (lines : List Line) (so_far : ℕ → List (List ℕ)) (level card : ℕ)
    → filter_map (misfit_at level card) (open_totals lines so_far lines) ≡ misfits_in lines level card (so_far level)
