-- Cards of one group are alike: they have the same punches in all control fields of the group's level and of the levels above.
use Rattle.std.specs.Prelude.{◌≡◌, ℕ, ◌≤◌, true, List, All}
use Rattle.chart_lines.specs.declared.charts.chart.Line.{Line}
use Rattle.report_definition.specs.Groups.{is_same_at}

-- The cards of the unfinished group of each level are the same as a card on the control fields of the level and of those above.
abbrev pub AlikeWith : List Line → (ℕ → List (List ℕ)) → List ℕ → Type 0
AlikeWith lines so_far card =
    (level above : ℕ) → level ≤ above → above ≤ 3 → All (λ one. is_same_at lines above one card ≡ true) (so_far level)
