-- Groups are longest runs.
use Rattle.std.proofs.Common.{◌≡◌, refl, ℕ, Bool, true, false, List, [], ◌∷◌, if◌then◌else◌}
use Rattle.std.specs.List.{All}
use Rattle.std.proofs.lemmas.List.Elements.{All-nil, All-cons}
use Rattle.chart_lines.specs.declared.charts.chart.Line.{Line}
use Rattle.report_definition.specs.Groups.{rest_of_run, later_runs, is_same_at}
use Rattle.report_definition.specs.OutlineLaws.{AreAlike, AreCutAt, GroupsAreLongestRuns}

module _ (lines : List Line) (level : ℕ) where
  abbrev same : List ℕ → List ℕ → Bool
  same = is_same_at lines level

  -- a run is alike
  run_alike : (card : List ℕ) (cards : List (List ℕ)) → AreAlike lines level (card ∷ rest_of_run same card cards)
  run_alike card [] = tt
  run_alike card (next ∷ cards) = by (same card next) refl (run_alike next cards)
    where
      by : (b : Bool) → same card next ≡ b → AreAlike lines level (next ∷ rest_of_run same next cards)
          → AreAlike lines level (card ∷ (if b then next ∷ rest_of_run same next cards else []))
      by true is more = (is, more)
      by false is more = tt

  later_alike : (card : List ℕ) (cards : List (List ℕ)) → All (AreAlike lines level) (later_runs same card cards)
  later_alike card [] = All-nil (AreAlike lines level)
  later_alike card (next ∷ cards) = by (same card next) (later_alike next cards)
    where
      by : (b : Bool) → All (AreAlike lines level) (later_runs same next cards)
          → All (AreAlike lines level)
          (if b then later_runs same next cards else (next ∷ rest_of_run same next cards) ∷ later_runs same next cards)
      by true more = more
      by false more = All-cons (AreAlike lines level) (next ∷ rest_of_run same next cards) _ (run_alike next cards) more

  -- runs are cut where cards differ, after a group that ends in the card of the first run
  runs_cut : (card : List ℕ) (cards : List (List ℕ)) → AreCutAt lines level ((card ∷ rest_of_run same card cards) ∷ later_runs same card cards)
  runs_cut card [] = tt
  runs_cut card (next ∷ cards) = by (same card next) refl (runs_cut next cards)
    where
      front : (others : List (List (List ℕ))) → AreCutAt lines level ((next ∷ rest_of_run same next cards) ∷ others)
          → AreCutAt lines level ((card ∷ next ∷ rest_of_run same next cards) ∷ others)
      front [] cut = tt
      front (group ∷ others) cut = cut

      by : (b : Bool) → same card next ≡ b
          → AreCutAt lines level ((next ∷ rest_of_run same next cards) ∷ later_runs same next cards)
          → AreCutAt lines level
          ((card ∷ (if b then next ∷ rest_of_run same next cards else []))
          ∷ (if b then later_runs same next cards else (next ∷ rest_of_run same next cards) ∷ later_runs same next cards))
      by true is more = front (later_runs same next cards) more
      by false is more = (is, more)

pub longest_runs : GroupsAreLongestRuns
longest_runs lines level [] = (All-nil (AreAlike lines level), tt)
longest_runs lines level (card ∷ cards) = (
  All-cons (AreAlike lines level) (card ∷ rest_of_run (is_same_at lines level) card cards)
      (later_runs (is_same_at lines level) card cards)
      (run_alike lines level card cards)
      (later_alike lines level card cards),
  runs_cut lines level card cards,
)
