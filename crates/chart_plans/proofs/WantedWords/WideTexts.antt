-- The total texts that are too wide for a storage unit: their lines rise, so the first is the lowest.
use Rattle.std.proofs.Common.{◌≡◌, ℕ, zero, suc, ◌<◌, ◌≤◌, Bool, true, false, cond, List, [], ◌∷◌, map, filter, length, get_or, sym, arith}
use Rattle.std.proofs.lemmas.Grind.{common_steps}
use Rattle.chart_lines.specs.ChartsWords.Chart.{NumbersRise}
use Rattle.chart_lines.specs.declared.charts.chart.Line.{Line}
use Rattle.chart_lines.proofs.ChartsWords.Rising.{NumbersRise-tail}
use Rattle.chart_plans.specs.WantedWords.HelperLines.{FirstIsLowest}
use Rattle.chart_plans.specs.WantedWords.Units.{IsLowestOf}

-- the numbers of the lines that pass a test
abbrev pub numbers : (Line → Bool) → List Line → List ℕ
numbers p lines = map (λ line. line.number) (filter p lines)

-- a number is at most each of some
abbrev pub IsBelow : ℕ → List ℕ → Type 0
IsBelow number list = (k : ℕ) → k < length list → number ≤ get_or list k 0

-- a number that is at most another is so of what that is at most
IsBelow-more : (lower number : ℕ) (list : List ℕ) → lower < number → IsBelow number list → IsBelow lower (number ∷ list)
IsBelow-more lower number list lt below zero within = omega arith
IsBelow-more lower number list lt below (suc k) within = omega (arith, below k (omega arith))

IsBelow-lower : (lower number : ℕ) (list : List ℕ) → lower < number → IsBelow number list → IsBelow lower list
IsBelow-lower lower number list lt below k within = omega (arith, below k within)

-- a line stands below those after it
pub IsBelow-line : (p : Line → Bool) (line : Line) (lines : List Line) (end : ℕ) → NumbersRise (line ∷ lines) end → IsBelow line.number (numbers p lines)
IsBelow-line p line [] end rise = λ k within. absurd (omega arith)
IsBelow-line p line (next ∷ lines) end rise = by (p next) (IsBelow-line p next lines end rise.1)
  where
    by : (b : Bool) → IsBelow next.number (numbers p lines) → IsBelow line.number (map (λ l. l.number) (cond b (next ∷ filter p lines) (filter p lines)))
    by true others = IsBelow-more line.number next.number (numbers p lines) rise.0 others
    by false others = IsBelow-lower line.number next.number (numbers p lines) rise.0 others

-- a front that is at most each of the others is the lowest
FirstIsLowest-front : (number : ℕ) (list : List ℕ) → IsBelow number list → FirstIsLowest (number ∷ list)
FirstIsLowest-front number list below zero within = omega arith
FirstIsLowest-front number list below (suc k) within = below k (omega arith)

-- of the lines that pass a test the first is the lowest
pub FirstIsLowest-lines : (p : Line → Bool) (lines : List Line) (end : ℕ) → NumbersRise lines end → FirstIsLowest (numbers p lines)
FirstIsLowest-lines p [] end rise = λ place within. absurd (omega arith)
FirstIsLowest-lines p (line ∷ lines) end rise = by (p line) (IsBelow-line p line lines end rise) (FirstIsLowest-lines p lines end (NumbersRise-tail line lines end rise))
  where
    by : (b : Bool) → IsBelow line.number (numbers p lines) → FirstIsLowest (numbers p lines)
        → FirstIsLowest (map (λ l. l.number) (cond b (line ∷ filter p lines) (filter p lines)))
    by true below others = FirstIsLowest-front line.number (numbers p lines) below
    by false below others = others

-- the first of some numbers, where it is the lowest
pub IsLowestOf-first : (list : List ℕ) (number : ℕ) → 0 < length list → number ≡ get_or list 0 number → FirstIsLowest list → IsLowestOf list number
IsLowestOf-first list number some at lowest = record {
  among = (0, some, sym at);
  lowest = λ other found. IsLowest-at list number other found.0 found.1 found.2 lowest at some;
}
  where
    IsLowest-at : (xs : List ℕ) (first other k : ℕ) → k < length xs → get_or xs k other ≡ other → FirstIsLowest xs → first ≡ get_or xs 0 first → 0 < length xs → first ≤ other
    IsLowest-at xs first other k within there lowest at some =
        let a : get_or xs 0 first ≡ get_or xs 0 0 = grind (arith, common_steps) in
        let b : get_or xs k other ≡ get_or xs k 0 = grind (arith, common_steps) in
        omega (arith, lowest k within)

-- the same of a list that is seen through another
pub IsLowestOf-seen : (list seen : List ℕ) (number : ℕ) → list ≡ seen → 0 < length seen → number ≡ get_or list 0 number → FirstIsLowest list
    → IsLowestOf seen number
IsLowestOf-seen list seen number same some at lowest = rw (← same) (IsLowestOf-first list number (rw same some) at lowest)
