-- Lines whose numbers rise: a number stands for one line.
use Rattle.std.proofs.Common.{◌≡◌, ◌⊎◌, inl, inr, sym, ap, ◌∙◌, ℕ, ◌<◌, List, [], ◌∷◌, Contains, arith}
use Rattle.chart_lines.specs.ChartsWords.Chart.{NumbersRise}
use Rattle.chart_lines.specs.declared.charts.chart.Line.{Line}
use Rattle.chart_lines.proofs.ChartsWords.Listed.{listed-cases, listed-none}

-- the lines after the first
pub NumbersRise-tail : (line : Line) (lines : List Line) (end : ℕ) → NumbersRise (line ∷ lines) end → NumbersRise lines end
NumbersRise-tail line [] end rise = tt
NumbersRise-tail line (next ∷ lines) end rise = rise.1

-- have greater numbers
pub number-above : (line : Line) (lines : List Line) (end : ℕ) (other : Line) → NumbersRise (line ∷ lines) end → Contains lines other
    → line.number < other.number
number-above line [] end other rise there = absurd (listed-none other there)
number-above line (next ∷ lines) end other rise there =
    by (number-above next lines end other rise.1) (listed-cases other next lines there)
  where
    by : (Contains lines other → next.number < other.number) → (next ≡ other) ⊎ Contains lines other → line.number < other.number
    by later (inl same) = let e = ap (λ l. l.number) same in omega (arith, rise.0, e)
    by later (inr after) = let more = later after in omega (arith, rise.0, more)

-- no two lines have one number
pub one-line : (lines : List Line) (end : ℕ) (one other : Line) → NumbersRise lines end → Contains lines one → Contains lines other
    → one.number ≡ other.number → one ≡ other
one-line [] end one other rise there there_other same = absurd (listed-none one there)
one-line (line ∷ lines) end one other rise there there_other same =
    by (one-line lines end one other (NumbersRise-tail line lines end rise)) (listed-cases one line lines there)
    (listed-cases other line lines there_other)
  where
    by : (Contains lines one → Contains lines other → one.number ≡ other.number → one ≡ other)
        → (line ≡ one) ⊎ Contains lines one → (line ≡ other) ⊎ Contains lines other → one ≡ other
    by later (inl is) (inl is_other) = sym is ∙ is_other
    by later (inl is) (inr after) =
        let less = number-above line lines end other rise after in
        let e = ap (λ l. l.number) is in
        absurd (omega (arith, less, e, same))
    by later (inr after) (inl is) =
        let less = number-above line lines end one rise after in
        let e = ap (λ l. l.number) is in
        absurd (omega (arith, less, e, same))
    by later (inr after) (inr after_other) = later after after_other same
