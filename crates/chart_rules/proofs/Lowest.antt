-- The lowest line that breaks a rule: the lines before it pass, and numbers rise.
use Rattle.std.proofs.Common.{◌≡◌, ℕ, zero, suc, ◌+◌, ◌<◌, ◌≤◌, true, false, List, [], ◌∷◌, ◌++◌, length, take, drop, Some, slice_get, refl, sym, ap, ◌∙◌, arith, true≢false, below_more, ◌⊎◌, inl, inr}
use Rattle.std.proofs.Math.Seq.{take-append_seam, split_at}
use Rattle.std.proofs.lemmas.Bool.{cases_lt}
use Rattle.std.proofs.lemmas.Option.{slice_get_within, get_or_from_slice_get}
use Rattle.chart_lines.specs.ChartsWords.Chart.{Chart, NumbersRise}
use Rattle.chart_lines.specs.declared.charts.chart.Line.{Line}
use Rattle.chart_lines.proofs.ChartsWords.Rising.{NumbersRise-tail}
use Rattle.chart_rules.specs.declared.rule.Rule.{Rule}
use Rattle.chart_rules.specs.Rules.{breaks_at, lacks, Broken, by_line, by_end, IsKept}

-- the first lines of a chart do not break a rule
abbrev pub PassesBefore : Rule → Chart → ℕ → Type 0
PassesBefore rule chart count =
    (place : ℕ) → place < count → (line : Line) → slice_get chart.lines place ≡ Some line
    → breaks_at rule chart (take place chart.lines) line ≡ false

-- one line more that passes
pub PassesBefore-more : (rule : Rule) (chart : Chart) (count : ℕ) (line : Line) → PassesBefore rule chart count
    → slice_get chart.lines count ≡ Some line → breaks_at rule chart (take count chart.lines) line ≡ false
    → PassesBefore rule chart (count + 1)
PassesBefore-more rule chart count line before at here = below_more _ _ before same
  where
    same : (other : Line) → slice_get chart.lines count ≡ Some other → breaks_at rule chart (take count chart.lines) other ≡ false
    same other there =
        let e : line ≡ other = cc in
        ap (breaks_at rule chart (take count chart.lines)) (sym e) ∙ here

-- the element between two lists
pub slice_get_seam : {X : Type 0} (xs : List X) (y : X) (ys : List X) → slice_get (xs ++ y ∷ ys) (length xs) ≡ Some y
slice_get_seam [] y ys = refl
slice_get_seam (x ∷ xs) y ys = slice_get_seam xs y ys

-- each line stands before END
pub number-below_end : (lines : List Line) (end place : ℕ) (line : Line) → NumbersRise lines end → slice_get lines place ≡ Some line → line.number < end
number-below_end [] end place line rise at = cc
number-below_end (first ∷ []) end zero line rise at = let e : first ≡ line = cc in let n = ap (λ l. l.number) e in omega (arith, rise)
number-below_end (first ∷ []) end (suc place) line rise at = cc
number-below_end (first ∷ next ∷ lines) end zero line rise at =
    let e : first ≡ line = cc in
    let n = ap (λ l. l.number) e in
    omega (arith, rise.0, number-below_end (next ∷ lines) end zero next rise.1 refl)
number-below_end (first ∷ next ∷ lines) end (suc place) line rise at = number-below_end (next ∷ lines) end place line rise.1 at

-- the first line has the lowest number
pub number-first : (first : Line) (lines : List Line) (end place : ℕ) (line : Line) → NumbersRise (first ∷ lines) end → slice_get (first ∷ lines) place ≡ Some line → first.number ≤ line.number
number-first first lines end zero line rise at = let e : first ≡ line = cc in let n = ap (λ l. l.number) e in omega arith
number-first first [] end (suc place) line rise at = cc
number-first first (next ∷ lines) end (suc place) line rise at = omega (arith, rise.0, number-first next lines end place line rise.1 at)

-- a later line has no lower number
pub number-rises : (lines : List Line) (end one other : ℕ) (line later : Line) → NumbersRise lines end → one ≤ other
    → slice_get lines one ≡ Some line → slice_get lines other ≡ Some later → line.number ≤ later.number
number-rises [] end one other line later rise order at there = cc
number-rises (first ∷ lines) end zero other line later rise order at there =
    let e : first ≡ line = cc in
    let n = ap (λ l. l.number) e in
    omega (arith, number-first first lines end other later rise there)
number-rises (first ∷ lines) end (suc one) zero line later rise order at there = absurd (omega arith)
number-rises (first ∷ lines) end (suc one) (suc other) line later rise order at there =
    number-rises lines end one other line later (NumbersRise-tail first lines end rise) (omega arith) at there

module _ (rule : Rule) (chart : Chart) where
  -- where a line is in a chart, there is a place for it
  pub place_of-line : (earlier : List Line) (line : Line) (later : List Line) → chart.lines ≡ earlier ++ line ∷ later
      → breaks_at rule chart earlier line ≡ true
      → (place : ℕ) × (slice_get chart.lines place ≡ Some line) × (breaks_at rule chart (take place chart.lines) line ≡ true)
  place_of-line earlier line later split broken = (
    length earlier,
    ap (λ lines. slice_get lines (length earlier)) split ∙ slice_get_seam earlier line later,
    ap (λ front. breaks_at rule chart front line) (ap (take (length earlier)) split ∙ take-append_seam earlier (line ∷ later)) ∙ broken,
  )

  -- where all lines pass and none lacks, the rule is kept
  pub IsKept-passes : (count : ℕ) → PassesBefore rule chart count → length chart.lines ≤ count → lacks rule chart.lines ≡ false → IsKept rule chart
  unfolding IsKept
  IsKept-passes count passes all whole number broken = by broken
    where
      by : {number : ℕ} → Broken rule chart number → ⊥
      by (by_line earlier line later split broken) =
          let at = place_of-line earlier line later split broken in
          let within = slice_get_within chart.lines at.0 line at.1 in
          true≢false (sym at.2 ∙ passes at.0 (omega arith) line at.1)
      by (by_end lacking) = true≢false (sym lacking ∙ whole)

  -- a line that breaks a rule where the lines before it pass is the lowest
  pub Broken-at : (place : ℕ) (line : Line) → slice_get chart.lines place ≡ Some line
      → breaks_at rule chart (take place chart.lines) line ≡ true → Broken rule chart line.number
  Broken-at place line at broken =
      by_line (take place chart.lines) line (drop (suc place) chart.lines)
      (split_at chart.lines place line (slice_get_within chart.lines place line at)
      ∙ ap (λ each. take place chart.lines ++ each ∷ drop (suc place) chart.lines) (get_or_from_slice_get chart.lines place line line at))
      broken

  pub lowest-at : (place : ℕ) (line : Line) → NumbersRise chart.lines chart.end → PassesBefore rule chart place
      → slice_get chart.lines place ≡ Some line → (other : ℕ) → Broken rule chart other → line.number ≤ other
  lowest-at place line rise passes at other broken = by broken
    where
      later : (there : ℕ) (found : Line) → slice_get chart.lines there ≡ Some found → breaks_at rule chart (take there chart.lines) found ≡ true
          → ((there < place) ⊎ (place ≤ there)) → line.number ≤ found.number
      later there found is breaking (inl before) = absurd (true≢false (sym breaking ∙ passes there before found is))
      later there found is breaking (inr after) = number-rises chart.lines chart.end place there line found rise after at is

      by : {other : ℕ} → Broken rule chart other → line.number ≤ other
      by (by_line front found back split breaking) =
          let there = place_of-line front found back split breaking in
          later there.0 found there.1 there.2 (cases_lt there.0 place)
      by (by_end lacking) = let below = number-below_end chart.lines chart.end place line rise at in omega arith

  -- END is the lowest where all lines pass
  pub lowest-end : (count : ℕ) → PassesBefore rule chart count → length chart.lines ≤ count → (other : ℕ) → Broken rule chart other → chart.end ≤ other
  lowest-end count passes all other broken = by broken
    where
      by : {other : ℕ} → Broken rule chart other → chart.end ≤ other
      by (by_line front found back split breaking) =
          let there = place_of-line front found back split breaking in
          let within = slice_get_within chart.lines there.0 found there.1 in
          absurd (true≢false (sym there.2 ∙ passes there.0 (omega arith) found there.1))
      by (by_end lacking) = omega arith
