-- The line of a number among the lines of a chart.
use Rattle.std.proofs.Common.{◌≡◌, ◌≢◌, ℕ, suc, ◌+◌, ◌≤◌, ◌==◌, true, false, cond, List, [], ◌∷◌, ◌++◌, length, take, drop, slice_get, Some, refl, sym, ap, ◌∙◌, arith, subst}
use Rattle.std.proofs.Math.Seq.{drop-cons, take-suc}
use Rattle.std.proofs.Math.ListN.{drop_of_length-le}
use Rattle.std.proofs.Math.Numerals.{suc-eq-add-one}
use Rattle.std.proofs.lemmas.Bool.Decides.{nat_tests}
use Rattle.std.proofs.lemmas.Option.{slice_get_within, get_or_from_slice_get}
use Rattle.chart_lines.specs.ChartsWords.Chart.{Chart}
use Rattle.chart_lines.specs.declared.charts.chart.Line.{Line}
use Rattle.chart_line_rules.specs.FieldRules.Fields.{fields_of}
use Rattle.chart_rules.specs.declared.rule.Rule.{Rule}
use Rattle.fault_chart_words.specs.FaultWords.Entries.{told_among, line_told, end_told}

-- numbers that are equal, and numbers that are not
pub is_number : (one other : ℕ) → one ≡ other → (one == other) ≡ true
is_number one other same = grind (arith, nat_tests, same)

pub not_number : (one other : ℕ) → one ≢ other → (one == other) ≡ false
not_number one other different = grind (arith, nat_tests, different)

module _ (broken : Rule) (chart : Chart) (text : List ℕ) (number : ℕ) where
  -- none of the first lines has the number
  abbrev pub NotYet : ℕ → Type 0
  NotYet count =
      told_among broken chart text number [] chart.lines
      ≡ told_among broken chart text number (take count chart.lines) (drop count chart.lines)

  -- the first of some lines
  told_cons : (earlier : List Line) (line : Line) (lines : List Line)
      → told_among broken chart text number earlier (line ∷ lines)
      ≡ cond (line.number == number) (line_told broken text (fields_of chart.lines) chart.lines earlier line)
      (told_among broken chart text number (earlier ++ line ∷ []) lines)
  unfolding told_among
  told_cons earlier line lines = refl

  -- at a line
  told_at : (count : ℕ) (line : Line) → slice_get chart.lines count ≡ Some line → NotYet count
      → told_among broken chart text number [] chart.lines
      ≡ cond (line.number == number) (line_told broken text (fields_of chart.lines) chart.lines (take count chart.lines) line)
      (told_among broken chart text number (take count chart.lines ++ line ∷ []) (drop (suc count) chart.lines))
  told_at count line at none =
      let within = slice_get_within chart.lines count line at in
      let is = get_or_from_slice_get chart.lines count line line at in
      let left : drop count chart.lines ≡ line ∷ drop (suc count) chart.lines =
      drop-cons chart.lines count line within ∙ ap (λ each. each ∷ drop (suc count) chart.lines) is in
      none ∙ ap (told_among broken chart text number (take count chart.lines)) left
      ∙ told_cons (take count chart.lines) line (drop (suc count) chart.lines)

  -- the line of the number
  pub told_here : (count : ℕ) (line : Line) → slice_get chart.lines count ≡ Some line → (line.number == number) ≡ true → NotYet count
      → line_told broken text (fields_of chart.lines) chart.lines (take count chart.lines) line
      ≡ told_among broken chart text number [] chart.lines
  told_here count line at is none =
      sym (told_at count line at none
      ∙ ap (λ t. cond t (line_told broken text (fields_of chart.lines) chart.lines (take count chart.lines) line)
      (told_among broken chart text number (take count chart.lines ++ line ∷ []) (drop (suc count) chart.lines))) is)

  not_suc : (count : ℕ) (line : Line) → slice_get chart.lines count ≡ Some line → (line.number == number) ≡ false → NotYet count → NotYet (suc count)
  not_suc count line at is none =
      let within = slice_get_within chart.lines count line at in
      let front : take (suc count) chart.lines ≡ take count chart.lines ++ line ∷ [] =
      take-suc chart.lines count line within
      ∙ ap (λ each. take count chart.lines ++ each ∷ []) (get_or_from_slice_get chart.lines count line line at) in
      told_at count line at none
      ∙ ap (λ t. cond t (line_told broken text (fields_of chart.lines) chart.lines (take count chart.lines) line)
      (told_among broken chart text number (take count chart.lines ++ line ∷ []) (drop (suc count) chart.lines))) is
      ∙ ap (λ earlier. told_among broken chart text number earlier (drop (suc count) chart.lines)) (sym front)

  -- another line
  pub NotYet-more : (count : ℕ) (line : Line) → slice_get chart.lines count ≡ Some line → (line.number == number) ≡ false → NotYet count → NotYet (count + 1)
  NotYet-more count line at is none = subst NotYet (suc-eq-add-one count) (not_suc count line at is none)

  -- no line has the number
  pub told_end : (count : ℕ) → length chart.lines ≤ count → NotYet count → end_told broken text ≡ told_among broken chart text number [] chart.lines
  unfolding told_among
  told_end count all none =
      sym (none ∙ ap (told_among broken chart text number (take count chart.lines)) (drop_of_length-le chart.lines all))
