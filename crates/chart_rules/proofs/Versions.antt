-- Charts of both versions that say the same break the same rules.
use Rattle.std.proofs.Common.{◌≡◌, ℕ, Bool, true, false, ◌&&◌, List, ◌∷◌, ◌++◌, Contains, refl, sym, ap, ◌∙◌, true≢false, subst}
use Rattle.std.proofs.lemmas.List.Elements.{Contains-append_right}
use Rattle.chart_lines.proofs.ChartsWords.Listed.{listed-first}
use Rattle.chart_lines.specs.declared.charts.chart.Line.{Line}
use Rattle.chart_line_rules.specs.FieldRules.Coupled.{is_coupled, is_mismarked, is_total, takes_two}
use Rattle.chart_line_rules.specs.FieldRules.Fields.{fields_of}
use Rattle.chart_rules.specs.declared.rule.Rule.{Rule}
use Rattle.chart_rules.specs.declared.rule.Rule.TheVariants as rule
use Rattle.chart_rules.specs.Rules.{breaks_at, Broken, by_line, by_end, IsKept, IsLawful}
use Rattle.chart_rules.specs.Versions.{in_first, in_second, AreCoupled, VersionsAreLawfulAlike}

-- a line that bears the word exactly where it takes two groups is marked as it has to be, a total or not
well_marked : (total word two : Bool) → word ≡ two → (total && is_mismarked word two) ≡ false
well_marked false word two is = refl
well_marked true true two is = ap (is_mismarked true) (sym is)
well_marked true false two is = ap (is_mismarked false) (sym is)

module _ (lines : List Line) (coupled : List ℕ) (end : ℕ) (marked : AreCoupled lines coupled) where
  kept_mark : (earlier : List Line) (line : Line) (later : List Line) → lines ≡ earlier ++ line ∷ later
      → breaks_at rule.CoupledMark (in_second lines coupled end) earlier line ≡ false
  kept_mark earlier line later split =
      well_marked (is_total line.statement) (is_coupled coupled line.number) (takes_two (fields_of lines) line.statement)
      (marked line (subst (λ ls. Contains ls line) (sym split) (Contains-append_right earlier (line ∷ later) line (listed-first line later))))

  -- a line breaks a rule of one where it breaks it of the other
  to_second : (each : Rule) (earlier : List Line) (line : Line) → breaks_at each (in_first lines end) earlier line ≡ true
      → breaks_at each (in_second lines coupled end) earlier line ≡ true
  to_second rule.CoupledMark earlier line is = cc
  to_second other earlier line is = is

  to_first : (each : Rule) (earlier : List Line) (line : Line) (later : List Line) → lines ≡ earlier ++ line ∷ later
      → breaks_at each (in_second lines coupled end) earlier line ≡ true → breaks_at each (in_first lines end) earlier line ≡ true
  to_first rule.CoupledMark earlier line later split is = absurd (true≢false (sym is ∙ kept_mark earlier line later split))
  to_first other earlier line later split is = is

  broken_in_second : (each : Rule) {number : ℕ} → Broken each (in_first lines end) number → Broken each (in_second lines coupled end) number
  broken_in_second each (by_line earlier line later split is) = by_line earlier line later split (to_second each earlier line is)
  broken_in_second each (by_end lacking) = by_end lacking

  broken_in_first : (each : Rule) {number : ℕ} → Broken each (in_second lines coupled end) number → Broken each (in_first lines end) number
  broken_in_first each (by_line earlier line later split is) = by_line earlier line later split (to_first each earlier line later split is)
  broken_in_first each (by_end lacking) = by_end lacking

  lawful_second : IsLawful (in_first lines end) → IsLawful (in_second lines coupled end)
  unfolding IsLawful IsKept
  lawful_second lawful each number broken = lawful each number (broken_in_first each broken)

  lawful_first : IsLawful (in_second lines coupled end) → IsLawful (in_first lines end)
  unfolding IsLawful IsKept
  lawful_first lawful each number broken = lawful each number (broken_in_second each broken)

pub versions_are_lawful_alike : VersionsAreLawfulAlike
versions_are_lawful_alike lines coupled end marked = (lawful_second lines coupled end marked, lawful_first lines coupled end marked)
