-- An amount of which a chart prints a total has a lowest one, and that tells its pilot.
use Rattle.std.proofs.Common.{◌≡◌, ◌∙◌, refl, sym, ap, subst, ℕ, zero, suc, ◌+◌, ◌<◌, ◌≤◌, ◌==◌, ◌⊎◌, inl, inr, Bool, true, false, true≢false, List, [], ◌∷◌, Contains, arith}
use Rattle.std.proofs.lemmas.Bool.{and_parts, cases_lt}
use Rattle.std.proofs.lemmas.Bool.Decides.{nat_tests}
use Rattle.chart_lines.specs.ChartsWords.Levels.{level_number}
use Rattle.chart_lines.specs.ChartsWords.Name.{is_same_name}
use Rattle.chart_lines.specs.declared.charts.chart.Line.{Line}
use Rattle.chart_lines.specs.declared.charts.statement.Statement.{Statement}
use Rattle.chart_lines.specs.declared.charts.statement.Statement.TheVariants as says
use Rattle.chart_lines.proofs.ChartsWords.Listed.{listed-after, listed-cases, listed-first, listed-none}
use Rattle.match_plans.specs.PilotWires.{IsTold, lowest}
use Rattle.wiring_table.specs.Parts.{HasTotal, IsLowest, is_total_at}

module _ (lines : List Line) (name : List ℕ) where
  total-here : (level : ℕ) (line : Line) → Contains lines line → is_total_at name level line.statement ≡ true → HasTotal lines name level line.number
  total-here level line listed is = by line.statement refl is
    where
      by : (statement : Statement) → line.statement ≡ statement → is_total_at name level statement ≡ true → HasTotal lines name level line.number
      by (says.TotalAmount total) said is =
          let (levels, names) = and_parts (level_number total.level == level) (is_same_name total.name name) is in
          let same_level : level_number total.level ≡ level = grind (arith, nat_tests, levels) in
          record {
            line = line;
            listed = listed;
            is_number = refl;
            asked = total;
            says_total = said;
            same_level = same_level;
            same_name = names;
          }
      by other said is = cc

  total-is : (level number : ℕ) (total : HasTotal lines name level number) → is_total_at name level total.line.statement ≡ true
  total-is level number total =
      let same : (level_number total.asked.level == level) ≡ true = grind (arith, nat_tests, total.same_level) in
      ap (is_total_at name level) total.says_total ∙ rw (same, total.same_name) refl

  -- a total of a level, if there is one
  find-total : (level : ℕ) (rest : List Line) → ((line : Line) → Contains rest line → Contains lines line)
      → ((number : ℕ) × HasTotal lines name level number)
      ⊎ ((line : Line) → Contains rest line → is_total_at name level line.statement ≡ false)
  find-total level [] among = inr (λ line there. absurd (listed-none line there))
  find-total level (line ∷ rest) among =
      by (is_total_at name level line.statement) refl (find-total level rest (λ each there. among each (listed-after line rest there)))
    where
      by : (b : Bool) → is_total_at name level line.statement ≡ b
          → ((number : ℕ) × HasTotal lines name level number) ⊎ ((each : Line) → Contains rest each → is_total_at name level each.statement ≡ false)
          → ((number : ℕ) × HasTotal lines name level number)
          ⊎ ((each : Line) → Contains (line ∷ rest) each → is_total_at name level each.statement ≡ false)
      by true is later = inl (line.number, total-here level line (among line (listed-first line rest)) is)
      by false is (inl found) = inl found
      by false is (inr none) = inr (λ each there. elim (listed-cases each line rest there) [
        | inl same ↦ ap (λ (l : Line). is_total_at name level l.statement) (sym same) ∙ is
        | inr later ↦ none each later
      ])

  pub record LowestTotal : Type 0 where
    pub level : ℕ
    pub number : ℕ
    pub total : HasTotal lines name level number
    pub lowest_one : IsLowest lines name level

  -- the lowest from a level on
  lowest-from : (j k : ℕ) → ((n : ℕ) → n < k → (number : ℕ) → ¬ HasTotal lines name n number) → (number : ℕ) → HasTotal lines name (k + j) number
      → LowestTotal
  lowest-from zero k none number total =
      let here : k + 0 ≡ k = omega arith in
      record {
        level = k;
        number = number;
        total = subst (λ n. HasTotal lines name n number) here total;
        lowest_one = λ other its less has. none other less its has;
      }
  lowest-from (suc j) k none number total =
      by (λ below its more. lowest-from j (k + 1) below its more) (find-total k lines (λ line there. there))
    where
      by : (((n : ℕ) → n < k + 1 → (its : ℕ) → ¬ HasTotal lines name n its) → (its : ℕ) → HasTotal lines name ((k + 1) + j) its → LowestTotal)
          → ((its : ℕ) × HasTotal lines name k its) ⊎ ((line : Line) → Contains lines line → is_total_at name k line.statement ≡ false) → LowestTotal
      by later (inl found) = record { level = k; number = found.0; total = found.1; lowest_one = λ other its less has. none other less its has }
      by later (inr nowhere) =
          let next : k + suc j ≡ (k + 1) + j = omega arith in
          later below number (subst (λ n. HasTotal lines name n number) next total)
        where
          below : (n : ℕ) → n < k + 1 → (its : ℕ) → ¬ HasTotal lines name n its
          below n less its has = at (cases_lt n k)
            where
              at : (n < k) ⊎ (k ≤ n) → ⊥
              at (inl before) = none n before its has
              at (inr above) =
                  let same : n ≡ k = omega (arith, less, above) in
                  let here = subst (λ m. HasTotal lines name m its) same has in
                  true≢false (sym (total-is k its here) ∙ nowhere here.line here.listed)

  lowest-total : (level number : ℕ) → HasTotal lines name level number → LowestTotal
  lowest-total level number total =
      let same : level ≡ 0 + level = omega arith in
      lowest-from level 0 (λ n less its has. omega (arith, less)) number (subst (λ n. HasTotal lines name n number) same total)

  -- so a line tells the pilot of an amount of which there is a total
  pub total-told : (level number : ℕ) → HasTotal lines name level number → IsTold lines name
  total-told level number total =
      let l = lowest-total level number total in
      let t = l.total in
      record {
        line = t.line;
        listed = t.listed;
        tells = lowest t.asked t.says_total t.same_name
            (subst (IsLowest lines name) (sym t.same_level) l.lowest_one);
      }
