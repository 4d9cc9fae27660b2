-- The totals of an amount by their levels.
use Rattle.std.proofs.Common.{◌≡◌, ℕ, ◌+◌, ◌<◌, ◌≤◌, ◌⊎◌, inl, inr, Bool, true, false, ◌&&◌, ◌==◌, List, Option, Some, None, option_map, is_some, find, refl, sym, ap, ◌∙◌, subst, arith}
use Rattle.std.proofs.lemmas.Bool.{cases_lt, and_parts}
use Rattle.std.proofs.lemmas.Bool.Decides.{nat_tests}
use Rattle.std.specs.List.{Contains}
use Rattle.chart_lines.specs.ChartsWords.Levels.{level_number}
use Rattle.chart_lines.specs.ChartsWords.Name.{is_same_name}
use Rattle.chart_lines.specs.declared.charts.chart.Line.{Line}
use Rattle.chart_lines.specs.declared.charts.level.Level.{Level}
use Rattle.chart_lines.specs.declared.charts.level.Level.TheVariants as level
use Rattle.chart_lines.specs.declared.charts.statement.Statement.{Statement}
use Rattle.chart_lines.specs.declared.charts.statement.Statement.TheVariants as says
use Rattle.hubs.specs.SetupsWords.Wiring.{Wiring}
use Rattle.hubs.specs.declared.hub.Hub.{Hub}
use Rattle.wiring_lines.proofs.LineWires.Steps.{adds-as, adds-none}
use Rattle.chart_lines.proofs.ChartsWords.Listed.{found-listed, none-found}
use Rattle.wiring_lines.specs.LineWires.HelperAdds.{Adds}
use Rattle.wiring_totals.specs.HelperLevels.{OfNext, next, total_at}
use Rattle.wiring_lines.specs.Below.wiring_table.Parts.{HasTotal, IsLowest, IsNextHigher, is_total_at}

-- a line that passes the test is such a total
pub total-passes : (lines : List Line) (name : List ℕ) (level : ℕ) (line : Line) → Contains lines line
    → is_total_at name level line.statement ≡ true → HasTotal lines name level line.number
total-passes lines name level line listed passes = by line.statement refl passes
  where
    by : (statement : Statement) → line.statement ≡ statement → is_total_at name level statement ≡ true
        → HasTotal lines name level line.number
    by (says.TotalAmount total) is test =
        let parts = and_parts (level_number total.level == level) (is_same_name total.name name) test in
        record {
          line = line;
          listed = listed;
          is_number = refl;
          asked = total;
          says_total = is;
          same_level = grind (arith, nat_tests, parts.0);
          same_name = parts.1;
        }
    by other is test = cc

-- such a total passes the test
pub passes-total : (lines : List Line) (name : List ℕ) (level number : ℕ) (total : HasTotal lines name level number)
    → is_total_at name level total.line.statement ≡ true
passes-total lines name level number total =
    ap (is_total_at name level) total.says_total
    ∙ by (is_same_name total.asked.name name) total.same_name
  where
    by : (b : Bool) → b ≡ true → ((level_number total.asked.level == level) && b) ≡ true
    by b is = let same = total.same_level in grind (arith, nat_tests, same, is)

found : (lines : List Line) (name : List ℕ) (level number : ℕ) → total_at lines name level ≡ Some number
    → HasTotal lines name level number
found lines name level number is = by (find (λ line. is_total_at name level line.statement) lines) refl is
  where
    by : (found_line : Option Line) → find (λ line. is_total_at name level line.statement) lines ≡ found_line
        → option_map (λ line. line.number) found_line ≡ Some number → HasTotal lines name level number
    by None at e = cc
    by (Some line) at e =
        let there = found-listed (λ l. is_total_at name level l.statement) lines line at in
        let same : line.number ≡ number = cc in
        let P : ℕ → Type 0 = λ n. HasTotal lines name level n in
        subst P same (total-passes lines name level line there.0 there.1)

-- a total that is found is one
pub total-found : (lines : List Line) (name : List ℕ) (level number : ℕ) → Some number ≡ total_at lines name level
    → HasTotal lines name level number
total-found lines name level number is = found lines name level number (sym is)

-- where none is found, there is none
pub total-missing : (lines : List Line) (name : List ℕ) (level number : ℕ) → total_at lines name level ≡ None
    → ¬ HasTotal lines name level number
total-missing lines name level number is total = by (find (λ line. is_total_at name level line.statement) lines) refl is
  where
    by : (found_line : Option Line) → find (λ line. is_total_at name level line.statement) lines ≡ found_line
        → option_map (λ line. line.number) found_line ≡ None → ⊥
    by None at e =
        let fails = none-found (λ l. is_total_at name level l.statement) lines total.line at total.listed in
        let passes = passes-total lines name level number total in
        cc
    by (Some line) at e = cc

-- no level is above 4
pub level-small : (its_level : Level) → level_number its_level < 5
level-small level.Minor = omega arith
level-small other = omega arith

-- a total found below a level shows that the level isn't the lowest
pub no_total_found : (lines : List Line) (name : List ℕ) (level bound lower : ℕ) (result : Option ℕ) → IsLowest lines name level
    → lower < bound → bound ≡ level → result ≡ total_at lines name lower → true ≡ is_some result → ⊥
no_total_found lines name level bound lower None lowest under same is there = cc
no_total_found lines name level bound lower (Some number) lowest under same is there =
    lowest lower number (omega (arith, under, same)) (total-found lines name lower number is)

-- no total at the levels below a bound, and none at it
pub none-more : (lines : List Line) (name : List ℕ) (least bound : ℕ)
    → ((level number : ℕ) → least ≤ level → level < bound → ¬ HasTotal lines name level number)
    → total_at lines name bound ≡ None
    → (level number : ℕ) → least ≤ level → level < bound + 1 → ¬ HasTotal lines name level number
none-more lines name least bound none missing level number above less = by (cases_lt level bound)
  where
    by : (level < bound) ⊎ (bound ≤ level) → ¬ HasTotal lines name level number
    by (inl under) = none level number above under
    by (inr over) =
        let same : bound ≡ level = omega (arith, less, over) in
        total-missing lines name level number (ap (total_at lines name) (sym same) ∙ missing)

-- a result that is none, of a search for a total
pub missing-result : (lines : List Line) (name : List ℕ) (level : ℕ) (result : Option ℕ) → result ≡ total_at lines name level
    → false ≡ is_some result → total_at lines name level ≡ None
missing-result lines name level None same none = sym same
missing-result lines name level (Some number) same none = cc

-- no next higher total where none has a level up to the greatest
pub no_higher : (lines : List Line) (name : List ℕ) (level bound : ℕ)
    → ((between number : ℕ) → level < between → between < bound → ¬ HasTotal lines name between number) → 5 ≤ bound
    → (number : ℕ) → ¬ IsNextHigher lines name level number
no_higher lines name level bound none great number is =
    let small = level-small is.total.asked.level in
    let same = is.total.same_level in
    none is.higher number is.above (omega (arith, small, same, great)) is.total

-- the wires of the next higher total
pub adds-next : {lines : List Line} {name : List ℕ} {level number : ℕ} {of : ℕ → Hub → Hub → Type 0} {old new : Wiring}
    → ((one other : ℕ) → IsNextHigher lines name level one → IsNextHigher lines name level other → one ≡ other)
    → IsNextHigher lines name level number → Adds (of number) old new → Adds (OfNext lines name level of) old new
adds-next {lines} {name} {level} {number} {of} alone is added = adds-as (λ exit entry wire. next number is wire) back added
  where
    back : (exit entry : Hub) → OfNext lines name level of exit entry → of number exit entry
    back exit entry (next other is_other wire) =
        let P : ℕ → Type 0 = λ n. of n exit entry in
        subst P (alone other number is_other is) wire

-- none, where there is no next higher total
pub adds-no_next : {lines : List Line} {name : List ℕ} {level : ℕ} {of : ℕ → Hub → Hub → Type 0} {setup : Wiring}
    → ((number : ℕ) → ¬ IsNextHigher lines name level number) → Adds (OfNext lines name level of) setup setup
adds-no_next {lines} {name} {level} {of} nowhere = adds-none none
  where
    none : (exit entry : Hub) → OfNext lines name level of exit entry → ⊥
    none exit entry (next number is wire) = nowhere number is
