-- The counters of a plan are those of the totals, line by line.
use Rattle.std.proofs.Common.{◌≡◌, ◌∙◌, refl, sym, ap, subst, ℕ, ◌-◌, ◌<◌, ◌≤◌, ◌⊎◌, inl, inr, suc, List, [], ◌∷◌, ◌++◌, Contains, Option, Some, None, length, drop, get_or, slice_get, filter_map, arith, append_assoc, append-nil}
use Rattle.std.specs.List.{cons_option}
use Rattle.std.proofs.lemmas.Bool.{cases_lt}
use Rattle.std.proofs.lemmas.List.{drop_all, get_or-append_right, get_or_append_left, length-append}
use Rattle.std.proofs.lemmas.List.Elements.{Contains-push_cases}
use Rattle.std.proofs.lemmas.Option.{get_or_from_slice_get, slice_get_within}
use Rattle.std.proofs.Math.Seq.{drop-cons}
use Rattle.chart_lines.specs.ChartsWords.Chart.{NumbersRise}
use Rattle.chart_lines.specs.ChartsWords.Levels.{level_number}
use Rattle.chart_lines.specs.declared.charts.chart.Line.{Line}
use Rattle.chart_lines.specs.declared.charts.statement.Statement.{Statement}
use Rattle.chart_lines.specs.declared.charts.statement.TotalLine.{TotalLine}
use Rattle.chart_lines.specs.declared.charts.statement.Statement.TheVariants as says
use Rattle.chart_lines.proofs.ChartsWords.Listed.{given-by, listed-after, listed-first, listed-none}
use Rattle.chart_lines.proofs.ChartsWords.Rising.{NumbersRise-tail, number-above}
use Rattle.chart_plans.specs.PlansWords.Plans.{Lists, ServesChart}
use Rattle.chart_plans.specs.declared.plans.counter.TotalCounter.{TotalCounter}
use Rattle.chart_plans.specs.declared.plans.counter.TotalCounter.TheVariants as of
use Rattle.chart_plans.specs.WantedWords.ChartTotals.{line_total, totals_of}
use Rattle.chart_plans.specs.declared.wanted.total.Total.{Total}
use Rattle.wiring_table.specs.Parts.{counter_for}
use Rattle.wiring_table.proofs.Groups.{counter-given, is-served}
use Rattle.wiring_table.proofs.Totals.{total-of}
use Rattle.match_plans.specs.Wired.{served_by, served_on}

-- what a line says that is a total
pub record IsTotal (lines : List Line) (line : Line) (total : Total) : Type 0 where
  pub asked : TotalLine
  pub says_total : line.statement ≡ says.TotalAmount asked
  pub number : total.line ≡ line.number

pub is-total : (lines : List Line) (line : Line) (total : Total) → line_total lines line.number line.statement ≡ Some total → IsTotal lines line total
is-total lines line total is = by line.statement refl is
  where
    by : (statement : Statement) → line.statement ≡ statement → line_total lines line.number statement ≡ Some total → IsTotal lines line total
    by (says.TotalAmount asked) said is =
        let number : line.number ≡ total.line = cc in
        record {
          asked = asked;
          says_total = said;
          number = sym number;
        }
    by other said is = cc

no_counter : TotalCounter
no_counter = of.Single (record { width = 0; number = 0 })

-- the total at a place after some
after-front : (front : List Total) (next : Total) (rest : List Total) (place : ℕ) (total : Total)
    → slice_get (front ++ next ∷ rest) place ≡ Some total
    → Contains front total ⊎ ((place ≡ length front) ⊎ Contains rest total)
after-front front next rest place total there = by (cases_lt place (length front))
  where
    within : place < length (front ++ next ∷ rest)
    within = slice_get_within (front ++ next ∷ rest) place total there

    by : (place < length front) ⊎ (length front ≤ place) → Contains front total ⊎ ((place ≡ length front) ⊎ Contains rest total)
    by (inl less) =
        let at : get_or front place total ≡ total =
        sym (get_or_append_left front (next ∷ rest) total place less)
        ∙ get_or_from_slice_get (front ++ next ∷ rest) place total total there in
        inl (place, less, at)
    by (inr more) = deeper (cases_lt (length front) place)
      where
        deeper : (length front < place) ⊎ (place ≤ length front) → Contains front total ⊎ ((place ≡ length front) ⊎ Contains rest total)
        deeper (inr most) = inr (inl (omega (arith, more, most)))
        deeper (inl less) =
            let k = place - length front - 1 in
            let step : place - length front ≡ suc k = omega (arith, less) in
            let at : get_or rest k total ≡ total =
            sym (ap (λ n. get_or (next ∷ rest) n total) step)
            ∙ sym (get_or-append_right front (next ∷ rest) (length front) place total refl more)
            ∙ get_or_from_slice_get (front ++ next ∷ rest) place total total there in
            inr (inr (k, omega (arith, less, within, length-append front (next ∷ rest)), at))

module _ (lines : List Line) (end : ℕ) (plan : Lists) (rise : NumbersRise lines end) (planned : ServesChart lines plan) where
  abbrev pub total-on : Line → Option Total
  total-on line = line_total lines line.number line.statement

  -- each total has a counter
  pub its-counter : (line : Line) (total : Total) → Contains lines line → total-on line ≡ Some total
      → (counter : TotalCounter) × (counter_for lines plan line.number ≡ Some counter)
  its-counter line total listed is =
      let t = is-total lines line total is in
      counter-given lines plan t.asked.name (level_number t.asked.level) line.number planned
      (total-of lines line t.asked listed t.says_total)

  suffix-counters : (suffix : List Line) (front : List Total) → totals_of lines ≡ front ++ filter_map total-on suffix
      → ((line : Line) → Contains suffix line → Contains lines line)
      → ((total : Total) (line : Line) → Contains front total → Contains suffix line → total.line < line.number)
      → NumbersRise suffix end
      → filter_map (served_on lines plan) suffix ≡ drop (length front) plan.counters
  suffix-counters [] front all among before rising =
      sym (drop_all (length front) plan.counters
      (omega (arith, planned.counters.many, ap length (all ∙ append-nil front))))
  suffix-counters (line ∷ rest) front all among before rising =
      by (λ others whole less. suffix-counters rest others whole (λ its there. among its (listed-after line rest there)) less
      (NumbersRise-tail line rest end rising)) (total-on line) refl all
    where
      by :
          ((others : List Total) → totals_of lines ≡ others ++ filter_map total-on rest
          → ((total : Total) (its : Line) → Contains others total → Contains rest its → total.line < its.number)
          → filter_map (served_on lines plan) rest ≡ drop (length others) plan.counters)
          → (found : Option Total) → total-on line ≡ found → totals_of lines ≡ front ++ cons_option found (filter_map total-on rest)
          → cons_option (served_by lines plan line.number found) (filter_map (served_on lines plan) rest) ≡ drop (length front) plan.counters
      by later None is all = later front all (λ total its of_front of_rest. before total its of_front (listed-after line rest of_rest))
      by later (Some total) is all =
          let t = is-total lines line total is in
          let its = its-counter line total (among line (listed-first line rest)) is in
          let place = is-served lines plan line.number its.0 its.1 in
          let at : place.place ≡ length front =
          here place.total place.line (after-front front total (filter_map total-on rest) place.place place.total
          (subst (λ ts. slice_get ts place.place ≡ Some place.total) all place.is_total)) in
          let there : slice_get plan.counters (length front) ≡ Some its.0 =
          subst (λ n. slice_get plan.counters n ≡ Some its.0) at place.there in
          let within = slice_get_within plan.counters (length front) its.0 there in
          let others = later (front ++ total ∷ []) (all ∙ sym (append_assoc front (total ∷ []) (filter_map total-on rest)))
          (λ other its_line of_front of_rest. elim (Contains-push_cases front total other of_front) [
            | inl old ↦ before other its_line old (listed-after line rest of_rest)
            | inr same ↦
                let less = number-above line rest end its_line rising of_rest in
                let line_same = ap (λ (o : Total). o.line) same in
                omega (arith, less, line_same, t.number)
          ]) in
          let long : length (front ++ total ∷ []) ≡ suc (length front) = omega (arith, length-append front (total ∷ [])) in
          let tail : filter_map (served_on lines plan) rest ≡ drop (suc (length front)) plan.counters =
          others ∙ ap (λ n. drop n plan.counters) long in
          let cut : drop (length front) plan.counters ≡ get_or plan.counters (length front) no_counter ∷ drop (suc (length front)) plan.counters =
          drop-cons plan.counters (length front) no_counter within in
          let head : get_or plan.counters (length front) no_counter ≡ its.0 =
          get_or_from_slice_get plan.counters (length front) its.0 no_counter there in
          ap (λ o. cons_option o (filter_map (served_on lines plan) rest)) its.1
          ∙ ap (λ cs. its.0 ∷ cs) tail
          ∙ ap (λ c. c ∷ drop (suc (length front)) plan.counters) (sym head)
          ∙ sym cut
        where
          here : {place : ℕ} (other : Total) → other.line ≡ line.number
              → Contains front other ⊎ ((place ≡ length front) ⊎ Contains (filter_map total-on rest) other) → place ≡ length front
          here other same (inl of_front) =
              let less = before other line of_front (listed-first line rest) in
              absurd (omega (arith, less, same))
          here other same (inr (inl at)) = at
          here other same (inr (inr of_rest)) =
              let given = given-by total-on rest other of_rest in
              let less = number-above line rest end given.element rising given.listed in
              let its_number = (is-total lines given.element other given.gives).number in
              absurd (omega (arith, less, same, its_number))

  -- all counters of the plan
  pub all-counters : filter_map (served_on lines plan) lines ≡ plan.counters
  all-counters = suffix-counters lines [] refl (λ line there. there) (λ total line none. absurd (listed-none total none)) rise
