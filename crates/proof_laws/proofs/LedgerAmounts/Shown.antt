-- What a total holds when it is printed, by the report.
use Rattle.std.proofs.Common.{◌≡◌, ◌∙◌, refl, sym, ap, subst, ℕ, zero, suc, ◌≤◌, ◌<◌, ◌==◌, ◌&&◌, nat_le, ℤ, pos, negsuc, Bool, true, false, List, [], Option, if◌then◌else◌, arith, unsigned_abs}
use Rattle.std.specs.Int.{is_negative}
use Rattle.std.proofs.lemmas.Bool.{both_ways}
use Rattle.std.proofs.lemmas.Bool.Decides.{nat_tests}
use Rattle.chart_rules.specs.ValidCard.{IsValidCard}
use Rattle.chart_lines.specs.ChartsWords.Chart.{Chart, NumbersRise}
use Rattle.chart_lines.specs.declared.charts.statement.Field.{Field}
use Rattle.net.specs.declared.cycle.Ordinal.TheVariants.{Second}
use Rattle.proof_reports.proofs.WiredPanels.CycleAsks.AmountsLawful.{lawful_amount}
use Rattle.proof_reports.specs.WiredPanels.CycleAsks.ChartAmounts.{amount_of}
use Rattle.chart_plans.specs.PlansWords.Plans.{Lists}
use Rattle.proof_reports.proofs.PrintedReports.Facts.{ShowsTotal}
use Rattle.proof_reports.proofs.PrintedReports.FromCharts.{fits, never_negated}
use Rattle.proof_reports.proofs.PrintedReports.Sums.{group_end, unsigned_total}
use Rattle.proof_reports.specs.PrintedReports.Content.{sums_of}
use Rattle.proof_reports.specs.PrintedReports.Goes.{IsDue}
use Rattle.report_definition.specs.FollowedDecks.Stands.{Stand}
use Rattle.report_definition.specs.Amounts.{signed}
use Rattle.report_definition.specs.Breaks.{cleared, ended_after, taking}
use Rattle.report_definition.specs.Totals.{total_of}
use Rattle.hubs.specs.SetupsWords.Wiring.{Wiring}
use Rattle.proof_cycles.proofs.TotalsWords.Figures.{not-negative}
use Rattle.proof_cycles.proofs.TotalsWords.GroupEnds.{total_shows}
use Rattle.proof_cycles.specs.TotalsWords.Amounts.{Amount, state_after}
use Rattle.proof_cycles.specs.TotalsWords.Amounts.Kind.{Prog as Ends}
use Rattle.proof_cycles.specs.TotalsWords.CounterCycles.Acts.{Held, held_after}
use Rattle.proof_cycles.specs.TotalsWords.CounterCycles.Acts.Act.{Still, Turn}
use Rattle.proof_cycles.specs.TotalsWords.Laws.{ready}
use Rattle.proof_cycles.specs.TotalsWords.Standing.{StandsAll}
use Rattle.proof_reports.specs.WiredPanels.Panel.{IsPanel}
use Rattle.wiring_table.specs.Figures.{IsAmount}

-- a level that isn't among those that have ended
pub still-open : (k : ℕ) (groups : ℕ → List (List ℕ)) (level : ℕ) → k < level → cleared k groups level ≡ groups level
still-open k groups level over =
    let later : nat_le level k ≡ false = grind (arith, nat_tests, over) in
    ap (λ (b : Bool). if b then [] else groups level) later

pub has-ended : (k : ℕ) (groups : ℕ → List (List ℕ)) (level : ℕ) → level ≤ k → cleared k groups level ≡ []
has-ended k groups level low =
    let ended : nat_le level k ≡ true = grind (arith, nat_tests, low) in
    ap (λ (b : Bool). if b then [] else groups level) ended

-- The total of a group as it is held before the third program cycle of its level.
pub shows-total :
    (chart : Chart) (plan : Lists) (wiring : Wiring) → IsPanel chart plan wiring → NumbersRise chart.lines chart.end
    → (stand : Stand) (card : List ℕ) (next : Option (List ℕ)) → IsDue chart (IsValidCard chart) stand card next
    → (k : ℕ) → suc k ≤ ended_after chart.lines card next → (name : List ℕ) (field : Field) → IsAmount chart.lines name field
    → (state : ℕ → Held)
    → StandsAll (amount_of chart.lines plan name) (sums_of field (cleared k (taking card stand.so_far))) state
    → (amount_of chart.lines plan name).has (suc k) ≡ true
    → ShowsTotal chart plan (suc k) (taking card stand.so_far (suc k)) name field
    (ready (amount_of chart.lines plan name) (suc k) state (suc k))
shows-total chart plan wiring panel rise stand card next due k within name field amount state stands has =
    let groups = taking card stand.so_far in
    let fit = fits chart plan panel.lawful name field k (groups (suc k)) amount has (due.fit (suc k) (omega arith) within) in
    let end = group_end (amount_of chart.lines plan name) field groups k fit
    (λ none. unsigned_total field (groups (suc k)) (never_negated chart plan name field amount none)) in
    let shown = total_shows (amount_of chart.lines plan name) (suc k) (sums_of field (cleared k groups)) state
    (lawful_amount chart plan name panel.lawful rise panel.planned) has end stands in
    let here : total_of field (cleared k groups (suc k)) ≡ total_of field (groups (suc k))
    = ap (total_of field) (still-open k groups (suc k) (omega arith)) in
    record {
      figure = shown.number ∙ ap unsigned_abs here;
      below = λ less. shown.below_zero (ap is_negative here ∙ less);
      above = λ with_sign less some. shown.above_zero with_sign (ap is_negative here ∙ less) (subst (λ n. 1 ≤ unsigned_abs n) (sym here) some);
      fits = fit;
      unsigned = λ none. unsigned_total field (groups (suc k)) (never_negated chart plan name field amount none);
    }

-- the figure of a total with its latch is the total of the report
pub figure-is : (with_sign latch : Bool) (number : ℕ) (total : ℤ) → number ≡ unsigned_abs total
    → (is_negative total ≡ true → latch ≡ true)
    → (with_sign ≡ true → is_negative total ≡ false → 1 ≤ unsigned_abs total → latch ≡ false)
    → (with_sign ≡ false → is_negative total ≡ false) → signed (with_sign && latch) number ≡ total
figure-is with_sign latch number total figure below above unsigned =
    ap (signed (with_sign && latch)) figure ∙ by total below above unsigned
  where
    by : (t : ℤ) → (is_negative t ≡ true → latch ≡ true)
        → (with_sign ≡ true → is_negative t ≡ false → 1 ≤ unsigned_abs t → latch ≡ false)
        → (with_sign ≡ false → is_negative t ≡ false) → signed (with_sign && latch) (unsigned_abs t) ≡ t
    by (pos zero) under over none = zeros (with_sign && latch)
      where
        zeros : (b : Bool) → signed b 0 ≡ pos 0
        zeros true = refl
        zeros false = refl
    by (pos (suc n)) under over none = some with_sign latch refl (λ on. over on (not-negative (suc n)) (omega arith))
      where
        some : (s l : Bool) → latch ≡ l → (s ≡ true → latch ≡ false) → signed (s && l) (suc n) ≡ pos (suc n)
        some true true is none = absurd (both_ways latch (none refl) is)
        some true false is none = refl
        some false l is none = refl
    by (negsuc n) under over none = some with_sign latch none (under refl)
      where
        some : (s l : Bool) → (s ≡ false → true ≡ false) → l ≡ true → signed (s && l) (suc n) ≡ negsuc n
        some true true none on = refl
        some true false none on = cc
        some false l none on = absurd (both_ways true (none refl) refl)

-- the second program cycle leaves the latches of totals
pub latch-kept : (amount : Amount) (ended level : ℕ) (state : ℕ → Held)
    → (state_after amount (Ends ended Second) state level).latch ≡ (state level).latch
latch-kept amount ended level state = by (amount.has level) (amount.is_signed && ((ended == level) && (state level).latch))
  where
    by : (has turned : Bool)
        → (held_after amount.is_signed (amount.width level) (if has then (if turned then Turn else Still) else Still) (state level)).latch
        ≡ (state level).latch
    by true true = refl
    by true false = refl
    by false turned = refl
