-- What a legend is of, and what is told where there is none.
use Rattle.std.proofs.Common.{◌≡◌, ◌≢◌, ◌∙◌, ◌⊎◌, inl, inr, ap, arith, sym, subst, ◌≤◌, ℕ, Bool, List, Option, Result, Ok, Err, IfOk}
use Rattle.std.specs.Prelude.{IfErr, OnOk}
use Rattle.std.specs.Io.KnownBytes.{Appends}
use Rattle.cli_commands.proofs.CommandsWords.Stopping.{chart_refusal}
use Rattle.cli_commands.specs.CommandsWords.Answers.{CompilesAs}
use Rattle.cli_commands.specs.CommandsWords.Refusals.{RefusesChart}
use Rattle.compile407.specs.Compilation.{Compilation}
use Rattle.fault_lines.proofs.FaultsWords.Statuses.{memory_or_not}
use Rattle.fault_lines.specs.FaultsWords.Lines.{IsTold}
use Rattle.fault_lines.specs.FaultsWords.Status.{status_of}
use Rattle.fault_lines.specs.declared.faults.fault.Fault.{Fault}
use Rattle.fault_lines.specs.declared.faults.fault.Fault.TheVariants as fault
use Rattle.wiring_legend.specs.Laws.{IsOfLines}
use Rattle.cli_commands.specs.PanelGuides.Legends.{IsLegendOf, IsSpelledLegend, PrintsLegend, StopsLegend, memory_wanting, refused, unwritten}

-- the legend of a compiled chart is its text's
pub legend_of_text : {X : Type 0} (result : Result X Fault) (items : X → List ℕ) (text : List ℕ) (compiled : Compilation)
    → CompilesAs text compiled → IsOfLines compiled.chart.lines compiled.plan compiled.setup
    → IfOk result (λ answer. IsSpelledLegend compiled text (items answer))
    → IfOk result (λ answer. IsLegendOf text (items answer))
legend_of_text (Ok answer) items text compiled compiles whole is =
    record { compiled = compiled; compiles = compiles; legend = is; whole = whole }
legend_of_text (Err _) items text compiled compiles whole is = tt

-- a call that fails for want of memory alone refuses no chart
pub memory_refuses : {X : Type 0} (result : Result X Fault) (text : List ℕ) → IfErr result (λ told. told ≡ fault.Memory)
    → IfErr result (λ told. told ≢ fault.Memory → RefusesChart text told)
memory_refuses (Ok _) text memory = tt
memory_refuses (Err told) text memory = λ not_memory. absurd (not_memory memory)

-- the answer was written
pub legend_written : (text answer bytes : List ℕ) (old new : Option (List ℕ)) → IsLegendOf text answer → bytes ≡ answer
    → Appends old new bytes → PrintsLegend text old new
legend_written text answer bytes old new is same written =
    record { answer = answer; is_legend = is; written = subst (λ (put : List ℕ). Appends old new put) same written }

pub printed : {X E : Type 0} (result : Result X E) (text answer bytes : List ℕ) (old new : Option (List ℕ)) → IsLegendOf text answer
    → bytes ≡ answer → OnOk result (Appends old new bytes) → OnOk result (PrintsLegend text old new)
printed (Ok _) text answer bytes old new is same written = legend_written text answer bytes old new is same written
printed (Err _) text answer bytes old new is same written = tt

-- a chart that is refused, and an output that can't be written
pub chart_stops : (text : List ℕ) (met told : Fault) (Unprinted : Type 0) → (met ≢ fault.Memory → RefusesChart text met) → told ≡ met
    → Unprinted → StopsLegend text told Unprinted
chart_stops text met told Unprinted refuses same unprinted = by (memory_or_not told)
  where
    by : (told ≡ fault.Memory) ⊎ (told ≢ fault.Memory) → StopsLegend text told Unprinted
    by (inl is) = memory_wanting is
    by (inr not_memory) =
        let of_told : RefusesChart text told = subst (RefusesChart text) (sym same) (refuses (λ is. not_memory (same ∙ is))) in
        refused (chart_refusal text told of_told not_memory) of_told unprinted

pub output_stops_legend : {X : Type 0} (result : Result X Fault) (text : List ℕ) (Unprinted : Type 0)
    → IfErr result (λ told. (told ≡ fault.Memory) ⊎ (told ≡ fault.Write)) → IfErr result (λ told. StopsLegend text told Unprinted)
output_stops_legend (Ok _) text Unprinted told = tt
output_stops_legend (Err fault) text Unprinted (inl is) = memory_wanting is
output_stops_legend (Err fault) text Unprinted (inr is) = unwritten is

-- which line is told by the status of what stopped it
module _ (text : List ℕ) (told : Fault) (Unprinted : Type 0) (status : ℕ) (is_told : Bool) (old new : Option (List ℕ))
    (stops : StopsLegend text told Unprinted) (is_status : status ≡ status_of told) (line : IsTold told is_told old new) where
  pub told_refused : status ≡ 3 → (of : Fault) × RefusesChart text of × Unprinted × IsTold of is_told old new
  told_refused three = by stops
    where
      by : StopsLegend text told Unprinted → (of : Fault) × RefusesChart text of × Unprinted × IsTold of is_told old new
      by (refused status_three refuses unprinted) = (told, refuses, unprinted, line)
      by (unwritten is) = absurd (omega (arith, is_status, ap status_of is, three))
      by (memory_wanting is) = absurd (omega (arith, is_status, ap status_of is, three))

  pub told_output : status ≡ 4 → IsTold fault.Write is_told old new
  told_output four = by stops
    where
      by : StopsLegend text told Unprinted → IsTold fault.Write is_told old new
      by (refused three refuses unprinted) = absurd (omega (arith, is_status, three, four))
      by (unwritten is) = subst (λ (of : Fault). IsTold of is_told old new) is line
      by (memory_wanting is) = absurd (omega (arith, is_status, ap status_of is, four))

  pub told_memory : status ≡ 5 → IsTold fault.Memory is_told old new
  told_memory five = by stops
    where
      by : StopsLegend text told Unprinted → IsTold fault.Memory is_told old new
      by (refused three refuses unprinted) = absurd (omega (arith, is_status, three, five))
      by (unwritten is) = absurd (omega (arith, is_status, ap status_of is, five))
      by (memory_wanting is) = subst (λ (of : Fault). IsTold of is_told old new) is line

  pub told_status : (status ≡ 0) ⊎ (3 ≤ status × status ≤ 5)
  told_status = by stops
    where
      by : StopsLegend text told Unprinted → (status ≡ 0) ⊎ (3 ≤ status × status ≤ 5)
      by (refused three refuses unprinted) = inr (omega (arith, is_status, three), omega (arith, is_status, three))
      by (unwritten is) = inr (omega (arith, is_status, ap status_of is), omega (arith, is_status, ap status_of is))
      by (memory_wanting is) = inr (omega (arith, is_status, ap status_of is), omega (arith, is_status, ap status_of is))
