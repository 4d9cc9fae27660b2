use Rattle.std.proofs.Common.{◌≢◌, subst, sym}
use Rattle.std.proofs.lemmas.Result.{err_from_is_err_and}
use Rattle.allocate.specs.Exceeded.{FitsMachine, HasCapacityFault}
use Rattle.allocate.specs.Allocated.{IsPlanOf}
use Rattle.chart_plans.specs.WantedWords.Wanted.{wanted_of}
use Rattle.allocate.specs.declared.fault.CapacityFault.TheVariants as exceeds
use Rattle.capacity.specs.Capacities.{Capacities}
use Rattle.chart_text.specs.ChartText.{Reads}
use Rattle.compile407.specs.ChartFaults.{HasChartFault}
use Rattle.compile407.specs.Compilation.{Compilation}
use Rattle.fault_lines.specs.declared.faults.chart.ChartFault.{ChartFault}
use Rattle.fault_lines.specs.declared.faults.chart.ChartFault.TheVariants as chart
use Rattle.report_runs.specs.PrintPromises.Promises.{BeginsReport, PrintsReport}
use Rattle.compile407.proofs.CapacityTold.{capacity_told}
use Rattle.compile407.proofs.Headline.{sound_read, wired_setups_begin_reports, wired_setups_print_reports}
use Rattle.compile407.proofs.compiling.compile.Goals as goal

pub of-requires : goal.of-requires
of-requires c =
    record {
      sound = sound_read c.args.bytes.now c.in_ok-raw.raw c.in_ok-chart.chart c.in_ok-raw.ensures.read c.in_ok-chart.ensures.same
          c.lines-lines.ensures.lawful c.lines-lines.ensures.rising;
      fits = subst (FitsMachine (wanted_of c.in_ok-chart.chart.lines)) c.standard.ensures c.in_ok-plan.ensures.fits;
      planned = subst (λ machine. IsPlanOf (wanted_of c.in_ok-chart.chart.lines) machine c.in_ok-plan.plan) c.standard.ensures
          c.in_ok-plan.ensures.plan;
      serves = c.in_ok-plan.ensures.is_for.serves;
      wired = c.in_ok-setup.ensures;
    }

pub returns-clause-prints : goal.returns-clause-prints
returns-clause-prints c =
    let P : Compilation → Type 0 = λ compiled. PrintsReport compiled.chart compiled.setup in
    let sound = sound_read c.args.bytes.now c.in_ok-raw.raw c.in_ok-chart.chart c.in_ok-raw.ensures.read c.in_ok-chart.ensures.same
    c.lines-lines.ensures.lawful c.lines-lines.ensures.rising in
    subst P (sym c.of.ensures)
    (wired_setups_print_reports c.in_ok-chart.chart c.in_ok-plan.plan c.in_ok-setup.setup sound c.in_ok-plan.ensures.is_for.serves
    c.in_ok-setup.ensures)

pub returns-clause-begins : goal.returns-clause-begins
returns-clause-begins c =
    let B : Compilation → Type 0 = λ compiled. BeginsReport compiled.chart compiled.setup in
    let sound = sound_read c.args.bytes.now c.in_ok-raw.raw c.in_ok-chart.chart c.in_ok-raw.ensures.read c.in_ok-chart.ensures.same
    c.lines-lines.ensures.lawful c.lines-lines.ensures.rising in
    subst B (sym c.of.ensures)
    (wired_setups_begin_reports c.in_ok-chart.chart c.in_ok-plan.plan c.in_ok-setup.setup sound c.in_ok-plan.ensures.is_for.serves
    c.in_ok-setup.ensures)

pub returns-in_err-plan-clause-refused : goal.returns-in_err-plan-clause-refused
returns-in_err-plan-clause-refused c =
    let bytes = c.args.bytes.now in
    let read = c.in_ok-chart.chart in
    let fault = c.in_err-plan.field-0.0 in
    let Exceeding : Capacities → Type 0 =
    λ machine. fault ≢ exceeds.Memory → HasCapacityFault (wanted_of read.lines) machine fault in
    let refusal = err_from_is_err_and c.from_residual-in_err-plan.result c.from_residual-in_err-plan.ensures.1 in
    let told = capacity_told bytes read fault
    (subst (Reads bytes) (sym c.in_ok-chart.ensures.same) c.in_ok-raw.ensures.read)
    c.lines-lines.ensures.lawful
    (subst Exceeding c.standard.ensures c.in_err-plan.ensures.refused) in
    let Told : ChartFault → Type 0 = λ f. f ≢ chart.Memory → HasChartFault bytes f in
    rw refusal.1 (subst Told (sym refusal.2) told)
