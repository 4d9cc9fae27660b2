-- A served run places the machine's lines, whose pages are the report.
use Rattle.compile407.proofs.Headline.{wired_setups_print_reports}
use Rattle.proof_laws.specs.ServedReports.ServedReports.{ServedSetupsPrintTheirReports, WiredSetupsPrintReportsServed}
use Rattle.machine_served.proofs.ServedRuns.Running.{served_lines}
use Rattle.machine_served.proofs.ServedUnits.ServedRuns.{served_runs_print}

pub served_setups_print : ServedSetupsPrintTheirReports
served_setups_print chart wiring prints = record {
  runs = λ cards deck fits.
      let run = (prints cards deck fits).0 in
      (run.0, (served_runs_print wiring cards run.0).1 run.1);
  by_schedules = λ cards lines deck fits served. (prints cards deck fits).1 lines ((served_runs_print wiring cards lines).0 served);
  by_orders = λ cards service lines counts deck fits served.
      (prints cards deck fits).1 lines (served_lines wiring service cards lines counts served);
}

pub wired_setups_print_served : WiredSetupsPrintReportsServed
wired_setups_print_served chart plan wiring sound serves wired =
    served_setups_print chart wiring (wired_setups_print_reports chart plan wiring sound serves wired)
