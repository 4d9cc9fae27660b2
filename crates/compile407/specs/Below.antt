pub use Rattle.report_runs.specs as report_runs
