pub use Rattle.report_definition.specs as report_definition
