pub use Rattle.report_streams.specs as report_streams
