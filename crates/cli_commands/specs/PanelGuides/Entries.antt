-- What is told of a wheel that isn't explained, and the guide to faults.
use Rattle.std.specs.Prelude.{ℕ}
use Rattle.fault_lines.specs.FaultGuide.Lines.{NamesAFault}
use Rattle.cli_commands.specs.PanelGuides.Unexplained.{unexplained_line}
use Rattle.cli_commands.specs.declared.panel_guides.unexplained.Unexplained.TheVariants as why

-- the line names a fault that has an entry, whether no line or no wheel is there
pub record UnexplainedWheelsHaveEntries : Type 0 where
  pub of_lines : (page line : ℕ) → NamesAFault (unexplained_line (why.NoSuchLine page line))
  pub of_wheels : (wheel : ℕ) → NamesAFault (unexplained_line (why.NoSuchWheel wheel))
