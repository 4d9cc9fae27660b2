use Rattle.std.proofs.Common.{◌≡◌, ◌++◌, ap, arith, refl, sym}
use Rattle.std.specs.Prelude.{codes, decimal}
use Rattle.fault_lines.proofs.FaultGuide.Spelled.{two-digits}
use Rattle.cli_commands.proofs.panel_guides.entries.unexplained_wheels_have_entries.Goals as goal

of_line : decimal 92 ≡ codes "92"
of_line = two-digits 92 (omega arith) (omega arith)

of_wheel : decimal 93 ≡ codes "93"
of_wheel = two-digits 93 (omega arith) (omega arith)

pub returns : goal.returns
returns c = record {
  of_lines = λ page line.
      let behind = codes " page " ++ decimal page ++ codes " line " ++ decimal line ++ codes "\n" in
      record { number = 92; has_entry = refl; behind = behind; is_line = ap (λ number. codes "fault " ++ number ++ behind) (sym of_line) };
  of_wheels = λ wheel.
      let behind = codes " wheel " ++ decimal wheel ++ codes "\n" in
      record { number = 93; has_entry = refl; behind = behind; is_line = ap (λ number. codes "fault " ++ number ++ behind) (sym of_wheel) };
}
