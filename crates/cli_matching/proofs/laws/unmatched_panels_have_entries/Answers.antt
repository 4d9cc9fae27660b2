use Rattle.std.proofs.Common.{◌≡◌, ◌∙◌, ◌++◌, ap, arith, refl, sym}
use Rattle.std.specs.Prelude.{codes, decimal}
use Rattle.fault_lines.proofs.FaultGuide.Spelled.{two-digits}
use Rattle.cli_matching.proofs.laws.unmatched_panels_have_entries.Goals as goal

of_panel : decimal 94 ≡ codes "94"
of_panel = two-digits 94 (omega arith) (omega arith)

of_page : decimal 95 ≡ codes "95"
of_page = two-digits 95 (omega arith) (omega arith)

pub returns : goal.returns
returns c = record {
  of_unwired = λ counts.
      let behind = codes " missing " ++ decimal counts.missing ++ codes " extra " ++ decimal counts.extra ++ codes "\n" in
      record {
        number = 94;
        has_entry = refl;
        behind = behind;
        is_line = ap (λ number. codes "fault " ++ number ++ codes " missing " ++ decimal counts.missing ++ codes " extra "
            ++ decimal counts.extra ++ codes "\n") of_panel
            ∙ ap (λ number. codes "fault " ++ number ++ behind) (sym of_panel);
      };
  of_others = λ place.
      let behind = codes " page " ++ decimal place.page ++ codes " line " ++ decimal place.line ++ codes "\n" in
      record { number = 95; has_entry = refl; behind = behind; is_line = ap (λ number. codes "fault " ++ number ++ behind) (sym of_page) };
}
