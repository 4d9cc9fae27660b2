-- A setup beside one that is wired for a chart by a plan: where they are the same, it is wired for the chart by the plan; else not, and
-- their differences are what is missing and what is too much.
use Rattle.std.proofs.Common.{◌≡◌, ◌↔◌, ◌∙◌, List, true, false, true≢false, Bool, refl, sym}
use Rattle.chart_lines.specs.declared.charts.chart.Line.{Line}
use Rattle.match_panels.specs.DifferencesWords.Differences.{IsDifference}
use Rattle.match_panels.specs.MatchingWords.Answers.{IsExtra, IsMissing}
use Rattle.chart_plans.specs.PlansWords.Plans.{Lists}
use Rattle.hubs.specs.SetupsWords.Tapes.{has_stop}
use Rattle.hubs.specs.SetupsWords.Wiring.{IsSameSetup, Wiring, is_plugged}
use Rattle.wiring_table.specs.WiredFor.{WiredFor}

both : {P Q R : Type 0} → P ↔ Q → Q ↔ R → P ↔ R
both a b = (λ p. b.0 (a.0 p), λ r. a.1 (b.1 r))

back : {P Q : Type 0} → P ↔ Q → Q ↔ P
back a = (a.1, a.0)

module _ (lines : List Line) (plan : Lists) (wanted setup : Wiring) (wired : WiredFor lines plan wanted) where
  -- the same setup is wired too
  pub wired-same : IsSameSetup wanted setup → WiredFor lines plan setup
  wired-same same = record {
    wires = λ exit entry. both (same.wires exit entry) (wired.wires exit entry);
    jacks = λ jack. both (λ has. sym (same.jacks jack) ∙ has, λ has. same.jacks jack ∙ has) (wired.jacks jack);
    tape = record {
      form_lines = same.tape.lines ∙ wired.tape.form_lines;
      first = same.tape.first ∙ wired.tape.first;
      overflow = same.tape.overflow ∙ wired.tape.overflow;
      stops = λ channel line. both (λ has. sym (same.tape.stops channel line) ∙ has, λ has. same.tape.stops channel line ∙ has)
          (wired.tape.stops channel line);
    };
  }

  -- and what is wired too is the same setup
  pub same-wired : WiredFor lines plan setup → IsSameSetup wanted setup
  same-wired also = record {
    wires = λ exit entry. both (also.wires exit entry) (back (wired.wires exit entry));
    jacks = λ jack. alike (is_plugged setup jack) (is_plugged wanted jack) (both (also.jacks jack) (back (wired.jacks jack)));
    tape = record {
      lines = also.tape.form_lines ∙ sym wired.tape.form_lines;
      first = also.tape.first ∙ sym wired.tape.first;
      overflow = also.tape.overflow ∙ sym wired.tape.overflow;
      stops = λ channel line. alike (has_stop setup.tape channel line) (has_stop wanted.tape channel line)
          (both (also.tape.stops channel line) (back (wired.tape.stops channel line)));
    };
  }
    where
      alike : (p q : Bool) → (p ≡ true) ↔ (q ≡ true) → p ≡ q
      alike true q tells = sym (tells.0 refl)
      alike false true tells = tells.1 refl
      alike false false tells = refl

  -- the differences are those of the chart and the setup
  pub missing-is : (missing : Wiring) → IsDifference wanted setup missing → IsMissing lines plan setup missing
  missing-is missing is = record {
    wires = λ exit entry. (
      λ has. let lacks = (is.wires exit entry).0 has in ((wired.wires exit entry).0 lacks.there, lacks.lacking),
      λ by. (is.wires exit entry).1 (record { there = (wired.wires exit entry).1 by.0; lacking = by.1 }),
    );
    jacks = λ jack. (
      λ has. let lacks = (is.jacks jack).0 has in ((wired.jacks jack).0 lacks.there, lacks.lacking),
      λ by. (is.jacks jack).1 (record { there = (wired.jacks jack).1 by.0; lacking = by.1 }),
    );
    stops = λ channel line. (
      λ has. let lacks = (is.stops channel line).0 has in ((wired.tape.stops channel line).0 lacks.there, lacks.lacking),
      λ by. (is.stops channel line).1 (record { there = (wired.tape.stops channel line).1 by.0; lacking = by.1 }),
    );
    form_lines = is.lines ∙ wired.tape.form_lines;
    first = is.first ∙ wired.tape.first;
    overflow = is.overflow ∙ wired.tape.overflow;
  }

  pub extra-is : (extra : Wiring) → IsDifference setup wanted extra → IsExtra lines plan setup extra
  extra-is extra is = record {
    wires = λ exit entry. (
      λ has. let lacks = (is.wires exit entry).0 has in (lacks.there, λ asked. lacks.lacking ((wired.wires exit entry).1 asked)),
      λ by. (is.wires exit entry).1 (record { there = by.0; lacking = λ has. by.1 ((wired.wires exit entry).0 has) }),
    );
    jacks = λ jack. (
      λ has. let lacks = (is.jacks jack).0 has in (lacks.there, λ asked. lacks.lacking ((wired.jacks jack).1 asked)),
      λ by. (is.jacks jack).1 (record { there = by.0; lacking = λ has. by.1 ((wired.jacks jack).0 has) }),
    );
    stops = λ channel line. (
      λ has. let lacks = (is.stops channel line).0 has in
          (lacks.there, λ asked. true≢false (sym ((wired.tape.stops channel line).1 asked) ∙ lacks.lacking)),
      λ by. (is.stops channel line).1 (record {
        there = by.0;
        lacking = unpunched (has_stop wanted.tape channel line) (λ has. by.1 ((wired.tape.stops channel line).0 has));
      }),
    );
    form_lines = is.lines;
    first = is.first;
    overflow = is.overflow;
  }
    where
      unpunched : (test : Bool) → (test ≡ true → ⊥) → test ≡ false
      unpunched true none = absurd (none refl)
      unpunched false none = refl
