-- A wiring chart in another version has the same pages.
use Rattle.std.proofs.Common.{◌≡◌, ◌≢◌, ◌∙◌, ◌↔◌, ap, sym, ℕ, Bool, true, List, Result, Ok, Err, IfOk}
use Rattle.std.specs.Prelude.{IfErr}
use Rattle.hubs.specs.SetupsWords.Tapes.{has_stop}
use Rattle.hubs.specs.SetupsWords.Wiring.{Wiring, is_plugged}
use Rattle.wire_chart.specs.WrittenText.{IsWrittenIn}
use Rattle.wiring_text.proofs.WiringReader.Answered.{one_setup}
use Rattle.wiring_text.specs.WiringFaults as wiring_faults
use Rattle.wiring_text.specs.WiringText.{IsSameSetup, IsSetupOf, ReadsAs}
use Rattle.wiring_text.specs.declared.fault.WiringFault.{WiringFault}
use Rattle.wiring_text.specs.declared.fault.WiringFault.TheVariants as wiring
use Rattle.wiring_text.specs.declared.statement.FormNumbers.{FormNumbers}
use Rattle.wiring_text.specs.declared.statement.Statement.{Statement}
use Rattle.wiring_text.specs.declared.statement.Version.TheVariants.{Second}
use Rattle.cli_commands.specs.CommandsWords.Answers.{AreReplayedPages, IsUpgradeOf, PrintAlike}
use Rattle.fault_lines.specs.ProgramIo.Refusals.{RefusesWiring}
use Rattle.fault_lines.specs.FaultsWords.ToldFaults.{wiring_told}
use Rattle.fault_lines.specs.declared.faults.fault.Fault.{Fault}
use Rattle.fault_lines.specs.declared.faults.fault.Fault.TheVariants as fault

-- a test that is another one tells the same
told_too : {P : Type 0} (one other : Bool) → other ≡ one → (one ≡ true) ↔ P → (other ≡ true) ↔ P
told_too one other same tells = (λ e. tells.0 (sym same ∙ e), λ p. same ∙ tells.1 p)

-- what is the setup of statements, so is the same setup
same_of : (form : FormNumbers) (statements : List Statement) (one other : Wiring) → IsSetupOf form statements one → IsSameSetup one other
    → IsSetupOf form statements other
same_of form statements one other is same = record {
  lines = same.tape.lines ∙ is.lines;
  first = same.tape.first ∙ is.first;
  overflow = same.tape.overflow ∙ is.overflow;
  stops = λ channel line. told_too (has_stop one.tape channel line) (has_stop other.tape channel line) (same.tape.stops channel line)
      (is.stops channel line);
  jacks = λ jack. told_too (is_plugged one jack) (is_plugged other jack) (same.jacks jack) (is.jacks jack);
  wires = λ exit entry. (
    λ has. (is.wires exit entry).0 ((same.wires exit entry).0 has),
    λ said. (same.wires exit entry).1 ((is.wires exit entry).1 said),
  );
}

-- a text reads as each setup that is the same as one that it reads as
same_reads : (text : List ℕ) (one other : Wiring) → ReadsAs text one → IsSameSetup one other → ReadsAs text other
same_reads text one other reads same = record {
  form = reads.form;
  statements = reads.statements;
  chart = reads.chart;
  setup = same_of reads.form reads.statements one other reads.setup same;
}

-- two texts that read as one setup have the same pages
replayed_too : (text other : List ℕ) (wiring : Wiring) → ReadsAs text wiring → ReadsAs other wiring → (deck pages : List ℕ)
    → AreReplayedPages text deck pages → AreReplayedPages other deck pages
replayed_too text other wiring reads also deck pages are = record {
  wiring = are.wiring;
  reads = same_reads other wiring are.wiring also (one_setup text wiring are.wiring reads are.reads);
  pages = are.pages;
}

pub print_alike : (text other : List ℕ) (wiring : Wiring) → ReadsAs text wiring → ReadsAs other wiring → PrintAlike text other
print_alike text other wiring reads also deck pages =
    (replayed_too text other wiring reads also deck pages, replayed_too other text wiring also reads deck pages)

-- what is written of what was read
pub upgrade_made : {X : Type 0} (result : Result X Fault) (bytes : X → List ℕ) (text : List ℕ) (wiring : Wiring) → ReadsAs text wiring
    → IfOk result (λ made. IsWrittenIn Second wiring (bytes made)) → IfOk result (λ made. IsUpgradeOf text (bytes made))
upgrade_made (Ok made) bytes text wiring reads written = record { wiring = wiring; reads = reads; written = written }
upgrade_made (Err _) bytes text wiring reads written = tt

pub upgrade_alike : {X : Type 0} (result : Result X Fault) (bytes : X → List ℕ) (text : List ℕ) (wiring : Wiring) → ReadsAs text wiring
    → IfOk result (λ made. ReadsAs (bytes made) wiring) → IfOk result (λ made. PrintAlike text (bytes made))
upgrade_alike (Ok made) bytes text wiring reads back = print_alike text (bytes made) wiring reads back
upgrade_alike (Err _) bytes text wiring reads back = tt

-- and why nothing is
pub memory_alone : {X : Type 0} (result : Result X Fault) (text : List ℕ) → IfErr result (λ told. told ≡ fault.Memory)
    → IfErr result (λ told. told ≢ fault.Memory → RefusesWiring text told)
memory_alone (Ok _) text memory = tt
memory_alone (Err _) text memory = λ other. absurd (other memory)

pub text_refused : (text : List ℕ) (cause : WiringFault) (told : Fault) → (cause ≢ wiring.Memory → wiring_faults.HasWiringFault text cause)
    → told ≡ wiring_told cause → told ≢ fault.Memory → RefusesWiring text told
text_refused text cause told has named not_memory =
    record { cause = cause; at_fault = has (λ is. not_memory (named ∙ ap wiring_told is)); named = named }
