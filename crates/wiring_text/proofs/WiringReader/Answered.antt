-- What an answer of the reader says of a text, and laws of wiring charts.
use Rattle.std.proofs.Common.{◌≡◌, ◌≢◌, ◌⊎◌, ◌↔◌, ℕ, Bool, true, false, List, Result, Ok, Err, IfOk, IfErr, refl, ap, sym, ◌∙◌, inl, inr, subst}
use Rattle.std.specs.Prelude.{IsOkUnless}
use Rattle.hubs.specs.SetupsWords.Tapes.{has_stop}
use Rattle.hubs.specs.SetupsWords.Wiring.{Wiring, is_plugged}
use Rattle.wiring_text.specs.WiringReader.TextReading.{Answers, Told, text_told}
use Rattle.wiring_text.specs.WiringFaults.{HasWiringFault}
use Rattle.wiring_text.specs.WiringText.{IsSameSetup, IsSetupOf, ReadsAs}
use Rattle.wiring_text.specs.declared.statement.FormNumbers.{FormNumbers}
use Rattle.wiring_text.specs.declared.fault.WiringFault.{WiringFault}
use Rattle.wiring_text.specs.declared.fault.WiringFault.TheVariants.{Memory}
use Rattle.wiring_text.specs.declared.statement.Statement.{Statement}
use Rattle.wiring_text.proofs.WiringReader.WiringGrammar.{fault_is, fault_read, chart_is, chart_read}

-- a text that is told reads as each setup of what is told
pub told_reads : (text : List ℕ) (what : Told) (wiring : Wiring) → text_told text ≡ Ok what
    → IsSetupOf what.form what.statements wiring → ReadsAs text wiring
told_reads text what wiring told setup = record {
  form = what.form;
  statements = what.statements;
  chart = chart_is text what told;
  setup = setup;
}

-- what a text reads as is told
abbrev told_of : {text : List ℕ} {wiring : Wiring} → ReadsAs text wiring → Told
told_of is = record { form = is.form; statements = is.statements }

reads_told : (text : List ℕ) (wiring : Wiring) (is : ReadsAs text wiring) → text_told text ≡ Ok (told_of is)
reads_told text wiring is = chart_read text is.form is.statements is.chart

abbrev failed : WiringFault → Result Told WiringFault
failed fault = Err fault

same_failed : (a b : WiringFault) → failed a ≡ failed b → a ≡ b
same_failed a b e = cc

pub read_by : (text : List ℕ) (answer : Result Wiring WiringFault) → Answers answer (text_told text)
    → IfOk answer (ReadsAs text)
read_by text (Ok wiring) told = told_reads text told.0 wiring told.1 told.2
read_by text (Err fault) told = tt

pub fault_by : (text : List ℕ) (answer : Result Wiring WiringFault) → Answers answer (text_told text)
    → IfErr answer (λ fault. fault ≢ Memory → HasWiringFault text fault)
fault_by text (Ok wiring) told = tt
fault_by text (Err fault) (inl memory) = λ other. absurd (other memory)
fault_by text (Err fault) (inr told) = λ other. fault_is text fault told

pub only_read : (text : List ℕ) (answer : Result Wiring WiringFault) → Answers answer (text_told text)
    → (wiring : Wiring) → ReadsAs text wiring → IsOkUnless answer Memory
only_read text (Ok w) told wiring is = tt
only_read text (Err fault) (inl memory) wiring is = memory
only_read text (Err fault) (inr told) wiring is =
    let read = reads_told text wiring is in
    cc

pub only_fault : (text : List ℕ) (answer : Result Wiring WiringFault) → Answers answer (text_told text)
    → (fault : WiringFault) → HasWiringFault text fault → (answer ≡ Err fault) ⊎ (answer ≡ Err Memory)
only_fault text (Ok wiring) told fault has =
    let is = told.1 in
    let failed = fault_read text fault has in
    cc
only_fault text (Err other) (inl memory) fault has = inr (ap Err memory)
only_fault text (Err other) (inr told) fault has = inl (ap Err (same_failed other fault (sym told ∙ fault_read text fault has)))

-- one setup at most fits a text
same_bool : (b c : Bool) (P : Type 0) → (b ≡ true) ↔ P → (c ≡ true) ↔ P → c ≡ b
same_bool true true P is also = refl
same_bool false false P is also = refl
same_bool true false P is also = also.1 (is.0 refl)
same_bool false true P is also = sym (is.1 (also.0 refl))

same_setup : (form : FormNumbers) (statements : List Statement) (one other : Wiring) → IsSetupOf form statements one
    → IsSetupOf form statements other → IsSameSetup one other
same_setup form statements one other is also = record {
  wires = λ exit entry.
      (λ h. (is.wires exit entry).1 ((also.wires exit entry).0 h), λ h. (also.wires exit entry).1 ((is.wires exit entry).0 h));
  jacks = λ j. same_bool (is_plugged one j) (is_plugged other j) _ (is.jacks j) (also.jacks j);
  tape = record {
    lines = also.lines ∙ sym is.lines;
    first = also.first ∙ sym is.first;
    overflow = also.overflow ∙ sym is.overflow;
    stops = λ c l. same_bool (has_stop one.tape c l) (has_stop other.tape c l) _ (is.stops c l) (also.stops c l);
  };
}

abbrev told : Told → Result Told WiringFault
told what = Ok what

same_told : (a b : Told) → told a ≡ told b → a ≡ b
same_told a b e = cc

pub one_setup : (text : List ℕ) (one other : Wiring) → ReadsAs text one → ReadsAs text other → IsSameSetup one other
one_setup text one other is also =
    let same = same_told (told_of also) (told_of is) (sym (reads_told text other also) ∙ reads_told text one is) in
    same_setup is.form is.statements one other is.setup
    (subst (λ (w : Told). IsSetupOf w.form w.statements other) same also.setup)

-- no fault fits a text that is read, and one at most fits any other
pub no_fault : (text : List ℕ) (wiring : Wiring) (fault : WiringFault) → ReadsAs text wiring → ¬ HasWiringFault text fault
no_fault text wiring fault is has =
    let read = reads_told text wiring is in
    let failed = fault_read text fault has in
    cc

pub one_fault : (text : List ℕ) (one other : WiringFault) → HasWiringFault text one → HasWiringFault text other → one ≡ other
one_fault text one other is also = same_failed one other (sym (fault_read text one is) ∙ fault_read text other also)
