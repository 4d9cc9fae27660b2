-- What an answer of the reader says of a text.
use Rattle.std.proofs.Common.{◌≡◌, ◌≢◌, ℕ, List, Result, Ok, Err, IfOk, IfErr, refl, sym, ◌∙◌, inl, inr, ◌⊎◌}
use Rattle.chart_lines.specs.ChartsWords.Chart.{Chart}
use Rattle.chart_text.specs.ChartText.{Reads}
use Rattle.chart_text.specs.TextFaults.{HasTextFault}
use Rattle.chart_text.specs.HelperText.{chart_of, Answers}
use Rattle.chart_text.specs.declared.fault.TextFault.{TextFault}
use Rattle.chart_text.specs.declared.fault.TextFault.TheVariants.{TooLarge, NoFirstLine, NotALine, NoEnd, Memory}
use Rattle.chart_text.proofs.ChartGrammar.{fault_is, fault_read, reads_is, reads_read}

pub read_by : (text : List ℕ) (answer : Result Chart TextFault) → Answers answer (chart_of text)
    → IfOk answer (λ chart. Reads text chart)
read_by text (Ok chart) read = reads_is text chart read
read_by text (Err fault) read = tt

pub fault_by : (text : List ℕ) (answer : Result Chart TextFault) → Answers answer (chart_of text)
    → IfErr answer (λ fault. fault ≢ Memory → HasTextFault text fault)
fault_by text (Ok chart) read = tt
fault_by text (Err Memory) read = λ other. absurd (other refl)
fault_by text (Err TooLarge) read = λ _. fault_is text TooLarge read
fault_by text (Err NoFirstLine) read = λ _. fault_is text NoFirstLine read
fault_by text (Err (NotALine line)) read = λ _. fault_is text (NotALine line) read
fault_by text (Err NoEnd) read = λ _. fault_is text NoEnd read

pub only_read : (text : List ℕ) (answer : Result Chart TextFault) → Answers answer (chart_of text)
    → (chart : Chart) → Reads text chart → (answer ≡ Ok chart) ⊎ (answer ≡ Err Memory)
only_read text (Ok c) read chart is = inl (sym read ∙ reads_read text chart is)
only_read text (Err Memory) read chart is = inr refl
only_read text (Err TooLarge) read chart is = inl (sym read ∙ reads_read text chart is)
only_read text (Err NoFirstLine) read chart is = inl (sym read ∙ reads_read text chart is)
only_read text (Err (NotALine line)) read chart is = inl (sym read ∙ reads_read text chart is)
only_read text (Err NoEnd) read chart is = inl (sym read ∙ reads_read text chart is)

pub only_fault : (text : List ℕ) (answer : Result Chart TextFault) → Answers answer (chart_of text)
    → (fault : TextFault) → HasTextFault text fault → (answer ≡ Err fault) ⊎ (answer ≡ Err Memory)
only_fault text (Ok c) read fault has = inl (sym read ∙ fault_read text fault has)
only_fault text (Err Memory) read fault has = inr refl
only_fault text (Err TooLarge) read fault has = inl (sym read ∙ fault_read text fault has)
only_fault text (Err NoFirstLine) read fault has = inl (sym read ∙ fault_read text fault has)
only_fault text (Err (NotALine line)) read fault has = inl (sym read ∙ fault_read text fault has)
only_fault text (Err NoEnd) read fault has = inl (sym read ∙ fault_read text fault has)
