-- A text that gains the sheet of a card.
use Rattle.std.proofs.Common.{◌≡◌, ◌∙◌, ◌⊎◌, inr, sym, ap, subst, ℕ, List, [], ◌++◌, Result, Ok, Err, IfOk}
use Rattle.std.specs.Prelude.{IfErr, OnOk}
use Rattle.chart_lines.specs.ChartsWords.Chart.{Chart}
use Rattle.fault_lines.specs.declared.faults.fault.Fault.{Fault}
use Rattle.fault_lines.specs.declared.faults.fault.Fault.TheVariants as fault
use Rattle.cli_sheets.specs.SheetsWords.SheetCalls.CardSheets.{GainsSheet, IsLine, IsSheet, IsSheetIn, LacksCard}

-- a text that gains what is told of a line gains its sheet
pub sheet-gained : {X E : Type 0} (result : Result X E) (chart : Chart) (number : ℕ) (line old new sheet : List ℕ)
    → IsSheet chart number line sheet → OnOk result (new ≡ old ++ sheet) → OnOk result (GainsSheet chart number line old new)
sheet-gained (Ok _) chart number line old new sheet is gained = record { sheet = sheet; is_sheet = is; gained = gained }
sheet-gained (Err _) chart number line old new sheet is gained = tt

-- a text that begins empty is the sheet
pub sheet-begun : (chart : Chart) (number : ℕ) (line old new : List ℕ) → old ≡ [] → GainsSheet chart number line old new
    → IsSheet chart number line new
sheet-begun chart number line old new none gains =
    subst (IsSheet chart number line) (sym (gains.gained ∙ ap (λ (l : List ℕ). l ++ gains.sheet) none)) gains.is_sheet

pub sheet-in : {X : Type 0} (result : Result X Fault) (items : X → List ℕ) (chart : Chart) (deck : List ℕ) (number : ℕ) (line : List ℕ)
    → IsLine deck number line → IfOk result (λ text. IsSheet chart number line (items text))
    → IfOk result (λ text. IsSheetIn chart deck number (items text))
sheet-in (Ok text) items chart deck number line there is = record { line = line; is_line = there; is_sheet = is }
sheet-in (Err _) items chart deck number line there is = tt

pub sheet-untold : {X : Type 0} (result : Result X Fault) (deck : List ℕ) (number : ℕ)
    → IfErr result (λ told. (told ≡ fault.Memory) ⊎ (told ≡ fault.Write))
    → IfErr result (λ told. LacksCard deck number told ⊎ ((told ≡ fault.Memory) ⊎ (told ≡ fault.Write)))
sheet-untold (Ok _) deck number told = tt
sheet-untold (Err met) deck number told = inr told
