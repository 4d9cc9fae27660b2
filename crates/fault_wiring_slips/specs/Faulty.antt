-- The faults of a text that is no wiring chart: the fault that the reader tells, and then those of the text without the line at fault. So a
-- line at fault adds nothing: what it says is not there for the lines below.
use Rattle.std.specs.Prelude.{◌≡◌, ℕ, ◌==◌, List, [], ◌∷◌, Option, Some, None, suc, zero, if◌then◌else◌}
use Rattle.fault_slips.specs.LineMarks.Emptied.{emptied}
use Rattle.hubs.specs.SetupsWords.Wiring.{Wiring}
use Rattle.wiring_text.specs.WiringFaults.{HasWiringFault}
use Rattle.wiring_text.specs.WiringText.{ReadsAs}
use Rattle.wiring_text.specs.declared.fault.WiringFault.{WiringFault}
use Rattle.wiring_text.specs.declared.fault.WiringFault.TheVariants.{TooLarge, NoFirstLine, NotALine, LineTwice, Unfit, NoEnd, Memory}

-- a line behind the form; without the form no other line can be judged
abbrev pub behind_form : ℕ → Option ℕ
behind_form line = if line == 2 then None else Some line

-- the line without which the text is read on, if the fault is one of such a line
abbrev pub line_behind : WiringFault → Option ℕ
line_behind TooLarge = None
line_behind NoFirstLine = None
line_behind (NotALine line) = behind_form line
line_behind (LineTwice line) = behind_form line
line_behind (Unfit line cause) = behind_form line
line_behind NoEnd = None
line_behind Memory = None

-- the faults of a text, so many at most, and the text without the lines at fault
pub data AreFaults : ℕ → List ℕ → List WiringFault → List ℕ → Type 0 where
  enough : {text : List ℕ} → AreFaults zero text [] text
  reads : {count : ℕ} {text : List ℕ} (wiring : Wiring) → ReadsAs text wiring → AreFaults (suc count) text [] text
  last : {count : ℕ} {text : List ℕ} {fault : WiringFault} → HasWiringFault text fault → line_behind fault ≡ None
      → AreFaults (suc count) text (fault ∷ []) text
  next : {count line : ℕ} {text good : List ℕ} {fault : WiringFault} {others : List WiringFault} → HasWiringFault text fault
      → line_behind fault ≡ Some line → AreFaults count (emptied line text) others good → AreFaults (suc count) text (fault ∷ others) good
