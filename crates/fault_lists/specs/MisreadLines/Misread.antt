-- The lines of a text that no form derives, each the lowest one once those before it are empty.
use Rattle.std.specs.Prelude.{ℕ, List, [], ◌∷◌, Option, Some, None, suc, zero}
use Rattle.fault_slips.specs.LineMarks.Emptied.{emptied}
use Rattle.chart_text.specs.TextFaults.{HasTextFault}
use Rattle.chart_text.specs.declared.fault.TextFault.{TextFault}
use Rattle.chart_text.specs.declared.fault.TextFault.TheVariants.{TooLarge, NoFirstLine, NotALine, NoEnd, Memory}

-- the line that a fault tells, if it is one that no form derives
abbrev pub misread_line : TextFault → Option ℕ
misread_line TooLarge = None
misread_line NoFirstLine = None
misread_line (NotALine line) = Some line
misread_line NoEnd = None
misread_line Memory = None

-- the lines of a text that are listed, so many at most
pub data AreMisread : ℕ → List ℕ → List ℕ → Type 0 where
  enough : {text : List ℕ} → AreMisread zero text []
  none : {count : ℕ} {text : List ℕ} → ((line : ℕ) → ¬ HasTextFault text (NotALine line)) → AreMisread (suc count) text []
  next : {count line : ℕ} {text others : List ℕ} → HasTextFault text (NotALine line) → AreMisread count (emptied line text) others
      → AreMisread (suc count) text (line ∷ others)
