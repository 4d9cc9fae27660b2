-- What is wrong with a text that is no wiring chart, in the order in which it is asked: its size, its first two lines, the
-- lowest of its other lines at fault, its END. On one line it is asked whether it is a line of a wiring chart, whether it stood
-- before, and whether the panel can have what it says.
use Rattle.std.specs.Prelude.{◌≡◌, ℕ, ◌<◌, ◌≤◌, false, List, length, ◌⊎◌, Some, None}
use Rattle.card_code.specs.Lines.{lines_of}
use Rattle.hubs.specs.SetupsWords.Tapes.{IsFormed}
use Rattle.hubs.specs.declared.setups.fault.SetupFault.{SetupFault}
use Rattle.hubs.specs.declared.setups.fault.SetupFault.TheVariants.{CarryRing, TapeFault}
use Rattle.chart_lines.specs.TokensWords.Frame as frame
pub use Rattle.chart_lines.specs.TokensWords.Frame.{line_at}
use Rattle.chart_lines.specs.TokensWords.Frame.{IsLineFrom, LacksEnd}
use Rattle.wiring_text.specs.Statements.{do_statements_agree, statement_fault}
use Rattle.wiring_text.specs.WiringText.{IsFirstLine, IsFormLine, SaysLine, IsTooLarge}
use Rattle.wiring_text.specs.declared.statement.FormNumbers.{FormNumbers}
use Rattle.wiring_text.specs.declared.fault.WiringFault.{WiringFault}
use Rattle.wiring_text.specs.declared.fault.WiringFault.TheVariants.{TooLarge, NoFirstLine, NotALine, LineTwice, Unfit, NoEnd, Memory}
use Rattle.wiring_text.specs.declared.statement.Statement.{Statement}
use Rattle.wiring_text.specs.declared.statement.Version.{Version}

-- there are two lines, `WIRING407` with a version and a form with these numbers
pub record HasHead (lines : List (List ℕ)) (version : Version) (form : FormNumbers) : Type 0 where
  pub there : 2 ≤ length lines
  pub begun : IsFirstLine version (line_at lines 1)
  pub formed : IsFormLine (line_at lines 2) form

-- the number is that of a line after the form
abbrev pub IsAfterForm : List (List ℕ) → ℕ → Type 0
IsAfterForm lines number = IsLineFrom 3 lines number

-- the line of a number is none of a wiring chart, or stands after END and isn't empty
abbrev pub IsMisplaced : Version → List (List ℕ) → ℕ → Type 0
IsMisplaced version lines number = frame.IsMisplaced (SaysLine version) 3 lines number

-- the line of a number says this, and stands where a line may stand
pub record SaysAt (version : Version) (lines : List (List ℕ)) (number : ℕ) (statement : Statement) : Type 0 where
  pub there : IsAfterForm lines number
  pub said : SaysLine version (line_at lines number) statement
  pub placed : ¬ IsMisplaced version lines number

-- the line of a number says what a line before it said
pub record IsRepeated (version : Version) (lines : List (List ℕ)) (number : ℕ) : Type 0 where
  pub statement : Statement
  pub said : SaysAt version lines number statement
  pub earlier : ℕ
  pub before : earlier < number
  pub said_before : SaysAt version lines earlier statement

-- a line before that of a number says a wire that the panel can't have together with this statement
pub record IsApart (version : Version) (lines : List (List ℕ)) (number : ℕ) (statement : Statement) : Type 0 where
  pub earlier : ℕ
  pub before : earlier < number
  pub other : Statement
  pub said_before : SaysAt version lines earlier other
  pub apart : do_statements_agree other statement ≡ false

-- The panel can't have a statement on the line of a number: by itself, or, where nothing else is wrong with it, together with a
-- line before it, which is a fault of carries.
abbrev pub CannotHave : Version → List (List ℕ) → FormNumbers → ℕ → Statement → SetupFault → Type 0
CannotHave version lines form number statement fault =
    (statement_fault form.lines statement ≡ Some fault)
    ⊎ ((statement_fault form.lines statement ≡ None) × (fault ≡ CarryRing) × IsApart version lines number statement)

-- the line of a number says what no line before it said, and the panel can't have it
pub record IsUnfitLine (version : Version) (lines : List (List ℕ)) (form : FormNumbers) (number : ℕ) (fault : SetupFault) : Type 0 where
  pub statement : Statement
  pub said : SaysAt version lines number statement
  pub new : ¬ IsRepeated version lines number
  pub unfit : CannotHave version lines form number statement fault

-- the form, on line 2, is none that a tape can have
pub record IsUnfitForm (form : FormNumbers) (number : ℕ) (fault : SetupFault) : Type 0 where
  pub second : number ≡ 2
  pub unfit : ¬ IsFormed form.lines form.first form.overflow
  pub is_tape : fault ≡ TapeFault

-- the panel can't have what the line of a number says
abbrev pub IsUnfit : Version → List (List ℕ) → FormNumbers → ℕ → SetupFault → Type 0
IsUnfit version lines form number fault = IsUnfitForm form number fault ⊎ IsUnfitLine version lines form number fault

-- the line of a number is at fault
pub data IsAtFault (version : Version) (lines : List (List ℕ)) (form : FormNumbers) (number : ℕ) : Type 0 where
  misplaced : IsMisplaced version lines number → IsAtFault version lines form number
  repeated : IsRepeated version lines number → IsAtFault version lines form number
  unfit : (fault : SetupFault) → IsUnfit version lines form number fault → IsAtFault version lines form number

-- no line before that of a number is at fault
abbrev pub AreGoodBefore : Version → List (List ℕ) → FormNumbers → ℕ → Type 0
AreGoodBefore version lines form number = (lower : ℕ) → lower < number → ¬ IsAtFault version lines form lower

-- a text that is not too large, and begins as a wiring chart with a form of these numbers
pub record IsBegun (lines : List (List ℕ)) : Type 0 where
  pub size : ¬ IsTooLarge lines
  pub version : Version
  pub form : FormNumbers
  pub head : HasHead lines version form

-- the fault of the lines of a text
abbrev pub HaveFault : List (List ℕ) → WiringFault → Type 0
HaveFault lines TooLarge = IsTooLarge lines
HaveFault lines NoFirstLine = (¬ IsTooLarge lines) × ((version : Version) (form : FormNumbers) → ¬ HasHead lines version form)
HaveFault lines (NotALine number) = (begun : IsBegun lines) × AreGoodBefore begun.version lines begun.form number × IsMisplaced begun.version lines number
HaveFault lines (LineTwice number) = (begun : IsBegun lines) × AreGoodBefore begun.version lines begun.form number × IsRepeated begun.version lines number
HaveFault lines (Unfit number fault) =
    (begun : IsBegun lines) × AreGoodBefore begun.version lines begun.form number × IsUnfit begun.version lines begun.form number fault
HaveFault lines NoEnd = (begun : IsBegun lines) × ((number : ℕ) → ¬ IsAtFault begun.version lines begun.form number) × LacksEnd 3 lines
HaveFault lines Memory = ⊥

-- the fault of a text
abbrev pub HasWiringFault : List ℕ → WiringFault → Type 0
HasWiringFault bytes fault = HaveFault (lines_of bytes) fault
