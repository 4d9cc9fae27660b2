-- A wiring chart as text: line 1 names it and the version of its language, line 2 is the form, the lines after are stops, jacks and wires in any order,
-- and END ends it. Empty lines may stand after line 2. Which lines are empty or END is said of every text format in the crate tokens;
-- what is wrong with other texts stands in WiringFaults.
use Rattle.std.specs.Prelude.{◌≡◌, ◌≢◌, ◌↔◌, ℕ, true, List, [], ◌∷◌, All, AllPairs, Contains, None, codes}
use Rattle.std.specs.List.{AllByRecursion}
use Rattle.card_code.specs.Lines.{lines_of}
use Rattle.hubs.specs.SetupsWords.Tapes.{IsFormed, has_stop}
pub use Rattle.hubs.specs.SetupsWords.Wiring.{IsSameSetup}
use Rattle.hubs.specs.SetupsWords.Wiring.{Wiring, HasWire, HasJack}
use Rattle.hubs.specs.declared.hub.Hub.{Hub}
use Rattle.hubs.specs.declared.jack.Jack.{Jack}
pub use Rattle.chart_lines.specs.TokensWords.Frame.{IsEmptyLine, IsEndLine}
use Rattle.chart_lines.specs.TokensWords.Frame.{IsLarger, IsTitleLine}
use Rattle.chart_lines.specs.TokensWords.Number.{IsNumber}
use Rattle.chart_lines.specs.TokensWords.Tokens.{HasTokens}
use Rattle.wiring_text.specs.HubNames.{name_of}
use Rattle.wiring_text.specs.Statements.{Says, do_statements_agree, statement_fault}
use Rattle.wiring_text.specs.declared.statement.FormNumbers.{FormNumbers}
use Rattle.wiring_text.specs.declared.statement.Statement.{Statement}
use Rattle.wiring_text.specs.declared.statement.Statement.TheVariants.{Stop, Plug, Wire}
use Rattle.wiring_text.specs.declared.statement.Version.{Version}
use Rattle.wiring_text.specs.declared.statement.Version.TheVariants.{First, Second}

-- how a version is written
abbrev pub version_text : Version → List ℕ
version_text First = codes "1"
version_text Second = codes "2"

-- a line `WIRING407` with the version
abbrev pub IsFirstLine : Version → List ℕ → Type 0
IsFirstLine version line = IsTitleLine (codes "WIRING407") (version_text version) line

-- a line `FORM` with three numbers
pub record IsFormLine (line : List ℕ) (form : FormNumbers) : Type 0 where
  pub size : List ℕ
  pub top : List ℕ
  pub bottom : List ℕ
  pub divided : HasTokens line (codes "FORM" ∷ size ∷ top ∷ bottom ∷ [])
  pub lines : IsNumber size form.lines
  pub first : IsNumber top form.first
  pub overflow : IsNumber bottom form.overflow

-- a line that says something
pub record SaysLine (version : Version) (line : List ℕ) (statement : Statement) : Type 0 where
  pub tokens : List (List ℕ)
  pub divided : HasTokens line tokens
  pub said : Says version tokens statement

-- what lines up to END say: statements and empty lines, END, and empty lines alone
pub data SaysLines (version : Version) : List (List ℕ) → List Statement → Type 0 where
  empty_line : {line : List ℕ} {lines : List (List ℕ)} {said : List Statement}
      → IsEmptyLine line → SaysLines version lines said → SaysLines version (line ∷ lines) said
  said_line : {line : List ℕ} {lines : List (List ℕ)} {statement : Statement} {said : List Statement}
      → SaysLine version line statement → SaysLines version lines said → SaysLines version (line ∷ lines) (statement ∷ said)
  end_line : {line : List ℕ} {lines : List (List ℕ)}
      → IsEndLine line → AllByRecursion IsEmptyLine lines → SaysLines version (line ∷ lines) []

-- more than 1,000,000 lines, or a line of more than 60 bytes
abbrev pub IsTooLarge : List (List ℕ) → Type 0
IsTooLarge lines = IsLarger 1000000 60 lines

-- the text is of some version, has these numbers of a form and says these statements
pub record Reads (bytes : List ℕ) (form : FormNumbers) (statements : List Statement) : Type 0 where
  pub size : ¬ IsTooLarge (lines_of bytes)
  pub version : Version
  pub first : List ℕ
  pub second : List ℕ
  pub others : List (List ℕ)
  pub lines : lines_of bytes ≡ first ∷ second ∷ others
  pub begun : IsFirstLine version first
  pub formed : IsFormLine second form
  pub said : SaysLines version others statements

-- The text is a wiring chart: its form is one that a tape can have, nothing stands in it twice, and the panel can have each
-- stop and each wire, and each two together.
pub record IsWiringChart (bytes : List ℕ) (form : FormNumbers) (statements : List Statement) : Type 0 where
  pub reads : Reads bytes form statements
  pub formed : IsFormed form.lines form.first form.overflow
  pub once : AllPairs (λ one other. one ≢ other) statements
  pub fit : All (λ statement. statement_fault form.lines statement ≡ None) statements
  pub together : AllPairs (λ one other. do_statements_agree one other ≡ true) statements

-- the setup has this form, and exactly these stops, jacks and wires
pub record IsSetupOf (form : FormNumbers) (statements : List Statement) (wiring : Wiring) : Type 0 where
  pub lines : wiring.tape.lines ≡ form.lines
  pub first : wiring.tape.first ≡ form.first
  pub overflow : wiring.tape.overflow ≡ form.overflow
  pub stops : (channel line : ℕ) → (has_stop wiring.tape channel line ≡ true) ↔ Contains statements (Stop channel line)
  pub jacks : (jack : Jack) → HasJack wiring jack ↔ Contains statements (Plug jack)
  pub wires : (exit entry : Hub) → HasWire wiring exit entry ↔ Contains statements (Wire (name_of exit) (name_of entry))

-- The text reads as the setup.
pub record ReadsAs (bytes : List ℕ) (wiring : Wiring) : Type 0 where
  pub form : FormNumbers
  pub statements : List Statement
  pub chart : IsWiringChart bytes form statements
  pub setup : IsSetupOf form statements wiring
