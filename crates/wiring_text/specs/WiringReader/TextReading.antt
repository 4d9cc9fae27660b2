-- What the reader of a whole text answers, as a function of its lines.
-- This is a step between the code and the grammar: read_setup promises the relations of WiringText and WiringFaults, in wiring_text.
use Rattle.std.specs.Prelude.{◌≡◌, ◌⊎◌, ℕ, ◌≤◌, ◌&&◌, Bool, true, false, List, [], ◌∷◌, ◌++◌, All, AllPairs, Option, Some, None, Result, Ok, Err, suc, nat_le, if◌then◌else◌, codes}
use Rattle.std.specs.List.{list_all}
use Rattle.card_code.specs.Lines.{lines_of}
use Rattle.hubs.specs.Jacks.{is_jack_in_range}
use Rattle.hubs.specs.HubTable.Ranges.{is_within}
use Rattle.hubs.specs.SetupsWords.Tapes.{CarriageTape, IsFormed}
use Rattle.hubs.specs.SetupsWords.Wiring.{Wiring}
use Rattle.hubs.specs.declared.setups.fault.SetupFault.{SetupFault}
use Rattle.hubs.specs.declared.setups.fault.SetupFault.TheVariants as panel
use Rattle.chart_lines.specs.TokensWords.Dividing.{tokens_of}
use Rattle.chart_lines.specs.TokensWords.FrameReading.{is_larger, is_title_line}
use Rattle.chart_lines.specs.TokensWords.HelperLines.{divided_content}
use Rattle.chart_lines.specs.declared.tokens.frame.Content as frame
use Rattle.chart_lines.specs.declared.tokens.frame.Content.TheVariants.{Empty, End, Says, NoLine}
use Rattle.wiring_text.specs.WiringReader.Reading.{statement_of, form_of, is_said}
use Rattle.wiring_text.specs.Statements.{do_statements_agree, statement_fault}
use Rattle.wiring_text.specs.WiringText.{IsSetupOf, version_text}
use Rattle.wiring_text.specs.declared.statement.FormNumbers.{FormNumbers}
use Rattle.wiring_text.specs.declared.fault.WiringFault.{WiringFault}
use Rattle.wiring_text.specs.declared.fault.WiringFault.TheVariants.{TooLarge, NoFirstLine, NotALine, LineTwice, Unfit, NoEnd, Memory}
use Rattle.wiring_text.specs.declared.statement.Statement.{Statement}
use Rattle.wiring_text.specs.declared.statement.Statement.TheVariants.{Stop, Plug, Wire}
use Rattle.wiring_text.specs.declared.statement.Version.{Version}
use Rattle.wiring_text.specs.declared.statement.Version.TheVariants.{First, Second}

-- what a line of a wiring chart is
abbrev pub Content : Type 0
Content = frame.Content Statement

unfoldable pub content_of : Version → List ℕ → Content
content_of version line = divided_content (statement_of version) (tokens_of line)

-- whether a line is the first line of a version
abbrev pub is_first : Version → List ℕ → Bool
is_first version line = is_title_line (codes "WIRING407") (version_text version) line

-- the version of which one of two tests tells
abbrev pub tested_version : Bool → Bool → Option Version
tested_version true second = Some First
tested_version false true = Some Second
tested_version false false = None

-- the version that a first line names
abbrev pub version_named : List ℕ → Option Version
version_named line = tested_version (is_first First line) (is_first Second line)

-- the form that the tokens of the second line are
abbrev pub divided_form : Option (List (List ℕ)) → Option FormNumbers
divided_form None = None
divided_form (Some tokens) = form_of tokens

-- whether a text is too large
abbrev pub is_large : List (List ℕ) → Bool
is_large lines = is_larger 1000000 60 lines

-- whether a tape can have these numbers
abbrev pub is_formed : FormNumbers → Bool
is_formed form =
    nat_le 3 form.lines && nat_le form.lines 144 && is_within form.first form.lines && is_within form.overflow form.lines

-- what the lines so far said, and whether END was one of them
pub record SoFar : Type 0 where
  pub said : List Statement
  pub ended : Bool

-- before any line
abbrev pub start : SoFar
start = record { said = []; ended = false }

-- whether the panel can have a statement together with each that is said
unfoldable pub agrees_with : List Statement → Statement → Bool
agrees_with said statement = list_all (λ other. do_statements_agree other statement) said

-- what is wrong with a statement: by itself, else together with others, where it doesn't agree with them
abbrev pub fault_with : Bool → Option SetupFault → Option SetupFault
fault_with agrees (Some fault) = Some fault
fault_with agrees None = if agrees then None else Some panel.CarryRing

-- what is wrong with a statement, where these are said
abbrev pub fault_said : ℕ → List Statement → Statement → Option SetupFault
fault_said lines said statement = fault_with (agrees_with said statement) (statement_fault lines statement)

-- a statement that is new, with what is wrong with it
abbrev pub new_said : ℕ → List Statement → Statement → Option SetupFault → Result SoFar WiringFault
new_said number said statement None = Ok (record { said = said ++ statement ∷ []; ended = false })
new_said number said statement (Some fault) = Err (Unfit number fault)

-- a statement before END
abbrev pub say : ℕ → ℕ → List Statement → Statement → Result SoFar WiringFault
say lines number said statement =
    if is_said said statement then Err (LineTwice number)
    else new_said number said statement (fault_said lines said statement)

-- a line more
abbrev pub step : ℕ → ℕ → SoFar → Content → Result SoFar WiringFault
step lines number so_far Empty = Ok so_far
step lines number so_far NoLine = Err (NotALine number)
step lines number so_far End =
    if so_far.ended then Err (NotALine number) else Ok (record { said = so_far.said; ended = true })
step lines number so_far (Says statement) =
    if so_far.ended then Err (NotALine number) else say lines number so_far.said statement

-- what follows on a line, where it is not the fault
abbrev pub go_on : {A B : Type 0} → Result A WiringFault → (A → Result B WiringFault) → Result B WiringFault
go_on (Ok so_far) others = others so_far
go_on (Err fault) others = Err fault

-- after the last line
abbrev pub finished : SoFar → Result (List Statement) WiringFault
finished so_far = if so_far.ended then Ok so_far.said else Err NoEnd

-- what the lines from a number on say, on a form of so many lines
unfoldable pub lines_from : Version → ℕ → ℕ → SoFar → List (List ℕ) → Result (List Statement) WiringFault
lines_from version lines number so_far [] = finished so_far
lines_from version lines number so_far (line ∷ rest) =
    go_on (step lines number so_far (content_of version line)) (λ next. lines_from version lines (suc number) next rest)

-- what a text says: its form and its statements
pub record Told : Type 0 where
  pub form : FormNumbers
  pub statements : List Statement

-- statements of a form
abbrev pub with_form : FormNumbers → Result (List Statement) WiringFault → Result Told WiringFault
with_form form read = go_on read (λ statements. Ok (record { form = form; statements = statements }))

-- the lines after a form
abbrev pub formed_lines : Version → FormNumbers → List (List ℕ) → Result Told WiringFault
formed_lines version form others =
    if is_formed form then with_form form (lines_from version form.lines 3 start others) else Err (Unfit 2 panel.TapeFault)

-- the lines after the first two
abbrev pub headed_lines : Option Version → Option FormNumbers → List (List ℕ) → Result Told WiringFault
headed_lines (Some version) (Some form) others = formed_lines version form others
headed_lines (Some version) None others = Err NoFirstLine
headed_lines None form others = Err NoFirstLine

-- all lines of a text that is not too large
abbrev pub lines_told : List (List ℕ) → Result Told WiringFault
lines_told [] = Err NoFirstLine
lines_told (first ∷ []) = Err NoFirstLine
lines_told (first ∷ second ∷ others) = headed_lines (version_named first) (divided_form (tokens_of second)) others

-- a text
unfoldable pub text_told : List ℕ → Result Told WiringFault
text_told bytes = if is_large (lines_of bytes) then Err TooLarge else lines_told (lines_of bytes)

-- The answer is what is told, unless memory was refused.
abbrev pub Answers : Result Wiring WiringFault → Result Told WiringFault → Type 0
Answers (Ok wiring) told = (what : Told) × (told ≡ Ok what) × IsSetupOf what.form what.statements wiring
Answers (Err fault) told = (fault ≡ Memory) ⊎ (told ≡ Err fault)

-- what a line can say: a stop of channels 2 to 11, a jack that the panel has, a wire
abbrev pub IsSayable : Statement → Type 0
IsSayable (Stop channel line) = (2 ≤ channel) × (channel ≤ 11)
IsSayable (Plug j) = is_jack_in_range j ≡ true
IsSayable (Wire exit entry) = Unit {0}

abbrev pub HasSayable : Content → Type 0
HasSayable (Says statement) = IsSayable statement
HasSayable content = Unit {0}

-- the numbers of the form of a tape
abbrev pub numbers_of_tape : CarriageTape → FormNumbers
numbers_of_tape tape = record { lines = tape.lines; first = tape.first; overflow = tape.overflow }

-- the setup is that of these statements, all of which the panel can have, and each two together
pub record Holds (form : FormNumbers) (said : List Statement) (wiring : Wiring) : Type 0 where
  pub formed : IsFormed form.lines form.first form.overflow
  pub setup : IsSetupOf form said wiring
  pub fit : All (λ statement. statement_fault form.lines statement ≡ None) said
  pub together : AllPairs (λ one other. do_statements_agree one other ≡ true) said

-- what putting a statement to a setup answers, where these are said: whether it is new, or what is wrong with it
abbrev pub IsPut : FormNumbers → List Statement → Statement → Result Bool SetupFault → Wiring → Type 0
IsPut form said statement (Ok true) wiring =
    (is_said said statement ≡ false) × (fault_said form.lines said statement ≡ None)
    × Holds form (said ++ statement ∷ []) wiring
IsPut form said statement (Ok false) wiring = is_said said statement ≡ true
IsPut form said statement (Err fault) wiring =
    (fault ≡ panel.Memory) ⊎ ((is_said said statement ≡ false) × (fault_said form.lines said statement ≡ Some fault))

-- whatever was said, the setup says it still and the statement too, or tells why not
abbrev pub Puts : Statement → Wiring → Result Bool SetupFault → Wiring → Type 0
Puts statement old answer new =
    (form : FormNumbers) (said : List Statement) → Holds form said old → IsPut form said statement answer new

-- whatever was said, a line more is taken
pub record IsTaken (form : FormNumbers) (number : ℕ) (so_far : SoFar) (content : Content) (new : Wiring) (ended : Bool)
    : Type 0 where
  pub next : SoFar
  pub stepped : step form.lines number so_far content ≡ Ok next
  pub holds : Holds form next.said new
  pub end : next.ended ≡ ended

abbrev pub Takes : Content → ℕ → Wiring → Bool → Wiring → Bool → Type 0
Takes content number old old_ended new new_ended =
    (form : FormNumbers) (said : List Statement) → Holds form said old
    → IsTaken form number (record { said = said; ended = old_ended }) content new new_ended

-- whatever was said, a line is the fault
abbrev pub Refuses : Content → ℕ → Wiring → Bool → WiringFault → Type 0
Refuses content number old old_ended fault =
    (form : FormNumbers) (said : List Statement) → Holds form said old
    → (fault ≡ Memory) ⊎ (step form.lines number (record { said = said; ended = old_ended }) content ≡ Err fault)
