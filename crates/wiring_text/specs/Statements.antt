-- The lines of a wiring chart: what the tokens of a line between FORM and END say, and what is wrong with what they say.
use Rattle.std.specs.Prelude.{◌≡◌, ◌≢◌, ℕ, ◌≤◌, List, [], ◌∷◌, ◌||◌, not, Bool, true, Option, Some, None, codes, if◌then◌else◌}
use Rattle.hubs.specs.Carries.{do_wires_agree, keeps_carry}
use Rattle.hubs.specs.Hubs.{is_exit_hub, is_entry_hub}
use Rattle.hubs.specs.HubTable.Ranges.{is_within}
use Rattle.hubs.specs.declared.setups.fault.SetupFault.{SetupFault}
use Rattle.hubs.specs.declared.setups.fault.SetupFault.TheVariants.{NotExit, NotEntry, CarryRing, TapeFault}
use Rattle.hubs.specs.declared.hub.Hub.{Hub}
use Rattle.hubs.specs.declared.jack.Jack.{Jack}
use Rattle.hubs.specs.declared.jack.Jack.TheVariants as jacks
use Rattle.chart_lines.specs.TokensWords.Number.{IsNumber, IsNumberTo}
use Rattle.wiring_text.specs.HubNames.{IsGroup, IsHubName, carry_entry, carry_exit, hub_of, is_carry}
use Rattle.wiring_text.specs.declared.statement.HubName.{HubName}
use Rattle.wiring_text.specs.declared.statement.Statement.{Statement}
use Rattle.wiring_text.specs.declared.statement.Statement.TheVariants.{Stop, Plug, Wire}
use Rattle.wiring_text.specs.declared.statement.Version.{Version}
use Rattle.wiring_text.specs.declared.statement.Version.TheVariants.{First, Second}

-- a jack that the panel has
pub data SaysJack : List (List ℕ) → Jack → Type 0 where
  list : SaysJack (codes "LIST" ∷ []) jacks.List
  total : {token : List ℕ} {level : ℕ} → IsNumberTo 4 token level → SaysJack (codes "TOTAL" ∷ token ∷ []) (jacks.Total level)
  head : {token : List ℕ} {heading : ℕ} → IsNumberTo 3 token heading → SaysJack (codes "HEAD" ∷ token ∷ []) (jacks.Head heading)
  link : {token : List ℕ} {wheel : ℕ} → IsNumberTo 120 token wheel → SaysJack (codes "LINK" ∷ token ∷ []) (jacks.Link wheel)
  suppress : {token : List ℕ} {wheel : ℕ} → IsNumberTo 120 token wheel
      → SaysJack (codes "SUPPRESS" ∷ token ∷ []) (jacks.Suppress wheel)
  symbol : {token : List ℕ} {wheel : ℕ} → IsNumberTo 120 token wheel → SaysJack (codes "SYMBOL" ∷ token ∷ []) (jacks.Symbol wheel)

-- whether a line WIRE may name these hubs: in version 2 no carry hub
abbrev pub may_be_wired : Version → HubName → HubName → Bool
may_be_wired First exit entry = true
may_be_wired Second exit entry = not (is_carry exit.letters || is_carry entry.letters)

-- The kinds of lines, and what each says. In version 2 RING is the wire from the carry exit of a counter group to its carry entry,
-- and COUPLE that from the carry exit of a group of 8 positions to the carry entry of another.
pub data Says (version : Version) : List (List ℕ) → Statement → Type 0 where
  stop : {channel line : List ℕ} {c n : ℕ} → IsNumberTo 11 channel c → 2 ≤ c → IsNumber line n
      → Says version (codes "STOP" ∷ channel ∷ line ∷ []) (Stop c n)
  plug : {operands : List (List ℕ)} {j : Jack} → SaysJack operands j → Says version (codes "JACK" ∷ operands) (Plug j)
  wire : {from to : List ℕ} {exit entry : HubName} → IsHubName from exit → IsHubName to entry
      → may_be_wired version exit entry ≡ true → Says version (codes "WIRE" ∷ from ∷ to ∷ []) (Wire exit entry)
  ring : {group : List ℕ} {width n : ℕ} → version ≡ Second → IsGroup group width n
      → Says version (codes "RING" ∷ group ∷ []) (Wire (carry_exit width n) (carry_entry width n))
  couple : {from to : List ℕ} {m n : ℕ} → version ≡ Second → IsNumber from m → IsNumber to n → m ≢ n
      → Says version (codes "COUPLE" ∷ from ∷ to ∷ []) (Wire (carry_exit 8 m) (carry_entry 8 n))

-- what is wrong with a wire between two hubs by itself, asked in this order: no exit, no entry, a carry that can't go that way
abbrev pub fault_between : Hub → Hub → Option SetupFault
fault_between exit entry =
    if not (is_exit_hub exit) then Some NotExit
    else if not (is_entry_hub entry) then Some NotEntry
    else if not (keeps_carry exit entry) then Some CarryRing
    else None

-- what is wrong with a wire between two named hubs: a name of no hub is that of no exit and of no entry
abbrev pub wire_fault : Option Hub → Option Hub → Option SetupFault
wire_fault None entry = Some NotExit
wire_fault (Some exit) None = if is_exit_hub exit then Some NotEntry else Some NotExit
wire_fault (Some exit) (Some entry) = fault_between exit entry

-- what is wrong with what a line says by itself, on a form of so many lines
abbrev pub statement_fault : ℕ → Statement → Option SetupFault
statement_fault lines (Stop channel line) = if is_within line lines then None else Some TapeFault
statement_fault lines (Plug j) = None
statement_fault lines (Wire exit entry) = wire_fault (hub_of exit) (hub_of entry)

-- whether two wires between named hubs can be there together
abbrev pub do_hubs_agree : Option Hub → Option Hub → Option Hub → Option Hub → Bool
do_hubs_agree (Some exit) (Some entry) (Some other) (Some next) = do_wires_agree exit entry other next
do_hubs_agree exit entry other next = true

-- whether the panel can have what two lines say together: their carries agree
abbrev pub do_statements_agree : Statement → Statement → Bool
do_statements_agree (Wire exit entry) (Wire other next) = do_hubs_agree (hub_of exit) (hub_of entry) (hub_of other) (hub_of next)
do_statements_agree one other = true
