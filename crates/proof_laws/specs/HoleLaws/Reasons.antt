-- Why the program cycles of a level run: what is told of it by holes is what comparing finds and what the program unit takes.
use Rattle.std.specs.Prelude.{◌≡◌, ◌↔◌, ℕ, ◌+◌, ◌<◌, ◌≤◌, ◌==◌, not, Bool, true, false, List, [], Contains, is_some, length}
use Rattle.card_code.specs.Rows.{rows}
use Rattle.card_code.specs.declared.row.Row.{Row as CardRow}
use Rattle.hubs.specs.Hubs.{is_within}
use Rattle.hubs.specs.declared.hub.Hub.{Hub}
use Rattle.hubs.specs.declared.hub.Hub.TheVariants.{CA, CB, CX, ST}
use Rattle.explain_ledgers.specs.LedgersWords.Ledgers.{Along, ComesTo, Goes, card_in, ready}
use Rattle.explain_ledgers.specs.LedgersWords.Running.{HasCycle}
use Rattle.program_unit.specs.CycleOrder.{levels_to}
use Rattle.program_unit.specs.Laws.{levels_with}
use Rattle.machine.specs.Cycles.{PointStep, Reached}
use Rattle.machine.specs.Machine.{MachineState, closes, emits}
use Rattle.machine.specs.Runs.{has_more}
use Rattle.net.specs.Cycles.{level_number}
use Rattle.net.specs.Impulsed.{IsImpulsed}
use Rattle.net.specs.declared.cycle.Cycle.TheVariants.{Card, Prog}
use Rattle.net.specs.declared.cycle.Ordinal.{Ordinal}
use Rattle.net.specs.declared.cycle.Point.TheVariants.{Row, K}
use Rattle.net.specs.declared.cycle.ProgramLevel.{ProgramLevel}
use Rattle.explain_origins.specs.Holes.{hole_to}
use Rattle.explain_origins.specs.Levels.{called_by, called_text, is_of_brushes, last_text, unlike_lines}
use Rattle.hubs.specs.SetupsWords.Wiring.{HasWire, LeadsToEntries, Wiring}

-- The card with a number is read in a cycle of a run, and so many points of that cycle lead to a machine.
pub record IsReading (wiring : Wiring) (deck : List (List ℕ)) (card points : ℕ) (now : MachineState) : Type 0 where
  pub along : Along
  pub comes : ComesTo wiring deck along
  pub behind : MachineState
  pub goes : Goes wiring Card along behind
  pub numbered : card ≡ along.card + 1
  pub reached : Reached wiring Card points (ready Card along) now

-- the entries of a comparing position
pub data IsEntryOf (position : ℕ) : Hub → Type 0 where
  first_entry : IsEntryOf position (CA position)
  second_entry : IsEntryOf position (CB position)

-- If wires lead to an entry of a comparing position from brushes alone, then it is impulsed when a row of the card passes exactly if a hole
-- is told for it.
abbrev pub HolesTellCompared : Type 0
HolesTellCompared =
    (wiring : Wiring) (deck : List (List ℕ)) (card points position : ℕ) (now : MachineState) (entry : Hub) (row : CardRow)
    → LeadsToEntries wiring → IsReading wiring deck card points now → IsEntryOf position entry → is_of_brushes wiring entry ≡ true
    → (is_some (hole_to wiring deck card row entry) ≡ true)
    ↔ IsImpulsed wiring (emits now Card (Row row)) (closes now Card (Row row)) entry

-- a line of a row is told of a comparing position
abbrev pub has_lines : Wiring → List (List ℕ) → (card position : ℕ) → Bool
has_lines wiring deck card position = not (length (unlike_lines wiring deck card position rows) == 0)

-- If wires lead to both of its entries from brushes alone, then a comparing position emits at the closing point, which is behind 13 others,
-- exactly if a line is told of it.
abbrev pub LinesTellDifferences : Type 0
LinesTellDifferences =
    (wiring : Wiring) (deck : List (List ℕ)) (card position : ℕ) (now : MachineState)
    → LeadsToEntries wiring → IsReading wiring deck card 13 now → is_within position 30 ≡ true
    → is_of_brushes wiring (CA position) ≡ true → is_of_brushes wiring (CB position) ≡ true
    → emits now Card K (CX position) ≡ has_lines wiring deck card position

-- A comparing position calls a level: it emits at the closing point, a wire leads from it to the entry of the level, which is impulsed there, and
-- the program unit takes this level or a higher one.
pub record CallsLevel (wiring : Wiring) (position called : ℕ) (now behind : MachineState) : Type 0 where
  pub emitted : emits now Card K (CX position) ≡ true
  pub wired : HasWire wiring (CX position) (ST called)
  pub impulsed : IsImpulsed wiring (emits now Card K) (closes now Card K) (ST called)
  pub taken : called ≤ levels_to behind.program.highest

-- wires lead to both entries of a comparing position from brushes alone
pub record IsOfBrushes (wiring : Wiring) (position : ℕ) : Type 0 where
  pub first : is_of_brushes wiring (CA position) ≡ true
  pub second : is_of_brushes wiring (CB position) ≡ true

-- Of all comparing positions that are wired from brushes alone, those of which no line is told call no level.
abbrev pub OthersCallNoLevel : Type 0
OthersCallNoLevel =
    (wiring : Wiring) (deck : List (List ℕ)) (card position called : ℕ) (now behind : MachineState)
    → LeadsToEntries wiring → IsReading wiring deck card 13 now → IsOfBrushes wiring position
    → has_lines wiring deck card position ≡ false → CallsLevel wiring position called now behind → ⊥

-- no lower position that is wired from brushes alone calls this level or a higher one
abbrev pub NoneBelowCalls : Wiring → (position level : ℕ) → (now behind : MachineState) → Type 0
NoneBelowCalls wiring position level now behind =
    (lower called : ℕ) → lower < position → level ≤ called → IsOfBrushes wiring lower → CallsLevel wiring lower called now behind → ⊥

-- A text tells why a level runs: either that no card stands behind this one, or that a comparing position that is wired from brushes alone calls
-- this level or a higher one, with all lines of that position, one at least. No lower such position calls such a level.
pub data IsReason (wiring : Wiring) (deck : List (List ℕ)) (card level : ℕ) (now behind : MachineState) : List ℕ → Type 0 where
  last : has_more behind ≡ false → IsReason wiring deck card level now behind (last_text level card)
  called_from :
      (position called : ℕ) → IsOfBrushes wiring position → level ≤ called → CallsLevel wiring position called now behind
      → has_lines wiring deck card position ≡ true
      → NoneBelowCalls wiring position level now behind
      → IsReason wiring deck card level now behind (called_text level card position called (unlike_lines wiring deck card position rows))

-- A text tells why a level runs, in the cycle of a run that read the card; and the level is one of those that run with the card.
pub record IsWhy (wiring : Wiring) (deck : List (List ℕ)) (card : ℕ) (level : ProgramLevel) (text : List ℕ) : Type 0 where
  pub now : MachineState
  pub reading : IsReading wiring deck card 13 now
  pub behind : MachineState
  pub closing : PointStep wiring Card K now behind
  pub reason : IsReason wiring deck card (level_number level) now behind text
  pub runs : Contains (levels_with closing.picture (has_more behind)) level

-- If a text is told for a program cycle of a run, then it tells why the cycle runs.
abbrev pub ReasonsHold : Type 0
ReasonsHold =
    (wiring : Wiring) (deck : List (List ℕ)) (passed : ℕ) (has : HasCycle wiring deck passed) (level : ProgramLevel) (ordinal : Ordinal)
    → LeadsToEntries wiring → has.cycle ≡ Prog level ordinal
    → (called_by wiring deck (card_in has.cycle has.along.card) has.cycle ≡ [] → ⊥)
    → IsWhy wiring deck (card_in has.cycle has.along.card) level (called_by wiring deck (card_in has.cycle has.along.card) has.cycle)
