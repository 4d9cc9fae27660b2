-- Laws of the text of an explanation: only the line of a row tells a way, no note names who asks for wires, and what a note tells of a counter
-- group that is read out is so.
use Rattle.std.specs.Prelude.{◌≡◌, ℕ, ◌+◌, ◌<◌, Bool, true, List, Contains, decimal}
use Rattle.std.specs.List.{flat_map}
use Rattle.explain_wheels.specs.ExplanationsWords.Explanations.{IsExplanation}
use Rattle.explain_wheels.specs.ExplanationsWords.PlacedInRun.{machine_before}
use Rattle.explain_wheels.specs.declared.explanations.explanation.Explanation.{Explanation}
use Rattle.hubs.specs.declared.hub.Group.{Group}
use Rattle.hubs.specs.declared.hub.Hub.{Hub}
use Rattle.hubs.specs.declared.hub.Hub.TheVariants.{GX, RO}
use Rattle.counters.specs.Counters.{Counter}
use Rattle.machine.specs.Kept.{kept_at}
use Rattle.machine.specs.Machine.{MachineState, closes, emits}
use Rattle.machine.specs.declared.kept.KeptPoint.{KeptPoint}
use Rattle.net.specs.HubSets.{has_hub}
use Rattle.net.specs.Impulsed.{IsImpulsed}
use Rattle.net.specs.declared.cycle.Cycle.{Cycle}
use Rattle.net.specs.declared.cycle.Point.TheVariants.{C}
use Rattle.hubs.specs.SetupsWords.Wiring.{Wiring}
use Rattle.explain_words.specs.ExplanationText.Asked.{asking_line}
use Rattle.explain_words.specs.ExplanationText.Closing.{character_line, rows_listed, zero_control_line}
use Rattle.explain_words.specs.ExplanationText.Notes.{contact_note, exit_note, held_text, note_line}
use Rattle.explain_words.specs.ExplanationText.Text.{cycle_line, page_line, row_line}

-- a line that reads as the way of a row
pub record TellsWay (line : List ℕ) : Type 0 where
  pub place : ℕ
  pub way : List Hub
  pub is_row : place < 12
  pub spelled : line ≡ row_line place way

-- Neither the first two lines of a text, nor a note, nor a line that names who asks for wires, nor one behind the rows reads as a way.
pub record OnlyRowsTellWays : Type 0 where
  pub page : (told : Explanation) → TellsWay (page_line told) → ⊥
  pub cycle : (cycle : Cycle) (waits : Bool) (cards : ℕ) → TellsWay (cycle_line cycle waits cards) → ⊥
  pub note : (words : List ℕ) → TellsWay (note_line words) → ⊥
  pub asked : (words : List ℕ) → TellsWay (asking_line words) → ⊥
  pub character : (received : List Bool) (character : ℕ) → TellsWay (character_line (rows_listed received) character) → ⊥
  pub control :
      (wiring : Wiring) (received : List Bool) (told : Explanation) → TellsWay (zero_control_line wiring received told) → ⊥

-- No note reads as a line that names who asks for wires.
pub record NoNoteAsksForWires : Type 0 where
  pub exits :
      (words : List ℕ) (card : ℕ) (cycle : Cycle) (points : List KeptPoint) (place : ℕ) (exit : Hub)
      → exit_note card cycle points place exit ≡ asking_line words → ⊥
  pub contacts : (words : List ℕ) (common exit : Hub) → contact_note common exit ≡ asking_line words → ⊥

-- A counter group of a machine holds the digits of a text just before a cycle, the top one first, and is told to read out: at the control point
-- of the cycle an impulse comes to its read-out entry.
pub record IsReadOut (wiring : Wiring) (cycle : Cycle) (before : MachineState) (group : Group) (held : List ℕ) : Type 0 where
  pub counter : Counter
  pub listed : Contains before.groups counter
  pub named : counter.name ≡ group
  pub digits : held ≡ flat_map decimal counter.digits
  pub told : IsImpulsed wiring (emits before cycle C) (closes before cycle C) (RO group)

-- So it is with each group at whose exit a way of an explanation can begin, as one of its exits emitted at a row of the cycle, and with what is
-- told of it.
abbrev pub GroupsAreAsTold : Type 0
GroupsAreAsTold =
    (wiring : Wiring) (deck : List (List ℕ)) (page line wheel : ℕ) (told : Explanation)
    (is : IsExplanation wiring deck page line wheel told) (place : ℕ) (group : Group) (position : ℕ)
    → place < 12 → has_hub (kept_at is.points (place + 1)).exits (GX group position) ≡ true
    → IsReadOut wiring told.cycle (machine_before is.run) group (held_text is.points group)
