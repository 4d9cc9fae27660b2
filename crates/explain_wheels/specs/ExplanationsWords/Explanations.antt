-- Why a wheel of a printed line printed its character.
use Rattle.std.specs.Prelude.{◌≡◌, ◌↔◌, ℕ, ◌+◌, ◌-◌, ◌<◌, ◌≤◌, Bool, true, false, List, Option, None, IfSome, IsSome, is_some, Vec, map, length, slice_index_or}
use Rattle.std.specs.declared.alloc.Global.{Global}
use Rattle.card_code.specs.Rows.{rows}
use Rattle.card_code.specs.declared.row.Row.{Row as CardRow}
use Rattle.card_code.specs.declared.row.Row.TheVariants.{Nine}
use Rattle.page_text.specs.declared.placed_lines.placed_line.PlacedLine.{PlacedLine}
use Rattle.hubs.specs.declared.hub.Hub.{Hub}
use Rattle.hubs.specs.declared.hub.Hub.TheVariants.{W}
use Rattle.hubs.specs.declared.jack.Jack.TheVariants.{Link}
use Rattle.hubs.specs.SetupsWords.Wiring.{Wiring, is_plugged}
use Rattle.net.specs.HubSets.{has_hub}
use Rattle.net.specs.Impulsed.{IsImpulsed, IsPicture}
use Rattle.net.specs.declared.cycle.Cycle.{Cycle}
use Rattle.net.specs.declared.cycle.Point.{Point}
use Rattle.machine.specs.Cycles.{Reached, point_at}
use Rattle.machine.specs.Kept.{KeepsPoints, kept_at}
use Rattle.machine.specs.Machine.{MachineState, closes, emits}
use Rattle.machine.specs.declared.kept.KeptPoint.{KeptPoint}
use Rattle.print_unit.specs.Wheels.{wheel_at_start}
use Rattle.print_unit.specs.ZeroControl.{has_zero_control, is_figure, shown}
use Rattle.explain_wheels.specs.WaysWords.Ways.{IsWay}
use Rattle.proof_cycles.specs.WholeCycles.WholeCycles.{row_emits, rows_received}
use Rattle.explain_wheels.specs.ExplanationsWords.PlacedInRun.{PlacedInRun, machine_before}
use Rattle.explain_wheels.specs.declared.explanations.explanation.Explanation.{Explanation}
use Rattle.explain_wheels.specs.declared.explanations.significance.Giver.{Giver}
use Rattle.explain_wheels.specs.declared.explanations.significance.Significance.{Significance}
use Rattle.explain_wheels.specs.declared.explanations.significance.Significance.TheVariants.{Uncontrolled, From, Absent}

-- What is told of a hub at a point: a way where it is impulsed, and only there.
pub record IsTold (wiring : Wiring) (point : KeptPoint) (hub : Hub) (found : Option (Vec Hub Global)) : Type 0 where
  pub way : IfSome found (λ way. IsWay wiring (has_hub point.exits) (has_hub point.contacts) hub way.items)
  pub exactly : IsSome found ↔ IsImpulsed wiring (has_hub point.exits) (has_hub point.contacts) hub

-- It is told of a hub at the first rows of a cycle, which are the points behind the first one.
pub record TellsRows (wiring : Wiring) (points : List KeptPoint) (count : ℕ) (hub : Hub) (rows : List (Option (Vec Hub Global))) :
    Type 0 where
  pub long : length rows ≡ count
  pub told : (row : ℕ) → row < count → IsTold wiring (kept_at points (row + 1)) hub (slice_index_or rows row None)

-- What is told of a hub at a point of a cycle, by the state of the machine just before that point: a way if the hub is impulsed, from an
-- exit that emits then, by wires of the setup and contacts that are closed then, and only if it is.
pub record TellsPoint (wiring : Wiring) (cycle : Cycle) (old : MachineState) (place : ℕ) (hub : Hub) (found : Option (Vec Hub Global)) :
    Type 0 where
  pub now : MachineState
  pub reached : Reached wiring cycle place old now
  pub way : IfSome found (λ way. IsWay wiring (emits now cycle (point_at place)) (closes now cycle (point_at place)) hub way.items)
  pub exactly : IsSome found ↔ IsImpulsed wiring (emits now cycle (point_at place)) (closes now cycle (point_at place)) hub

-- the row of a card that passes at a place in the order of the points
abbrev pub row_passing : ℕ → CardRow
row_passing place = slice_index_or rows place Nine

-- What the machine saw at a row of a cycle: the picture of the impulsed hubs, by its state just before that row. What emitted there, and
-- which contacts were closed, hangs on the state before the cycle, and on what was told to read out at the control point: the punches of
-- the cards at the stations, the digits of counter groups, the columns of storage units, the emitter of the cycle; the latches, the
-- pilots, the splits.
pub record SeesRow (wiring : Wiring) (cycle : Cycle) (old : MachineState) (pictures : Point → Hub → Bool) (row : ℕ) : Type 0 where
  pub now : MachineState
  pub reached : Reached wiring cycle (row + 1) old now
  pub exits : (hub : Hub) → emits now cycle (point_at (row + 1)) hub ≡ row_emits old pictures cycle (row_passing row) hub
  pub contacts : (hub : Hub) → closes now cycle (point_at (row + 1)) hub ≡ closes old cycle (point_at (row + 1)) hub
  pub picture :
      IsPicture wiring (emits now cycle (point_at (row + 1))) (closes now cycle (point_at (row + 1))) (pictures (point_at (row + 1)))

-- One wheel gives another its significance: it stands to the left and received a figure, and LINK is plugged on each wheel behind it,
-- up to the other.
pub record GivesSignificance (wiring : Wiring) (pictures : Point → Hub → Bool) (from to : ℕ) : Type 0 where
  pub first : 1 ≤ from
  pub left : from < to
  pub figure : is_figure (rows_received pictures from) ≡ true
  pub linked : (wheel : ℕ) → from < wheel → wheel ≤ to → is_plugged wiring (Link wheel) ≡ true

-- The figure among rows that were received: one of the rows 9 to 1, which come first.
pub record HasFigure (received : List Bool) (figure : ℕ) : Type 0 where
  pub least : 1 ≤ figure
  pub most : figure ≤ 9
  pub has : slice_index_or received (9 - figure) false ≡ true

-- The nearest wheel that gives another its significance, and the figure that it received.
pub record IsGiver (wiring : Wiring) (pictures : Point → Hub → Bool) (giver : Giver) (to : ℕ) : Type 0 where
  pub gives : GivesSignificance wiring pictures giver.wheel to
  pub nearest : (nearer : ℕ) → giver.wheel < nearer → GivesSignificance wiring pictures nearer to → ⊥
  pub figure : HasFigure (rows_received pictures giver.wheel) giver.figure

-- What is told of a wheel's significance: that the cycle has no zero control; or the nearest wheel that gives it; or that none does.
abbrev pub TellsSignificance : Wiring → (Point → Hub → Bool) → Cycle → ℕ → Significance → Type 0
TellsSignificance wiring pictures cycle wheel Uncontrolled = has_zero_control cycle ≡ false
TellsSignificance wiring pictures cycle wheel (From giver) = (has_zero_control cycle ≡ true) × IsGiver wiring pictures giver wheel
TellsSignificance wiring pictures cycle wheel Absent =
    (has_zero_control cycle ≡ true) × ((from : ℕ) → GivesSignificance wiring pictures from wheel → ⊥)

-- whether a wheel of which this is told has significance
abbrev pub is_significant : Significance → Bool
is_significant Uncontrolled = true
is_significant (From giver) = true
is_significant Absent = false

-- the character that stands on a wheel of a line
abbrev pub character_on : PlacedLine → ℕ → ℕ
character_on line wheel = slice_index_or line.text (wheel - 1) 0

-- An explanation of a wheel of a printed line. In the machine's run over the deck its cycle placed the line at the page and the line
-- of it. It tells whether the card's own cycle was still to come then, and its points are kept. At each row, a point behind the first
-- one, a way is told exactly if the wheel was impulsed. The character is that of the line, and it is what the wheel shows that received
-- exactly the rows that are told, has the jacks of the setup, and has significance as it is told.
pub record IsExplanation (wiring : Wiring) (deck : List (List ℕ)) (page line wheel : ℕ) (told : Explanation) : Type 0 where
  pub run : PlacedInRun wiring deck told.cards told.cycle told.line
  pub waits : told.waits ≡ run.after.waits
  pub points : List KeptPoint
  pub kept : KeepsPoints wiring told.cycle (machine_before run) 14 points
  pub at_page : told.line.page ≡ page
  pub at_line : told.line.line ≡ line
  pub at_wheel : told.wheel ≡ wheel
  pub long : length told.rows.items ≡ 12
  pub rows :
      (row : ℕ) → row < 12
      → TellsPoint wiring told.cycle (machine_before run) (row + 1) (W wheel) (slice_index_or told.rows.items row None)
  pub pictures : Point → Hub → Bool
  pub seen : (row : ℕ) → row < 12 → SeesRow wiring told.cycle (machine_before run) pictures row
  pub significance : TellsSignificance wiring pictures told.cycle wheel told.significance
  pub printed : told.character ≡ character_on told.line wheel
  pub shows :
      told.character
      ≡ shown (is_significant told.significance) (record (wheel_at_start wiring wheel) { received = map is_some told.rows.items })

-- It is an explanation by these points.
pub record ExplainsBy (points : List KeptPoint) (wiring : Wiring) (deck : List (List ℕ)) (page line wheel : ℕ) (told : Explanation) :
    Type 0 where
  pub is : IsExplanation wiring deck page line wheel told
  pub by : is.points ≡ points
