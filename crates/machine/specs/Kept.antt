-- Points of a cycle that are kept: what emitted at each, and which contacts were closed, by the state of the machine before it.
use Rattle.std.specs.Prelude.{◌≡◌, ℕ, ◌<◌, ◌==◌, Bool, List, [], ◌∷◌, ◌++◌, Option, Some, None, All, map, slice_index_or}
use Rattle.std.specs.List.{filter}
use Rattle.page_text.specs.declared.placed_lines.placed_line.PlacedLine.{PlacedLine}
use Rattle.hubs.specs.SetupsWords.Wiring.{Wiring}
use Rattle.hubs.specs.declared.hub.Hub.{Hub}
use Rattle.net.specs.HubSets.{has_hub}
use Rattle.net.specs.Nets.{NetRows, IsNetOf}
use Rattle.net.specs.declared.cycle.Cycle.{Cycle}
use Rattle.net.specs.declared.cycle.Point.{Point}
use Rattle.machine.specs.Cycles.{Reached, line_of, point_at}
use Rattle.machine.specs.Feeds.{Fed, FeedStep, Feeds, begun, taken}
use Rattle.machine.specs.Gains.{GainsPrefix}
use Rattle.machine.specs.Machine.{MachineState, emits, closes}
use Rattle.machine.specs.declared.kept.KeptCycle.{KeptCycle}
use Rattle.machine.specs.declared.kept.KeptPoint.{KeptPoint}

-- what is kept of a point is what this machine emits there, and which contacts it closes
pub record IsKept (cycle : Cycle) (point : Point) (machine : MachineState) (kept : KeptPoint) : Type 0 where
  pub exits : (hub : Hub) → has_hub kept.exits hub ≡ emits machine cycle point hub
  pub contacts : (hub : Hub) → has_hub kept.contacts hub ≡ closes machine cycle point hub

-- no exit emitted, and no contact was closed
abbrev pub nothing_kept : KeptPoint
nothing_kept = record { exits = record { words = [] }; contacts = record { words = [] } }

-- the point with this place, of those that are kept
abbrev pub kept_at : List KeptPoint → ℕ → KeptPoint
kept_at points place = slice_index_or points place nothing_kept

-- Each of the first points of a cycle is kept: the machine before it is reached from that before the cycle.
abbrev pub KeepsPoints : Wiring → Cycle → MachineState → ℕ → List KeptPoint → Type 0
KeepsPoints wiring cycle old count points =
    (place : ℕ) → place < count
    → (now : MachineState) × Reached wiring cycle place old now × IsKept cycle (point_at place) now (kept_at points place)

-- The cycles of a feed so far, from its start.
pub data Steps (wiring : Wiring) (start : Fed) : Fed → Type 0 where
  none : Steps wiring start start
  more :
      (cycle : Cycle) (mid now : Fed) → Steps wiring start mid → FeedStep wiring cycle mid now
      → Steps wiring start now

-- A cycle of a feed that placed a line, and its points. It is kept whether what was fed still waits when the cycle is over.
pub record PlacedInFeed (wiring : Wiring) (machine : MachineState) (next : Option (List ℕ)) (kept : KeptCycle) : Type 0 where
  pub before : Fed
  pub after : Fed
  pub steps : Steps wiring (begun machine next) before
  pub step : FeedStep wiring kept.cycle before after
  pub placed : line_of after.machine ≡ kept.line ∷ []
  pub waits : kept.waits ≡ after.waits
  pub points : KeepsPoints wiring kept.cycle (taken kept.cycle before).machine 14 kept.points

-- the line stands elsewhere
abbrev pub IsElsewhere : ℕ → ℕ → PlacedLine → Type 0
IsElsewhere page line placed = (placed.page ≡ page) × (placed.line ≡ line) → ⊥

-- a feed none of whose lines stands at a page and a line of it
pub record FeedsPast (wiring : Wiring) (machine : MachineState) (next : Option (List ℕ)) (left : MachineState) (page line : ℕ) :
    Type 0 where
  pub lines : List PlacedLine
  pub feeds : Feeds wiring machine next left lines
  pub elsewhere : All (IsElsewhere page line) lines

-- whether a line stands on a page
abbrev pub is_on : ℕ → PlacedLine → Bool
is_on page placed = placed.page == page

-- the line that a cycle placed
abbrev pub line_kept : KeptCycle → PlacedLine
line_kept kept = kept.line

-- A feed, and of its cycles, in their order, those that placed a line on a page, each with its points: these and no other.
pub record FeedsKeeping (wiring : Wiring) (machine : MachineState) (next : Option (List ℕ)) (left : MachineState) (page : ℕ)
    (kept : List KeptCycle) : Type 0 where
  pub lines : List PlacedLine
  pub feeds : Feeds wiring machine next left lines
  pub placed : All (PlacedInFeed wiring machine next) kept
  pub on_page : map line_kept kept ≡ filter (is_on page) lines

-- With the wires of a setup the kept cycles have gained those of a feed that placed a line on a page.
pub record GainsKept (net : NetRows) (machine : MachineState) (next : Option (List ℕ)) (left : MachineState) (page : ℕ)
    (old new : List KeptCycle) : Type 0 where
  pub kept : List KeptCycle
  pub gained : new ≡ old ++ kept
  pub feeds : (wiring : Wiring) → IsNetOf wiring net → FeedsKeeping wiring machine next left page kept

-- With the wires of a setup the kept cycles have gained, of the first cycles of a feed, those that placed a line on a page: these and no
-- other. The lines of these first cycles are a prefix of those of the feed.
pub record GainsSome (net : NetRows) (machine : MachineState) (next : Option (List ℕ)) (page : ℕ) (old new : List KeptCycle) :
    Type 0 where
  pub kept : List KeptCycle
  pub gained : new ≡ old ++ kept
  pub placed : (wiring : Wiring) → IsNetOf wiring net → All (PlacedInFeed wiring machine next) kept
  pub lines : List PlacedLine
  pub first : GainsPrefix net machine next [] lines
  pub on_page : map line_kept kept ≡ filter (is_on page) lines

-- Helper word: what is kept of a cycle that placed this line, or none.
abbrev pub kept_of : Cycle → (waits : Bool) → List KeptPoint → Option PlacedLine → List KeptCycle
kept_of cycle waits points None = []
kept_of cycle waits points (Some line) = record { cycle = cycle; waits = waits; points = points; line = line } ∷ []
