-- A part of a trace: the lines of some cycles of a run, which follow one another, and how many cycles there are before them and in all.
use Rattle.std.specs.Prelude.{◌≡◌, ℕ, ◌&&◌, Bool, List, length, nat_le, nat_lt, take}
use Rattle.std.specs.List.{filter, flat_map}
use Rattle.page_text.specs.declared.placed_lines.placed_line.PlacedLine.{PlacedLine}
use Rattle.hubs.specs.SetupsWords.Wiring.{Wiring}
use Rattle.machine.specs.Runs.{MachineLines}
use Rattle.explain_words.specs.TracesWords.Traces.{AreCycles, ToldCycle, told_line}
use Rattle.explain_words.specs.declared.traces.parts.CycleChoice.{CycleChoice}
use Rattle.explain_words.specs.declared.traces.parts.TracePart.{TracePart}

-- A cycle is chosen by the card that was read last: its number is one of those from the first to the last. Since that number never falls,
-- the cycles that are chosen follow one another.
abbrev pub is_before : CycleChoice → ToldCycle → Bool
is_before choice cycle = nat_lt cycle.card choice.first_card

abbrev pub is_within : CycleChoice → ToldCycle → Bool
is_within choice cycle = nat_le choice.first_card cycle.card && nat_le cycle.card choice.last_card

-- the cycles that are chosen: of those within the choice the first ones, so many at most
abbrev pub chosen : CycleChoice → List ToldCycle → List ToldCycle
chosen choice cycles = take choice.most (filter (is_within choice) cycles)

-- the part of the cycles so far: how many come before those within the choice, how many there are in all, and the lines of those chosen
pub record IsPartOf (choice : CycleChoice) (cycles : List ToldCycle) (part : TracePart) : Type 0 where
  pub before : part.before ≡ length (filter (is_before choice) cycles)
  pub all : part.all ≡ length cycles
  pub count : part.count ≡ length (chosen choice cycles)
  pub text : part.text.items ≡ flat_map told_line (chosen choice cycles)

-- The part of the trace of a deck on a panel: it is of all cycles of the run, up to where none is due any more. It also tells how many lines
-- the run prints.
pub record IsTracePart (wiring : Wiring) (deck : List (List ℕ)) (choice : CycleChoice) (part : TracePart) : Type 0 where
  pub cycles : List ToldCycle
  pub are_cycles : AreCycles wiring deck cycles
  pub is_part : IsPartOf choice cycles part
  pub lines : List PlacedLine
  pub prints : MachineLines wiring deck lines
  pub counted : part.lines ≡ length lines
