-- What is told of each fault: its number in the catalogue of faults, and every figure that stands beside it on the line. Want of
-- memory is told without a number.
use Rattle.std.specs.Prelude.{ℕ, Option, Some, None}
use Rattle.allocate.specs.declared.fault.CapacityFault.{CapacityFault}
use Rattle.allocate.specs.declared.fault.CapacityFault.TheVariants as capacity
use Rattle.card_code.specs.declared.deck.DeckFault.{DeckFault}
use Rattle.card_code.specs.declared.deck.DeckFault.TheVariants as deck
use Rattle.chart_rules.specs.Rules.{rule_number}
use Rattle.chart_rules.specs.declared.card.CardFault.{CardFault}
use Rattle.chart_rules.specs.declared.card.CardFault.TheVariants as card
use Rattle.chart_lines.specs.ChartsWords.Levels.{level_number, control_number}
use Rattle.fault_lines.specs.declared.faults.chart.ChartFault.{ChartFault}
use Rattle.fault_lines.specs.declared.faults.chart.ChartFault.TheVariants as chart
use Rattle.fault_lines.specs.declared.faults.deck.RunFault.{RunFault}
use Rattle.fault_lines.specs.declared.faults.deck.RunFault.TheVariants as run
use Rattle.hubs.specs.SetupsWords.SetupFaults.{setup_fault_number}
use Rattle.wiring_text.specs.declared.fault.WiringFault.{WiringFault}
use Rattle.wiring_text.specs.declared.fault.WiringFault.TheVariants as wiring
use Rattle.fault_lines.specs.declared.faults.fault.Fault.{Fault}
use Rattle.fault_lines.specs.declared.faults.fault.Fault.TheVariants.{Whole, Line, Cause, Card, Column, Counters, Capacity, Indicate, Total, Memory}

-- the fault of a card with a number, as one of a deck
abbrev pub of_card : CardFault → ℕ → RunFault
of_card (card.NotText column) number = run.NotText number column
of_card (card.NotAmount column) number = run.NotAmount number column

-- of the text of a deck: the card, and its column
abbrev pub deck_told : DeckFault → Fault
deck_told (deck.CardTooLong card) = Card 1 card
deck_told (deck.NoSuchCharacter card column) = Column 2 card column
deck_told deck.TooManyCards = Whole 3
deck_told deck.Memory = Memory

-- of the cards of a deck: the card and the first column of its field, or the total's level, name and last card
abbrev pub run_told : RunFault → Fault
run_told run.TooManyCards = Whole 3
run_told (run.NotText card column) = Column 41 card column
run_told (run.NotAmount card column) = Column 42 card column
run_told (run.DoesNotFit level name card) = Total 43 (level_number level) name card
run_told run.Memory = Memory

-- of a capacity that a chart exceeds: how many are wanted and how many are there, by the width or the level where there are several,
-- or the line of a text that is too wide
abbrev pub capacity_told : CapacityFault → Fault
capacity_told (capacity.Counters width wanted there) = Counters 61 width wanted there
capacity_told (capacity.Pilots wanted there) = Capacity 62 wanted there
capacity_told (capacity.Comparing wanted there) = Capacity 63 wanted there
capacity_told (capacity.StorageWidth line) = Line 64 line
capacity_told (capacity.StorageUnits wanted there) = Capacity 65 wanted there
capacity_told (capacity.Splits wanted there) = Capacity 66 wanted there
capacity_told (capacity.Indicate level wanted there) = Indicate 67 (control_number level) wanted there
capacity_told capacity.Memory = Memory

-- of a chart: the line, by the number of the rule that it breaks
abbrev pub chart_told : ChartFault → Fault
chart_told chart.TooLarge = Whole 11
chart_told chart.NoFirstLine = Whole 12
chart_told (chart.NotALine line) = Line 13 line
chart_told chart.NoEnd = Whole 14
chart_told (chart.Rule rule line) = Line (rule_number rule) line
chart_told (chart.Capacity fault) = capacity_told fault
chart_told chart.Memory = Memory

-- of a line of a wiring chart that the panel can't have: the line, and the number of the cause if it has one
abbrev pub unfit_told : ℕ → Option ℕ → Fault
unfit_told line (Some cause) = Cause 75 line cause
unfit_told line None = Line 75 line

-- of a wiring chart: the line, and the cause where the panel can't have what it says
abbrev pub wiring_told : WiringFault → Fault
wiring_told wiring.TooLarge = Whole 71
wiring_told wiring.NoFirstLine = Whole 72
wiring_told (wiring.NotALine line) = Line 73 line
wiring_told (wiring.LineTwice line) = Line 74 line
wiring_told (wiring.Unfit line cause) = unfit_told line (setup_fault_number cause)
wiring_told wiring.NoEnd = Whole 76
wiring_told wiring.Memory = Memory
