-- What is told of each fault has the numbers of faults.
use Rattle.std.proofs.Common.{◌≡◌, ℕ, true, refl}
use Rattle.allocate.specs.declared.fault.CapacityFault.{CapacityFault}
use Rattle.allocate.specs.declared.fault.CapacityFault.TheVariants as capacity
use Rattle.card_code.specs.declared.deck.DeckFault.{DeckFault}
use Rattle.card_code.specs.declared.deck.DeckFault.TheVariants as deck
use Rattle.chart_rules.specs.Rules.{rule_number}
use Rattle.chart_rules.specs.declared.rule.Rule.{Rule}
use Rattle.chart_rules.specs.declared.rule.Rule.TheVariants as rule
use Rattle.fault_lines.specs.FaultsWords.ToldFaults.{capacity_told, chart_told, deck_told, run_told, unfit_told, wiring_told}
use Rattle.fault_lines.specs.declared.faults.chart.ChartFault.{ChartFault}
use Rattle.fault_lines.specs.declared.faults.chart.ChartFault.TheVariants as chart
use Rattle.fault_lines.specs.declared.faults.deck.RunFault.{RunFault}
use Rattle.fault_lines.specs.declared.faults.deck.RunFault.TheVariants as run
use Rattle.hubs.specs.SetupsWords.SetupFaults.{setup_fault_number}
use Rattle.hubs.specs.declared.setups.fault.SetupFault.{SetupFault}
use Rattle.hubs.specs.declared.setups.fault.SetupFault.TheVariants as unfit
use Rattle.wiring_text.specs.declared.fault.WiringFault.{WiringFault}
use Rattle.wiring_text.specs.declared.fault.WiringFault.TheVariants as wiring
use Rattle.fault_lines.specs.FaultGuide.Numbered.{HasEntries, ToldFaultsHaveEntries, is_numbered}

of-deck : (fault : DeckFault) → HasEntries (deck_told fault)
of-deck (deck.CardTooLong card) = refl
of-deck (deck.NoSuchCharacter card column) = refl
of-deck deck.TooManyCards = refl
of-deck deck.Memory = tt

of-run : (fault : RunFault) → HasEntries (run_told fault)
of-run run.TooManyCards = refl
of-run (run.NotText card column) = refl
of-run (run.NotAmount card column) = refl
of-run (run.DoesNotFit level name card) = refl
of-run run.Memory = tt

of-rule : (broken : Rule) → is_numbered (rule_number broken) ≡ true
of-rule rule.NameTwice = refl
of-rule rule.Columns = refl
of-rule rule.AmountSize = refl
of-rule rule.UnknownName = refl
of-rule rule.WrongKind = refl
of-rule rule.LineTwice = refl
of-rule rule.NoControl = refl
of-rule rule.TotalTextNotControl = refl
of-rule rule.DigitsRange = refl
of-rule rule.DigitsShrink = refl
of-rule rule.MarkMismatch = refl
of-rule rule.WheelRange = refl
of-rule rule.WheelOverlap = refl
of-rule rule.WheelClash = refl
of-rule rule.PrintKind = refl
of-rule rule.Form = refl
of-rule rule.Tape = refl
of-rule rule.CoupledMark = refl

of-capacity : (fault : CapacityFault) → HasEntries (capacity_told fault)
of-capacity (capacity.Counters width wanted there) = refl
of-capacity (capacity.Pilots wanted there) = refl
of-capacity (capacity.Comparing wanted there) = refl
of-capacity (capacity.StorageWidth line) = refl
of-capacity (capacity.StorageUnits wanted there) = refl
of-capacity (capacity.Splits wanted there) = refl
of-capacity (capacity.Indicate level wanted there) = refl
of-capacity capacity.Memory = tt

of-chart : (fault : ChartFault) → HasEntries (chart_told fault)
of-chart chart.TooLarge = refl
of-chart chart.NoFirstLine = refl
of-chart (chart.NotALine line) = refl
of-chart chart.NoEnd = refl
of-chart (chart.Rule broken line) = of-rule broken
of-chart (chart.Capacity fault) = of-capacity fault
of-chart chart.Memory = tt

of-unfit : (line : ℕ) (cause : SetupFault) → HasEntries (unfit_told line (setup_fault_number cause))
of-unfit line unfit.NotExit = (refl, refl)
of-unfit line unfit.NotEntry = (refl, refl)
of-unfit line unfit.CarryRing = (refl, refl)
of-unfit line unfit.TapeFault = (refl, refl)
of-unfit line unfit.Memory = refl

of-wiring : (fault : WiringFault) → HasEntries (wiring_told fault)
of-wiring wiring.TooLarge = refl
of-wiring wiring.NoFirstLine = refl
of-wiring (wiring.NotALine line) = refl
of-wiring (wiring.LineTwice line) = refl
of-wiring (wiring.Unfit line cause) = of-unfit line cause
of-wiring wiring.NoEnd = refl
of-wiring wiring.Memory = tt

pub told-have : ToldFaultsHaveEntries
told-have = record {
  of_deck = of-deck;
  of_run = of-run;
  of_chart = of-chart;
  of_wiring = of-wiring;
  of_card = λ card. refl;
}
