-- The statuses of what is told of faults: 3, or 5 where it is want of memory.
use Rattle.std.proofs.Common.{◌≡◌, ◌≢◌, ◌⊎◌, inl, inr, refl, ℕ, Option, Some, None}
use Rattle.allocate.specs.declared.fault.CapacityFault.{CapacityFault}
use Rattle.allocate.specs.declared.fault.CapacityFault.TheVariants as capacity
use Rattle.card_code.specs.declared.deck.DeckFault.{DeckFault}
use Rattle.card_code.specs.declared.deck.DeckFault.TheVariants as deck
use Rattle.fault_lines.specs.FaultsWords.Status.{status_of}
use Rattle.fault_lines.specs.FaultsWords.ToldFaults.{capacity_told, chart_told, deck_told, run_told, unfit_told, wiring_told}
use Rattle.fault_lines.specs.declared.faults.chart.ChartFault.{ChartFault}
use Rattle.fault_lines.specs.declared.faults.chart.ChartFault.TheVariants as chart
use Rattle.fault_lines.specs.declared.faults.deck.RunFault.{RunFault}
use Rattle.fault_lines.specs.declared.faults.deck.RunFault.TheVariants as run
use Rattle.fault_lines.specs.declared.faults.fault.Fault.{Fault}
use Rattle.fault_lines.specs.declared.faults.fault.Fault.TheVariants as fault
use Rattle.hubs.specs.SetupsWords.SetupFaults.{setup_fault_number}
use Rattle.wiring_text.specs.declared.fault.WiringFault.{WiringFault}
use Rattle.wiring_text.specs.declared.fault.WiringFault.TheVariants as wiring

capacity_status : (cause : CapacityFault) → capacity_told cause ≢ fault.Memory → status_of (capacity_told cause) ≡ 3
capacity_status (capacity.Counters width wanted there) not_memory = refl
capacity_status (capacity.Pilots wanted there) not_memory = refl
capacity_status (capacity.Comparing wanted there) not_memory = refl
capacity_status (capacity.StorageWidth line) not_memory = refl
capacity_status (capacity.StorageUnits wanted there) not_memory = refl
capacity_status (capacity.Splits wanted there) not_memory = refl
capacity_status (capacity.Indicate level wanted there) not_memory = refl
capacity_status capacity.Memory not_memory = absurd (not_memory refl)

pub chart_status : (cause : ChartFault) → chart_told cause ≢ fault.Memory → status_of (chart_told cause) ≡ 3
chart_status chart.TooLarge not_memory = refl
chart_status chart.NoFirstLine not_memory = refl
chart_status (chart.NotALine line) not_memory = refl
chart_status chart.NoEnd not_memory = refl
chart_status (chart.Rule rule line) not_memory = refl
chart_status (chart.Capacity exceeded) not_memory = capacity_status exceeded not_memory
chart_status chart.Memory not_memory = absurd (not_memory refl)

pub deck_status : (cause : DeckFault) → deck_told cause ≢ fault.Memory → status_of (deck_told cause) ≡ 3
deck_status (deck.CardTooLong card) not_memory = refl
deck_status (deck.NoSuchCharacter card column) not_memory = refl
deck_status deck.TooManyCards not_memory = refl
deck_status deck.Memory not_memory = absurd (not_memory refl)

pub run_status : (cause : RunFault) → run_told cause ≢ fault.Memory → status_of (run_told cause) ≡ 3
run_status run.TooManyCards not_memory = refl
run_status (run.NotText card column) not_memory = refl
run_status (run.NotAmount card column) not_memory = refl
run_status (run.DoesNotFit level name card) not_memory = refl
run_status run.Memory not_memory = absurd (not_memory refl)

unfit_status : (line : ℕ) (number : Option ℕ) → status_of (unfit_told line number) ≡ 3
unfit_status line (Some cause) = refl
unfit_status line None = refl

pub wiring_status : (cause : WiringFault) → wiring_told cause ≢ fault.Memory → status_of (wiring_told cause) ≡ 3
wiring_status wiring.TooLarge not_memory = refl
wiring_status wiring.NoFirstLine not_memory = refl
wiring_status (wiring.NotALine line) not_memory = refl
wiring_status (wiring.LineTwice line) not_memory = refl
wiring_status (wiring.Unfit line cause) not_memory = unfit_status line (setup_fault_number cause)
wiring_status wiring.NoEnd not_memory = refl
wiring_status wiring.Memory not_memory = absurd (not_memory refl)

-- whether a fault is want of memory
pub memory_or_not : (told : Fault) → (told ≡ fault.Memory) ⊎ (told ≢ fault.Memory)
memory_or_not (fault.Whole number) = inr (λ is. cc)
memory_or_not (fault.Line number line) = inr (λ is. cc)
memory_or_not (fault.Cause number line cause) = inr (λ is. cc)
memory_or_not (fault.Card number card) = inr (λ is. cc)
memory_or_not (fault.Column number card column) = inr (λ is. cc)
memory_or_not (fault.Counters number width wanted there) = inr (λ is. cc)
memory_or_not (fault.Capacity number wanted there) = inr (λ is. cc)
memory_or_not (fault.Indicate number level wanted there) = inr (λ is. cc)
memory_or_not (fault.Total number level name card) = inr (λ is. cc)
memory_or_not (fault.Unknown word) = inr (λ is. cc)
memory_or_not (fault.File path) = inr (λ is. cc)
memory_or_not (fault.Unread card) = inr (λ is. cc)
memory_or_not fault.Write = inr (λ is. cc)
memory_or_not fault.Memory = inl refl
