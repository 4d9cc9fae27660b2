-- A helper of the code: the wires that each function of a total line adds, in the order of the table.
use Rattle.std.specs.Prelude.{ℕ, ◌+◌, ◌-◌, List, Option, Some, None}
use Rattle.chart_plans.specs.PlansWords.Plans.{Lists}
use Rattle.chart_plans.specs.declared.plans.counter.TotalCounter.{TotalCounter}
use Rattle.chart_lines.specs.ChartsWords.Field.{columns_of}
use Rattle.chart_lines.specs.ChartsWords.Levels.{level_number}
use Rattle.chart_lines.specs.declared.charts.level.Level.{Level}
use Rattle.chart_lines.specs.declared.charts.statement.Field.{Field}
use Rattle.chart_lines.specs.declared.charts.statement.Mark.{Mark}
use Rattle.chart_lines.specs.declared.charts.statement.SignRule.{SignRule}
use Rattle.chart_lines.specs.declared.charts.statement.TotalLine.{TotalLine}
use Rattle.hubs.specs.declared.hub.Group.{Group}
use Rattle.hubs.specs.declared.hub.Hub.TheVariants.{SR, GX, BAN, BAT, SX, CC, PX, GE, PL, MI, RO, BT, BAC, PIC, SE, SI, SO, W}
use Rattle.wiring_lines.specs.Below.wiring_table.Figures.{rule_of, digit_wheel, mark_text, mark_wheel, total_emitter}
use Rattle.wiring_lines.specs.LineWires.HelperAdds.{One, Both, Upto, OfSome}
use Rattle.wiring_totals.specs.HelperCounters.{ControlWires, EachGroup, RingWires, entry_of, exit_of, place_of}
use Rattle.wiring_lines.specs.Below.wiring_table.Parts.{pilot_for, negative_side, positive_side, top_group}
use Rattle.wiring_lines.specs.LineWires.HelperRows.{MarkWires, Wires}

-- the columns of an amount to the positions of a counter
abbrev pub EntryDigits : Field → TotalCounter → Wires
EntryDigits field counter =
    Upto (columns_of field) (λ place. One (SR (field.last + 1 - (place + 1))) (entry_of (place_of counter (place + 1))))

-- each card adds
abbrev pub AddingWires : TotalCounter → Wires
AddingWires counter = ControlWires CC PL counter

-- each card adds or subtracts by its pilot
abbrev pub SignedEntry : Lists → (name : List ℕ) → TotalCounter → SignRule → Wires
SignedEntry plan name counter rule = OfSome (pilot_for plan name) (λ pilot.
    Both (One CC (PIC pilot 1))
    (Both (ControlWires (positive_side rule pilot 1) PL counter)
    (ControlWires (negative_side rule pilot 1) MI counter)))

-- each card adds, or it adds or subtracts where the amount has a sign rule
abbrev pub EntrySense : Lists → (name : List ℕ) → TotalCounter → Option SignRule → Wires
EntrySense plan name counter None = AddingWires counter
EntrySense plan name counter (Some rule) = SignedEntry plan name counter rule

-- the entry of an amount into the counter of its lowest total
abbrev pub EntryWires : Lists → (name : List ℕ) → Field → TotalCounter → Wires
EntryWires plan name field counter =
    Both (EntryDigits field counter) (EntrySense plan name counter (rule_of field.kind))

-- the digits of a total to their wheels
abbrev pub TotalDigits : TotalLine → (decimals : ℕ) → TotalCounter → Wires
TotalDigits total decimals counter =
    Upto total.digits (λ place.
    One (exit_of (place_of counter (place + 1))) (W (digit_wheel total.wheel total.digits decimals (place + 1))))

-- the read-out of a total in the cycle that prints it
abbrev pub ReadOutWires : TotalLine → (decimals : ℕ) → TotalCounter → Wires
ReadOutWires total decimals counter =
    Both (ControlWires (PX (level_number total.level) 3) RO counter) (TotalDigits total decimals counter)

-- a group back into itself, on all its positions
abbrev pub FeedbackWires : Group → Wires
FeedbackWires group = Upto group.width (λ place. One (GX group (place + 1)) (GE group (place + 1)))

-- the balance test of a counter, and the minus read-out into itself where that sets the latch
abbrev pub BalanceWires : Level → TotalCounter → Wires
BalanceWires level counter =
    Both (One (PX (level_number level) 1) (BT (top_group counter)))
    (Both (One (PX (level_number level) 2) (BAC (top_group counter) 1))
    (Both (ControlWires (BAT (top_group counter) 1) RO counter)
    (ControlWires (BAT (top_group counter) 1) MI counter)))

-- the sign conversion of a signed total: its ring, its balance, and each of its groups back into itself
abbrev pub ConversionWires : Level → TotalCounter → Wires
ConversionWires level counter = Both (RingWires counter) (Both (BalanceWires level counter) (EachGroup counter FeedbackWires))

-- the mark of a signed total, through the balance positions 3 and 4 of a group
abbrev pub TotalMark : Level → (wheel : ℕ) → Mark → Group → Wires
TotalMark level wheel mark group =
    MarkWires (total_emitter (level_number level)) wheel (mark_text mark) (λ k. BAC group (3 + k)) (λ k. BAT group (3 + k))

-- what only a signed total has
abbrev pub SignedTotal : TotalLine → (decimals : ℕ) → TotalCounter → Wires
SignedTotal total decimals counter =
    Both (ConversionWires total.level counter) (OfSome total.mark (λ mark.
    TotalMark total.level (mark_wheel total.wheel total.digits decimals) mark (top_group counter)))

-- the digits of a total to another counter
abbrev pub TransferDigits : (digits : ℕ) → (counter higher : TotalCounter) → Wires
TransferDigits digits counter higher =
    Upto digits (λ place. One (exit_of (place_of counter (place + 1))) (entry_of (place_of higher (place + 1))))

-- the higher counter adds or subtracts by the balance of the lower one
abbrev pub SignedTransfer : (program : ℕ) → (counter higher : TotalCounter) → Wires
SignedTransfer program counter higher =
    Both (One (PX program 3) (BAC (top_group counter) 2))
    (Both (ControlWires (BAN (top_group counter) 2) PL higher)
    (ControlWires (BAT (top_group counter) 2) MI higher))

-- the higher counter adds, or it adds or subtracts where the amount has a sign rule
abbrev pub TransferSense : Level → (counter higher : TotalCounter) → Option SignRule → Wires
TransferSense level counter higher None = ControlWires (PX (level_number level) 3) PL higher
TransferSense level counter higher (Some rule) = SignedTransfer (level_number level) counter higher

-- the transfer of a total to the counter of another
abbrev pub TransferWires : TotalLine → (counter higher : TotalCounter) → Option SignRule → Wires
TransferWires total counter higher rule =
    Both (TransferDigits total.digits counter higher) (TransferSense total.level counter higher rule)

-- the columns of a text through a storage unit to as many wheels
abbrev pub StoredColumns : (unit wheel : ℕ) → Field → Wires
StoredColumns unit wheel field =
    Upto (columns_of field) (λ j.
    Both (One (SR (field.first + j)) (SE unit (j + 1))) (One (SX unit (j + 1)) (W (wheel + j))))

-- a text on a total line through its storage unit
abbrev pub TotalTextWires : Level → (unit wheel : ℕ) → Field → Wires
TotalTextWires level unit wheel field =
    Both (One CC (SI unit)) (Both (One (PX (level_number level) 3) (SO unit)) (StoredColumns unit wheel field))
