-- The printed line of a cycle, by the sets of rows that its wheels receive.
use Rattle.std.proofs.Common.{◌≡◌, ◌∙◌, refl, ap, ℕ, zero, suc, ◌+◌, ◌≤◌, ◌<◌, Bool, List, [], ◌∷◌, map, arith}
use Rattle.std.specs.List.{range_with_len}
use Rattle.report_definition.specs.Below.card_code.CardCode.{has_row}
use Rattle.report_definition.specs.Below.card_code.Rows.{row_number, rows}
use Rattle.report_definition.specs.Below.card_code.declared.row.Row.{Row as CardRow}
use Rattle.proof_reports.specs.Below.hubs.SetupsWords.Wiring.{Wiring, is_plugged}
use Rattle.proof_reports.specs.Below.hubs.declared.hub.Hub.{Hub}
use Rattle.proof_reports.specs.Below.hubs.declared.hub.Hub.TheVariants.{W}
use Rattle.proof_reports.specs.Below.hubs.declared.jack.Jack.TheVariants.{Link, Suppress, Symbol}
use Rattle.proof_reports.specs.Below.machine.Machine.{MachineState}
use Rattle.proof_reports.specs.Below.net.declared.cycle.Cycle.{Cycle}
use Rattle.proof_reports.specs.Below.net.declared.cycle.Point.{Point}
use Rattle.proof_reports.specs.Below.net.declared.cycle.Point.TheVariants.{Row}
use Rattle.print_unit.specs.Wheels.{wheel_at_start}
use Rattle.print_unit.specs.ZeroControl.{Wheel, has_zero_control, printed_line}
use Rattle.proof_reports.specs.PrintedLines.Shown.{wheel_with, wheels_with}
use Rattle.proof_cycles.proofs.WholeCycles.Wheels.{wheels-jacks}
use Rattle.proof_cycles.specs.WholeCycles.Between.{IsReady}
use Rattle.proof_cycles.specs.WholeCycles.WholeCycles.{WholeCycle, wheel_received}

-- the wheels' jacks, as tests of their numbers
abbrev pub has_link : Wiring → ℕ → Bool
has_link wiring v = is_plugged wiring (Link v)

abbrev pub has_suppress : Wiring → ℕ → Bool
has_suppress wiring v = is_plugged wiring (Suppress v)

abbrev pub has_symbol : Wiring → ℕ → Bool
has_symbol wiring v = is_plugged wiring (Symbol v)

-- each wheel receives the rows of its set
abbrev pub Receives : (Point → Hub → Bool) → (ℕ → ℕ) → Type 0
Receives pictures set = (row : CardRow) (v : ℕ) → 1 ≤ v → v ≤ 120 → pictures (Row row) (W v) ≡ has_row (set v) (row_number row)

-- the same tests over rows
same_rows : (one other : CardRow → Bool) (of : List CardRow) → ((row : CardRow) → one row ≡ other row) → map one of ≡ map other of
same_rows one other [] same = refl
same_rows one other (row ∷ others) same =
    let more = same_rows one other others same in λ i. same row i ∷ more i

-- the same wheels in a range
same_wheels : (one other : ℕ → Wheel) (from count : ℕ) → ((v : ℕ) → from ≤ v → v < from + count → one v ≡ other v)
    → map one (range_with_len from count) ≡ map other (range_with_len from count)
same_wheels one other from zero same = refl
same_wheels one other from (suc count) same =
    let first = same from (omega arith) (omega arith) in
    let more = same_wheels one other (from + 1) count (λ v low high. same v (omega (arith, low)) (omega (arith, high))) in
    λ i. first i ∷ more i

-- wheels that receive the rows of sets
wheels_are : (wiring : Wiring) (pictures : Point → Hub → Bool) (set : ℕ → ℕ) → Receives pictures set
    → map (wheel_received wiring pictures) (range_with_len 1 120)
    ≡ wheels_with (has_link wiring) (has_suppress wiring) (has_symbol wiring) set
wheels_are wiring pictures set receives =
    same_wheels (wheel_received wiring pictures) (wheel_with (has_link wiring) (has_suppress wiring) (has_symbol wiring) set) 1 120
    (λ v low high. ap (λ (received : List Bool). record (wheel_at_start wiring v) { received = received })
    (same_rows (λ row. pictures (Row row) (W v)) (λ row. has_row (set v) (row_number row)) rows
    (λ row. receives row v low (omega (arith, high)))))

-- the line of a cycle
pub line_of_cycle :
    (wiring : Wiring) (cycle : Cycle) (old new : MachineState) (set : ℕ → ℕ) → IsReady wiring old
    → (whole : WholeCycle wiring cycle old new) → Receives whole.pictures set
    → new.wheels.line
    ≡ printed_line (has_zero_control cycle) (wheels_with (has_link wiring) (has_suppress wiring) (has_symbol wiring) set)
line_of_cycle wiring cycle old new set is whole receives =
    whole.line ∙ ap (λ ws. printed_line (has_zero_control cycle) ws)
    (wheels-jacks wiring old whole.pictures is.set_up ∙ wheels_are wiring whole.pictures set receives)
