-- What a cycle saw at its rows, point by point, and the line that it made.
use Rattle.std.proofs.Common.{◌≡◌, ◌∙◌, sym, ap, refl, arith, ℕ, zero, suc, ◌<◌, Bool, ◌∷◌, map}
use Rattle.std.specs.List.{range_with_len}
use Rattle.card_code.specs.declared.row.Row.{Row as CardRow}
use Rattle.card_code.specs.declared.row.Row.TheVariants.{Zero, One, Two, Three, Four, Five, Six, Seven, Eight, Nine, Eleven, Twelve}
use Rattle.hubs.specs.SetupsWords.Wiring.{Wiring}
use Rattle.hubs.specs.declared.hub.Hub.{Hub}
use Rattle.net.specs.Impulsed.{IsPicture}
use Rattle.net.specs.declared.cycle.Cycle.{Cycle}
use Rattle.net.specs.declared.cycle.Point.{Point}
use Rattle.net.specs.declared.cycle.Point.TheVariants.{C, Row}
use Rattle.print_unit.specs.ZeroControl.{has_zero_control, printed_line}
use Rattle.machine.specs.Cycles.{CycleRun, Reached}
use Rattle.machine.specs.Machine.{MachineState, closes, emits}
use Rattle.machine.proofs.Pictures.{IsPicture-same}
use Rattle.proof_cycles.specs.WholeCycles.Between.{IsReady}
use Rattle.proof_cycles.specs.WholeCycles.WholeCycles.{WholeCycle, control_emits, row_emits, wheel_received}
use Rattle.proof_cycles.proofs.WholeCycles.Emitted.{closes-before, emits-control, emits-row}
use Rattle.proof_cycles.proofs.WholeCycles.Parts.{machine_after}
use Rattle.proof_cycles.proofs.WholeCycles.Walks.{rows_before}
use Rattle.proof_cycles.proofs.WholeCycles.Wheels.{wheels-jacks}
use Rattle.proof_cycles.proofs.WholeCycles.Wholes.{cycles-whole}
use Rattle.explain_wheels.specs.ExplanationsWords.Explanations.{SeesRow}

-- The rows of a cycle of a ready machine, and its line.
pub record Seen (wiring : Wiring) (cycle : Cycle) (old new : MachineState) : Type 0 where
  pub pictures : Point → Hub → Bool
  pub rows : (row : ℕ) → row < 12 → SeesRow wiring cycle old pictures row
  pub line :
      new.wheels.line ≡ printed_line (has_zero_control cycle) (map (wheel_received wiring pictures) (range_with_len 1 120))

module _ (wiring : Wiring) (cycle : Cycle) (old new : MachineState) (whole : WholeCycle wiring cycle old new) where
  -- the machine just before a row
  before : CardRow → MachineState
  before row = machine_after cycle whole.pictures (C ∷ map Row (rows_before row)) old

  seen_control : IsPicture wiring (emits old cycle C) (closes old cycle C) (whole.pictures C)
  seen_control =
      IsPicture-same wiring (control_emits cycle) (emits old cycle C) (closes old cycle C) (closes old cycle C) (whole.pictures C)
      (λ hub. sym (emits-control old cycle hub)) (λ hub. refl) whole.control

  seen_row : (row : CardRow)
      → IsPicture wiring (emits (before row) cycle (Row row)) (closes (before row) cycle (Row row)) (whole.pictures (Row row))
  unfolding before
  seen_row row =
      IsPicture-same wiring (row_emits old whole.pictures cycle row) (emits (before row) cycle (Row row)) (closes old cycle (Row row))
      (closes (before row) cycle (Row row)) (whole.pictures (Row row))
      (λ hub. sym (emits-row old cycle whole.pictures (rows_before row) row hub))
      (λ hub. sym (closes-before old cycle whole.pictures (C ∷ map Row (rows_before row)) (Row row) hub refl)) (whole.rows row)

  exits_row : (row : CardRow) (hub : Hub) → emits (before row) cycle (Row row) hub ≡ row_emits old whole.pictures cycle row hub
  unfolding before
  exits_row row hub = emits-row old cycle whole.pictures (rows_before row) row hub

  closed_row : (row : CardRow) (hub : Hub) → closes (before row) cycle (Row row) hub ≡ closes old cycle (Row row) hub
  unfolding before
  closed_row row hub = closes-before old cycle whole.pictures (C ∷ map Row (rows_before row)) (Row row) hub refl

  reached_1 : Reached wiring cycle 1 old (before Nine)
  unfolding Reached before
  reached_1 = (old, refl, record { picture = whole.pictures C; is_picture = seen_control; is_new = refl })

  reached_2 : Reached wiring cycle 2 old (before Eight)
  unfolding Reached before
  reached_2 = (before Nine, reached_1, record { picture = whole.pictures (Row Nine); is_picture = seen_row Nine; is_new = refl })

  reached_3 : Reached wiring cycle 3 old (before Seven)
  unfolding Reached before
  reached_3 = (before Eight, reached_2, record { picture = whole.pictures (Row Eight); is_picture = seen_row Eight; is_new = refl })

  reached_4 : Reached wiring cycle 4 old (before Six)
  unfolding Reached before
  reached_4 = (before Seven, reached_3, record { picture = whole.pictures (Row Seven); is_picture = seen_row Seven; is_new = refl })

  reached_5 : Reached wiring cycle 5 old (before Five)
  unfolding Reached before
  reached_5 = (before Six, reached_4, record { picture = whole.pictures (Row Six); is_picture = seen_row Six; is_new = refl })

  reached_6 : Reached wiring cycle 6 old (before Four)
  unfolding Reached before
  reached_6 = (before Five, reached_5, record { picture = whole.pictures (Row Five); is_picture = seen_row Five; is_new = refl })

  reached_7 : Reached wiring cycle 7 old (before Three)
  unfolding Reached before
  reached_7 = (before Four, reached_6, record { picture = whole.pictures (Row Four); is_picture = seen_row Four; is_new = refl })

  reached_8 : Reached wiring cycle 8 old (before Two)
  unfolding Reached before
  reached_8 = (before Three, reached_7, record { picture = whole.pictures (Row Three); is_picture = seen_row Three; is_new = refl })

  reached_9 : Reached wiring cycle 9 old (before One)
  unfolding Reached before
  reached_9 = (before Two, reached_8, record { picture = whole.pictures (Row Two); is_picture = seen_row Two; is_new = refl })

  reached_10 : Reached wiring cycle 10 old (before Zero)
  unfolding Reached before
  reached_10 = (before One, reached_9, record { picture = whole.pictures (Row One); is_picture = seen_row One; is_new = refl })

  reached_11 : Reached wiring cycle 11 old (before Eleven)
  unfolding Reached before
  reached_11 = (before Zero, reached_10, record { picture = whole.pictures (Row Zero); is_picture = seen_row Zero; is_new = refl })

  reached_12 : Reached wiring cycle 12 old (before Twelve)
  unfolding Reached before
  reached_12 = (before Eleven, reached_11, record { picture = whole.pictures (Row Eleven); is_picture = seen_row Eleven; is_new = refl })

  sees : (row : ℕ) → row < 12 → SeesRow wiring cycle old whole.pictures row
  sees zero less = record { now = before Nine; reached = reached_1; picture = seen_row Nine; exits = exits_row Nine; contacts = closed_row Nine }
  sees (suc zero) less = record { now = before Eight; reached = reached_2; picture = seen_row Eight; exits = exits_row Eight; contacts = closed_row Eight }
  sees (suc (suc zero)) less = record { now = before Seven; reached = reached_3; picture = seen_row Seven; exits = exits_row Seven; contacts = closed_row Seven }
  sees (suc (suc (suc zero))) less = record { now = before Six; reached = reached_4; picture = seen_row Six; exits = exits_row Six; contacts = closed_row Six }
  sees (suc (suc (suc (suc zero)))) less = record { now = before Five; reached = reached_5; picture = seen_row Five; exits = exits_row Five; contacts = closed_row Five }
  sees (suc (suc (suc (suc (suc zero))))) less = record { now = before Four; reached = reached_6; picture = seen_row Four; exits = exits_row Four; contacts = closed_row Four }
  sees (suc (suc (suc (suc (suc (suc zero)))))) less = record { now = before Three; reached = reached_7; picture = seen_row Three; exits = exits_row Three; contacts = closed_row Three }
  sees (suc (suc (suc (suc (suc (suc (suc zero))))))) less = record { now = before Two; reached = reached_8; picture = seen_row Two; exits = exits_row Two; contacts = closed_row Two }
  sees (suc (suc (suc (suc (suc (suc (suc (suc zero)))))))) less = record { now = before One; reached = reached_9; picture = seen_row One; exits = exits_row One; contacts = closed_row One }
  sees (suc (suc (suc (suc (suc (suc (suc (suc (suc zero))))))))) less = record { now = before Zero; reached = reached_10; picture = seen_row Zero; exits = exits_row Zero; contacts = closed_row Zero }
  sees (suc (suc (suc (suc (suc (suc (suc (suc (suc (suc zero)))))))))) less = record { now = before Eleven; reached = reached_11; picture = seen_row Eleven; exits = exits_row Eleven; contacts = closed_row Eleven }
  sees (suc (suc (suc (suc (suc (suc (suc (suc (suc (suc (suc zero))))))))))) less = record { now = before Twelve; reached = reached_12; picture = seen_row Twelve; exits = exits_row Twelve; contacts = closed_row Twelve }
  sees (suc (suc (suc (suc (suc (suc (suc (suc (suc (suc (suc (suc row)))))))))))) less = absurd (omega (arith, less))

pub cycle-seen : (wiring : Wiring) (cycle : Cycle) (old new : MachineState) → IsReady wiring old → CycleRun wiring cycle old new
    → Seen wiring cycle old new
cycle-seen wiring cycle old new ready run =
    let whole = cycles-whole wiring cycle old new ready.between run in
    record {
      pictures = whole.pictures;
      rows = sees wiring cycle old new whole;
      line = whole.line ∙ ap (printed_line (has_zero_control cycle)) (wheels-jacks wiring old whole.pictures ready.set_up);
    }
