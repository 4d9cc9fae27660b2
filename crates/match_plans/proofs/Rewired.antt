-- The wires of a chart by two plans that differ in comparing positions alone: a wire of the one is one of the other, unless it is that of a
-- comparing position.
use Rattle.std.proofs.Common.{◌≡◌, refl, subst, ℕ, ◌+◌, ◌<◌, List, Some}
use Rattle.chart_lines.specs.ChartsWords.Field.{columns_of}
use Rattle.chart_lines.specs.ChartsWords.Levels.{control_number}
use Rattle.chart_lines.specs.declared.charts.chart.Line.{Line}
use Rattle.chart_lines.specs.declared.charts.level.ControlLevel.{ControlLevel}
use Rattle.chart_lines.specs.declared.charts.statement.Field.{Field}
use Rattle.chart_lines.specs.declared.charts.statement.Statement.{Statement}
use Rattle.chart_lines.specs.declared.charts.statement.Statement.TheVariants as says
use Rattle.chart_line_rules.specs.FieldRules.Fields.{field_named}
use Rattle.hubs.specs.declared.hub.Group.{Group}
use Rattle.hubs.specs.declared.hub.Hub.{Hub}
use Rattle.hubs.specs.declared.hub.Hub.TheVariants.{CA, CB, CX, FR, SR, ST}
use Rattle.match_plans.specs.Renumbered.{with_kind}
use Rattle.chart_plans.specs.PlansWords.Plans.{Lists}
use Rattle.chart_plans.specs.declared.plans.part_numbers.PartKind.TheVariants as kind
use Rattle.wiring_table.specs.Parts.{ServesPosition, ServesTotal, comparing_for}
use Rattle.wiring_table.specs.Wires.{LineWire}
use Rattle.wiring_table.specs.Wires.LineWire.{detail_text, indicated_text_in, indicated_text_out, literal, point, detail_digit, split_digit_in, split_digit_out, detail_mark_in, detail_mark_out, pickup, entry, entry_adds, entry_sign, entry_plus, entry_minus, read_out, total_digit, carry_up, ring, carry_round, balance_test, conversion, conversion_read_out, conversion_minus, feedback, total_mark_in, total_mark_out, transfer, transfer_adds, transfer_sign, transfer_plus, transfer_minus, total_text_in, total_text_taken, total_text_given, total_text_out, compared_first, compared_second, level_called, double_space, triple_space, page, skip}

module _ (lines : List Line) (plan : Lists) (comparing : List ℕ) where
  -- the plan with other comparing positions
  abbrev pub other : Lists
  other = with_kind plan kind.Comparing comparing

  position-kept : {number position : ℕ} {group : Group} {place : ℕ} → ServesPosition lines plan number position group place
      → ServesPosition lines other number position group place
  position-kept serves = record { counter = serves.counter; there = serves.there; at = serves.at }

  total-kept : {number : ℕ} {group : Group} → ServesTotal lines plan number group → ServesTotal lines other number group
  total-kept serves = record { counter = serves.counter; there = serves.there; has = serves.has }

  -- what becomes of a wire of the plan
  pub data Rewired (number : ℕ) (statement : Statement) (exit entry : Hub) : Type 0 where
    kept_wire : LineWire lines other number statement exit entry → Rewired number statement exit entry
    -- of a comparing position: it is a wire of each column with the same number and level that has this position
    of_comparing : (level : ControlLevel) (name : List ℕ) (field : Field) (j position : ℕ) → statement ≡ says.Control level name
        → field_named lines name ≡ Some field → j < columns_of field → comparing_for plan number (field.first + j) ≡ Some position
        → ((its : ℕ) (its_level : ControlLevel) (its_name : List ℕ) (its_field : Field) (its_j : ℕ)
        → field_named lines its_name ≡ Some its_field → its_j < columns_of its_field
        → its_field.first + its_j ≡ field.first + j → control_number its_level ≡ control_number level
        → comparing_for other its (its_field.first + its_j) ≡ Some position
        → LineWire lines other its (says.Control its_level its_name) exit entry)
        → Rewired number statement exit entry

  pub rewired : {number : ℕ} {statement : Statement} {exit entry : Hub} → LineWire lines plan number statement exit entry
      → Rewired number statement exit entry
  rewired (detail_text wheel name field j p1 p2) = kept_wire (detail_text wheel name field j p1 p2)
  rewired (indicated_text_in wheel name level field j x p1 p2 p3) = kept_wire (indicated_text_in wheel name level field j x p1 p2 p3)
  rewired (indicated_text_out wheel name level field j x p1 p2 p3) = kept_wire (indicated_text_out wheel name level field j x p1 p2 p3)
  rewired (literal statement emitter wheel text j row p1 p2) = kept_wire (literal statement emitter wheel text j row p1 p2)
  rewired (point statement emitter wheel figure row p1 p2 p3) = kept_wire (point statement emitter wheel figure row p1 p2 p3)
  rewired (detail_digit wheel name how field position p1 p2 p3 p4) = kept_wire (detail_digit wheel name how field position p1 p2 p3 p4)
  rewired (split_digit_in wheel name how field position split p1 p2 p3 p4 p5) = kept_wire (split_digit_in wheel name how field position split p1 p2 p3 p4 p5)
  rewired (split_digit_out wheel name how field position split p1 p2 p3 p4 p5) = kept_wire (split_digit_out wheel name how field position split p1 p2 p3 p4 p5)
  rewired (detail_mark_in wheel name mark rule pilot k row p1 p2 p3) = kept_wire (detail_mark_in wheel name mark rule pilot k row p1 p2 p3)
  rewired (detail_mark_out wheel name mark rule field pilot k row p1 p2 p3 p4) = kept_wire (detail_mark_out wheel name mark rule field pilot k row p1 p2 p3 p4)
  rewired (pickup field rule pilot p1 p2) = kept_wire (pickup field rule pilot p1 p2)
  rewired (entry total field group position place p1 p2 p3 p4 p5) = kept_wire (entry total field group position place p1 (position-kept p2) p3 p4 p5)
  rewired (entry_adds total group p1 p2 p3) = kept_wire (entry_adds total group p1 (total-kept p2) p3)
  rewired (entry_sign total rule pilot p1 p2 p3) = kept_wire (entry_sign total rule pilot p1 p2 p3)
  rewired (entry_plus total rule pilot group p1 p2 p3 p4) = kept_wire (entry_plus total rule pilot group p1 (total-kept p2) p3 p4)
  rewired (entry_minus total rule pilot group p1 p2 p3 p4) = kept_wire (entry_minus total rule pilot group p1 (total-kept p2) p3 p4)
  rewired (read_out total group p1) = kept_wire (read_out total group (total-kept p1))
  rewired (total_digit total field group position place p1 p2 p3 p4) = kept_wire (total_digit total field group position place (position-kept p1) p2 p3 p4)
  rewired (carry_up total lower upper p1) = kept_wire (carry_up total lower upper p1)
  rewired (ring total rule group p1 p2) = kept_wire (ring total rule group p1 p2)
  rewired (carry_round total rule lower upper p1 p2) = kept_wire (carry_round total rule lower upper p1 p2)
  rewired (balance_test total rule top p1 p2) = kept_wire (balance_test total rule top p1 p2)
  rewired (conversion total rule top p1 p2) = kept_wire (conversion total rule top p1 p2)
  rewired (conversion_read_out total rule top group p1 p2 p3) = kept_wire (conversion_read_out total rule top group p1 (total-kept p2) p3)
  rewired (conversion_minus total rule top group p1 p2 p3) = kept_wire (conversion_minus total rule top group p1 (total-kept p2) p3)
  rewired (feedback total rule group place p1 p2 p3 p4) = kept_wire (feedback total rule group place (total-kept p1) p2 p3 p4)
  rewired (total_mark_in total mark rule top k row p1 p2 p3 p4) = kept_wire (total_mark_in total mark rule top k row p1 p2 p3 p4)
  rewired (total_mark_out total mark rule field top k row p1 p2 p3 p4 p5) = kept_wire (total_mark_out total mark rule field top k row p1 p2 p3 p4 p5)
  rewired (transfer total group upper other position place upper_place p1 p2 p3 p4 p5) = kept_wire (transfer total group upper other position place upper_place (position-kept p1) p2 (position-kept p3) p4 p5)
  rewired (transfer_adds total upper other p1 p2 p3) = kept_wire (transfer_adds total upper other p1 p2 (total-kept p3))
  rewired (transfer_sign total rule top other p1 p2 p3) = kept_wire (transfer_sign total rule top other p1 p2 p3)
  rewired (transfer_plus total rule top upper other p1 p2 p3 p4) = kept_wire (transfer_plus total rule top upper other p1 p2 p3 (total-kept p4))
  rewired (transfer_minus total rule top upper other p1 p2 p3 p4) = kept_wire (transfer_minus total rule top upper other p1 p2 p3 (total-kept p4))
  rewired (total_text_in level wheel name field unit j p1 p2 p3) = kept_wire (total_text_in level wheel name field unit j p1 p2 p3)
  rewired (total_text_taken level wheel name unit p1) = kept_wire (total_text_taken level wheel name unit p1)
  rewired (total_text_given level wheel name unit p1) = kept_wire (total_text_given level wheel name unit p1)
  rewired (total_text_out level wheel name field unit j p1 p2 p3) = kept_wire (total_text_out level wheel name field unit j p1 p2 p3)
  rewired (compared_first level name field j position p1 p2 p3) =
      of_comparing level name field j position refl p1 p2 p3
      (λ its its_level its_name its_field its_j named within columns levels served.
      subst (λ c. LineWire lines other its (says.Control its_level its_name) (FR c) (CA position)) columns
      (compared_first its_level its_name its_field its_j position named within served))
  rewired (compared_second level name field j position p1 p2 p3) =
      of_comparing level name field j position refl p1 p2 p3
      (λ its its_level its_name its_field its_j named within columns levels served.
      subst (λ c. LineWire lines other its (says.Control its_level its_name) (SR c) (CB position)) columns
      (compared_second its_level its_name its_field its_j position named within served))
  rewired (level_called level name field j position p1 p2 p3) =
      of_comparing level name field j position refl p1 p2 p3
      (λ its its_level its_name its_field its_j named within columns levels served.
      subst (λ n. LineWire lines other its (says.Control its_level its_name) (CX position) (ST n)) levels
      (level_called its_level its_name its_field its_j position named within served))
  rewired (double_space line) = kept_wire (double_space line)
  rewired (triple_space line) = kept_wire (triple_space line)
  rewired (page line) = kept_wire (page line)
  rewired (skip line channel) = kept_wire (skip line channel)
