-- What holds of each wire of a chart: it leads from an exit to an entry, and no second contact stands after a contact.
use Rattle.std.proofs.Common.{◌≡◌, sym, refl, ℕ, ◌&&◌, ◌||◌, not, Bool, true, false, List, Option, Some, None, ap, is_some}
use Rattle.wiring_table.specs.Below.chart_plans.PlansWords.Plans.{Lists}
use Rattle.wiring_table.specs.Below.chart_lines.declared.charts.chart.Line.{Line}
use Rattle.wiring_table.specs.Below.chart_lines.declared.charts.statement.BodyLine.TheVariants as body
use Rattle.wiring_table.specs.Below.chart_lines.declared.charts.statement.SignRule.{SignRule}
use Rattle.wiring_table.specs.Below.chart_lines.declared.charts.statement.SignRule.TheVariants as sign
use Rattle.wiring_table.specs.Below.chart_lines.declared.charts.statement.Statement.{Statement}
use Rattle.proof_cycles.specs.Below.hubs.HubTable.HubTable.{row_of}
use Rattle.proof_cycles.specs.Below.hubs.Hubs.{carry_into, carry_out_of, letters_of}
use Rattle.proof_cycles.specs.Below.hubs.declared.hub.Group.{Group}
use Rattle.proof_cycles.specs.Below.hubs.declared.hub.Hub.{Hub}
use Rattle.proof_cycles.specs.Below.hubs.declared.hub.Hub.TheVariants.{CA, CB, CI, CO, PIX, SE, SI, SO, ST, SP, SK, RS}
use Rattle.proof_cycles.specs.Below.net.Panel.{contact_of}
use Rattle.proof_cycles.specs.WholeCycles.Carries.{is_carry}
use Rattle.proof_cycles.specs.WholeCycles.OneContactDeep.{is_common}
use Rattle.wiring_table.specs.Below.capacity.declared.group.CounterGroup.{CounterGroup}
use Rattle.wiring_table.specs.Below.chart_plans.declared.plans.counter.TotalCounter.TheVariants as of
use Rattle.wiring_table.specs.Figures.{IsSigned}
use Rattle.wiring_table.specs.Parts.{counter_for, group_for, panel_group}
use Rattle.wiring_table.specs.Wires.{LineWire}
use Rattle.wiring_table.specs.Wires.LineWire.{detail_text, indicated_text_in, indicated_text_out, literal, point, detail_digit, split_digit_in, split_digit_out, detail_mark_in, detail_mark_out, pickup, entry, entry_adds, entry_sign, entry_plus, entry_minus, read_out, total_digit, carry_up, ring, carry_round, balance_test, conversion, conversion_read_out, conversion_minus, feedback, total_mark_in, total_mark_out, transfer, transfer_adds, transfer_sign, transfer_plus, transfer_minus, total_text_in, total_text_taken, total_text_given, total_text_out, compared_first, compared_second, level_called, double_space, triple_space, page, skip}

-- an exit, and an entry, by the kind of hub
abbrev pub is_exit_kind : Hub → Bool
is_exit_kind hub = (row_of (letters_of hub)).is_exit

-- the entries to which no contact leads: those of comparing, pilots, storage units, levels and the carriage
abbrev pub is_plain : Hub → Bool
is_plain (CA position) = true
is_plain (CB position) = true
is_plain (PIX pilot) = true
is_plain (SE unit column) = true
is_plain (SI unit) = true
is_plain (SO unit) = true
is_plain (ST level) = true
is_plain (SP lines) = true
is_plain (SK channel) = true
is_plain RS = true
is_plain other = false

-- whether a wire leads from an exit to an entry, and from a contact neither to a common hub nor to a plain entry
abbrev is_orderly : Hub → Hub → Bool
is_orderly x e = is_exit_kind x && (not (is_exit_kind e) && not (is_some (contact_of x) && (is_common e || is_plain e)))

-- each wire of a chart does
orderly :
    (lines : List Line) (plan : Lists) (number : ℕ) {statement : Statement} {x e : Hub} → LineWire lines plan number statement x e
    → is_orderly x e ≡ true
orderly lines plan number (detail_text wheel name field j p0 p1) = refl
orderly lines plan number (indicated_text_in wheel name level field j x p0 p1 p2) = refl
orderly lines plan number (indicated_text_out wheel name level field j x p0 p1 p2) = refl
orderly lines plan number (literal statement_ emitter wheel text j row p0 p1) = refl
orderly lines plan number (point statement_ emitter wheel figure row p0 p1 p2) = refl
orderly lines plan number (detail_digit wheel name how field position p0 p1 p2 p3) = refl
orderly lines plan number (split_digit_in wheel name how field position split p0 p1 p2 p3 p4) = refl
orderly lines plan number (split_digit_out wheel name how field position split p0 p1 p2 p3 p4) = refl
orderly lines plan number (detail_mark_in wheel name mark rule pilot k row p0 p1 p2) = refl
orderly lines plan number (detail_mark_out wheel name mark (sign.X c) field pilot k row p0 p1 p2 p3) = refl
orderly lines plan number (detail_mark_out wheel name mark (sign.NX c) field pilot k row p0 p1 p2 p3) = refl
orderly lines plan number (pickup field rule pilot p0 p1) = refl
orderly lines plan number (entry total field group position place p0 p1 p2 p3 p4) = refl
orderly lines plan number (entry_adds total group p0 p1 p2) = refl
orderly lines plan number (entry_sign total rule pilot p0 p1 p2) = refl
orderly lines plan number (entry_plus total (sign.X c) pilot group p0 p1 p2 p3) = refl
orderly lines plan number (entry_plus total (sign.NX c) pilot group p0 p1 p2 p3) = refl
orderly lines plan number (entry_minus total (sign.X c) pilot group p0 p1 p2 p3) = refl
orderly lines plan number (entry_minus total (sign.NX c) pilot group p0 p1 p2 p3) = refl
orderly lines plan number (read_out total group p0) = refl
orderly lines plan number (total_digit total field group position place p0 p1 p2 p3) = refl
orderly lines plan number (carry_up total lower upper p0) = refl
orderly lines plan number (ring total rule group p0 p1) = refl
orderly lines plan number (carry_round total rule lower upper p0 p1) = refl
orderly lines plan number (balance_test total rule group p0 p1) = refl
orderly lines plan number (conversion total rule group p0 p1) = refl
orderly lines plan number (conversion_read_out total rule top group p0 p1 p2) = refl
orderly lines plan number (conversion_minus total rule top group p0 p1 p2) = refl
orderly lines plan number (feedback total rule group position p0 p1 p2 p3) = refl
orderly lines plan number (total_mark_in total mark rule group k row p0 p1 p2 p3) = refl
orderly lines plan number (total_mark_out total mark rule field group k row p0 p1 p2 p3 p4) = refl
orderly lines plan number (transfer total group upper other position place upper_place p0 p1 p2 p3 p4) = refl
orderly lines plan number (transfer_adds total upper other p0 p1 p2) = refl
orderly lines plan number (transfer_sign total rule group other p0 p1 p2) = refl
orderly lines plan number (transfer_plus total rule group upper other p0 p1 p2 p3) = refl
orderly lines plan number (transfer_minus total rule group upper other p0 p1 p2 p3) = refl
orderly lines plan number (total_text_in level wheel name field unit j p0 p1 p2) = refl
orderly lines plan number (total_text_taken level wheel name unit p0) = refl
orderly lines plan number (total_text_given level wheel name unit p0) = refl
orderly lines plan number (total_text_out level wheel name field unit j p0 p1 p2) = refl
orderly lines plan number (compared_first level name field j position p0 p1 p2) = refl
orderly lines plan number (compared_second level name field j position p0 p1 p2) = refl
orderly lines plan number (level_called level name field j position p0 p1 p2) = refl
orderly lines plan number (double_space body.Detail) = refl
orderly lines plan number (double_space (body.Total level)) = refl
orderly lines plan number (triple_space body.Detail) = refl
orderly lines plan number (triple_space (body.Total level)) = refl
orderly lines plan number (page body.Detail) = refl
orderly lines plan number (page (body.Total level)) = refl
orderly lines plan number (skip body.Detail channel) = refl
orderly lines plan number (skip (body.Total level) channel) = refl

-- A wire leads from an exit to an entry; from a contact it leads neither to a common hub nor to a plain entry.
pub record IsOrderly (x e : Hub) : Type 0 where
  pub from : is_exit_kind x ≡ true
  pub to : is_exit_kind e ≡ false
  pub shallow : is_some (contact_of x) ≡ true → is_common e ≡ true → ⊥
  pub plain : is_plain e ≡ true → contact_of x ≡ None

pub wire_orderly :
    (lines : List Line) (plan : Lists) (number : ℕ) {statement : Statement} {x e : Hub} → LineWire lines plan number statement x e
    → IsOrderly x e
wire_orderly lines plan number {x = x} {e = e} wire =
    by (is_exit_kind x) (is_exit_kind e) (contact_of x) (is_common e) (is_plain e) refl refl refl refl refl (orderly lines plan number wire)
  where
    by : (a b : Bool) (o : Option Hub) (c d : Bool) → is_exit_kind x ≡ a → is_exit_kind e ≡ b → contact_of x ≡ o → is_common e ≡ c
        → is_plain e ≡ d → (a && (not b && not (is_some o && (c || d)))) ≡ true → IsOrderly x e
    by true false None c d p q r s u on =
        record { from = p; to = q; shallow = λ some common. let none = ap is_some r in cc; plain = λ is. r }
    by true false (Some k) false false p q r s u on =
        record { from = p; to = q; shallow = λ some common. cc; plain = λ is. cc }
    by true false (Some k) true d p q r s u on = cc
    by true false (Some k) false true p q r s u on = cc
    by true true o c d p q r s u on = cc
    by false b o c d p q r s u on = cc

-- A carry exit leads to a carry entry, and nothing else leads there.
pub carry_kept :
    (lines : List Line) (plan : Lists) (number : ℕ) {statement : Statement} {x e : Hub} → LineWire lines plan number statement x e
    → is_some (carry_out_of x) ≡ is_some (carry_into e)
carry_kept lines plan number (detail_text wheel name field j p0 p1) = refl
carry_kept lines plan number (indicated_text_in wheel name level field j x p0 p1 p2) = refl
carry_kept lines plan number (indicated_text_out wheel name level field j x p0 p1 p2) = refl
carry_kept lines plan number (literal statement_ emitter wheel text j row p0 p1) = refl
carry_kept lines plan number (point statement_ emitter wheel figure row p0 p1 p2) = refl
carry_kept lines plan number (detail_digit wheel name how field position p0 p1 p2 p3) = refl
carry_kept lines plan number (split_digit_in wheel name how field position split p0 p1 p2 p3 p4) = refl
carry_kept lines plan number (split_digit_out wheel name how field position split p0 p1 p2 p3 p4) = refl
carry_kept lines plan number (detail_mark_in wheel name mark rule pilot k row p0 p1 p2) = refl
carry_kept lines plan number (detail_mark_out wheel name mark (sign.X c) field pilot k row p0 p1 p2 p3) = refl
carry_kept lines plan number (detail_mark_out wheel name mark (sign.NX c) field pilot k row p0 p1 p2 p3) = refl
carry_kept lines plan number (pickup field rule pilot p0 p1) = refl
carry_kept lines plan number (entry total field group position place p0 p1 p2 p3 p4) = refl
carry_kept lines plan number (entry_adds total group p0 p1 p2) = refl
carry_kept lines plan number (entry_sign total rule pilot p0 p1 p2) = refl
carry_kept lines plan number (entry_plus total (sign.X c) pilot group p0 p1 p2 p3) = refl
carry_kept lines plan number (entry_plus total (sign.NX c) pilot group p0 p1 p2 p3) = refl
carry_kept lines plan number (entry_minus total (sign.X c) pilot group p0 p1 p2 p3) = refl
carry_kept lines plan number (entry_minus total (sign.NX c) pilot group p0 p1 p2 p3) = refl
carry_kept lines plan number (read_out total group p0) = refl
carry_kept lines plan number (total_digit total field group position place p0 p1 p2 p3) = refl
carry_kept lines plan number (carry_up total lower upper p0) = refl
carry_kept lines plan number (ring total rule group p0 p1) = refl
carry_kept lines plan number (carry_round total rule lower upper p0 p1) = refl
carry_kept lines plan number (balance_test total rule group p0 p1) = refl
carry_kept lines plan number (conversion total rule group p0 p1) = refl
carry_kept lines plan number (conversion_read_out total rule top group p0 p1 p2) = refl
carry_kept lines plan number (conversion_minus total rule top group p0 p1 p2) = refl
carry_kept lines plan number (feedback total rule group position p0 p1 p2 p3) = refl
carry_kept lines plan number (total_mark_in total mark rule group k row p0 p1 p2 p3) = refl
carry_kept lines plan number (total_mark_out total mark rule field group k row p0 p1 p2 p3 p4) = refl
carry_kept lines plan number (transfer total group upper other position place upper_place p0 p1 p2 p3 p4) = refl
carry_kept lines plan number (transfer_adds total upper other p0 p1 p2) = refl
carry_kept lines plan number (transfer_sign total rule group other p0 p1 p2) = refl
carry_kept lines plan number (transfer_plus total rule group upper other p0 p1 p2 p3) = refl
carry_kept lines plan number (transfer_minus total rule group upper other p0 p1 p2 p3) = refl
carry_kept lines plan number (total_text_in level wheel name field unit j p0 p1 p2) = refl
carry_kept lines plan number (total_text_taken level wheel name unit p0) = refl
carry_kept lines plan number (total_text_given level wheel name unit p0) = refl
carry_kept lines plan number (total_text_out level wheel name field unit j p0 p1 p2) = refl
carry_kept lines plan number (compared_first level name field j position p0 p1 p2) = refl
carry_kept lines plan number (compared_second level name field j position p0 p1 p2) = refl
carry_kept lines plan number (level_called level name field j position p0 p1 p2) = refl
carry_kept lines plan number (double_space body.Detail) = refl
carry_kept lines plan number (double_space (body.Total level)) = refl
carry_kept lines plan number (triple_space body.Detail) = refl
carry_kept lines plan number (triple_space (body.Total level)) = refl
carry_kept lines plan number (page body.Detail) = refl
carry_kept lines plan number (page (body.Total level)) = refl
carry_kept lines plan number (skip body.Detail channel) = refl
carry_kept lines plan number (skip (body.Total level) channel) = refl

-- an entry into which a carry goes is a carry hub
carry_in : (hub : Hub) → is_some (carry_into hub) ≡ true → is_carry hub ≡ true
carry_in (CI name) on = refl
carry_in other on = cc

-- so wires from carry hubs lead to carry hubs
pub carry_on :
    (lines : List Line) (plan : Lists) (number : ℕ) {statement : Statement} {x e : Hub} → LineWire lines plan number statement x e
    → is_carry x ≡ true → is_carry e ≡ true
carry_on lines plan number {x = x} {e = e} wire =
    by x (wire_orderly lines plan number wire).from (carry_kept lines plan number wire)
  where
    by : (hub : Hub) → is_exit_kind hub ≡ true → is_some (carry_out_of hub) ≡ is_some (carry_into e) → is_carry hub ≡ true → is_carry e ≡ true
    by (CO name) from kept is = carry_in e (sym kept)
    by (CI name) from kept is = cc
    by other from kept is = cc

-- The carry exits that are wired to the carry entry of a group: its own, where it is the only one of a signed total, and that of
-- the other group where two serve one total.
pub data ToCarry (lines : List Line) (plan : Lists) (number : ℕ) (group : Group) : Hub → Type 0 where
  from_itself : (name : List ℕ) (rule : SignRule) → group_for lines plan number ≡ Some group → IsSigned lines name rule
      → ToCarry lines plan number group (CO group)
  from_lower : (lower upper : CounterGroup) → counter_for lines plan number ≡ Some (of.Coupled lower upper) → panel_group upper ≡ group
      → ToCarry lines plan number group (CO (panel_group lower))
  from_upper : (lower upper : CounterGroup) → counter_for lines plan number ≡ Some (of.Coupled lower upper) → panel_group lower ≡ group
      → ToCarry lines plan number group (CO (panel_group upper))

pub to_carry : (lines : List Line) (plan : Lists) (number : ℕ) {statement : Statement} {x : Hub} {group : Group}
    → LineWire lines plan number statement x (CI group) → ToCarry lines plan number group x
to_carry lines plan number (ring total rule group is signed) = from_itself total.name rule is signed
to_carry lines plan number (carry_up total lower upper there) = from_lower lower upper there refl
to_carry lines plan number (carry_round total rule lower upper there signed) = from_upper lower upper there refl
