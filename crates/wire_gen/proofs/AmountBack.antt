-- The wires of the table for a total of an amount are among those that the code adds.
use Rattle.std.proofs.Common.{ℕ, ◌+◌, ◌-◌, List, Some, None, sym, ap, subst, ◌∙◌}
use Rattle.std.proofs.lemmas.Option.{slice_get_within, same_Some}
use Rattle.chart_plans.specs.PlansWords.Plans.{Lists}
use Rattle.chart_rules.specs.Below.chart_line_rules.FieldRules.Fields.{field_named}
use Rattle.chart_lines.specs.ChartsWords.Field.{columns_of, decimals_of}
use Rattle.chart_lines.specs.declared.charts.chart.Line.{Line}
use Rattle.chart_lines.specs.declared.charts.statement.Statement.TheVariants as says
use Rattle.chart_lines.specs.declared.charts.statement.TotalLine.{TotalLine}
use Rattle.hubs.specs.declared.hub.Hub.{Hub}
use Rattle.hubs.specs.declared.hub.Hub.TheVariants.{BAC, BAN, BAT, BT, CC, EM, GE, GX, MI, PL, PX, RO, SR, W}
use Rattle.wiring_lines.specs.Below.wiring_table.Figures.{on_total, IsFigure, rule_of, digit_wheel, mark_wheel, mark_text, total_emitter}
use Rattle.wiring_lines.specs.Below.wiring_table.Figures as figures
use Rattle.wiring_lines.specs.LineWires.HelperAdds.{One, one, first, second, below, some, given, punched}
use Rattle.wiring_totals.specs.HelperTotals.{IsGoodTotal}
use Rattle.wire_gen.specs.HelperKnown.{IsNamed}
use Rattle.wiring_totals.specs.HelperLevels.{next}
use Rattle.wire_gen.specs.HelperLines.{StatementWires}
use Rattle.wiring_lines.specs.Below.wiring_table.Wires.{LineWire}
use Rattle.wiring_lines.specs.Below.wiring_table.Wires as table
use Rattle.wiring_lines.specs.Below.wiring_table.Parts.{negative_side, positive_side, top_group}
use Rattle.wiring_totals.specs.HelperCounters.{CarryUpWires, RingWires, entry_of, exit_of, place_of}
use Rattle.wiring_totals.specs.HelperTotalRows.{FeedbackWires}
use Rattle.chart_lines.specs.ChartsWords.Levels.{level_number}
use Rattle.wire_gen.proofs.CounterWires.{between-places, each-back, from-place, pair-back, position-back, ring-back, serves-back, to-place, top-back}
use Rattle.wire_gen.proofs.JoinAmount.{known-total, known-wires, sense-wires, transfer-wires}
use Rattle.wire_gen.proofs.JoinLines.{at-position}

pub total-back : (lines : List Line) (plan : Lists) (number : ℕ) (total : TotalLine) → IsNamed (field_named lines total.name) (IsGoodTotal lines plan number total)
    → (exit to : Hub) → LineWire lines plan number (says.TotalAmount total) exit to
    → StatementWires lines plan number (says.TotalAmount total) exit to
total-back lines plan number total good _ _ (table.entry _ field group position place lowest serves is from within) =
    let known = known-total lines plan number total good in
    let counter = known.good.counter.counter in
    let at = known.good.counter.there in
    known-wires lines plan number total field counter _ _ is.named at
    (first (given lowest (first (at-position (λ p. One (SR (field.last + 1 - p)) (entry_of (place_of counter p))) (columns_of field) position from within
    (to-place (position-back lines plan number counter at position group place serves))))))
total-back lines plan number total good _ _ (table.entry_adds _ group lowest serves unsigned) =
    let known = known-total lines plan number total good in
    let counter = known.good.counter.counter in
    let at = known.good.counter.there in
    known-wires lines plan number total unsigned.field counter _ _ unsigned.is_amount.named at
    (first (given lowest (second (sense-wires lines plan number total counter (rule_of unsigned.field.kind) None _ _ unsigned.unruled (each-back (λ g. One CC (PL g)) counter group (serves-back lines plan number counter at group serves) one)))))
total-back lines plan number total good _ _ (table.entry_sign _ rule pilot lowest signed is_pilot) =
    let known = known-total lines plan number total good in
    let counter = known.good.counter.counter in
    let at = known.good.counter.there in
    known-wires lines plan number total signed.field counter _ _ signed.named at
    (first (given lowest (second (sense-wires lines plan number total counter (rule_of signed.field.kind) (Some rule) _ _ signed.ruled (some pilot is_pilot (first one))))))
total-back lines plan number total good _ _ (table.entry_plus _ rule pilot group lowest serves signed is_pilot) =
    let known = known-total lines plan number total good in
    let counter = known.good.counter.counter in
    let at = known.good.counter.there in
    known-wires lines plan number total signed.field counter _ _ signed.named at
    (first (given lowest (second (sense-wires lines plan number total counter (rule_of signed.field.kind) (Some rule) _ _ signed.ruled (some pilot is_pilot (second (first (each-back (λ g. One (positive_side rule pilot 1) (PL g)) counter group (serves-back lines plan number counter at group serves) one))))))))
total-back lines plan number total good _ _ (table.entry_minus _ rule pilot group lowest serves signed is_pilot) =
    let known = known-total lines plan number total good in
    let counter = known.good.counter.counter in
    let at = known.good.counter.there in
    known-wires lines plan number total signed.field counter _ _ signed.named at
    (first (given lowest (second (sense-wires lines plan number total counter (rule_of signed.field.kind) (Some rule) _ _ signed.ruled (some pilot is_pilot (second (second (each-back (λ g. One (negative_side rule pilot 1) (MI g)) counter group (serves-back lines plan number counter at group serves) one))))))))
total-back lines plan number total good _ _ (table.read_out _ group serves) =
    let known = known-total lines plan number total good in
    let counter = known.good.counter.counter in
    let at = known.good.counter.there in
    known-wires lines plan number total known.field counter _ _ known.named at
    (second (first (first (each-back (λ g. One (PX (level_number total.level) 3) (RO g)) counter group (serves-back lines plan number counter at group serves) one))))
total-back lines plan number total good _ _ (table.total_digit _ field group position place serves is from within) =
    let known = known-total lines plan number total good in
    let counter = known.good.counter.counter in
    let at = known.good.counter.there in
    known-wires lines plan number total field counter _ _ is.named at
    (second (first (second (at-position (λ p. One (exit_of (place_of counter p)) (W (digit_wheel total.wheel total.digits (decimals_of field.kind) p))) total.digits position from within
    (from-place (position-back lines plan number counter at position group place serves))))))
total-back lines plan number total good _ _ (table.carry_up _ lower upper there) =
    let known = known-total lines plan number total good in
    let counter = known.good.counter.counter in
    let at = known.good.counter.there in
    known-wires lines plan number total known.field counter _ _ known.named at
    (second (second (second (second (second (pair-back lines plan number counter at CarryUpWires lower upper there one))))))
total-back lines plan number total good _ _ (table.ring _ rule group is_group signed) =
    let known = known-total lines plan number total good in
    let counter = known.good.counter.counter in
    let at = known.good.counter.there in
    known-wires lines plan number total signed.field counter _ _ signed.named at
    (second (second (second (first (some rule signed.ruled (first (first (ring-back lines plan number counter at group is_group))))))))
total-back lines plan number total good _ _ (table.carry_round _ rule lower upper there signed) =
    let known = known-total lines plan number total good in
    let counter = known.good.counter.counter in
    let at = known.good.counter.there in
    known-wires lines plan number total signed.field counter _ _ signed.named at
    (second (second (second (first (some rule signed.ruled (first (first (pair-back lines plan number counter at RingWires lower upper there one))))))))
total-back lines plan number total good _ _ (table.balance_test _ rule top is_top signed) =
    let known = known-total lines plan number total good in
    let counter = known.good.counter.counter in
    let at = known.good.counter.there in
    subst (λ g. StatementWires lines plan number (says.TotalAmount total) (PX (level_number total.level) 1) (BT g))
    (top-back lines plan number counter at top is_top)
    (known-wires lines plan number total signed.field counter _ _ signed.named at
    (second (second (second (first (some rule signed.ruled (first (second (first (first one))))))))))
total-back lines plan number total good _ _ (table.conversion _ rule top is_top signed) =
    let known = known-total lines plan number total good in
    let counter = known.good.counter.counter in
    let at = known.good.counter.there in
    subst (λ g. StatementWires lines plan number (says.TotalAmount total) (PX (level_number total.level) 2) (BAC g 1))
    (top-back lines plan number counter at top is_top)
    (known-wires lines plan number total signed.field counter _ _ signed.named at
    (second (second (second (first (some rule signed.ruled (first (second (first (second (first one)))))))))))
total-back lines plan number total good _ _ (table.conversion_read_out _ rule top group is_top serves signed) =
    let known = known-total lines plan number total good in
    let counter = known.good.counter.counter in
    let at = known.good.counter.there in
    subst (λ g. StatementWires lines plan number (says.TotalAmount total) (BAT g 1) (RO group))
    (top-back lines plan number counter at top is_top)
    (known-wires lines plan number total signed.field counter _ _ signed.named at
    (second (second (second (first (some rule signed.ruled (first (second (first (second (second (first (each-back (λ g. One (BAT (top_group counter) 1) (RO g)) counter group (serves-back lines plan number counter at group serves) one)))))))))))))
total-back lines plan number total good _ _ (table.conversion_minus _ rule top group is_top serves signed) =
    let known = known-total lines plan number total good in
    let counter = known.good.counter.counter in
    let at = known.good.counter.there in
    subst (λ g. StatementWires lines plan number (says.TotalAmount total) (BAT g 1) (MI group))
    (top-back lines plan number counter at top is_top)
    (known-wires lines plan number total signed.field counter _ _ signed.named at
    (second (second (second (first (some rule signed.ruled (first (second (first (second (second (second (each-back (λ g. One (BAT (top_group counter) 1) (MI g)) counter group (serves-back lines plan number counter at group serves) one)))))))))))))
total-back lines plan number total good _ _ (table.feedback _ rule group place serves signed from within) =
    let known = known-total lines plan number total good in
    let counter = known.good.counter.counter in
    let at = known.good.counter.there in
    known-wires lines plan number total signed.field counter _ _ signed.named at
    (second (second (second (first (some rule signed.ruled (first (second (second (each-back FeedbackWires counter group (serves-back lines plan number counter at group serves)
    (at-position (λ p. One (GX group p) (GE group p)) group.width place from within one))))))))))
total-back lines plan number total good _ _ (table.total_mark_in _ its_mark rule top k row marked is_top signed punch) =
    let known = known-total lines plan number total good in
    let counter = known.good.counter.counter in
    let at = known.good.counter.there in
    subst (λ g. StatementWires lines plan number (says.TotalAmount total) (EM (total_emitter (level_number total.level)) row) (BAC g (3 + k)))
    (top-back lines plan number counter at top is_top)
    (known-wires lines plan number total signed.field counter _ _ signed.named at
    (second (second (second (first (some rule signed.ruled (second (some its_mark marked
    (below k (slice_get_within (mark_text its_mark) k punch.character punch.there)
    (some punch.character punch.there (first (punched row punch.punch one))))))))))))
total-back lines plan number total good _ _ (table.total_mark_out _ its_mark rule field top k row marked is_top signed named punch) =
    let known = known-total lines plan number total good in
    let counter = known.good.counter.counter in
    let at = known.good.counter.there in
    subst (λ g. StatementWires lines plan number (says.TotalAmount total) (BAT g (3 + k)) (W (mark_wheel total.wheel total.digits (decimals_of field.kind) + k)))
    (top-back lines plan number counter at top is_top)
    (known-wires lines plan number total field counter _ _ named at
    (second (second (second (first (some rule (ap (λ f. rule_of f.kind) (sym (same_Some signed.field field (sym signed.named ∙ named))) ∙ signed.ruled) (second (some its_mark marked
    (below k (slice_get_within (mark_text its_mark) k punch.character punch.there)
    (some punch.character punch.there (second one)))))))))))
total-back lines plan number total good _ _ (table.transfer _ group upper other position place upper_place serves is_next serves_upper from within) =
    let known = known-total lines plan number total good in
    let counter = known.good.counter.counter in
    let at = known.good.counter.there in
    let higher = known.good.higher other is_next in
    known-wires lines plan number total known.field counter _ _ known.named at
    (second (second (second (second (first (next other is_next (some higher.counter higher.there (first
    (at-position (λ p. One (exit_of (place_of counter p)) (entry_of (place_of higher.counter p))) total.digits position from within
    (between-places (position-back lines plan number counter at position group place serves)
    (position-back lines plan other higher.counter higher.there position upper upper_place serves_upper)))))))))))
total-back lines plan number total good _ _ (table.transfer_adds _ upper other unsigned is_next serves) =
    let known = known-total lines plan number total good in
    let counter = known.good.counter.counter in
    let at = known.good.counter.there in
    let higher = known.good.higher other is_next in
    known-wires lines plan number total unsigned.field counter _ _ unsigned.is_amount.named at
    (second (second (second (second (first (next other is_next (some higher.counter higher.there (second (transfer-wires lines plan number total counter higher.counter (rule_of unsigned.field.kind) None _ _ unsigned.unruled (each-back (λ g. One (PX (level_number total.level) 3) (PL g)) higher.counter upper (serves-back lines plan other higher.counter higher.there upper serves) one))))))))))
total-back lines plan number total good _ _ (table.transfer_sign _ rule top other is_top signed is_next) =
    let known = known-total lines plan number total good in
    let counter = known.good.counter.counter in
    let at = known.good.counter.there in
    let higher = known.good.higher other is_next in
    subst (λ g. StatementWires lines plan number (says.TotalAmount total) (PX (level_number total.level) 3) (BAC g 2))
    (top-back lines plan number counter at top is_top)
    (known-wires lines plan number total signed.field counter _ _ signed.named at
    (second (second (second (second (first (next other is_next (some higher.counter higher.there (second (transfer-wires lines plan number total counter higher.counter (rule_of signed.field.kind) (Some rule) _ _ signed.ruled (first one)))))))))))
total-back lines plan number total good _ _ (table.transfer_plus _ rule top upper other is_top signed is_next serves) =
    let known = known-total lines plan number total good in
    let counter = known.good.counter.counter in
    let at = known.good.counter.there in
    let higher = known.good.higher other is_next in
    subst (λ g. StatementWires lines plan number (says.TotalAmount total) (BAN g 2) (PL upper))
    (top-back lines plan number counter at top is_top)
    (known-wires lines plan number total signed.field counter _ _ signed.named at
    (second (second (second (second (first (next other is_next (some higher.counter higher.there (second (transfer-wires lines plan number total counter higher.counter (rule_of signed.field.kind) (Some rule) _ _ signed.ruled (second (first (each-back (λ g. One (BAN (top_group counter) 2) (PL g)) higher.counter upper (serves-back lines plan other higher.counter higher.there upper serves) one)))))))))))))
total-back lines plan number total good _ _ (table.transfer_minus _ rule top upper other is_top signed is_next serves) =
    let known = known-total lines plan number total good in
    let counter = known.good.counter.counter in
    let at = known.good.counter.there in
    let higher = known.good.higher other is_next in
    subst (λ g. StatementWires lines plan number (says.TotalAmount total) (BAT g 2) (MI upper))
    (top-back lines plan number counter at top is_top)
    (known-wires lines plan number total signed.field counter _ _ signed.named at
    (second (second (second (second (first (next other is_next (some higher.counter higher.there (second (transfer-wires lines plan number total counter higher.counter (rule_of signed.field.kind) (Some rule) _ _ signed.ruled (second (second (each-back (λ g. One (BAT (top_group counter) 2) (MI g)) higher.counter upper (serves-back lines plan other higher.counter higher.there upper serves) one)))))))))))))
total-back lines plan number total good _ _ (table.literal _ emitter _ text j row is punch) =
    elim is [ ]
total-back lines plan number total good _ _ (table.point _ emitter _ figure row (figures.IsFigure.on_total _ field is) has punch) =
    let known = known-total lines plan number total good in
    known-wires lines plan number total field known.good.counter.counter _ _ is.named known.good.counter.there
    (second (second (first (given has (punched row punch one)))))
