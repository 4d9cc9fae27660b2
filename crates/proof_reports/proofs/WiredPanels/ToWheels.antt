-- What arrives at a row of a cycle after the contacts on the way to print wheels: who feeds a position of group indication, a split, a
-- pilot's and a group's marks. And the wires of a line, followed from an exit that emits.
use Rattle.std.proofs.Common.{◌≡◌, ◌∙◌, refl, sym, ap, subst, ℕ, ◌+◌, ◌-◌, Bool, true, false, Contains, Option, Some, arith, List}
use Rattle.std.proofs.lemmas.Option.{same_Some}
use Rattle.proof_cycles.specs.Below.card_code.Rows.{row_number}
use Rattle.proof_cycles.specs.Below.card_code.declared.row.Row.{Row as CardRow}
use Rattle.wiring_table.specs.Below.chart_line_rules.FieldRules.Fields.{field_named}
use Rattle.wiring_table.specs.Below.chart_lines.ChartsWords.Chart.{NumbersRise}
use Rattle.wiring_table.specs.Below.chart_lines.ChartsWords.Field.{sign_column}
use Rattle.wiring_table.specs.Below.chart_lines.ChartsWords.Levels.{control_number, level_number}
use Rattle.wiring_table.specs.Below.chart_lines.declared.charts.chart.Line.{Line}
use Rattle.wiring_table.specs.Below.chart_lines.declared.charts.level.ControlLevel.TheVariants as control
use Rattle.wiring_table.specs.Below.chart_lines.declared.charts.level.ControlLevel.{ControlLevel}
use Rattle.wiring_table.specs.Below.chart_lines.declared.charts.statement.DetailOption.TheVariants as shown
use Rattle.wiring_table.specs.Below.chart_lines.declared.charts.statement.DetailOption.{DetailOption}
use Rattle.wiring_table.specs.Below.chart_lines.declared.charts.statement.Field.{Field}
use Rattle.wiring_table.specs.Below.chart_lines.declared.charts.statement.Mark.{Mark}
use Rattle.wiring_table.specs.Below.chart_lines.declared.charts.statement.SignRule.TheVariants as sign
use Rattle.wiring_table.specs.Below.chart_lines.declared.charts.statement.SignRule.{SignRule}
use Rattle.wiring_table.specs.Below.chart_lines.declared.charts.statement.Statement.TheVariants as says
use Rattle.wiring_table.specs.Below.chart_lines.declared.charts.statement.TotalLine.{TotalLine}
use Rattle.wiring_table.specs.Below.chart_lines.declared.charts.statement.Statement.{Statement}
use Rattle.wiring_table.specs.Below.hubs.SetupsWords.Wiring.{Wiring}
use Rattle.proof_cycles.specs.Below.hubs.declared.hub.Group.{Group}
use Rattle.proof_cycles.specs.Below.hubs.declared.hub.Hub.TheVariants.{FR, SR, GX, SX, EM, BAC, PIC, IE, CSE}
use Rattle.proof_cycles.specs.Below.hubs.declared.hub.Hub.{Hub}
use Rattle.proof_cycles.specs.Below.machine.Machine.{MachineState, closes}
use Rattle.proof_cycles.specs.Below.net.Panel.{contact_of}
use Rattle.proof_cycles.specs.Below.net.declared.cycle.Cycle.TheVariants.{Card}
use Rattle.proof_cycles.specs.Below.net.declared.cycle.Cycle.{Cycle}
use Rattle.proof_cycles.specs.Below.net.declared.cycle.Point.TheVariants.{Row}
use Rattle.proof_cycles.specs.Below.net.declared.cycle.Point.{Point}
use Rattle.print_unit.specs.Emitters.{emitter_of}
use Rattle.proof_cycles.specs.WholeCycles.WholeCycles.{row_emits}
use Rattle.wiring_table.specs.Figures.{IsAmount, HasPunchAt, mark_text, detail_emitter, total_emitter}
use Rattle.wiring_table.specs.Parts.{top_for, pilot_for, indicate_for, split_for, negative_side}
use Rattle.wiring_table.specs.Wires.LineWire.{indicated_text_in, split_digit_in, detail_mark_in, total_mark_in, entry_sign, conversion, transfer_sign}
use Rattle.wiring_table.specs.Wires.{LineWire, ChartWire}
use Rattle.proof_reports.specs.WiredPanels.CycleRows.{CycleRow, reads, is_closed}
use Rattle.proof_reports.specs.WiredPanels.Panel.Arrives.{straight, through}
use Rattle.proof_reports.specs.WiredPanels.Panel.{Arrives}
use Rattle.proof_reports.specs.WiredPanels.PanelCycles.{IsPanelCycle}
use Rattle.proof_reports.specs.WiredPanels.Sources.EmitsAtRow.{first, second, digit, column, emitter}
use Rattle.proof_reports.specs.WiredPanels.Sources.{EmitsAtRow}
use Rattle.wiring_table.proofs.Below.chart_lines.ChartsWords.Rising.{one-line}
use Rattle.wiring_table.proofs.Groups.{serves-own, top-serves}
use Rattle.wiring_table.proofs.Parts.{indicate-own, pilot-own, split-own}
use Rattle.proof_reports.proofs.WiredPanels.SpeakersLawful.{detail-same}
use Rattle.proof_reports.proofs.WiredPanels.Straight.{emits_at_row}

-- what emits at the row, what arrives there, and a wire of a line with a number
abbrev pub Emits : CycleRow → Hub → Type 0
Emits at hub = EmitsAtRow at.old at.pictures at.cycle at.row hub

abbrev pub ArrivesThere : CycleRow → Hub → Type 0
ArrivesThere at hub =
    Arrives at.chart.lines at.plan (row_emits at.old at.pictures at.cycle at.row) (closes at.old at.cycle (Row at.row)) hub

abbrev pub WireAt : CycleRow → ℕ → Statement → Hub → Hub → Type 0
WireAt at number statement exit entry = LineWire at.chart.lines at.plan number statement exit entry

-- the exits that can emit at rows
abbrev pub is_row_exit : Hub → Bool
is_row_exit (FR c) = true
is_row_exit (SR c) = true
is_row_exit (GX group position) = true
is_row_exit (SX unit c) = true
is_row_exit (EM e row) = true
is_row_exit other = false

row_exit : (old : MachineState) (pictures : Point → Hub → Bool) (cycle : Cycle) (row : CardRow) {hub : Hub}
    → EmitsAtRow old pictures cycle row hub → is_row_exit hub ≡ true
row_exit old pictures cycle row (first c is_reading punched) = refl
row_exit old pictures cycle row (second c is punched) = refl
row_exit old pictures cycle row (digit group position listed out low high is) = refl
row_exit old pictures cycle row (column storage c listed out held) = refl
row_exit old pictures cycle row (emitter e is) = refl

pub silent : {A : Type 0} (at : CycleRow) (hub : Hub) → Emits at hub → is_row_exit hub ≡ false → A
silent at hub emits none = let on = row_exit at.old at.pictures at.cycle at.row emits in absurd (no_both none on)
  where
    no_both : {b : Bool} → b ≡ false → b ≡ true → ⊥
    no_both a b = cc

control-same : (one other : ControlLevel) → control_number one ≡ control_number other → one ≡ other
control-same control.Minor control.Minor same = refl
control-same control.Intermediate control.Intermediate same = refl
control-same control.Major control.Major same = refl
control-same one other same = cc

-- the common hub of a pilot's side
pub pilot_common : (rule : SignRule) (pilot position : ℕ) → contact_of (negative_side rule pilot position) ≡ Some (PIC pilot position)
pilot_common (sign.X c) pilot position = refl
pilot_common (sign.NX c) pilot position = refl

module _ (wiring : Wiring) (at : CycleRow) (it : IsPanelCycle at.chart at.plan wiring at.old at.cycle at.pictures)
    (rises : NumbersRise at.chart.lines at.chart.end) where
  one_line : (one other : Line) → Contains at.chart.lines one → Contains at.chart.lines other → one.number ≡ other.number → one ≡ other
  one_line one other here there same = one-line at.chart.lines at.chart.end one other rises here there same

  -- through a position of group indication comes the column that it serves
  pub through_indicate :
      (line other : Line) (level : ControlLevel) (c position : ℕ) {its : Statement} {x common : Hub}
      → WireAt at other.number its x common → Emits at x → Some (IE (control_number level) position) ≡ Some common
      → indicate_for at.plan level line.number c ≡ Some position → (at.cycle ≡ Card) × (reads at c ≡ true)
  through_indicate line other level c position {its} {x} wire emits leads served =
      by (subst (λ h. WireAt at other.number its x h) (same leads) wire) emits refl refl
    where
      same : {common : Hub} → Some (IE (control_number level) position) ≡ Some common → common ≡ IE (control_number level) position
      same e = cc

      by : {its : Statement} {x : Hub} {l p : ℕ} → WireAt at other.number its x (IE l p) → Emits at x → l ≡ control_number level
          → p ≡ position → (at.cycle ≡ Card) × (reads at c ≡ true)
      by (indicated_text_in wheel name level' field j p is within served') (second c' card punched) levels places =
          let e : level' ≡ level = control-same level' level levels in
          let f : indicate_for at.plan level other.number (field.first + j) ≡ Some position
          = ap (λ l. indicate_for at.plan l other.number (field.first + j)) (sym e) ∙ served' ∙ ap Some places in
          let g = indicate-own at.chart.lines at.plan it.panel.planned level other.number line.number (field.first + j) c position f served in
          (card, subst (λ n. reads at n ≡ true) g.1 punched)

  -- through a split comes the sign column of its amount
  pub through_split :
      (line other : Line) (wheel split position : ℕ) (name : List ℕ) (how : DetailOption) (field : Field) {its : Statement} {x common : Hub}
      → Contains at.chart.lines line → Contains at.chart.lines other → line.statement ≡ says.DetailField wheel name how
      → other.statement ≡ its → WireAt at other.number its x common → Emits at x → Some (CSE split) ≡ Some common
      → IsAmount at.chart.lines name field → sign_column field.kind ≡ Some (field.last + 1 - position) → split_for at.plan line.number ≡ Some split
      → (at.cycle ≡ Card) × (reads at (field.last + 1 - position) ≡ true)
  through_split line other wheel split position name how field {its} {x} listed there says_it says_its wire emits leads is signed served =
      by says_its (subst (λ h. WireAt at other.number its x h) (same leads) wire) emits refl
    where
      same : {common : Hub} → Some (CSE split) ≡ Some common → common ≡ CSE split
      same e = cc

      column_is : {a b : ℕ} {o : Option ℕ} → Some a ≡ o → o ≡ Some b → a ≡ b
      column_is p q = cc

      by : {its : Statement} {x : Hub} {s : ℕ} → other.statement ≡ its → WireAt at other.number its x (CSE s) → Emits at x → s ≡ split
          → (at.cycle ≡ Card) × (reads at (field.last + 1 - position) ≡ true)
      by says_its (split_digit_in wheel' name' how' field' position' s is' low' high' signed' served') (second c card punched) splits =
          let n : other.number ≡ line.number = split-own at.chart.lines at.plan it.panel.planned other.number line.number split (served' ∙ ap Some splits) served in
          let e : other ≡ line = one_line other line there listed n in
          let f : says.DetailField wheel' name' how' ≡ says.DetailField wheel name how = sym says_its ∙ ap (λ l. l.statement) e ∙ says_it in
          let names : name' ≡ name = cc in
          let its_named : field_named at.chart.lines name ≡ Some field' = ap (field_named at.chart.lines) (sym names) ∙ is'.named in
          let named = is.named in
          let g : field' ≡ field = cc in
          let h : field'.last + 1 - position' ≡ field.last + 1 - position
          = column_is (sym signed') (ap (λ each. sign_column each.kind) g ∙ signed) in
          (card, subst (λ n. reads at n ≡ true) h punched)

  -- through the marks of a pilot comes the mark of its amount
  pub through_pilot :
      (line other : Line) (wheel k pilot : ℕ) (name : List ℕ) (mark : Mark) (rule : SignRule) {its : Statement} {x common : Hub}
      → Contains at.chart.lines line → Contains at.chart.lines other → line.statement ≡ says.DetailField wheel name (shown.Marked mark)
      → other.statement ≡ its → WireAt at other.number its x common → Emits at x → contact_of (negative_side rule pilot (2 + k)) ≡ Some common
      → pilot_for at.plan name ≡ Some pilot
      → HasPunchAt (mark_text mark) k (row_number at.row) × (emitter_of at.cycle ≡ Some detail_emitter)
  through_pilot line other wheel k pilot name mark rule {its} {x} listed there says_it says_its wire emits leads served =
      by says_its (subst (λ h. WireAt at other.number its x h) (same (sym (pilot_common rule pilot (2 + k)) ∙ leads)) wire) emits refl refl
    where
      same : {common : Hub} → Some (PIC pilot (2 + k)) ≡ Some common → common ≡ PIC pilot (2 + k)
      same e = cc

      by : {its : Statement} {x : Hub} {p q : ℕ} → other.statement ≡ its → WireAt at other.number its x (PIC p q) → Emits at x → p ≡ pilot
          → q ≡ 2 + k → HasPunchAt (mark_text mark) k (row_number at.row) × (emitter_of at.cycle ≡ Some detail_emitter)
      by says_its (detail_mark_in wheel' name' mark' rule' p k' row is served' punch) (emitter from emits) pilots places =
          let e : name' ≡ name = pilot-own at.chart.lines at.plan it.panel.planned name' name pilot (served' ∙ ap Some pilots) served in
          let f : other.statement ≡ says.DetailField wheel' name (shown.Marked mark')
          = says_its ∙ ap (λ n. says.DetailField wheel' n (shown.Marked mark')) e in
          let g : other ≡ line = detail-same at.chart other line wheel' wheel name (shown.Marked mark') (shown.Marked mark) it.panel.lawful there listed f says_it in
          let h : says.DetailField wheel' name (shown.Marked mark') ≡ says.DetailField wheel name (shown.Marked mark)
          = sym f ∙ ap (λ l. l.statement) g ∙ says_it in
          let m : mark' ≡ mark = cc in
          let n : k' ≡ k = omega (arith, places) in (
            subst (λ i. HasPunchAt (mark_text mark) i (row_number at.row)) n
                (subst (λ c. HasPunchAt (mark_text c) k' (row_number at.row)) m punch),
            emits,
          )
      by says_its (entry_sign total' rule' p p0 p1 p2) emits pilots places = silent at _ emits refl

  -- through the marks of a balance comes the mark of its total
  pub through_balance :
      (line other : Line) (total : TotalLine) (k : ℕ) (group : Group) (mark : Mark) {its : Statement} {x common : Hub}
      → Contains at.chart.lines line → Contains at.chart.lines other
      → line.statement ≡ says.TotalAmount total → total.mark ≡ Some mark → other.statement ≡ its
      → WireAt at other.number its x common → Emits at x → Some (BAC group (3 + k)) ≡ Some common
      → top_for at.chart.lines at.plan line.number ≡ Some group
      → HasPunchAt (mark_text mark) k (row_number at.row) × (emitter_of at.cycle ≡ Some (total_emitter (level_number total.level)))
  through_balance line other total k group mark {its} {x} listed there says_it marked says_its wire emits leads served =
      by says_its (subst (λ h. WireAt at other.number its x h) (same leads) wire) emits refl refl
    where
      same : {common : Hub} → Some (BAC group (3 + k)) ≡ Some common → common ≡ BAC group (3 + k)
      same e = cc

      by : {its : Statement} {x : Hub} {g : Group} {p : ℕ} → other.statement ≡ its → WireAt at other.number its x (BAC g p) → Emits at x
          → g ≡ group → p ≡ 3 + k
          → HasPunchAt (mark_text mark) k (row_number at.row) × (emitter_of at.cycle ≡ Some (total_emitter (level_number total.level)))
      by says_its (total_mark_in total' mark' rule g k' row marked' served' is punch) (emitter from emits) groups places =
          let n : other.number ≡ line.number
          = serves-own at.chart.lines at.plan it.panel.planned other.number line.number group
          (top-serves at.chart.lines at.plan other.number group (served' ∙ ap Some groups))
          (top-serves at.chart.lines at.plan line.number group served) in
          let e : other ≡ line = one_line other line there listed n in
          let f : says.TotalAmount total' ≡ says.TotalAmount total = sym says_its ∙ ap (λ l. l.statement) e ∙ says_it in
          let same_total : total' ≡ total = cc in
          let m : mark' ≡ mark = same_Some mark' mark (sym marked' ∙ ap (λ (t : TotalLine). t.mark) same_total ∙ marked) in
          let l : total'.level ≡ total.level = ap (λ (t : TotalLine). t.level) same_total in
          let i : k' ≡ k = omega (arith, places) in (
            subst (λ i. HasPunchAt (mark_text mark) i (row_number at.row)) i
                (subst (λ c. HasPunchAt (mark_text c) k' (row_number at.row)) m punch),
            emits ∙ ap (λ each. Some (total_emitter (level_number each))) l,
          )
      by says_its (conversion total' rule g p0 p1) emits groups places = silent at _ emits refl
      by says_its (transfer_sign total' rule g other' p0 p1 p2) emits groups places = silent at _ emits refl

  -- a wire of a line of the chart
  wire_of : (line : Line) {statement : Statement} {x e : Hub} → Contains at.chart.lines line → line.statement ≡ statement
      → WireAt at line.number statement x e → ChartWire at.chart.lines at.plan x e
  wire_of line {statement} {x} {e} listed says_it wire =
      record { line = line; listed = listed; wire = subst (λ s. WireAt at line.number s x e) (sym says_it) wire }

  -- along a wire of a line, and along two of them with a closed contact between
  pub along : (line : Line) {statement : Statement} {x e : Hub} → Contains at.chart.lines line → line.statement ≡ statement
      → WireAt at line.number statement x e → Emits at x → ArrivesThere at e
  along line {statement} {x} {e} listed says_it wire emits =
      let given = wire_of line listed says_it wire in
      straight x e (emits_at_row at.chart at.plan wiring at.old at.cycle at.pictures it at.row given emits) given

  pub along_contact : (line : Line) {statement : Statement} {x common contact e : Hub} → Contains at.chart.lines line → line.statement ≡ statement
      → WireAt at line.number statement x common → Emits at x → contact_of contact ≡ Some common → is_closed at contact ≡ true
      → WireAt at line.number statement contact e → ArrivesThere at e
  along_contact line {statement} {x} {common} {contact} {e} listed says_it wire emits leads shut last =
      let given = wire_of line listed says_it wire in
      through x common contact e (emits_at_row at.chart at.plan wiring at.old at.cycle at.pictures it at.row given emits) given leads shut
      (wire_of line listed says_it last)
