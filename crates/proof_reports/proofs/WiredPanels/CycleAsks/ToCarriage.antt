-- What the carriage of a panel is asked for: in the cycle that prints a kind of body line what the chart asks for it, and nothing in
-- other cycles.
use Rattle.std.proofs.Common.{◌≡◌, ◌≢◌, ◌∙◌, refl, sym, ap, subst, ℕ, zero, suc, ◌+◌, ◌≤◌, ◌<◌, Bool, true, false, List, Contains, Option, Some, None, ◌↔◌, arith, if◌then◌else◌}
use Rattle.proof_reports.specs.Below.chart_plans.PlansWords.Plans.{Lists}
use Rattle.carriage.specs.declared.asked.Asked.{Asked}
use Rattle.proof_reports.specs.WiredPanels.CycleAsks.LinePlaces.CarriageCycles.{carriage_after}
use Rattle.proof_cycles.specs.WholeCycles.Between.{IsBetween}
use Rattle.proof_cycles.specs.WholeCycles.WholeCycles.{WholeCycle}
use Rattle.proof_reports.specs.WiredPanels.Panel.{IsPanel}
use Rattle.proof_reports.proofs.WiredPanels.AfterCycles.{cycle-of}
use Rattle.carriage.specs.Asked.{asked_by, nothing_asked, lowest_from, channel_asked, lines_asked}
use Rattle.proof_reports.specs.Below.chart_lines.ChartsWords.Chart.{Chart}
use Rattle.proof_reports.specs.Below.chart_lines.ChartsWords.Levels.{level_number}
use Rattle.proof_reports.specs.Below.chart_lines.ChartsWords.Spacings.{spacing_number}
use Rattle.proof_reports.specs.Below.chart_lines.declared.charts.chart.Line.{Line}
use Rattle.proof_reports.specs.Below.chart_lines.declared.charts.level.Level.{Level}
use Rattle.proof_reports.specs.Below.chart_lines.declared.charts.level.Level.TheVariants as its_level
use Rattle.proof_reports.specs.Below.chart_lines.declared.charts.spacing.Spacing.{Spacing}
use Rattle.proof_reports.specs.Below.chart_lines.declared.charts.spacing.Spacing.TheVariants as spacing
use Rattle.proof_reports.specs.Below.chart_lines.declared.charts.statement.After.{After}
use Rattle.proof_reports.specs.Below.chart_lines.declared.charts.statement.After.TheVariants as action
use Rattle.proof_reports.specs.Below.chart_lines.declared.charts.statement.BodyLine.{BodyLine}
use Rattle.proof_reports.specs.Below.chart_lines.declared.charts.statement.BodyLine.TheVariants as body
use Rattle.proof_reports.specs.Below.chart_lines.declared.charts.statement.Statement.{Statement}
use Rattle.proof_reports.specs.Below.chart_lines.declared.charts.statement.Statement.TheVariants as says
use Rattle.proof_reports.specs.Below.hubs.SetupsWords.Wiring.{Wiring}
use Rattle.proof_reports.specs.Below.hubs.declared.hub.Hub.{Hub}
use Rattle.proof_reports.specs.Below.hubs.declared.hub.Hub.TheVariants.{PX, SP, SK, RS}
use Rattle.proof_reports.specs.Below.machine.Machine.{MachineState}
use Rattle.proof_cycles.specs.Below.net.Cycles as cycles
use Rattle.proof_cycles.specs.Below.net.declared.cycle.Cycle.{Cycle}
use Rattle.proof_cycles.specs.Below.net.declared.cycle.Cycle.TheVariants.{RunIn, Card, Prog, Head}
use Rattle.proof_cycles.specs.Below.net.declared.cycle.ProgramLevel.{ProgramLevel}
use Rattle.proof_cycles.specs.Below.net.declared.cycle.ProgramLevel.TheVariants.{Minor, Intermediate, Major, Final}
use Rattle.proof_cycles.specs.Below.net.declared.cycle.Ordinal.TheVariants.{First, Second, Third}
use Rattle.proof_cycles.specs.Below.net.declared.cycle.Point.{Point}
use Rattle.proof_cycles.specs.Below.net.declared.cycle.Point.TheVariants.{C}
use Rattle.proof_reports.proofs.WiredPanels.CycleAsks.LinePlaces.LawfulForms.{form-lawful}
use Rattle.proof_reports.specs.WiredPanels.CycleAsks.LinePlaces.Placing.{kind_of, asked_of, channel_of, turns_page}
use Rattle.report_definition.specs.ChartForm.{kind_number, spacing_of, after_of}
use Rattle.wiring_table.specs.Parts.{source_of}
use Rattle.wiring_table.specs.Wires.{LineWire}
use Rattle.wiring_table.specs.Wires.LineWire.{double_space, triple_space, page, skip}
use Rattle.report_definition.proofs.Said.{SaysSpace, SaysAfter, after-said, space-said}
use Rattle.proof_reports.proofs.WiredPanels.SaidOnce.{said-once, space-is, after-is}
use Rattle.proof_reports.proofs.WiredPanels.Straight.{at_control}
use Rattle.proof_reports.specs.WiredPanels.PanelCycles.{IsPanelCycle, ArrivesAtControl}
use Rattle.proof_reports.specs.WiredPanels.Sources.{EmitsAtControl}
use Rattle.proof_reports.specs.WiredPanels.Sources.EmitsAtControl.{card as tells_card, prog as tells_prog, head as tells_head}

-- the exit that tells of a cycle is a kind's source in the cycle that prints that kind
pub tells-kind : (kind : BodyLine) {cycle : Cycle} {hub : Hub} → EmitsAtControl cycle hub → hub ≡ source_of kind
    → kind_of cycle ≡ Some (kind_number kind)
tells-kind body.Detail tells_card is = refl
tells-kind body.Detail (tells_prog level ordinal) is = cc
tells-kind body.Detail (tells_head heading) is = cc
tells-kind (body.Total its) tells_card is = cc
tells-kind (body.Total its) (tells_prog level Third) is =
    let same : cycles.level_number level ≡ level_number its = cc in ap Some same
tells-kind (body.Total its) (tells_prog level First) is =
    let same : ◌≡◌ {A = ℕ} 1 3 = cc in absurd (omega (arith, same))
tells-kind (body.Total its) (tells_prog level Second) is =
    let same : ◌≡◌ {A = ℕ} 2 3 = cc in absurd (omega (arith, same))
tells-kind (body.Total its) (tells_head heading) is = cc

-- and the other way
pub kind-tells : (cycle : Cycle) (kind : BodyLine) → kind_of cycle ≡ Some (kind_number kind) → EmitsAtControl cycle (source_of kind)
kind-tells RunIn kind is = cc
kind-tells Card body.Detail is = tells_card
kind-tells Card (body.Total its) is = let e : 0 ≡ level_number its = cc in absurd (by its e)
  where
    by : (its : Level) → 0 ≡ level_number its → ⊥
    by its_level.Minor e = omega (arith, e)
    by its_level.Intermediate e = omega (arith, e)
    by its_level.Major e = omega (arith, e)
    by its_level.Final e = omega (arith, e)
kind-tells (Prog level First) kind is = cc
kind-tells (Prog level Second) kind is = cc
kind-tells (Prog level Third) body.Detail is = let e : cycles.level_number level ≡ 0 = cc in absurd (by level e)
  where
    by : (level : ProgramLevel) → cycles.level_number level ≡ 0 → ⊥
    by Minor e = omega (arith, e)
    by Intermediate e = omega (arith, e)
    by Major e = omega (arith, e)
    by Final e = omega (arith, e)
kind-tells (Prog level Third) (body.Total its) is =
    let e : cycles.level_number level ≡ level_number its = cc in
    subst (λ n. EmitsAtControl (Prog level Third) (PX n 3)) e (tells_prog level Third)
kind-tells (Head heading) kind is = cc

-- A line of the chart gives a spacing of so many lines to the kind that the cycle prints.
record SpaceTold (lines : List Line) (cycle : Cycle) (many : ℕ) : Type 0 where
  kind : ℕ
  printed : kind_of cycle ≡ Some kind
  more : 2 ≤ many
  said : SaysSpace lines kind many

-- A line of the chart says what follows the kind that the cycle prints.
record AfterTold (lines : List Line) (cycle : Cycle) (follows : After) : Type 0 where
  kind : ℕ
  printed : kind_of cycle ≡ Some kind
  said : SaysAfter lines kind follows

-- the lines from which a cycle's wires come
module _ (lines : List Line) (plan : Lists) (cycle : Cycle) where
  space-told : (n : ℕ) → ArrivesAtControl lines plan cycle (SP n) → SpaceTold lines cycle n
  space-told n come = by come.wire.line come.wire.listed come.emits refl come.wire.wire
    where
      told : (line : Line) (its : BodyLine) (spacing : Spacing) → Contains lines line → line.statement ≡ says.Space its spacing
          → EmitsAtControl cycle (source_of its) → 2 ≤ spacing_number spacing → SpaceTold lines cycle (spacing_number spacing)
      told line its spacing listed is tells more = record {
        kind = kind_number its;
        printed = tells-kind its tells refl;
        more = more;
        said = record {
          line = line;
          listed = listed;
          its_kind = its;
          its_spacing = spacing;
          is_space = is;
          same_kind = refl;
          same_spacing = refl;
        };
      }

      by : (line : Line) → Contains lines line → {exit : Hub} → EmitsAtControl cycle exit → {statement : Statement} → line.statement ≡ statement
          → {n : ℕ} → LineWire lines plan line.number statement exit (SP n) → SpaceTold lines cycle n
      by line listed tells is (double_space its) = told line its spacing.Double listed is tells (omega arith)
      by line listed tells is (triple_space its) = told line its spacing.Triple listed is tells (omega arith)

  skip-told : (n : ℕ) → ArrivesAtControl lines plan cycle (SK n) → AfterTold lines cycle (action.Skip n)
  skip-told n come = by come.wire.line come.wire.listed come.emits refl come.wire.wire
    where
      by : (line : Line) → Contains lines line → {exit : Hub} → EmitsAtControl cycle exit → {statement : Statement} → line.statement ≡ statement
          → {n : ℕ} → LineWire lines plan line.number statement exit (SK n) → AfterTold lines cycle (action.Skip n)
      by line listed tells is (skip its channel) = record {
        kind = kind_number its;
        printed = tells-kind its tells refl;
        said = record { line = line; listed = listed; its_kind = its; is_after = is; same_kind = refl };
      }

  page-told : ArrivesAtControl lines plan cycle RS → AfterTold lines cycle action.Page
  page-told come = by come.wire.line come.wire.listed come.emits refl come.wire.wire
    where
      by : (line : Line) → Contains lines line → {exit : Hub} → EmitsAtControl cycle exit → {statement : Statement} → line.statement ≡ statement
          → LineWire lines plan line.number statement exit RS → AfterTold lines cycle action.Page
      by line listed tells is (page its) = record {
        kind = kind_number its;
        printed = tells-kind its tells refl;
        said = record { line = line; listed = listed; its_kind = its; is_after = is; same_kind = refl };
      }

  -- a wire of a line of the chart
  wired : (line : Line) → Contains lines line → (its : BodyLine) → kind_of cycle ≡ Some (kind_number its)
      → {statement : Statement} → line.statement ≡ statement → {entry : Hub}
      → LineWire lines plan line.number statement (source_of its) entry → ArrivesAtControl lines plan cycle entry
  wired line listed its printed is {entry} wire = record {
    exit = source_of its;
    emits = kind-tells cycle its printed;
    wire = record {
      line = line;
      listed = listed;
      wire = subst (λ statement. LineWire lines plan line.number statement (source_of its) entry) (sym is) wire;
    };
  }

  told-space : (kind n : ℕ) → kind_of cycle ≡ Some kind → 2 ≤ n → SaysSpace lines kind n → ArrivesAtControl lines plan cycle (SP n)
  told-space kind n printed more s = by s.its_spacing s.is_space s.same_spacing
    where
      here : kind_of cycle ≡ Some (kind_number s.its_kind)
      here = printed ∙ ap Some (sym s.same_kind)

      by : (its : Spacing) → s.line.statement ≡ says.Space s.its_kind its → spacing_number its ≡ n → ArrivesAtControl lines plan cycle (SP n)
      by spacing.Single is many = absurd (omega (arith, more, many))
      by spacing.Double is many =
          subst (λ m. ArrivesAtControl lines plan cycle (SP m)) many (wired s.line s.listed s.its_kind here is (double_space s.its_kind))
      by spacing.Triple is many =
          subst (λ m. ArrivesAtControl lines plan cycle (SP m)) many (wired s.line s.listed s.its_kind here is (triple_space s.its_kind))

  told-skip : (kind n : ℕ) → kind_of cycle ≡ Some kind → SaysAfter lines kind (action.Skip n) → ArrivesAtControl lines plan cycle (SK n)
  told-skip kind n printed s =
      wired s.line s.listed s.its_kind (printed ∙ ap Some (sym s.same_kind)) s.is_after (skip s.its_kind n)

  told-page : (kind : ℕ) → kind_of cycle ≡ Some kind → SaysAfter lines kind action.Page → ArrivesAtControl lines plan cycle RS
  told-page kind printed s = wired s.line s.listed s.its_kind (printed ∙ ap Some (sym s.same_kind)) s.is_after (page s.its_kind)

-- the lines that a carriage is asked for, by what its spacing is
lines-from : (picture : Hub → Bool) (many : ℕ) → 1 ≤ many → many ≤ 3 → (picture (SP 2) ≡ true) ↔ (many ≡ 2)
    → (picture (SP 3) ≡ true) ↔ (many ≡ 3) → lines_asked picture ≡ many
lines-from picture many low high at_two at_three = by (picture (SP 3)) (picture (SP 2)) refl refl
  where
    by : (a b : Bool) → picture (SP 3) ≡ a → picture (SP 2) ≡ b → (if a then 3 else if b then 2 else 1) ≡ many
    by true b three two = sym (at_three.0 three)
    by false true three two = sym (at_two.0 two)
    by false false three two =
        let not_three : many ≢ 3 = λ is. let on = at_three.1 is in let e : true ≡ false = sym on ∙ three in cc in
        let not_two : many ≢ 2 = λ is. let on = at_two.1 is in let e : true ≡ false = sym on ∙ two in cc in
        omega (arith, low, high, not_three, not_two)

-- the channel that a carriage is asked for, by what follows
channel-from : (picture : Hub → Bool) (target : Option ℕ) (from others : ℕ)
    → ((channel : ℕ) → (picture (SK channel) ≡ true) ↔ (target ≡ Some channel))
    → ((channel : ℕ) → target ≡ Some channel → (from ≤ channel) × (channel < from + others))
    → lowest_from from others picture ≡ target
channel-from picture None from zero each within = refl
channel-from picture (Some channel) from zero each within =
    let range = within channel refl in absurd (omega (arith, range.0, range.1))
channel-from picture target from (suc others) each within =
    by (picture (SK from)) refl (λ off. channel-from picture target (suc from) others each (λ channel is.
    let range = within channel is in let apart = off channel is in
    (omega (arith, range.0, apart), omega (arith, range.1))))
  where
    by : (b : Bool) → picture (SK from) ≡ b
        → (((channel : ℕ) → target ≡ Some channel → channel ≢ from) → lowest_from (suc from) others picture ≡ target)
        → (if b then Some from else lowest_from (suc from) others picture) ≡ target
    by true on below = sym ((each from).0 on)
    by false off below = below (λ channel is same.
        let on : picture (SK from) ≡ true = (each from).1 (is ∙ ap Some same) in
        let e : true ≡ false = sym on ∙ off in cc)

module _ (chart : Chart) (plan : Lists) (wiring : Wiring) (old : MachineState) (cycle : Cycle) (pictures : Point → Hub → Bool)
    (it : IsPanelCycle chart plan wiring old cycle pictures) where
  at_space : (n : ℕ) → (pictures C (SP n) ≡ true) ↔ ArrivesAtControl chart.lines plan cycle (SP n)
  at_space n =
      at_control chart plan wiring old cycle pictures it (SP n) refl refl refl

  at_skip : (n : ℕ) → (pictures C (SK n) ≡ true) ↔ ArrivesAtControl chart.lines plan cycle (SK n)
  at_skip n = at_control chart plan wiring old cycle pictures it (SK n) refl refl refl

  at_restore : (pictures C RS ≡ true) ↔ ArrivesAtControl chart.lines plan cycle RS
  at_restore = at_control chart plan wiring old cycle pictures it RS refl refl refl

  -- in the cycle that prints a kind
  module _ (kind : ℕ) (printed : kind_of cycle ≡ Some kind) where
    space-told-is : (n : ℕ) → SpaceTold chart.lines cycle n → spacing_of chart.lines kind ≡ n
    space-told-is n told =
        let same : told.kind ≡ kind = let a = told.printed in cc in
        space-is chart.lines kind n (said-once chart it.panel.lawful) (subst (λ k. SaysSpace chart.lines k n) same told.said)

    after-told-is : (follows : After) → AfterTold chart.lines cycle follows → after_of chart.lines kind ≡ Some follows
    after-told-is follows told =
        let same : told.kind ≡ kind = let a = told.printed in cc in
        after-is chart.lines kind follows (said-once chart it.panel.lawful) (subst (λ k. SaysAfter chart.lines k follows) same told.said)

    is-spaced : (n : ℕ) → 2 ≤ n → (pictures C (SP n) ≡ true) ↔ (spacing_of chart.lines kind ≡ n)
    is-spaced n more = (
      λ on. space-told-is n (space-told chart.lines plan cycle n ((at_space n).0 on)),
      λ is. (at_space n).1 (told-space chart.lines plan cycle kind n printed more (space-said chart.lines kind n more is)),
    )

    lines-asked : lines_asked (pictures C) ≡ spacing_of chart.lines kind
    lines-asked =
        let room = (form-lawful chart it.panel.lawful).room in
        lines-from (pictures C) (spacing_of chart.lines kind) (room.spacing_from kind) (room.spacing_to kind)
        (is-spaced 2 (omega arith)) (is-spaced 3 (omega arith))

    channel-of-skip : (after : Option After) (channel : ℕ) → channel_of after ≡ Some channel → after ≡ Some (action.Skip channel)
    channel-of-skip None channel is = cc
    channel-of-skip (Some action.Page) channel is = cc
    channel-of-skip (Some (action.Skip its)) channel is = let same : its ≡ channel = cc in ap (λ c. Some (action.Skip c)) same

    is-skipped : (n : ℕ) → (pictures C (SK n) ≡ true) ↔ (channel_of (after_of chart.lines kind) ≡ Some n)
    is-skipped n = (
      λ on. ap channel_of (after-told-is (action.Skip n) (skip-told chart.lines plan cycle n ((at_skip n).0 on))),
      λ is. (at_skip n).1 (told-skip chart.lines plan cycle kind n printed
          (after-said chart.lines kind (action.Skip n) (channel-of-skip (after_of chart.lines kind) n is))),
    )

    channel-asked : channel_asked (pictures C) ≡ channel_of (after_of chart.lines kind)
    channel-asked =
        let good = (form-lawful chart it.panel.lawful).skips in
        channel-from (pictures C) (channel_of (after_of chart.lines kind)) 1 12 is-skipped (λ channel is.
        let follows = channel-of-skip (after_of chart.lines kind) channel is in
        let low = good.from kind channel follows in let high = good.to kind channel follows in
        (omega (arith, low), omega (arith, high)))

    page-of-turn : (after : Option After) → turns_page after ≡ true → after ≡ Some action.Page
    page-of-turn None is = cc
    page-of-turn (Some action.Page) is = refl
    page-of-turn (Some (action.Skip its)) is = cc

    restore-asked : pictures C RS ≡ turns_page (after_of chart.lines kind)
    restore-asked = by (pictures C RS) (turns_page (after_of chart.lines kind)) refl refl
      where
        by : (a b : Bool) → pictures C RS ≡ a → turns_page (after_of chart.lines kind) ≡ b → a ≡ b
        by true b on is =
            sym (ap turns_page (after-told-is action.Page (page-told chart.lines plan cycle (at_restore.0 on)))) ∙ is
        by false true off is =
            let on = at_restore.1 (told-page chart.lines plan cycle kind printed
            (after-said chart.lines kind action.Page (page-of-turn (after_of chart.lines kind) is))) in
            sym off ∙ on
        by false false off is = refl

    -- The carriage is asked for what the chart asks of that kind.
    pub carriage-asked : asked_by (pictures C) ≡ asked_of chart.lines kind
    carriage-asked = λ i. record { lines = lines-asked i; channel = channel-asked i; restore = restore-asked i }

  -- in a cycle that prints no kind
  module _ (none : kind_of cycle ≡ None) where
    nothing : (b : Bool) (kind : ℕ) → kind_of cycle ≡ Some kind → b ≡ false
    nothing b kind is = let e : None ≡ Some kind = sym none ∙ is in cc

    off : (picture : Bool) (T : Type 0) → (picture ≡ true) ↔ T → (T → (kind : ℕ) × (kind_of cycle ≡ Some kind)) → picture ≡ false
    off picture T way printed = by picture refl
      where
        by : (b : Bool) → picture ≡ b → b ≡ false
        by true on = let (kind, is) = printed (way.0 on) in nothing true kind is
        by false on = refl

    no-space : (n : ℕ) → pictures C (SP n) ≡ false
    no-space n = off (pictures C (SP n)) (ArrivesAtControl chart.lines plan cycle (SP n)) (at_space n)
        (λ come. let told = space-told chart.lines plan cycle n come in (told.kind, told.printed))

    no-skip : (n : ℕ) → pictures C (SK n) ≡ false
    no-skip n = off (pictures C (SK n)) (ArrivesAtControl chart.lines plan cycle (SK n)) (at_skip n)
        (λ come. let told = skip-told chart.lines plan cycle n come in (told.kind, told.printed))

    no-restore : pictures C RS ≡ false
    no-restore = off (pictures C RS) (ArrivesAtControl chart.lines plan cycle RS) at_restore
        (λ come. let told = page-told chart.lines plan cycle come in (told.kind, told.printed))

    channels-none : (from others : ℕ) → lowest_from from others (pictures C) ≡ None
    channels-none from zero = refl
    channels-none from (suc others) = rw (no-skip from) (channels-none (suc from) others)

    -- The carriage is asked for nothing.
    pub carriage-unasked : asked_by (pictures C) ≡ nothing_asked
    carriage-unasked =
        let lines : lines_asked (pictures C) ≡ 1 = rw (no-space 3, no-space 2) refl in
        let channel : channel_asked (pictures C) ≡ None = channels-none 1 12 in
        λ i. record { lines = lines i; channel = channel i; restore = no-restore i }

module _ (chart : Chart) (plan : Lists) (wiring : Wiring) (cycle : Cycle) (old new : MachineState)
    (panel : IsPanel chart plan wiring) (between : IsBetween old) (whole : WholeCycle wiring cycle old new) where
  -- The carriage after the cycle of a kind of body line has done what the chart asks for that kind.
  pub carriage-after : (kind : ℕ) → kind_of cycle ≡ Some kind
      → new.carriage ≡ carriage_after old.carriage (asked_of chart.lines kind) cycle
  carriage-after kind printed =
      whole.carriage
      ∙ ap (λ (asked : Asked). carriage_after old.carriage asked cycle)
      (carriage-asked chart plan wiring old cycle whole.pictures (cycle-of chart plan wiring cycle old new panel between whole) kind printed)

  -- After another cycle it has done what the cycle itself makes it do.
  pub carriage-after-other : kind_of cycle ≡ None → new.carriage ≡ carriage_after old.carriage nothing_asked cycle
  carriage-after-other none =
      whole.carriage
      ∙ ap (λ (asked : Asked). carriage_after old.carriage asked cycle)
      (carriage-unasked chart plan wiring old cycle whole.pictures (cycle-of chart plan wiring cycle old new panel between whole) none)
