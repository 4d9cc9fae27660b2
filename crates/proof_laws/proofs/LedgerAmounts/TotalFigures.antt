-- The figure that is told of a printed total is the edited amount of the report.
use Rattle.std.proofs.Common.{◌≡◌, ◌∙◌, refl, sym, ap, subst, ℕ, ◌+◌, ◌-◌, ◌<◌, ◌≤◌, ◌==◌, ◌||◌, ◌&&◌, nat_eq, Bool, true, false, List, length, slice_index_or, Contains, Option, Some, None, option_map, if◌then◌else◌, arith, unsigned_abs}
use Rattle.std.specs.Int.{is_negative}
use Rattle.std.specs.List.{filter_map}
use Rattle.std.specs.Prelude.{◌≢◌}
use Rattle.std.proofs.lemmas.Bool.Decides.{nat_tests}
use Rattle.std.proofs.lemmas.List.FromFn.{get_or-map-range_with_len, length-map-range_with_len}
use Rattle.std.proofs.lemmas.Option.{same_Some}
use Rattle.chart_lines.specs.ChartsWords.Chart.{Chart, NumbersRise}
use Rattle.chart_lines.specs.ChartsWords.Field.{decimals_of}
use Rattle.chart_lines.specs.ChartsWords.Levels.{level_number as chart_level}
use Rattle.chart_lines.specs.declared.charts.chart.Line.{Line}
use Rattle.chart_lines.specs.declared.charts.statement.Field.{Field}
use Rattle.chart_lines.specs.declared.charts.statement.Statement.{Statement}
use Rattle.chart_lines.specs.declared.charts.statement.TotalLine.{TotalLine}
use Rattle.hubs.specs.declared.jack.Jack.TheVariants as jack
use Rattle.explain_ledgers.specs.LedgersWords.Ledgers.{Goes, card_in}
use Rattle.explain_ledgers.specs.declared.ledgers.account.Account.{Account}
use Rattle.chart_line_rules.specs.FieldRules.Fields.{field_named}
use Rattle.chart_line_rules.specs.PrintRules.Items.{figure_item, figure_width}
use Rattle.chart_line_rules.specs.declared.print_rules.items.Figure.{Figure}
use Rattle.machine.specs.Machine.{ended}
use Rattle.net.specs.Cycles.{level_number}
use Rattle.net.specs.declared.cycle.Cycle.{Cycle}
use Rattle.net.specs.declared.cycle.Cycle.TheVariants.{Prog}
use Rattle.net.specs.declared.cycle.Ordinal.TheVariants.{Third}
use Rattle.chart_plans.specs.PlansWords.Plans.{Lists}
use Rattle.chart_plans.specs.declared.plans.counter.TotalCounter.{TotalCounter}
use Rattle.report_definition.proofs.EditLaws.{edits_fill}
use Rattle.report_definition.specs.BodyLines.{Piece, char_at, line_of, piece_at, total_line, total_piece}
use Rattle.report_definition.specs.Edits.{edited, last_digits}
use Rattle.report_definition.specs.Totals.{total_of}
use Rattle.hubs.specs.SetupsWords.Wiring.{Wiring, is_plugged}
use Rattle.explain_wheel_ledgers.specs.Figures.{figure_on, is_joined, is_own}
use Rattle.explain_wheel_ledgers.specs.ToldLedgers.{account_told}
use Rattle.explain_wheel_ledgers.specs.Totals.{account_of, find_total, has_place, totals_in}
use Rattle.proof_reports.proofs.PrintedLines.Jacks.{FigureItem, FigureItem-has, LinksAt, Plugs, plugs-link}
use Rattle.proof_reports.proofs.PrintedLines.LawfulItems.{IsGoodFigure}
use Rattle.proof_reports.proofs.PrintedLines.Meeting.{same-or-agree}
use Rattle.proof_reports.proofs.PrintedLines.OwnJacks.{amount-good, amounts-alike, ends-alike, on-wheels}
use Rattle.proof_reports.specs.WiredPanels.Groups.{IsCounterOf}
use Rattle.proof_reports.specs.WiredPanels.Panel.{IsPanel}
use Rattle.wiring_table.specs.Figures.{IsAmount, IsFigure, on_total, total_emitter}
use Rattle.wiring_table.specs.Jacks.{HasFigure, link}
use Rattle.proof_laws.proofs.LedgerAmounts.Amounts.{ledgers-amounts, placed-text}
use Rattle.proof_laws.proofs.LedgerAmounts.EditedTexts.{edited-between}
use Rattle.proof_laws.proofs.LedgerAmounts.FigureEnds.{StandsAlone, is_cut, cut-apart, cut-blank, figure-stands, is-blank}
use Rattle.proof_laws.proofs.LedgerAmounts.Found.{totals-found}
use Rattle.proof_laws.proofs.LedgerAmounts.OneLedger.{places-have}
use Rattle.proof_laws.proofs.LedgerAmounts.OwnWheels.{own-named, own-on}
use Rattle.proof_laws.proofs.LedgerAmounts.TotalPieces.{StandsOn, body-line, on-none, on-own, one-piece, piece-of, piece-wheel}
use Rattle.proof_laws.specs.LedgerAmounts.Amounts.{StandsBehind}
use Rattle.proof_laws.specs.LedgerAmounts.Figures.{FiguresAreTotals, IsBetweenBlanks, IsOnTotal, figure_of}

equal : (n m : ℕ) → n ≡ m → (n == m) ≡ true
equal n m same = grind (arith, nat_tests, same)

-- neither joins
not-joined : (a b c : Bool) → (a ≡ true → ⊥) → (b ≡ true → ⊥) → (a || (b && c)) ≡ false
not-joined true b c one other = absurd (one refl)
not-joined false true c one other = absurd (other refl)
not-joined false false c one other = refl

also-not : (a b c : Bool) → (a ≡ true → ⊥) → (c ≡ true → ⊥) → (a || (b && c)) ≡ false
also-not true b c one other = absurd (one refl)
also-not false true c one other = no c other
  where
    no : (d : Bool) → (d ≡ true → ⊥) → d ≡ false
    no true none = absurd (none refl)
    no false none = refl
also-not false false c one other = refl

module _ (chart : Chart) (plan : Lists) (wiring : Wiring) (panel : IsPanel chart plan wiring) (rise : NumbersRise chart.lines chart.end)
    {name : List ℕ} {level : ℕ} {counter : TotalCounter} (field : Field) (amount : IsAmount chart.lines name field)
    (own : IsCounterOf chart.lines plan name level counter) (account : Account) (told : account_of counter ≡ Some account)
    (group : List (List ℕ)) where
  abbrev asked : TotalLine
  asked = own.total.asked

  abbrev its : Figure
  its = figure_of asked field

  abbrev text : List ℕ
  text = edited (total_of field group) asked.digits (decimals_of field.kind) asked.mark

  abbrev piece : Piece
  piece = piece_at asked.wheel text

  abbrev puts : Statement → Option Piece
  puts = total_piece chart.lines level group

  abbrev line : List ℕ
  line = total_line chart.lines level group

  named : field_named chart.lines asked.name ≡ Some field
  named = own-named chart plan wiring panel rise field amount own account told

  put : puts own.total.line.statement ≡ Some piece
  put =
      ap puts own.total.says_total
      ∙ (λ i. if equal (chart_level asked.level) level own.total.same_level i
      then option_map (λ (f : Field). piece_at asked.wheel (edited (total_of f group) asked.digits (decimals_of f.kind) asked.mark)) (named i)
      else None)

  has : HasFigure chart.lines asked.wheel its
  has = record {
    line = own.total.line;
    listed = own.total.listed;
    emitter = total_emitter (chart_level asked.level);
    is_figure =
        subst (λ (s : Statement). IsFigure chart.lines s (total_emitter (chart_level asked.level)) asked.wheel its) (sym own.total.says_total)
        (on_total asked field (record { named = named; holds_amount = amount.holds_amount }));
  }

  item : FigureItem chart.lines asked.wheel its
  item = FigureItem-has chart.lines asked.wheel its has

  good : IsGoodFigure its
  good = amount-good chart panel.lawful asked.wheel its item

  wheels : (1 ≤ asked.wheel) × (asked.wheel + figure_width its ≤ 121)
  wheels = on-wheels chart panel.lawful asked.wheel its item

  long : length text ≡ figure_width its
  long = (edits_fill (total_of field group) its good.some good.decimals).0

  some : 1 ≤ figure_width its
  some = let digits = good.some in omega (arith, digits)

  -- the characters of the line are those of its pieces
  char : (place : ℕ) → place < 120
      → slice_index_or line place 32 ≡ char_at (filter_map (λ l. puts l.statement) chart.lines) (place + 1)
  unfolding line_of
  char place low =
      get_or-map-range_with_len (char_at (filter_map (λ l. puts l.statement) chart.lines)) 1 120 place (place + 1) 32 low (omega arith)

  many : length line ≡ 120
  unfolding line_of
  many = length-map-range_with_len (char_at (filter_map (λ l. puts l.statement) chart.lines)) 1 120

  -- another piece that stands on one of the wheels is this one
  alone : (wheel : ℕ) → StandsOn piece wheel → (other : Line) (another : Piece) → Contains chart.lines other
      → puts other.statement ≡ Some another → StandsOn another wheel → another ≡ piece
  alone wheel on other another there put_other on_other =
      let same = one-piece chart panel.lawful level group own.total.line other piece another wheel own.total.listed there put put_other on on_other in
      same_Some another piece (sym put_other ∙ ap (λ (l : Line). puts l.statement) (sym same) ∙ put)

  there : (k : ℕ) → k < length text → slice_index_or line (asked.wheel - 1 + k) 32 ≡ slice_index_or text k 32
  there k low =
      let first = wheels.0 in
      let last = wheels.1 in
      let next : asked.wheel - 1 + k + 1 ≡ asked.wheel + k = omega (arith, first) in
      let back : asked.wheel + k - asked.wheel ≡ k = omega arith in
      let on : StandsOn piece (asked.wheel + k) = (omega arith, omega (arith, low)) in
      char (asked.wheel - 1 + k) (omega (arith, low, long, first, last))
      ∙ ap (char_at (filter_map (λ l. puts l.statement) chart.lines)) next
      ∙ on-own puts (asked.wheel + k) chart.lines own.total.line piece (alone (asked.wheel + k) on) own.total.listed put on
      ∙ ap (λ (n : ℕ). slice_index_or text n 32) back

  linked : (wheel : ℕ) → asked.wheel < wheel → wheel < asked.wheel + length text → is_joined wiring account wheel ≡ true
  unfolding is_joined
  linked wheel low high =
      ap (λ (b : Bool). b || (is_own wiring account (wheel - 1) && is_own wiring account wheel))
      ((panel.wired.jacks (jack.Link wheel)).1 (link asked.wheel its wheel has low (omega (arith, high, long))))

  -- an amount of another line that plugs LINK
  plugged : (wheel : ℕ) → is_plugged wiring (jack.Link wheel) ≡ true → Plugs chart.lines (LinksAt wheel)
  plugged wheel on = plugs-link chart.lines wheel ((panel.wired.jacks (jack.Link wheel)).0 on)

  -- ends where this one does, if they have a wheel in common
  alike : (wheel : ℕ) (other : ℕ) (figure : Figure) → FigureItem chart.lines other figure → asked.wheel ≤ wheel
      → wheel < asked.wheel + figure_width its → other ≤ wheel → wheel < other + figure_width figure
      → asked.wheel + figure_width its ≡ other + figure_width figure
  alike wheel other figure one low high low_other high_other =
      (amounts-alike chart panel.lawful asked.wheel other its figure wheel item one low high low_other high_other).end

  own-at : (wheel : ℕ) → 1 ≤ wheel → is_own wiring account wheel ≡ true → IsOnTotal asked field wheel
  own-at = own-on chart plan wiring panel rise field amount own account told

  behind : asked.wheel + length text ≤ 120 → is_joined wiring account (asked.wheel + length text) ≡ false
  unfolding is_joined
  behind within =
      also-not (is_plugged wiring (jack.Link (asked.wheel + length text))) (is_own wiring account (asked.wheel + length text - 1)) (is_own wiring account (asked.wheel + length text)) no-link
      (λ on.
      let at = own-at (asked.wheel + length text) (let first = wheels.0 in omega (arith, first)) on in
      let high = at.1 in
      omega (arith, high, long))
    where
      no-link : is_plugged wiring (jack.Link (asked.wheel + length text)) ≡ true → ⊥
      no-link on =
          let other = plugged (asked.wheel + length text) on in
          let low = other.inside_it.0 in
          let high = other.inside_it.1 in
          let ends = alike (asked.wheel + length text - 1) other.wheel other.figure other.item (omega (arith, long, some)) (omega (arith, long, some))
          (omega (arith, low)) (omega (arith, high)) in
          omega (arith, ends, long, high)

  -- what stands before the first wheel, if LINK is plugged there for an amount of another line
  none-before : 1 < asked.wheel → Plugs chart.lines (LinksAt asked.wheel) → (other : Line) (another : Piece) → Contains chart.lines other
      → puts other.statement ≡ Some another → StandsOn another (asked.wheel - 1) → ⊥
  none-before after link_of other another listed put_other on =
      let it = piece-of chart panel.lawful level group other listed other.statement refl another put_other in
      let low = link_of.inside_it.0 in
      let high = link_of.inside_it.1 in
      let two = figure_item link_of.item.on link_of.wheel link_of.figure in
      let agree = same-or-agree chart panel.lawful other link_of.item.line it.item two (asked.wheel - 1) listed link_of.item.there it.is_item
      link_of.item.is_item (body-line level it.item.line it.on) link_of.item.is_body_line
      (piece-wheel chart.lines level other.statement another it (asked.wheel - 1) on) (omega (arith, low), omega (arith, high)) in
      let ends : it.item.end ≡ link_of.wheel + figure_width link_of.figure = ends-alike it.item two link_of.figure refl agree in
      let same_end = alike asked.wheel link_of.wheel link_of.figure link_of.item (omega arith) (omega (arith, some)) (omega (arith, low)) high in
      let its_end = it.end in
      let from = on.0 in
      let same = alone asked.wheel (omega arith, omega (arith, long, some)) other another listed put_other
      (omega (arith, from), omega (arith, its_end, ends, same_end, some)) in
      let first : another.wheel ≡ asked.wheel = ap (λ (p : Piece). p.wheel) same in
      omega (arith, first, from, after)

  before : 1 < asked.wheel → is_cut wiring account line (asked.wheel - 2) asked.wheel ≡ true
  unfolding is_joined
  before after = by (is_plugged wiring (jack.Link asked.wheel)) refl
    where
      by : (b : Bool) → is_plugged wiring (jack.Link asked.wheel) ≡ b → is_cut wiring account line (asked.wheel - 2) asked.wheel ≡ true
      by true on =
          let last = wheels.1 in
          let next : asked.wheel - 2 + 1 ≡ asked.wheel - 1 = omega (arith, after) in
          cut-blank (nat_eq (slice_index_or line (asked.wheel - 2) 32) 32) (is_joined wiring account asked.wheel)
          (is-blank (slice_index_or line (asked.wheel - 2) 32)
          (char (asked.wheel - 2) (omega (arith, last, some))
          ∙ ap (char_at (filter_map (λ l. puts l.statement) chart.lines)) next
          ∙ on-none puts (asked.wheel - 1) chart.lines (none-before after (plugged asked.wheel on))))
      by false off =
          cut-apart (nat_eq (slice_index_or line (asked.wheel - 2) 32) 32) (is_joined wiring account asked.wheel)
          (not-joined (is_plugged wiring (jack.Link asked.wheel)) (is_own wiring account (asked.wheel - 1))
          (is_own wiring account asked.wheel)
          (λ on. let both : true ≡ false = sym on ∙ off in cc)
          (λ on. let at = own-at (asked.wheel - 1) (omega (arith, after)) on in let low = at.0 in omega (arith, low, after)))

  stands : StandsAlone wiring account line text asked.wheel
  stands = record {
    long = many;
    from = wheels.0;
    to = let last = wheels.1 in omega (arith, last, long);
    there = there;
    linked = linked;
    before = before;
    behind = behind;
  }

  pub figure-between : (wheel : ℕ) → IsOnTotal asked field wheel → slice_index_or line (wheel - 1) 32 ≢ 32
      → IsBetweenBlanks text (figure_on wiring account line wheel)
  figure-between wheel on dark =
      let low = on.0 in
      let high = on.1 in
      let (figure, is) = edited-between (last_digits asked.digits (unsigned_abs (total_of field group))) (decimals_of field.kind) asked.mark
      (is_negative (total_of field group)) in
      subst (IsBetweenBlanks text)
      (sym (figure-stands wiring account line text asked.wheel stands figure is wheel low (omega (arith, high, long)) dark)) is

pub figures-totals : FiguresAreTotals
figures-totals chart plan wiring deck name field level counter account place wheel found panel rise literals valid fits amount own is_account has placed third on dark =
    let (its, is_its, finds) = totals-found chart.lines plan name field (level_number level) counter panel.planned amount own in
    let same : its ≡ account = same_Some its account (sym is_its ∙ is_account) in
    let is_told : account_told (find_total (totals_in chart.lines plan chart.lines) place) place ≡ account
    = finds place (ap (λ (a : Account). has_place a place) same ∙ has) ∙ same in
    let (entries, ledger) = places-have wiring deck account placed.has.along placed.has.comes in
    let cycle_is : placed.has.cycle ≡ Prog level Third = sym placed.cycle ∙ third in
    let goes : Goes wiring (Prog level Third) placed.has.along placed.has.behind
    = subst (λ (c : Cycle). Goes wiring c placed.has.along placed.has.behind) cycle_is placed.has.goes in
    let tells = ledgers-amounts chart plan wiring deck name field level counter account placed.has.along placed.has.behind entries panel rise
    literals valid fits amount own is_account ledger goes in
    let card_is : found.card ≡ placed.has.along.card
    = placed.card ∙ ap (λ (c : Cycle). card_in c placed.has.along.card) cycle_is in
    let text_is : found.line.text ≡ total_line chart.lines (level_number level) tells.group
    = placed-text (ended placed.has.behind placed.has.cycle).carriage.printed (ended placed.has.behind placed.has.cycle).wheels.line found.line
    placed.placed
    ∙ ap (λ (c : Cycle). (ended placed.has.behind c).wheels.line) cycle_is
    ∙ tells.printed in
    record {
      group = tells.group;
      before = tells.before;
      stands = subst (λ n. StandsBehind chart.lines deck (level_number level) n tells.before tells.group) (sym card_is) tells.stands;
      is =
          subst (λ (a : Account). IsBetweenBlanks
          (edited (total_of field tells.group) own.total.asked.digits (decimals_of field.kind) own.total.asked.mark)
          (figure_on wiring a found.line.text wheel)) (sym is_told)
          (subst (λ (t : List ℕ). IsBetweenBlanks
          (edited (total_of field tells.group) own.total.asked.digits (decimals_of field.kind) own.total.asked.mark)
          (figure_on wiring account t wheel)) (sym text_is)
          (figure-between chart plan wiring panel rise field amount own account is_account tells.group wheel on
          (λ blank. dark (ap (λ (t : List ℕ). slice_index_or t (wheel - 1) 32) text_is ∙ blank))));
    }
