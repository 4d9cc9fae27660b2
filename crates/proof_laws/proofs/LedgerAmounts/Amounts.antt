-- Before a total is printed, its ledger tells the amounts of the report.
use Rattle.std.proofs.Common.{◌≡◌, ◌∙◌, refl, sym, ap, subst, ℕ, suc, ◌≤◌, ◌==◌, ◌&&◌, Bool, true, false, List, [], ◌∷◌, ◌++◌, Option, Some, None, is_some, length, map, arith, unsigned_abs}
use Rattle.std.specs.Int.{is_negative}
use Rattle.std.proofs.lemmas.Bool.{both_ways}
use Rattle.std.proofs.lemmas.Bool.Decides.{nat_tests}
use Rattle.explain_ledgers.specs.LedgersWords.Ledgers.{Along, Goes, IsLedger, card_in}
use Rattle.explain_ledgers.proofs.LedgersWords.Places.{comes-to, places-one}
use Rattle.explain_ledgers.specs.LedgersWords.Summaries.{summary_of}
use Rattle.explain_ledgers.specs.declared.ledgers.account.Account.{Account}
use Rattle.explain_ledgers.specs.declared.ledgers.entry.Entry.{Entry}
use Rattle.page_text.specs.PlacedLines.Lines.{line_at}
use Rattle.page_text.specs.declared.placed_lines.placed_line.PlacedLine.{PlacedLine}
use Rattle.chart_lines.proofs.ChartsWords.Listed.{any-listed}
use Rattle.chart_lines.specs.ChartsWords.Levels.{level_number as chart_level}
use Rattle.chart_lines.specs.declared.charts.chart.Line.{Line}
use Rattle.report_definition.specs.BodyLines.{total_line as total_text}
use Rattle.report_definition.specs.ChartForm.{is_total_item, prints_totals}
use Rattle.std.proofs.lemmas.Option.{same_Some}
use Rattle.explain_wheel_ledgers.specs.ToldLedgers.{account_told}
use Rattle.explain_wheel_ledgers.specs.Totals.{find_total, has_place, totals_in}
use Rattle.wiring_table.specs.Parts.{HasTotal}
use Rattle.proof_laws.proofs.LedgerAmounts.Found.{totals-found}
use Rattle.machine.specs.Machine.{MachineState, ended}
use Rattle.machine.specs.Runs.{cycle_due}
use Rattle.net.specs.Cycles.{level_number}
use Rattle.net.specs.declared.cycle.Cycle.{Cycle}
use Rattle.net.specs.declared.cycle.Cycle.TheVariants.{RunIn, Card, Prog, Head}
use Rattle.net.specs.declared.cycle.Ordinal.TheVariants.{First, Second, Third}
use Rattle.net.specs.declared.cycle.ProgramLevel.{ProgramLevel}
use Rattle.net.specs.declared.cycle.ProgramLevel.TheVariants.{Minor, Intermediate, Major, Final}
use Rattle.proof_reports.proofs.WiredPanels.CycleAsks.AmountFacts.{has_it, total_level}
use Rattle.proof_reports.specs.PrintedReports.Content.{held}
use Rattle.program_unit.specs.CycleOrder.{cycle_after, has_level_left, level_above, next_cycle}
use Rattle.report_definition.specs.Breaks.{cleared, taking}
use Rattle.report_definition.specs.Totals.{total_of}
use Rattle.proof_laws.proofs.LedgerAmounts.Decks.{card-due, next_of, stands-behind}
use Rattle.proof_laws.proofs.LedgerAmounts.Due.{ForCard, ForTotal, for-card, for-level, for-total, heading_first, its_card, its_heading, its_total, one-due}
use Rattle.proof_laws.proofs.LedgerAmounts.Places.{going, Behind, IsTurned, Place, is_after, is_before, is_over, is_tested, is_turned, is_turning, is_waiting, turned-shows, unturned, was_turned}
use Rattle.proof_laws.proofs.LedgerAmounts.Runs.{places, run-of}
use Rattle.proof_laws.proofs.LedgerAmounts.Served.{Served, amount, under, under-less}
use Rattle.proof_laws.proofs.LedgerAmounts.Shown.{has-ended, still-open}
use Rattle.proof_laws.proofs.LedgerAmounts.Told.{IsTold, postings-sum, told-all}
use Rattle.proof_laws.specs.LedgerAmounts.Amounts.{IsTurn, KeptLedgersAreAmounts, LedgersAreAmounts, StandsBehind, TellsAmounts, lower_level, no_turn, one_turn}
use Rattle.proof_laws.specs.LedgerAmounts.Postings.{postings_of}

-- cycles that differ
abbrev is-third : Cycle → Option ProgramLevel
is-third RunIn = None
is-third Card = None
is-third (Prog level First) = None
is-third (Prog level Second) = None
is-third (Prog level Third) = Some level
is-third (Head heading) = None

not-third : (cycle : Cycle) (level : ProgramLevel) → is-third cycle ≡ None → cycle ≡ Prog level Third → ⊥
not-third cycle level none same = let both : None ≡ Some level = sym none ∙ ap is-third same in cc

same-level : (one other : ProgramLevel) → Prog one Third ≡ Prog other Third → one ≡ other
same-level one other same = let both : Some one ≡ Some other = ap is-third same in cc

-- a level with a total has a total line
has-line : (lines : List Line) (name : List ℕ) (level number : ℕ) → HasTotal lines name level number → prints_totals lines level ≡ true
has-line lines name level number total =
    any-listed (λ (line : Line). is_total_item level line.statement) lines total.line total.listed
    (ap (is_total_item level) total.says_total ∙ equal (chart_level total.asked.level) level total.same_level)
  where
    equal : (n m : ℕ) → n ≡ m → (n == m) ≡ true
    equal n m same = grind (arith, nat_tests, same)

module _ (total : Served) (deck : List (List ℕ)) (along : Along) (entries : List Entry) (behind : MachineState) where
  -- the line that the third cycle of a level prints
  turned-prints : (was : IsTurned total deck along entries) → level_number was.level ≡ total.level
      → Goes total.wiring (Prog was.level Third) along behind
      → (ended behind (Prog was.level Third)).wheels.line
      ≡ total_text total.chart.lines (level_number was.level) (taking was.card was.stand.so_far (suc was.k))
  turned-prints was same goes =
      let due = card-due total.chart deck was.stand was.card was.cards was.seen was.of.at in
      let run = run-of total.wiring (Prog was.level Third) along.run.machine behind goes.reached in
      let (content, third) = ((going total).levels was.stand was.card (next_of was.cards) due).third was.k was.level along.run.machine
      (ended behind (Prog was.level Third)) was.number was.within was.content run in
      third.line (subst (λ n. prints_totals total.chart.lines n ≡ true) (sym same)
      (has-line total.chart.lines total.name total.level total.own.number total.own.total))
      ∙ ap (λ n. total_text total.chart.lines (level_number was.level) (taking was.card was.stand.so_far n)) was.number

  -- where the total of the level waits
  turned-tells : (was : IsTurned total deck along entries) → level_number was.level ≡ total.level
      → Goes total.wiring (Prog was.level Third) along behind
      → TellsAmounts total.chart.lines deck total.name total.field was.level along.card (ended behind (Prog was.level Third)).wheels.line entries
  turned-tells was same goes =
      let lines = total.chart.lines in
      let own : suc was.k ≡ total.level = sym was.number ∙ same in
      let opens : cleared was.k (taking was.card was.stand.so_far) total.level ≡ taking was.card was.stand.so_far (suc was.k)
      = still-open was.k (taking was.card was.stand.so_far) total.level (omega (arith, own)) ∙ ap (taking was.card was.stand.so_far) (sym own) in
      let told : IsTold lines total.field (under total) total.level (taking was.card was.stand.so_far (suc was.k))
      (cleared was.k (taking was.card was.stand.so_far) (under total)) (was.seen ++ (was.card ∷ [])) was.listed.postings
      = subst (λ g. IsTold lines total.field (under total) total.level g (cleared was.k (taking was.card was.stand.so_far) (under total))
      (was.seen ++ (was.card ∷ [])) was.listed.postings) opens was.listed.is_told in
      let less = under-less total in
      let all : was.listed.postings
      ≡ postings_of lines total.field (under total) total.level (length told.front) (taking was.card was.stand.so_far (suc was.k))
      = told-all lines total.field (under total) total.level (was.stand.so_far (suc was.k)) was.card
      (cleared was.k (taking was.card was.stand.so_far) (under total)) (was.seen ++ (was.card ∷ [])) was.listed.postings
      (λ some. has-ended was.k (taking was.card was.stand.so_far) (under total) (omega (arith, own, less))) told in
      let behind_it = stands-behind total.chart deck was.stand was.card was.cards was.seen was.k told.front was.of.at was.within told.cards in
      let level_is : total.level ≡ level_number was.level = sym same in
      let shows = turned-shows total deck along entries was (subst (λ n. (amount total).has n ≡ true) (sym own) total.has) in
      record {
        group = taking was.card was.stand.so_far (suc was.k);
        before = length told.front;
        stands = subst (λ n. StandsBehind lines deck n along.card (length told.front) (taking was.card was.stand.so_far (suc was.k)))
            (sym was.number)
            (subst (λ n. StandsBehind lines deck (suc was.k) n (length told.front) (taking was.card was.stand.so_far (suc was.k)))
            (sym was.of.counted) behind_it);
        printed = turned-prints was same goes;
        added = was.added;
        turned = was.turned;
        whole = was.whole;
        amounts = was.listed.listed
            ∙ ap (map Some) (all ∙ ap (λ n. postings_of lines total.field (lower_level lines total.name n) n (length told.front)
            (taking was.card was.stand.so_far (suc was.k))) level_is);
        adds_up = postings-sum lines total.field (lower_level lines total.name (level_number was.level)) (level_number was.level) (length told.front)
            (taking was.card was.stand.so_far (suc was.k));
        is_turn = turn was.behind;
        below_zero = λ less_zero none. below was.behind less_zero (shows.below less_zero) (signed_so less_zero shows.unsigned) none;
        above_zero = λ not_less some. above was.behind (latch_off shows.above not_less some);
      }
    where
      turn : {turning : Bool} {some : List Entry} → Behind was.level along.card turning some → IsTurn was.level along.card some
      turn (unturned is) = no_turn
      turn (was_turned is entry cycle card change) = one_turn entry cycle card change

      signed_so : is_negative (total_of total.field (taking was.card was.stand.so_far (suc was.k))) ≡ true
          → ((amount total).is_signed ≡ false → is_negative (total_of total.field (taking was.card was.stand.so_far (suc was.k))) ≡ false)
          → (amount total).is_signed ≡ true
      signed_so less_zero never = by (amount total).is_signed refl
        where
          by : (b : Bool) → (amount total).is_signed ≡ b → b ≡ true
          by true is = refl
          by false is = absurd (both_ways _ (never is) less_zero)

      own_level : (level_number was.level == total.level) ≡ true
      own_level = grind (arith, nat_tests, same)

      latch_at : (held total.chart total.plan along.run.machine total.name (suc was.k)).latch
          ≡ (held total.chart total.plan along.run.machine total.name total.level).latch
      latch_at = ap (λ n. (held total.chart total.plan along.run.machine total.name n).latch) (sym was.number ∙ same)

      below : {some : List Entry} → Behind was.level along.card (is_turning total was.level along.run.machine) some
          → is_negative (total_of total.field (taking was.card was.stand.so_far (suc was.k))) ≡ true
          → (held total.chart total.plan along.run.machine total.name (suc was.k)).latch ≡ true
          → (amount total).is_signed ≡ true → some ≡ [] → ⊥
      below (unturned is) less_zero latch with_sign none =
          both_ways (is_turning total was.level along.run.machine) is
          (λ i. with_sign i && (own_level i && (sym latch_at ∙ latch) i))
      below (was_turned is entry cycle card change) less_zero latch with_sign none = cc

      latch_off : ((amount total).is_signed ≡ true
          → is_negative (total_of total.field (taking was.card was.stand.so_far (suc was.k))) ≡ false
          → 1 ≤ unsigned_abs (total_of total.field (taking was.card was.stand.so_far (suc was.k)))
          → (held total.chart total.plan along.run.machine total.name (suc was.k)).latch ≡ false)
          → is_negative (total_of total.field (taking was.card was.stand.so_far (suc was.k))) ≡ false
          → 1 ≤ unsigned_abs (total_of total.field (taking was.card was.stand.so_far (suc was.k)))
          → is_turning total was.level along.run.machine ≡ false
      latch_off over not_less some = by (amount total).is_signed refl
        where
          by : (b : Bool) → (amount total).is_signed ≡ b → is_turning total was.level along.run.machine ≡ false
          by false is =
              ap (λ (b : Bool). b && ((level_number was.level == total.level)
              && (held total.chart total.plan along.run.machine total.name total.level).latch)) is
          by true is =
              (λ i. is i && (own_level i && (sym latch_at ∙ over is not_less some) i))

      above : {some : List Entry} → Behind was.level along.card (is_turning total was.level along.run.machine) some
          → is_turning total was.level along.run.machine ≡ false → some ≡ []
      above (unturned is) off = refl
      above (was_turned is entry cycle card change) off = absurd (both_ways (is_turning total was.level along.run.machine) off is)

  -- A total is printed only where it waits.
  printed-tells : Place total deck along entries → (level : ProgramLevel) → level_number level ≡ total.level
      → Goes total.wiring (Prog level Third) along behind → cycle_due along.run.machine ≡ Some (Prog level Third)
      → TellsAmounts total.chart.lines deck total.name total.field level along.card (ended behind (Prog level Third)).wheels.line entries
  printed-tells (is_before was) level same goes due =
      absurd (not-third RunIn level refl (one-due RunIn (Prog level Third) (sym (ap cycle_due was.machine) ∙ due)))
  printed-tells (is_waiting was) level same goes due =
      by refl (for-card along.run.machine.program along.run.machine.program.stage along.run.machine.carriage.spot.latch (Prog level Third) was.over
      (ap (λ (f : Option (List ℕ)). next_cycle along.run.machine.program along.run.machine.carriage.spot.latch (is_some f)) (sym was.first) ∙ due))
    where
      by : {cycle : Cycle} → cycle ≡ Prog level Third → ForCard along.run.machine.program along.run.machine.program.stage cycle
          → TellsAmounts total.chart.lines deck total.name total.field level along.card (ended behind (Prog level Third)).wheels.line entries
      by is its_card = absurd (not-third Card level refl is)
      by is (its_heading heading over) = absurd (not-third (Head heading) level refl is)
  printed-tells (is_after was) level same goes due =
      let machine = along.run.machine in
      let levels = was.of.levels in
      let is_done = was.is_done in
      let within = was.within in
      let left : has_level_left along.run.machine.program was.done (is_some (next_of was.cards)) ≡ true
      = grind (arith, nat_tests, levels, is_done, within) in
      absurd (not-third (Prog (level_above was.done) First) level refl
      (one-due (Prog (level_above was.done) First) (Prog level Third)
      (sym (for-level machine.program was.done machine.carriage.spot.latch (is_some (next_of was.cards)) left)
      ∙ ap (λ s. cycle_after machine.program s machine.carriage.spot.latch (is_some (next_of was.cards))) (sym was.stage)
      ∙ ap (λ (f : Option (List ℕ)). next_cycle machine.program machine.carriage.spot.latch (is_some f)) (sym was.of.first)
      ∙ due)))
  printed-tells (is_tested was) level same goes due =
      absurd (not-third (Prog was.level Second) level refl
      (one-due (Prog was.level Second) (Prog level Third)
      (ap (λ s. cycle_after along.run.machine.program s along.run.machine.carriage.spot.latch (is_some along.run.machine.stations.first))
      (sym was.stage) ∙ due)))
  printed-tells (is_turned was) level same goes due =
      by refl (for-total along.run.machine.program along.run.machine.program.stage along.run.machine.carriage.spot.latch
      (is_some along.run.machine.stations.first) was.level (Prog level Third) was.stage due)
    where
      by : {cycle : Cycle} → cycle ≡ Prog level Third → ForTotal along.run.machine.program.stage was.level cycle
          → TellsAmounts total.chart.lines deck total.name total.field level along.card (ended behind (Prog level Third)).wheels.line entries
      by is its_total =
          let levels : was.level ≡ level = same-level was.level level is in
          subst (λ (l : ProgramLevel). TellsAmounts total.chart.lines deck total.name total.field l along.card
          (ended behind (Prog l Third)).wheels.line entries) levels
          (turned-tells was (ap level_number levels ∙ same)
          (subst (λ (l : ProgramLevel). Goes total.wiring (Prog l Third) along behind) (sym levels) goes))
      by is (heading_first heading waits) = absurd (not-third (Head heading) level refl is)
  printed-tells (is_over none) level same goes due = let both : None ≡ Some (Prog level Third) = sym none ∙ due in cc

-- levels are numbered up to 4
few-levels : (level : ProgramLevel) → level_number level ≤ 4
few-levels Minor = omega arith
few-levels Intermediate = omega arith
few-levels Major = omega arith
few-levels Final = omega arith

pub ledgers-amounts : LedgersAreAmounts
ledgers-amounts chart plan wiring deck name field level counter account along behind entries panel rise literals valid fits amount own told ledger goes =
    let total : Served = record {
      chart = chart;
      plan = plan;
      wiring = wiring;
      panel = panel;
      rise = rise;
      literals = literals;
      name = name;
      field = field;
      is_amount = amount;
      level = level_number level;
      some = total_level own.total;
      most = few-levels level;
      counter = counter;
      own = own;
      account = account;
      told = told;
      has = has_it chart.lines plan name (level_number level) own.number own.total;
    } in
    printed-tells total deck along entries behind (places total deck valid fits ledger) level refl goes goes.due

-- the text of a line that was placed
pub placed-text : (place : Option (ℕ × ℕ)) (text : List ℕ) (line : PlacedLine) → line_at place text ≡ line ∷ [] → line.text ≡ text
placed-text None text line same = cc
placed-text (Some place) text line same =
    let one : record { page = place.0; line = place.1; text = text } ≡ line = cc in
    ap (λ (l : PlacedLine). l.text) (sym one)

pub kept-amounts : KeptLedgersAreAmounts
kept-amounts chart plan wiring deck name field level counter account place ends found told panel rise literals valid fits amount own is_account has placed third kept =
    let (its, is_its, finds) = totals-found chart.lines plan name field (level_number level) counter panel.planned amount own in
    let same : its ≡ account = same_Some its account (sym is_its ∙ is_account) in
    let is_told : account_told (find_total (totals_in chart.lines plan chart.lines) place) place ≡ account
    = finds place (ap (λ (a : Account). has_place a place) same ∙ has) ∙ same in
    let at : placed.has.along ≡ kept.along
    = places-one wiring deck placed.has.comes (comes-to wiring deck (account_told (find_total (totals_in chart.lines plan chart.lines) place) place) kept.is)
    (placed.has.counted ∙ sym kept.counted) in
    let cycle_is : placed.has.cycle ≡ Prog level Third = sym placed.cycle ∙ third in
    let goes : Goes wiring (Prog level Third) kept.along placed.has.behind
    = subst (λ (c : Cycle). Goes wiring c kept.along placed.has.behind) cycle_is
    (subst (λ (a : Along). Goes wiring placed.has.cycle a placed.has.behind) at placed.has.goes) in
    let ledger : IsLedger wiring deck account kept.along kept.entries
    = subst (λ (a : Account). IsLedger wiring deck a kept.along kept.entries) is_told kept.is in
    let tells = ledgers-amounts chart plan wiring deck name field level counter account kept.along placed.has.behind kept.entries panel rise literals
    valid fits amount own is_account ledger goes in
    let card_is : found.card ≡ kept.along.card
    = placed.card ∙ ap (λ (c : Cycle). card_in c placed.has.along.card) cycle_is ∙ ap (λ (a : Along). a.card) at in
    let text_is : found.line.text ≡ (ended placed.has.behind (Prog level Third)).wheels.line
    = placed-text (ended placed.has.behind placed.has.cycle).carriage.printed (ended placed.has.behind placed.has.cycle).wheels.line found.line
    placed.placed
    ∙ ap (λ (c : Cycle). (ended placed.has.behind c).wheels.line) cycle_is in (
      kept.entries,
      kept.told_is ∙ ap (λ (a : Account). summary_of a ends kept.entries) is_told,
      subst (λ n. TellsAmounts chart.lines deck name field level n found.line.text kept.entries) (sym card_is)
          (subst (λ t. TellsAmounts chart.lines deck name field level kept.along.card t kept.entries) (sym text_is) tells),
    )
