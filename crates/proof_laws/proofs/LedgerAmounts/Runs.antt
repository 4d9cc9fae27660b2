-- A run of a machine that is wired for a chart, cycle by cycle, with the ledger of a total.
use Rattle.std.proofs.Common.{◌≡◌, ◌∙◌, refl, sym, ap, subst, ℕ, suc, ◌+◌, ◌<◌, ◌^◌, ◌==◌, ◌&&◌, Bool, true, false, List, [], ◌∷◌, ◌++◌, Option, Some, None, is_some, length, append-nil, arith}
use Rattle.std.proofs.lemmas.Bool.{both_ways}
use Rattle.std.proofs.lemmas.Bool.Decides.{nat_tests}
use Rattle.std.proofs.lemmas.List.{length-append}
use Rattle.std.specs.List.{All}
use Rattle.chart_rules.specs.ValidCard.{IsValidCard}
use Rattle.report_definition.specs.FollowedDecks.Stands.{Stand, at_first}
use Rattle.explain_ledgers.specs.LedgersWords.Accounts.{movement_of}
use Rattle.explain_ledgers.specs.LedgersWords.Entries.{entry_of, ledger_after}
use Rattle.explain_ledgers.specs.LedgersWords.Ledgers.{Along, Goes, IsLedger, along_after, along_at_start, begun, card_in, more}
use Rattle.explain_ledgers.specs.declared.ledgers.entry.Entry.{Entry}
use Rattle.machine.specs.Cycles.{CycleRun, Reached}
use Rattle.machine.specs.Machine.{MachineState, ended, machine_at_start}
use Rattle.machine.specs.Runs.{InRun, cards_moved, cycle_due, moved_on}
use Rattle.net.specs.Cycles.{level_number}
use Rattle.net.specs.declared.cycle.Cycle.{Cycle}
use Rattle.net.specs.declared.cycle.Cycle.TheVariants.{RunIn, Card, Prog, Head}
use Rattle.net.specs.declared.cycle.Ordinal.{Ordinal}
use Rattle.net.specs.declared.cycle.Ordinal.TheVariants.{First, Second, Third}
use Rattle.net.specs.declared.cycle.ProgramLevel.{ProgramLevel}
use Rattle.net.specs.declared.cycle.ProgramLevel.TheVariants.{Minor, Intermediate, Major, Final}
use Rattle.proof_reports.proofs.WiredPanels.CycleAsks.AmountsLawful.{amount_on_card}
use Rattle.proof_reports.proofs.WiredPanels.CycleAsks.LinePlaces.CyclesDue.{levels-rise}
use Rattle.proof_reports.specs.WiredPanels.PanelCycles.{IsCardRead}
use Rattle.proof_reports.proofs.PrintedReports.Facts.{IsRead, ShowsTotal}
use Rattle.proof_reports.proofs.PrintedReports.FromCounters.{totals}
use Rattle.proof_reports.specs.PrintedReports.Content.{held, kind_for}
use Rattle.program_unit.specs.CycleOrder.{cycle_after, has_level_left, is_over_at, level_above, levels_to, next_cycle, top_level}
use Rattle.program_unit.specs.Program.{ProgramState, program_ended, stage_ended}
use Rattle.report_definition.specs.Amounts.{digits_on, is_negated, number_in, signed}
use Rattle.report_definition.specs.Breaks.{taking}
use Rattle.report_definition.specs.Totals.{Fits, total_of}
use Rattle.hubs.specs.SetupsWords.Wiring.{Wiring}
use Rattle.proof_cycles.proofs.TotalsWords.Passing.{other_passes}
use Rattle.proof_cycles.specs.TotalsWords.Amounts.{IsSmall, act_of}
use Rattle.proof_cycles.specs.TotalsWords.Amounts.Kind.{Prog as Ends}
use Rattle.proof_cycles.specs.TotalsWords.CounterCycles.Acts.{Held}
use Rattle.proof_cycles.proofs.WholeCycles.Ready.{machines-ready, ready-moved}
use Rattle.proof_cycles.specs.WholeCycles.Between.{IsReady}
use Rattle.proof_laws.proofs.LedgerAmounts.Acts.{card-leaves, card-posts, first-leaves, other-leaves, second-leaves, second-turns, third-clears, third-leaves, third-posts}
use Rattle.proof_laws.proofs.LedgerAmounts.Asked.{total-moves}
use Rattle.proof_laws.proofs.LedgerAmounts.Decks.{AtCard, at-first, card-due, next_of, rest_of}
use Rattle.proof_laws.proofs.LedgerAmounts.Due.{ForCard, ForTotal, awaits, for-card, for-level, for-total, heading_first, its_card, its_heading, its_total, one-due}
use Rattle.proof_laws.proofs.LedgerAmounts.Groups.{same-numbers}
use Rattle.proof_laws.proofs.LedgerAmounts.Moves.{Moves}
use Rattle.proof_laws.proofs.LedgerAmounts.Places.{Behind, IsAfter, IsBefore, IsTested, IsTurned, IsWaiting, ListedAfter, OfCard, Place, going, is_after, is_before, is_over, is_tested, is_turned, is_turning, is_waiting, settled, turned-shows, unturned, was_turned}
use Rattle.proof_laws.proofs.LedgerAmounts.Served.{Served, amount, card-comes, card-passes, group-ends, other-ends, total-comes, under, with-entries}
use Rattle.proof_laws.proofs.LedgerAmounts.Shown.{figure-is, latch-kept}
use Rattle.proof_laws.proofs.LedgerAmounts.Told.{told-first}
use Rattle.proof_laws.specs.LedgerAmounts.Postings.{program_level}

-- a cycle of a run, as one of the machine
pub run-of : (wiring : Wiring) (cycle : Cycle) (old behind : MachineState) → Reached wiring cycle 14 old behind → CycleRun wiring cycle old (ended behind cycle)
run-of wiring cycle old behind reached = record { at_end = behind; reached = reached; is_new = refl }

module _ (total : Served) (deck : List (List ℕ)) (along : Along) (entries : List Entry) (behind : MachineState) where
  -- the ledger behind a cycle
  abbrev ledger : Cycle → List Entry
  ledger cycle =
      ledger_after cycle (card_in cycle along.card) along.passed (movement_of behind.groups cycle total.account) entries

  abbrev entry : Cycle → Entry
  entry cycle = entry_of cycle (card_in cycle along.card) along.passed (movement_of behind.groups cycle total.account)

  -- how the number of the total moves in a cycle
  moves : (cycle : Cycle) (card : List ℕ) (old : MachineState) → IsReady total.wiring old → Reached total.wiring cycle 14 old behind
      → IsRead total.chart total.plan cycle card old
      → IsSmall (amount total) (kind_for cycle card total.field) (held total.chart total.plan old total.name)
      → Moves (act_of (amount total) (kind_for cycle card total.field) (held total.chart total.plan old total.name) total.level)
      (held total.chart total.plan old total.name total.level).number (movement_of behind.groups cycle total.account)
  moves cycle card old is reached read small =
      total-moves total.chart total.plan total.wiring total.panel total.rise cycle card old behind total.name total.field total.level total.counter
      total.account is reached read total.is_amount small total.own total.told

  -- in the run-in and in heading cycles a ledger stays
  heading-stays : (heading : Ordinal) → IsReady total.wiring along.run.machine
      → Reached total.wiring (Head heading) 14 along.run.machine behind → ledger (Head heading) ≡ entries
  heading-stays heading is reached =
      other-leaves (amount total) (held total.chart total.plan along.run.machine total.name) total.level
      (held total.chart total.plan along.run.machine total.name total.level).number total.has (Head heading) (card_in (Head heading) along.card)
      along.passed (movement_of behind.groups (Head heading) total.account) entries
      (moves (Head heading) [] along.run.machine is reached tt tt)

  -- a heading cycle leaves what totals hold
  heading-held : (heading : Ordinal) → IsReady total.wiring along.run.machine
      → Reached total.wiring (Head heading) 14 along.run.machine behind
      → held total.chart total.plan (ended behind (Head heading)) total.name ≡ held total.chart total.plan along.run.machine total.name
  heading-held heading is reached =
      totals total.chart total.plan total.wiring total.panel total.rise (Head heading) [] along.run.machine (ended behind (Head heading)) is
      (run-of total.wiring (Head heading) along.run.machine behind reached) tt total.name total.field total.is_amount tt
      ∙ other_passes (amount total) (held total.chart total.plan along.run.machine total.name)

  -- The run-in of the first card.
  runs-in : IsBefore total deck along entries → All (IsValidCard total.chart) deck → Fits total.chart.lines deck
      → Goes total.wiring RunIn along behind → Place total deck (along_after RunIn behind along) (ledger RunIn)
  runs-in was valid fits goes =
      let start : MachineState = moved_on (Some was.card) (machine_at_start total.wiring) in
      let reached : Reached total.wiring RunIn 14 (moved_on (Some was.card) (machine_at_start total.wiring)) behind
      = subst (λ (m : MachineState). Reached total.wiring RunIn 14 m behind) was.machine goes.reached in
      let at = at-first total.chart was.card was.cards (subst (All (IsValidCard total.chart)) was.whole valid)
      (subst (Fits total.chart.lines) was.whole fits) in
      let ran = (going total).starts was.card (ended behind RunIn) (card-due total.chart (was.card ∷ was.cards) at_first was.card was.cards [] at).reads
      (run-of total.wiring RunIn start behind reached) in
      let is = ready-moved total.wiring (Some was.card) (machine_at_start total.wiring) (machines-ready.start total.wiring) in
      let same : ledger RunIn ≡ [] =
      other-leaves (amount total) (held total.chart total.plan start total.name) total.level
      (held total.chart total.plan start total.name total.level).number total.has RunIn (card_in RunIn along.card)
      along.passed (movement_of behind.groups RunIn total.account) entries (moves RunIn [] start is reached tt tt)
      ∙ was.none in
      is_waiting (record {
        stand = at_first;
        card = was.card;
        cards = was.cards;
        seen = [];
        at = subst (λ d. AtCard total.chart d at_first was.card was.cards []) (sym was.whole) at;
        content = ran.0;
        first = ap (λ s. s.first) ran.1.stations;
        hopper = was.hopper;
        over = ap (λ (p : ProgramState). is_over_at p p.stage true) ran.1.program;
        counted = was.counted;
        listed = with-entries total [] [] [] [] (ledger RunIn) same
            (record { postings = []; is_told = told-first total.chart.lines total.field (under total) total.level; listed = refl });
      })

  -- A heading cycle, where a card waits.
  waiting-heads : (was : IsWaiting total deck along entries) (heading : Ordinal)
      → is_over_at along.run.machine.program (stage_ended along.run.machine.program.stage (Head heading)) true ≡ true
      → Goes total.wiring (Head heading) along behind → Place total deck (along_after (Head heading) behind along) (ledger (Head heading))
  waiting-heads was heading over goes =
      let machine : MachineState = along.run.machine in
      let due = card-due total.chart deck was.stand was.card was.cards was.seen was.at in
      let run = run-of total.wiring (Head heading) machine behind goes.reached in
      let (content, heads) = ((going total).cards was.stand was.card (next_of was.cards) due).heads heading machine
      (ended behind (Head heading)) was.content run in
      is_waiting (record {
        stand = was.stand;
        card = was.card;
        cards = was.cards;
        seen = was.seen;
        at = was.at;
        content = content;
        first = ap (λ s. s.first) heads.goes.stations ∙ was.first;
        hopper = was.hopper;
        over = ap (λ (p : ProgramState). is_over_at p p.stage true) heads.goes.program ∙ over;
        counted = was.counted;
        listed = with-entries total (was.stand.so_far total.level) (was.stand.so_far (under total)) was.seen entries (ledger (Head heading))
            (heading-stays heading was.content.holds.is_ready goes.reached) was.listed;
      })

  -- the cards as they move on before a card cycle
  moved-so : (machine : MachineState) (hopper cards : List (List ℕ)) → hopper ≡ cards
      → cards_moved machine hopper ≡ record { machine = moved_on (next_of cards) machine; hopper = rest_of cards }
  moved-so machine hopper cards same = ap (cards_moved machine) same ∙ by cards
    where
      by : (some : List (List ℕ)) → cards_moved machine some ≡ record { machine = moved_on (next_of some) machine; hopper = rest_of some }
      by [] = refl
      by (card ∷ others) = refl

  -- the sign of a card is that of its amount
  sign-is : (signed_so negated : Bool) → (negated ≡ true → signed_so ≡ true) → (signed_so && negated) ≡ negated
  sign-is true negated has = refl
  sign-is false true has = has refl
  sign-is false false has = refl

  -- The card cycle of a card that waits.
  waiting-runs : (was : IsWaiting total deck along entries) → Goes total.wiring Card along behind
      → Place total deck (along_after Card behind along) (ledger Card)
  waiting-runs was goes =
      let old : MachineState = moved_on (next_of was.cards) along.run.machine in
      let moved = moved-so along.run.machine along.run.hopper was.cards was.hopper in
      let reached : Reached total.wiring Card 14 (moved_on (next_of was.cards) along.run.machine) behind
      = subst (λ (r : InRun). Reached total.wiring Card 14 r.machine behind) moved goes.reached in
      let due = card-due total.chart deck was.stand was.card was.cards was.seen was.at in
      let ran = ((going total).cards was.stand was.card (next_of was.cards) due).runs along.run.machine (ended behind Card) was.content was.first
      (run-of total.wiring Card old behind reached) in
      let is = ready-moved total.wiring (next_of was.cards) along.run.machine was.content.holds.is_ready in
      let read : IsCardRead total.chart total.plan old was.card
      = record { second = was.first; valid = due.reads; pilots = was.content.holds.pilots } in
      let on_card = amount_on_card total.chart total.plan total.name total.field was.card total.panel.lawful total.is_amount in
      let its = moves Card was.card old is reached read on_card in
      let listed : ListedAfter total 0 was.stand was.card was.seen (ledger Card) = by_lowest was old its (under total == 0) refl on_card.negated in
      settled total deck (along_after Card behind along) (ledger Card) was.stand was.card was.seen 0 None refl ran.1.stage listed was.cards
      (record {
        at = was.at;
        levels = ran.1.levels;
        first = ran.1.first;
        hopper = ap (λ (r : InRun). r.hopper) moved;
        counted = ap (λ n. n + 1) was.counted;
      })
      ran.0 (omega arith)
    where
      by_lowest : (was : IsWaiting total deck along entries) (old : MachineState)
          → Moves (act_of (amount total) (kind_for Card was.card total.field) (held total.chart total.plan old total.name) total.level)
          (held total.chart total.plan old total.name total.level).number (movement_of behind.groups Card total.account)
          → (b : Bool) → (under total == 0) ≡ b
          → (is_negated total.field.kind was.card ≡ true → (amount total).is_signed ≡ true)
          → ListedAfter total 0 was.stand was.card was.seen (ledger Card)
      by_lowest was old its true lowest signs =
          let negated = is_negated total.field.kind was.card in
          let size = number_in (digits_on total.field was.card) in
          let posts = card-posts (amount total) (held total.chart total.plan old total.name) total.level
          (held total.chart total.plan old total.name total.level).number total.has Card (card_in Card along.card) along.passed
          (movement_of behind.groups Card total.account) entries negated size lowest its in
          with-entries total _ _ (was.seen ++ (was.card ∷ [])) (entries ++ (entry Card ∷ [])) (ledger Card) posts.0
          (card-comes total was.stand.so_far was.seen was.card entries (entry Card) lowest
          (posts.1 ∙ (λ i. Some (record {
            cycle = Card;
            card = was.counted i + 1;
            amount = signed (sign-is (amount total).is_signed negated signs i) size;
          })))
          was.listed)
      by_lowest was old its false higher signs =
          let negated = is_negated total.field.kind was.card in
          let size = number_in (digits_on total.field was.card) in
          with-entries total _ _ (was.seen ++ (was.card ∷ [])) entries (ledger Card)
          (card-leaves (amount total) (held total.chart total.plan old total.name) total.level
          (held total.chart total.plan old total.name total.level).number total.has Card (card_in Card along.card) along.passed
          (movement_of behind.groups Card total.account) entries negated size higher its)
          (card-passes total was.stand.so_far was.seen was.card entries higher was.at.follows was.listed)

  -- Where a card waits.
  waiting-goes : (was : IsWaiting total deck along entries) (cycle : Cycle) → Goes total.wiring cycle along behind
      → Place total deck (along_after cycle behind along) (ledger cycle)
  waiting-goes was cycle goes =
      by (for-card along.run.machine.program along.run.machine.program.stage along.run.machine.carriage.spot.latch cycle was.over
      (ap (λ (f : Option (List ℕ)). next_cycle along.run.machine.program along.run.machine.carriage.spot.latch (is_some f)) (sym was.first)
      ∙ goes.due)) goes
    where
      by : {its : Cycle} → ForCard along.run.machine.program along.run.machine.program.stage its → Goes total.wiring its along behind
          → Place total deck (along_after its behind along) (ledger its)
      by its_card goes = waiting-runs was goes
      by (its_heading heading over) goes = waiting-heads was heading over goes

  -- of a cycle within those of a card
  of-card : (stand : Stand) (card : List ℕ) (cards seen : List (List ℕ)) (cycle : Cycle) (new : MachineState)
      → OfCard total deck stand card cards seen along → new.stations ≡ along.run.machine.stations
      → new.program ≡ program_ended along.run.machine.program cycle → card_in cycle along.card ≡ along.card
      → (after : Along) → after.run.machine ≡ new → after.run.hopper ≡ along.run.hopper → after.card ≡ card_in cycle along.card
      → OfCard total deck stand card cards seen after
  of-card stand card cards seen cycle new of stations program stays after is hopper counted = record {
    at = of.at;
    levels = ap (λ (m : MachineState). levels_to (top_level m.program (is_some (next_of cards)))) is
        ∙ ap (λ (p : ProgramState). levels_to (top_level p (is_some (next_of cards)))) program ∙ of.levels;
    first = ap (λ (m : MachineState). m.stations.first) is ∙ ap (λ s. s.first) stations ∙ of.first;
    hopper = hopper ∙ of.hopper;
    counted = counted ∙ stays ∙ of.counted;
  }

  -- The first cycle of a level.
  after-runs : (was : IsAfter total deck along entries) (level : ProgramLevel) → level_number level ≡ suc was.k
      → Goes total.wiring (Prog level First) along behind
      → Place total deck (along_after (Prog level First) behind along) (ledger (Prog level First))
  after-runs was level number goes =
      let machine : MachineState = along.run.machine in
      let due = card-due total.chart deck was.stand was.card was.cards was.seen was.of.at in
      let run = run-of total.wiring (Prog level First) machine behind goes.reached in
      let (content, on) = ((going total).levels was.stand was.card (next_of was.cards) due).first was.k level machine
      (ended behind (Prog level First)) number was.within was.content run in
      let its = moves (Prog level First) was.card machine was.content.holds.is_ready goes.reached tt tt in
      is_tested (record {
        stand = was.stand;
        card = was.card;
        cards = was.cards;
        seen = was.seen;
        of = of-card was.stand was.card was.cards was.seen (Prog level First) (ended behind (Prog level First)) was.of on.stations on.program refl
            (along_after (Prog level First) behind along) refl refl refl;
        k = was.k;
        level = level;
        number = number;
        within = was.within;
        content = content;
        stage = ap (λ (p : ProgramState). p.stage) on.program;
        listed = with-entries total _ _ (was.seen ++ (was.card ∷ [])) entries (ledger (Prog level First))
            (first-leaves (amount total) (held total.chart total.plan machine total.name) total.level
            (held total.chart total.plan machine total.name total.level).number total.has (Prog level First)
            (card_in (Prog level First) along.card) along.passed (movement_of behind.groups (Prog level First) total.account) entries
            (level_number level) its) was.listed;
      })

  after-goes : (was : IsAfter total deck along entries) (cycle : Cycle) → Goes total.wiring cycle along behind
      → Place total deck (along_after cycle behind along) (ledger cycle)
  after-goes was cycle goes =
      let machine : MachineState = along.run.machine in
      let levels = was.of.levels in
      let is_done = was.is_done in
      let within = was.within in
      let left : has_level_left along.run.machine.program was.done (is_some (next_of was.cards)) ≡ true
      = grind (arith, nat_tests, levels, is_done, within) in
      let rise = levels-rise along.run.machine.program was.done (is_some (next_of was.cards)) left in
      let number : level_number (level_above was.done) ≡ suc was.k = omega (arith, rise, is_done) in
      let same : Prog (level_above was.done) First ≡ cycle
      = one-due (Prog (level_above was.done) First) cycle
      (sym (for-level machine.program was.done machine.carriage.spot.latch (is_some (next_of was.cards)) left)
      ∙ ap (λ s. cycle_after machine.program s machine.carriage.spot.latch (is_some (next_of was.cards))) (sym was.stage)
      ∙ ap (λ (f : Option (List ℕ)). next_cycle machine.program machine.carriage.spot.latch (is_some f)) (sym was.of.first)
      ∙ goes.due) in
      subst (λ (c : Cycle). Place total deck (along_after c behind along) (ledger c)) same
      (after-runs was (level_above was.done) number
      (subst (λ (c : Cycle). Goes total.wiring c along behind) (sym same) goes))

  -- The second cycle of a level leaves the latch of the total.
  tested-latch : (was : IsTested total deck along entries) → Goes total.wiring (Prog was.level Second) along behind
      → is_turning total was.level (ended behind (Prog was.level Second)) ≡ is_turning total was.level along.run.machine
  tested-latch was goes =
      ap (λ (s : ℕ → Held). (amount total).is_signed && ((level_number was.level == total.level) && (s total.level).latch))
      (totals total.chart total.plan total.wiring total.panel total.rise (Prog was.level Second) was.card along.run.machine
      (ended behind (Prog was.level Second)) was.content.holds.is_ready
      (run-of total.wiring (Prog was.level Second) along.run.machine behind goes.reached) tt total.name total.field total.is_amount tt)
      ∙ ap (λ (b : Bool). (amount total).is_signed && ((level_number was.level == total.level) && b))
      (latch-kept (amount total) (level_number was.level) total.level (held total.chart total.plan along.run.machine total.name))

  -- The second cycle of a level, by what it adds to the ledger.
  tested-so : (was : IsTested total deck along entries) → Goes total.wiring (Prog was.level Second) along behind
      → (turned : List Entry) → ledger (Prog was.level Second) ≡ entries ++ turned
      → Behind was.level along.card (is_turning total was.level (ended behind (Prog was.level Second))) turned
      → Place total deck (along_after (Prog was.level Second) behind along) (ledger (Prog was.level Second))
  tested-so was goes turned whole told =
      let due = card-due total.chart deck was.stand was.card was.cards was.seen was.of.at in
      let run = run-of total.wiring (Prog was.level Second) along.run.machine behind goes.reached in
      let (content, on) = ((going total).levels was.stand was.card (next_of was.cards) due).second was.level along.run.machine
      (ended behind (Prog was.level Second)) was.content run in
      is_turned (record {
        stand = was.stand;
        card = was.card;
        cards = was.cards;
        seen = was.seen;
        of = of-card was.stand was.card was.cards was.seen (Prog was.level Second) (ended behind (Prog was.level Second)) was.of on.stations
            on.program refl (along_after (Prog was.level Second) behind along) refl refl refl;
        k = was.k;
        level = was.level;
        number = was.number;
        within = was.within;
        content = content;
        stage = ap (λ (p : ProgramState). awaits p.stage) on.program;
        added = entries;
        turned = turned;
        whole = whole;
        listed = was.listed;
        behind = told;
      })

  -- The second cycle of a level: the total turns, or it doesn't.
  tested-runs : (was : IsTested total deck along entries) → Goes total.wiring (Prog was.level Second) along behind
      → Place total deck (along_after (Prog was.level Second) behind along) (ledger (Prog was.level Second))
  tested-runs was goes =
      by (is_turning total was.level along.run.machine) refl
      (moves (Prog was.level Second) was.card along.run.machine was.content.holds.is_ready goes.reached tt tt)
    where
      by : (b : Bool) → is_turning total was.level along.run.machine ≡ b
          → Moves (act_of (amount total) (Ends (level_number was.level) Second) (held total.chart total.plan along.run.machine total.name) total.level)
          (held total.chart total.plan along.run.machine total.name total.level).number
          (movement_of behind.groups (Prog was.level Second) total.account)
          → Place total deck (along_after (Prog was.level Second) behind along) (ledger (Prog was.level Second))
      by true turns its =
          let turned = second-turns (amount total) (held total.chart total.plan along.run.machine total.name) total.level
          (held total.chart total.plan along.run.machine total.name total.level).number total.has (Prog was.level Second)
          (card_in (Prog was.level Second) along.card) along.passed (movement_of behind.groups (Prog was.level Second) total.account) entries
          (level_number was.level) turns its in
          tested-so was goes (entry (Prog was.level Second) ∷ []) turned.0
          (was_turned (tested-latch was goes ∙ turns) (entry (Prog was.level Second)) refl refl turned.1)
      by false stays its =
          tested-so was goes []
          (second-leaves (amount total) (held total.chart total.plan along.run.machine total.name) total.level
          (held total.chart total.plan along.run.machine total.name total.level).number total.has (Prog was.level Second)
          (card_in (Prog was.level Second) along.card) along.passed (movement_of behind.groups (Prog was.level Second) total.account) entries
          (level_number was.level) stays its
          ∙ sym (append-nil entries))
          (unturned (tested-latch was goes ∙ stays))

  tested-goes : (was : IsTested total deck along entries) (cycle : Cycle) → Goes total.wiring cycle along behind
      → Place total deck (along_after cycle behind along) (ledger cycle)
  tested-goes was cycle goes =
      let machine : MachineState = along.run.machine in
      let same : Prog was.level Second ≡ cycle
      = one-due (Prog was.level Second) cycle
      (ap (λ s. cycle_after machine.program s machine.carriage.spot.latch (is_some machine.stations.first)) (sym was.stage) ∙ goes.due) in
      subst (λ (c : Cycle). Place total deck (along_after c behind along) (ledger c)) same
      (tested-runs was (subst (λ (c : Cycle). Goes total.wiring c along behind) (sym same) goes))

  -- A heading cycle, where a total waits.
  turned-heads : (was : IsTurned total deck along entries) (heading : Ordinal)
      → awaits (stage_ended along.run.machine.program.stage (Head heading)) ≡ Some was.level
      → Goes total.wiring (Head heading) along behind → Place total deck (along_after (Head heading) behind along) (ledger (Head heading))
  turned-heads was heading waits goes =
      let due = card-due total.chart deck was.stand was.card was.cards was.seen was.of.at in
      let run = run-of total.wiring (Head heading) along.run.machine behind goes.reached in
      let is = was.content.holds.is_ready in
      let (content, heads) = ((going total).levels was.stand was.card (next_of was.cards) due).heads was.level heading along.run.machine
      (ended behind (Head heading)) was.content run in
      let latch : is_turning total was.level along.run.machine ≡ is_turning total was.level (ended behind (Head heading))
      = ap (λ (s : ℕ → Held). (amount total).is_signed && ((level_number was.level == total.level) && (s total.level).latch))
      (sym (heading-held heading is goes.reached)) in
      is_turned (record {
        stand = was.stand;
        card = was.card;
        cards = was.cards;
        seen = was.seen;
        of = of-card was.stand was.card was.cards was.seen (Head heading) (ended behind (Head heading)) was.of heads.goes.stations
            heads.goes.program refl (along_after (Head heading) behind along) refl refl refl;
        k = was.k;
        level = was.level;
        number = was.number;
        within = was.within;
        content = content;
        stage = ap (λ (p : ProgramState). awaits p.stage) heads.goes.program ∙ waits;
        added = was.added;
        turned = was.turned;
        whole = heading-stays heading is goes.reached ∙ was.whole;
        listed = was.listed;
        behind = subst (λ (b : Bool). Behind was.level along.card b was.turned) latch was.behind;
      })

  level-is : (level : ProgramLevel) → program_level (level_number level) ≡ level
  level-is Minor = refl
  level-is Intermediate = refl
  level-is Major = refl
  level-is Final = refl

  -- how the number of the total moves in the third cycle of a level
  abbrev ThirdMoves : IsTurned total deck along entries → Type 0
  ThirdMoves was =
      Moves (act_of (amount total) (Ends (suc was.k) Third) (held total.chart total.plan along.run.machine total.name) total.level)
      (held total.chart total.plan along.run.machine total.name total.level).number
      (movement_of behind.groups (Prog was.level Third) total.account)

  third-moves : (was : IsTurned total deck along entries) → Goes total.wiring (Prog was.level Third) along behind → ThirdMoves was
  third-moves was goes =
      let small : IsSmall (amount total) (Ends (level_number was.level) Third) (held total.chart total.plan along.run.machine total.name)
      = subst (λ n. IsSmall (amount total) (Ends n Third) (held total.chart total.plan along.run.machine total.name)) (sym was.number)
      (omega arith, λ has. room (held total.chart total.plan along.run.machine total.name (suc was.k)) (turned-shows total deck along entries was has)) in
      subst (λ n. Moves (act_of (amount total) (Ends n Third) (held total.chart total.plan along.run.machine total.name) total.level)
      (held total.chart total.plan along.run.machine total.name total.level).number
      (movement_of behind.groups (Prog was.level Third) total.account)) was.number
      (moves (Prog was.level Third) was.card along.run.machine was.content.holds.is_ready goes.reached tt small)
    where
      room : (holds : Held)
          → ShowsTotal total.chart total.plan (suc was.k) (taking was.card was.stand.so_far (suc was.k)) total.name total.field holds
          → holds.number < 10 ^ (amount total).digits (suc was.k)
      room holds shows = subst (λ n. n < 10 ^ (amount total).digits (suc was.k)) (sym shows.figure) shows.fits

  -- what doesn't turn has nothing behind the amounts
  pub unturned-all : (level : ProgramLevel) (turned added : List Entry) → is_turning total level along.run.machine ≡ false
      → Behind level along.card (is_turning total level along.run.machine) turned → entries ≡ added ++ turned → entries ≡ added
  unturned-all level turned added stays behind_is whole = by behind_is whole
    where
      by : {some : List Entry} → Behind level along.card (is_turning total level along.run.machine) some → entries ≡ added ++ some
          → entries ≡ added
      by (unturned is) same = same ∙ append-nil added
      by (was_turned is one cycle card change) same = absurd (both_ways _ stays is)

  -- in the third cycle of another level nothing has turned
  other-unturned : (was : IsTurned total deck along entries) → (suc was.k == total.level) ≡ false
      → is_turning total was.level along.run.machine ≡ false
  other-unturned was other =
      let test : (level_number was.level == total.level) ≡ false = ap (λ n. n == total.level) was.number ∙ other in
      ap (λ (b : Bool). (amount total).is_signed
      && (b && (held total.chart total.plan along.run.machine total.name total.level).latch)) test
      ∙ none (amount total).is_signed
    where
      none : (b : Bool) → (b && false) ≡ false
      none true = refl
      none false = refl

  -- The third cycle of the total's own level.
  turned-own : (was : IsTurned total deck along entries) → ThirdMoves was → (suc was.k == total.level) ≡ true
      → ListedAfter total (suc was.k) was.stand was.card was.seen (ledger (Prog was.level Third))
  turned-own was its own =
      let same : suc was.k ≡ total.level = same-numbers (suc was.k) total.level own in
      with-entries total _ _ (was.seen ++ (was.card ∷ [])) [] (ledger (Prog was.level Third))
      (third-clears (amount total) (held total.chart total.plan along.run.machine total.name) total.level
      (held total.chart total.plan along.run.machine total.name total.level).number total.has (Prog was.level Third)
      (card_in (Prog was.level Third) along.card) along.passed (movement_of behind.groups (Prog was.level Third) total.account) entries
      (suc was.k) own its)
      (group-ends total was.k was.stand.so_far was.card (was.seen ++ (was.card ∷ [])) same)

  -- That of the next lower total's level.
  turned-under : (was : IsTurned total deck along entries) → ThirdMoves was → (suc was.k == total.level) ≡ false
      → ((amount total).has (suc was.k) && (under total == suc was.k)) ≡ true
      → ListedAfter total (suc was.k) was.stand was.card was.seen (ledger (Prog was.level Third))
  turned-under was its other lower_is =
      let parts = both (amount total).has (suc was.k) lower_is in
      let posts = third-posts (amount total) (held total.chart total.plan along.run.machine total.name) total.level
      (held total.chart total.plan along.run.machine total.name total.level).number total.has (Prog was.level Third)
      (card_in (Prog was.level Third) along.card) along.passed (movement_of behind.groups (Prog was.level Third) total.account) entries
      (suc was.k) other lower_is its in
      let shows = turned-shows total deck along entries was parts.0 in
      let figure : signed ((amount total).is_signed && (held total.chart total.plan along.run.machine total.name (suc was.k)).latch)
      (held total.chart total.plan along.run.machine total.name (suc was.k)).number
      ≡ total_of total.field (taking was.card was.stand.so_far (suc was.k))
      = figure-is (amount total).is_signed (held total.chart total.plan along.run.machine total.name (suc was.k)).latch
      (held total.chart total.plan along.run.machine total.name (suc was.k)).number
      (total_of total.field (taking was.card was.stand.so_far (suc was.k))) shows.figure shows.below shows.above shows.unsigned in
      let cycle_is : was.level ≡ program_level (suc was.k) = sym (level-is was.level) ∙ ap program_level was.number in
      let counted : along.card ≡ length (was.seen ++ (was.card ∷ [])) = was.of.counted ∙ sym (length-append was.seen (was.card ∷ [])) in
      let same : entries ≡ was.added = unturned-all was.level was.turned was.added (other-unturned was other) was.behind was.whole in
      with-entries total _ _ (was.seen ++ (was.card ∷ [])) (was.added ++ (entry (Prog was.level Third) ∷ [])) (ledger (Prog was.level Third))
      (posts.0 ∙ ap (λ l. l ++ (entry (Prog was.level Third) ∷ [])) same)
      (total-comes total was.k was.stand.so_far was.card (was.seen ++ (was.card ∷ [])) was.added (entry (Prog was.level Third)) parts.1
      (posts.1 ∙ (λ i. Some (record { cycle = Prog (cycle_is i) Third; card = counted i; amount = figure i }))) was.listed)
    where
      both : (has : ℕ → Bool) (n : ℕ) → (has n && (under total == n)) ≡ true → (has n ≡ true) × (n ≡ under total)
      both has n is = split (has n) refl is
        where
          split : (b : Bool) → has n ≡ b → (b && (under total == n)) ≡ true → (has n ≡ true) × (n ≡ under total)
          split true here rest = (here, sym (same-numbers (under total) n rest))
          split false here rest = cc

  -- That of any other level.
  turned-other : (was : IsTurned total deck along entries) → ThirdMoves was → (suc was.k == total.level) ≡ false
      → ((amount total).has (suc was.k) && (under total == suc was.k)) ≡ false
      → ListedAfter total (suc was.k) was.stand was.card was.seen (ledger (Prog was.level Third))
  turned-other was its other lower_is =
      with-entries total _ _ (was.seen ++ (was.card ∷ [])) was.added (ledger (Prog was.level Third))
      (third-leaves (amount total) (held total.chart total.plan along.run.machine total.name) total.level
      (held total.chart total.plan along.run.machine total.name total.level).number total.has (Prog was.level Third)
      (card_in (Prog was.level Third) along.card) along.passed (movement_of behind.groups (Prog was.level Third) total.account) entries
      (suc was.k) other lower_is its
      ∙ unturned-all was.level was.turned was.added (other-unturned was other) was.behind was.whole)
      (other-ends total was.k was.stand.so_far was.card (was.seen ++ (was.card ∷ [])) was.added other lower_is was.listed)

  turned-listed : (was : IsTurned total deck along entries) → ThirdMoves was
      → ListedAfter total (suc was.k) was.stand was.card was.seen (ledger (Prog was.level Third))
  turned-listed was its = by (suc was.k == total.level) refl ((amount total).has (suc was.k) && (under total == suc was.k)) refl
    where
      by : (own : Bool) → (suc was.k == total.level) ≡ own → (lower_so : Bool)
          → ((amount total).has (suc was.k) && (under total == suc was.k)) ≡ lower_so
          → ListedAfter total (suc was.k) was.stand was.card was.seen (ledger (Prog was.level Third))
      by true own lower_so is = turned-own was its own
      by false own true is = turned-under was its own is
      by false own false is = turned-other was its own is

  -- The third cycle of a level.
  turned-runs : (was : IsTurned total deck along entries) → Goes total.wiring (Prog was.level Third) along behind
      → Place total deck (along_after (Prog was.level Third) behind along) (ledger (Prog was.level Third))
  turned-runs was goes =
      let due = card-due total.chart deck was.stand was.card was.cards was.seen was.of.at in
      let run = run-of total.wiring (Prog was.level Third) along.run.machine behind goes.reached in
      let (content, third) = ((going total).levels was.stand was.card (next_of was.cards) due).third was.k was.level along.run.machine
      (ended behind (Prog was.level Third)) was.number was.within was.content run in
      settled total deck (along_after (Prog was.level Third) behind along) (ledger (Prog was.level Third)) was.stand was.card was.seen (suc was.k)
      (Some was.level) was.number (ap (λ (p : ProgramState). p.stage) third.goes.program) (turned-listed was (third-moves was goes)) was.cards
      (of-card was.stand was.card was.cards was.seen (Prog was.level Third) (ended behind (Prog was.level Third)) was.of third.goes.stations
      third.goes.program refl (along_after (Prog was.level Third) behind along) refl refl refl)
      content was.within

  turned-goes : (was : IsTurned total deck along entries) (cycle : Cycle) → Goes total.wiring cycle along behind
      → Place total deck (along_after cycle behind along) (ledger cycle)
  turned-goes was cycle goes =
      by (for-total along.run.machine.program along.run.machine.program.stage along.run.machine.carriage.spot.latch
      (is_some along.run.machine.stations.first) was.level cycle was.stage goes.due) goes
    where
      by : {its : Cycle} → ForTotal along.run.machine.program.stage was.level its → Goes total.wiring its along behind
          → Place total deck (along_after its behind along) (ledger its)
      by its_total goes = turned-runs was goes
      by (heading_first heading waits) goes = turned-heads was heading waits goes

  -- The first cycle of a run is its run-in.
  before-goes : (was : IsBefore total deck along entries) (cycle : Cycle) → All (IsValidCard total.chart) deck → Fits total.chart.lines deck
      → Goes total.wiring cycle along behind → Place total deck (along_after cycle behind along) (ledger cycle)
  before-goes was cycle valid fits goes =
      let same : RunIn ≡ cycle = one-due RunIn cycle (sym (ap cycle_due was.machine) ∙ goes.due) in
      subst (λ (c : Cycle). Place total deck (along_after c behind along) (ledger c)) same
      (runs-in was valid fits (subst (λ (c : Cycle). Goes total.wiring c along behind) (sym same) goes))

  -- From place to place.
  goes-on : Place total deck along entries → (cycle : Cycle) → All (IsValidCard total.chart) deck → Fits total.chart.lines deck
      → Goes total.wiring cycle along behind → Place total deck (along_after cycle behind along) (ledger cycle)
  goes-on (is_before was) cycle valid fits goes = before-goes was cycle valid fits goes
  goes-on (is_waiting was) cycle valid fits goes = waiting-goes was cycle goes
  goes-on (is_after was) cycle valid fits goes = after-goes was cycle goes
  goes-on (is_tested was) cycle valid fits goes = tested-goes was cycle goes
  goes-on (is_turned was) cycle valid fits goes = turned-goes was cycle goes
  goes-on (is_over none) cycle valid fits goes = let both : None ≡ Some cycle = sym none ∙ goes.due in cc

-- Before the first cycle.
begins : (total : Served) (deck : List (List ℕ)) → Place total deck (along_at_start total.wiring deck) []
begins total [] = is_over refl
begins total (card ∷ cards) = is_before (record {
  card = card;
  cards = cards;
  whole = refl;
  machine = refl;
  hopper = refl;
  counted = refl;
  none = refl;
})

-- Wherever a run comes, it stands at one of these places, and the ledger lists what the place tells.
pub places : (total : Served) (deck : List (List ℕ)) → All (IsValidCard total.chart) deck → Fits total.chart.lines deck
    → {along : Along} {entries : List Entry} → IsLedger total.wiring deck total.account along entries → Place total deck along entries
places total deck valid fits begun = begins total deck
places total deck valid fits (more cycle along entries behind ledger goes) =
    goes-on total deck along entries behind (places total deck valid fits ledger) cycle valid fits goes
