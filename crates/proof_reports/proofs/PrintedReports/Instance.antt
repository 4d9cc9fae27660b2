-- The cycles of a machine that is wired for a chart, put together: what it holds between cycles is kept, and each line is printed as the
-- report has it.
use Rattle.std.proofs.Common.{◌≡◌, ◌∙◌, refl, sym, ap, subst, ℕ, suc, ◌+◌, nat_le, ◌≤◌, ◌<◌, ◌^◌, ℤ, Bool, true, false, List, [], Option, Some, None, if◌then◌else◌, arith, unsigned_abs}
use Rattle.std.specs.Int.{is_negative}
use Rattle.std.proofs.lemmas.Bool.Decides.{nat_tests}
use Rattle.proof_cycles.specs.TotalsWords.CounterCycles.Acts.{Held}
use Rattle.proof_reports.specs.Below.chart_plans.PlansWords.Plans.{Lists}
use Rattle.carriage.specs.Asked.{nothing_asked}
use Rattle.report_definition.specs.Below.chart_rules.ValidCard.{IsValidCard}
use Rattle.report_definition.specs.Below.chart_lines.ChartsWords.Chart.{Chart, NumbersRise}
use Rattle.report_definition.specs.Below.chart_lines.ChartsWords.Literals.{HaveLiteralTexts}
use Rattle.report_definition.specs.Below.chart_lines.declared.charts.statement.Field.{Field}
use Rattle.report_definition.specs.FollowedDecks.Runner.{ReadsNext}
use Rattle.report_definition.specs.FollowedDecks.Stands.{Stand, at_first}
use Rattle.proof_reports.specs.Below.hubs.SetupsWords.Wiring.{Wiring}
use Rattle.proof_reports.specs.WiredPanels.CycleAsks.ChartAmounts.{amount_of}
use Rattle.proof_reports.specs.WiredPanels.PanelCycles.{IsCardRead}
use Rattle.proof_reports.specs.WiredPanels.PanelCycles.{AreSetTo}
use Rattle.proof_reports.specs.WiredPanels.Panel.{IsPanel}
use Rattle.proof_reports.proofs.WiredPanels.CycleAsks.AmountsLawful.{amount_on_card, lawful_amount}
use Rattle.proof_reports.proofs.WiredPanels.Contacts.{is_card_cycle}
use Rattle.proof_reports.proofs.WiredPanels.IndicateLatches.{latches-card, latches-third, latches-left, latches-heading, latches-run_in, latches-start}
use Rattle.proof_reports.proofs.WiredPanels.CycleAsks.JacksAndTape.{printing-is, tape-is}
use Rattle.proof_reports.specs.Below.machine.Cycles.{CycleRun}
use Rattle.proof_reports.specs.Below.machine.Machine.{MachineState, machine_at_start}
use Rattle.proof_reports.specs.Below.machine.Runs.{moved_on}
use Rattle.proof_reports.specs.Below.net.Cycles.{level_number}
use Rattle.proof_reports.specs.Below.net.declared.cycle.Cycle.{Cycle}
use Rattle.proof_reports.specs.Below.net.declared.cycle.Cycle.TheVariants.{RunIn, Card, Prog, Head}
use Rattle.proof_reports.specs.Below.net.declared.cycle.ProgramLevel.{ProgramLevel}
use Rattle.proof_reports.specs.Below.net.declared.cycle.Ordinal.{Ordinal}
use Rattle.proof_reports.specs.Below.net.declared.cycle.Ordinal.TheVariants.{First, Second, Third}
use Rattle.report_definition.specs.Breaks.{cleared, ended_after, taking}
use Rattle.report_definition.specs.Totals.{total_of}
use Rattle.proof_reports.specs.Below.selectors.Indicate.{Latches, indicate_ended}
use Rattle.proof_reports.specs.Below.selectors.Pilots.{moves_pilots}
use Rattle.proof_cycles.proofs.TotalsWords.Cards.{zeros}
use Rattle.proof_cycles.proofs.TotalsWords.GroupEnds.{total_shows}
use Rattle.proof_cycles.proofs.TotalsWords.Passing.{other_passes}
use Rattle.proof_cycles.specs.TotalsWords.Amounts.{HasGroups, IsSmall, state_after}
use Rattle.proof_cycles.specs.TotalsWords.Amounts.Kind.{Prog as Ends}
use Rattle.proof_cycles.specs.TotalsWords.Laws.{IsGroupEnd, ready}
use Rattle.proof_cycles.specs.TotalsWords.Standing.{StandsAll}
use Rattle.proof_cycles.specs.WholeCycles.Between.{IsReady}
use Rattle.proof_cycles.proofs.WholeCycles.Ready.{machines-ready, ready-moved}
use Rattle.wiring_table.specs.Figures.{IsAmount}
use Rattle.proof_reports.specs.PrintedReports.Content.{AllStand, After, Holds, Waits, Within, by_first, by_second, held, kind_for, sums_of}
use Rattle.proof_reports.proofs.PrintedReports.Asked.{asked_in}
use Rattle.proof_reports.proofs.PrintedReports.Facts.{IsRead, ShowsTotal}
use Rattle.proof_reports.proofs.PrintedReports.FromCharts.{fits, never_negated, start_zero}
use Rattle.proof_reports.proofs.PrintedReports.FromCounters.{totals}
use Rattle.proof_reports.proofs.PrintedReports.FromCycles.{card_stage, program_goes}
use Rattle.proof_reports.proofs.PrintedReports.FromHubs.{cycled, keeps_stored, kept, levels, picked_up, stores}
use Rattle.proof_reports.proofs.PrintedReports.FromLevels.{total_prints}
use Rattle.proof_reports.proofs.PrintedReports.FromWheels.{card_prints, heading_prints}
use Rattle.proof_reports.proofs.PrintedReports.Sums.{card_sums, group_end, level_sums, unsigned_total}
use Rattle.proof_reports.specs.PrintedReports.Goes.{CardGoes, HeadsKeep, IsDue, MachineGoes}
use Rattle.proof_reports.specs.PrintedReports.Going.{MachinesGoAsChartsWant}
use Rattle.proof_reports.specs.PrintedReports.Steps.{GoesOn, Heads, RunsCard, Totals}

module _ (chart : Chart) (plan : Lists) (wiring : Wiring) (panel : IsPanel chart plan wiring) (rise : NumbersRise chart.lines chart.end)
    (literals : HaveLiteralTexts chart.lines) where
  -- the amounts of the chart
  lawful : (name : List ℕ) (field : Field) → IsAmount chart.lines name field → HasGroups (amount_of chart.lines plan name)
  lawful name field amount = lawful_amount chart plan name panel.lawful rise panel.planned

  -- what a cycle leaves of their totals
  totals_after :
      (cycle : Cycle) (card : List ℕ) (old new : MachineState) → IsReady wiring old → CycleRun wiring cycle old new
      → IsRead chart plan cycle card old → (name : List ℕ) (field : Field) → IsAmount chart.lines name field
      → IsSmall (amount_of chart.lines plan name) (kind_for cycle card field) (held chart plan old name)
      → held chart plan new name ≡ state_after (amount_of chart.lines plan name) (kind_for cycle card field) (held chart plan old name)
  totals_after cycle card old new is run read name field amount small =
      totals chart plan wiring panel rise cycle card old new is run read name field amount small

  -- a cycle that is no card cycle goes on
  goes_on : (cycle : Cycle) (old new : MachineState) → IsReady wiring old → CycleRun wiring cycle old new → is_card_cycle cycle ≡ false
      → GoesOn cycle (asked_in chart cycle) old new
  goes_on cycle old new is run other =
      let done = cycled chart plan wiring panel cycle old new is run in
      record { stations = done.stations; carriage = done.carriage; program = program_goes wiring cycle old new is run other }

  -- a cycle that leaves the pilots
  holds_on : (cycle : Cycle) (old new : MachineState) (was latches : ℕ) (signs : Option (List ℕ)) → Holds chart plan wiring was signs old
      → CycleRun wiring cycle old new → moves_pilots cycle ≡ false → AreSetTo (indicate_ended old.indicate cycle) latches
      → Holds chart plan wiring latches signs new
  holds_on cycle old new was latches signs holds run stays set =
      let done = cycled chart plan wiring panel cycle old new holds.is_ready run in
      record {
        is_ready = done.is_ready;
        are_set = subst (λ (l : Latches). AreSetTo l latches) (sym done.indicate) set;
        pilots = kept chart plan wiring panel cycle old new signs holds.is_ready run stays holds.pilots;
      }

  -- a cycle that picks up the pilots anew
  picked : (cycle : Cycle) (old new : MachineState) (latches : ℕ) → IsReady wiring old → CycleRun wiring cycle old new
      → moves_pilots cycle ≡ true → AreSetTo (indicate_ended old.indicate cycle) latches
      → Holds chart plan wiring latches old.stations.first new
  picked cycle old new latches is run moves set =
      let done = cycled chart plan wiring panel cycle old new is run in
      record {
        is_ready = done.is_ready;
        are_set = subst (λ (l : Latches). AreSetTo l latches) (sym done.indicate) set;
        pilots = picked_up chart plan wiring panel cycle old new is run moves;
      }

  -- a heading cycle goes on and prints its line
  heads : (heading : Ordinal) (old new : MachineState) → IsReady wiring old → CycleRun wiring (Head heading) old new
      → Heads chart heading old new
  heads heading old new is run = record {
    goes = goes_on (Head heading) old new is run refl;
    line = λ there. heading_prints chart plan wiring panel rise literals old new heading is run;
  }

  -- a heading cycle keeps latches, pilots and units
  heads_hold : (heading : Ordinal) (old new : MachineState) (latches : ℕ) (signs : Option (List ℕ))
      → Holds chart plan wiring latches signs old → CycleRun wiring (Head heading) old new → Holds chart plan wiring latches signs new
  heads_hold heading old new latches signs holds run =
      holds_on (Head heading) old new latches latches signs holds run refl (latches-heading old.indicate heading latches holds.are_set)

  -- and the totals
  heads_same : (heading : Ordinal) (card : List ℕ) (old new : MachineState) → IsReady wiring old → CycleRun wiring (Head heading) old new
      → (name : List ℕ) (field : Field) → IsAmount chart.lines name field → held chart plan new name ≡ held chart plan old name
  heads_same heading card old new is run name field amount =
      totals_after (Head heading) card old new is run tt name field amount tt
      ∙ other_passes (amount_of chart.lines plan name) (held chart plan old name)

  -- the totals stand for the same sums where they hold the same
  stand_same : (groups : ℕ → List (List ℕ)) (one other : List ℕ → ℕ → Held) → AllStand chart plan groups one
      → ((name : List ℕ) (field : Field) → IsAmount chart.lines name field → other name ≡ one name) → AllStand chart plan groups other
  stand_same groups one other stand same name field amount =
      subst (λ s. StandsAll (amount_of chart.lines plan name) (sums_of field groups) s) (sym (same name field amount)) (stand name field amount)

  -- the run-in of the first card
  starts :
      (card : List ℕ) (new : MachineState) → IsValidCard chart card
      → CycleRun wiring RunIn (moved_on (Some card) (machine_at_start wiring)) new
      → Waits chart plan wiring at_first card new × GoesOn RunIn nothing_asked (moved_on (Some card) (machine_at_start wiring)) new
  starts card new valid run =
      let start : MachineState = moved_on (Some card) (machine_at_start wiring) in
      let is = ready-moved wiring (Some card) (machine_at_start wiring) (machines-ready.start wiring) in
      let same : (name : List ℕ) (field : Field) → IsAmount chart.lines name field
      → held chart plan new name ≡ held chart plan (machine_at_start wiring) name
      = λ name field amount. totals_after RunIn card start new is run tt name field amount tt
      ∙ other_passes (amount_of chart.lines plan name) (held chart plan start name) in
      let zero_sums : AllStand chart plan at_first.so_far (held chart plan (machine_at_start wiring))
      = λ name field amount. zeros (amount_of chart.lines plan name) (held chart plan (machine_at_start wiring) name)
      (λ level. start_zero chart plan wiring name level) in (
        record {
          holds = picked RunIn start new 4 is run refl (latches-run_in (machine_at_start wiring).indicate 4 latches-start);
          totals = stand_same at_first.so_far (held chart plan (machine_at_start wiring)) (held chart plan new) zero_sums same;
        },
        goes_on RunIn start new is run refl,
      )

  -- a card that comes next is valid
  next_valid : (next : Option (List ℕ)) → ReadsNext (IsValidCard chart) next → (d : List ℕ) → next ≡ Some d → IsValidCard chart d
  next_valid None reads d is = cc
  next_valid (Some other) reads d is = let same : other ≡ d = cc in subst (λ c. IsValidCard chart c) same reads

  -- the card cycle of a card that waits
  card_runs :
      (stand : Stand) (card : List ℕ) (next : Option (List ℕ)) → IsDue chart (IsValidCard chart) stand card next
      → (old new : MachineState) → Waits chart plan wiring stand card old → old.stations.first ≡ Some card
      → CycleRun wiring Card (moved_on next old) new
      → After chart plan wiring stand card next 0 new × RunsCard chart stand card next (moved_on next old) new
  card_runs stand card next due old new waits first run =
      let start : MachineState = moved_on next old in
      let is = ready-moved wiring next old waits.holds.is_ready in
      let done = cycled chart plan wiring panel Card start new is run in
      let read : IsCardRead chart plan start card
      = record { second = first; valid = due.reads; pilots = waits.holds.pilots } in (
        record {
          holds = picked Card start new 0 is run refl (latches-card old.indicate);
          totals = λ name field amount.
              let on_card = amount_on_card chart plan name field card panel.lawful amount in
              let after = card_sums (amount_of chart.lines plan name) field card stand.so_far (held chart plan old name)
              (lawful name field amount) on_card (waits.totals name field amount) in
              subst
              (λ s. StandsAll (amount_of chart.lines plan name) (sums_of field (cleared 0 (taking card stand.so_far))) s)
              (sym (totals_after Card card start new is run read name field amount on_card)) after;
          stored = stores chart plan wiring panel start new card rise is run first;
        },
        record {
          first = ap (λ s. s.first) done.stations;
          carriage = done.carriage;
          stage = card_stage wiring start new is run;
          printing = done.printing;
          levels = levels chart plan wiring panel start new card next is run first refl due.reads (next_valid next due.reads_next);
          line = λ printed. card_prints chart plan wiring panel rise literals start new card stand.opens is run read waits.holds.are_set;
        },
      )

  cards :
      (stand : Stand) (card : List ℕ) (next : Option (List ℕ)) → IsDue chart (IsValidCard chart) stand card next
      → CardGoes chart wiring stand card next (Waits chart plan wiring stand card) (After chart plan wiring stand card next)
  cards stand card next due = record {
    heads = λ heading old new waits run. (
      record {
        holds = heads_hold heading old new stand.opens (Some card) waits.holds run;
        totals = stand_same stand.so_far (held chart plan old) (held chart plan new) waits.totals
            (heads_same heading card old new waits.holds.is_ready run);
      },
      heads heading old new waits.holds.is_ready run,
    );
    runs = card_runs stand card next due;
  }

  -- the first cycle of a level
  first_runs :
      (stand : Stand) (card : List ℕ) (next : Option (List ℕ)) (k : ℕ) (level : ProgramLevel) (old new : MachineState)
      → level_number level ≡ suc k → suc k ≤ ended_after chart.lines card next
      → After chart plan wiring stand card next k old → CycleRun wiring (Prog level First) old new
      → Within chart plan wiring stand card next (by_first chart plan level) level new × GoesOn (Prog level First) nothing_asked old new
  first_runs stand card next k level old new number within later run = (
    record {
      k = k;
      is_level = number;
      within = within;
      holds = holds_on (Prog level First) old new k k next later.holds run refl (latches-left old.indicate level k later.holds.are_set).0;
      stored = keeps_stored chart plan wiring panel (Prog level First) old new card later.holds.is_ready run refl later.stored;
      before = held chart plan old;
      totals = later.totals;
      is = λ name field amount. totals_after (Prog level First) card old new later.holds.is_ready run tt name field amount tt;
    },
    goes_on (Prog level First) old new later.holds.is_ready run refl,
  )

  -- the second
  second_runs :
      (stand : Stand) (card : List ℕ) (next : Option (List ℕ)) (level : ProgramLevel) (old new : MachineState)
      → Within chart plan wiring stand card next (by_first chart plan level) level old → CycleRun wiring (Prog level Second) old new
      → Within chart plan wiring stand card next (by_second chart plan level) level new × GoesOn (Prog level Second) nothing_asked old new
  second_runs stand card next level old new was run = (
    record {
      k = was.k;
      is_level = was.is_level;
      within = was.within;
      holds = holds_on (Prog level Second) old new was.k was.k next was.holds run refl
          (latches-left old.indicate level was.k was.holds.are_set).1;
      stored = keeps_stored chart plan wiring panel (Prog level Second) old new card was.holds.is_ready run refl was.stored;
      before = was.before;
      totals = was.totals;
      is = λ name field amount. totals_after (Prog level Second) card old new was.holds.is_ready run tt name field amount tt
          ∙ ap (λ s. state_after (amount_of chart.lines plan name) (Ends (level_number level) Second) s) (was.is name field amount);
    },
    goes_on (Prog level Second) old new was.holds.is_ready run refl,
  )

  -- heading cycles between the second and the third
  within_heads :
      (stand : Stand) (card : List ℕ) (next : Option (List ℕ)) (level : ProgramLevel)
      → HeadsKeep chart wiring (Within chart plan wiring stand card next (by_second chart plan level) level)
  within_heads stand card next level heading old new was run = (
    record {
      k = was.k;
      is_level = was.is_level;
      within = was.within;
      holds = heads_hold heading old new was.k next was.holds run;
      stored = keeps_stored chart plan wiring panel (Head heading) old new card was.holds.is_ready run refl was.stored;
      before = was.before;
      totals = was.totals;
      is = λ name field amount. heads_same heading card old new was.holds.is_ready run name field amount ∙ was.is name field amount;
    },
    heads heading old new was.holds.is_ready run,
  )

  -- a group ends with what its total may show
  ends_so :
      (stand : Stand) (card : List ℕ) (next : Option (List ℕ)) → IsDue chart (IsValidCard chart) stand card next
      → (k : ℕ) → suc k ≤ ended_after chart.lines card next → (name : List ℕ) (field : Field) → IsAmount chart.lines name field
      → (amount_of chart.lines plan name).has (suc k) ≡ true
      → IsGroupEnd (amount_of chart.lines plan name) (suc k) (sums_of field (cleared k (taking card stand.so_far)))
  ends_so stand card next due k within name field amount has =
      group_end (amount_of chart.lines plan name) field (taking card stand.so_far) k
      (fits chart plan panel.lawful name field k (taking card stand.so_far (suc k)) amount has (due.fit (suc k) (omega arith) within))
      (λ none. unsigned_total field (taking card stand.so_far (suc k)) (never_negated chart plan name field amount none))

  -- the total of a level that has one, as it is shown
  shows_so :
      (stand : Stand) (card : List ℕ) (next : Option (List ℕ)) → IsDue chart (IsValidCard chart) stand card next
      → (k : ℕ) → suc k ≤ ended_after chart.lines card next → (name : List ℕ) (field : Field) → IsAmount chart.lines name field
      → (state : ℕ → Held)
      → StandsAll (amount_of chart.lines plan name) (sums_of field (cleared k (taking card stand.so_far))) state
      → (amount_of chart.lines plan name).has (suc k) ≡ true
      → ShowsTotal chart plan (suc k) (taking card stand.so_far (suc k)) name field
      (ready (amount_of chart.lines plan name) (suc k) state (suc k))
  shows_so stand card next due k within name field amount state stands has =
      let groups = taking card stand.so_far in
      let end = ends_so stand card next due k within name field amount has in
      let shown = total_shows (amount_of chart.lines plan name) (suc k) (sums_of field (cleared k groups)) state
      (lawful name field amount) has end stands in
      let here : total_of field (cleared k groups (suc k)) ≡ total_of field (groups (suc k)) = not_yet field (groups (suc k)) in
      record {
        figure = shown.number ∙ ap same_size here;
        below = λ less. shown.below_zero (ap same_sign here ∙ less);
        above = λ signed less some. shown.above_zero signed (ap same_sign here ∙ less) (subst (λ n. 1 ≤ unsigned_abs n) (sym here) some);
        fits = fits chart plan panel.lawful name field k (groups (suc k)) amount has (due.fit (suc k) (omega arith) within);
        unsigned = λ none. (unsigned_total field (groups (suc k)) (never_negated chart plan name field amount none));
      }
    where
      not_yet : (f : Field) (group : List (List ℕ)) → total_of f (if nat_le (suc k) k then [] else group) ≡ total_of f group
      not_yet f group =
          let above : nat_le (suc k) k ≡ false = grind (arith, nat_tests) in
          ap (λ (b : Bool). total_of f (if b then [] else group)) above

      same_size : ℤ → ℕ
      same_size n = unsigned_abs n

      same_sign : ℤ → Bool
      same_sign n = is_negative n

  -- what goes up from a level with a total has room
  room_of :
      (stand : Stand) (card : List ℕ) (next : Option (List ℕ)) → IsDue chart (IsValidCard chart) stand card next
      → (k : ℕ) → suc k ≤ ended_after chart.lines card next → (name : List ℕ) (field : Field) → IsAmount chart.lines name field
      → (state : ℕ → Held)
      → StandsAll (amount_of chart.lines plan name) (sums_of field (cleared k (taking card stand.so_far))) state
      → (amount_of chart.lines plan name).has (suc k) ≡ true
      → (ready (amount_of chart.lines plan name) (suc k) state (suc k)).number < 10 ^ (amount_of chart.lines plan name).digits (suc k)
  room_of stand card next due k within name field amount state stands has =
      (total_shows (amount_of chart.lines plan name) (suc k) (sums_of field (cleared k (taking card stand.so_far))) state
      (lawful name field amount) has (ends_so stand card next due k within name field amount has) stands).room.1 has

  -- the third cycle of a level
  third_runs :
      (stand : Stand) (card : List ℕ) (next : Option (List ℕ)) → IsDue chart (IsValidCard chart) stand card next
      → (k : ℕ) (level : ProgramLevel) (old new : MachineState) → level_number level ≡ suc k → suc k ≤ ended_after chart.lines card next
      → Within chart plan wiring stand card next (by_second chart plan level) level old
      → CycleRun wiring (Prog level Third) old new
      → After chart plan wiring stand card next (suc k) new × Totals chart stand card level old new
  third_runs stand card next due k level old new number within was run =
      let groups = taking card stand.so_far in
      let same_k : was.k ≡ k = let its = was.is_level in omega (arith, its, number) in
      let stands : AllStand chart plan (cleared k groups) was.before
      = subst (λ n. AllStand chart plan (cleared n groups) was.before) same_k was.totals in
      let is_held : (name : List ℕ) (field : Field) → IsAmount chart.lines name field
      → held chart plan old name ≡ ready (amount_of chart.lines plan name) (suc k) (was.before name)
      = λ name field amount. was.is name field amount
      ∙ ap (λ n. ready (amount_of chart.lines plan name) n (was.before name)) number in
      let small : (name : List ℕ) (field : Field) → IsAmount chart.lines name field
      → IsSmall (amount_of chart.lines plan name) (Ends (level_number level) Third) (held chart plan old name)
      = λ name field amount. subst (λ n. IsSmall (amount_of chart.lines plan name) (Ends n Third) (held chart plan old name)) (sym number) (
        omega arith,
        λ has. subst (λ (s : ℕ → Held). (s (suc k)).number < 10 ^ (amount_of chart.lines plan name).digits (suc k))
            (sym (is_held name field amount))
            ((room_of stand card next due k within name field amount (was.before name) (stands name field amount) has)),
      ) in (
        record {
          holds = holds_on (Prog level Third) old new was.k (suc k) next was.holds run refl
              (one_more old.indicate (subst (λ n. AreSetTo old.indicate n) same_k was.holds.are_set));
          totals = λ name field amount.
              let after = level_sums (amount_of chart.lines plan name) field groups k (was.before name) (lawful name field amount)
              (ends_so stand card next due k within name field amount) (stands name field amount) in
              let comes : held chart plan new name
              ≡ state_after (amount_of chart.lines plan name) (Ends (suc k) Third)
              (ready (amount_of chart.lines plan name) (suc k) (was.before name))
              = totals_after (Prog level Third) card old new was.holds.is_ready run tt name field amount (small name field amount)
              ∙ ap (λ n. state_after (amount_of chart.lines plan name) (Ends n Third) (held chart plan old name)) number
              ∙ ap (λ s. state_after (amount_of chart.lines plan name) (Ends (suc k) Third) s) (is_held name field amount) in
              subst (λ s. StandsAll (amount_of chart.lines plan name) (sums_of field (cleared (suc k) groups)) s) (sym comes) after;
          stored = keeps_stored chart plan wiring panel (Prog level Third) old new card was.holds.is_ready run refl was.stored;
        },
        record {
          goes = goes_on (Prog level Third) old new was.holds.is_ready run refl;
          line = λ printed.
              total_prints chart plan wiring panel rise literals old new level card stand.so_far was.holds.is_ready run was.stored due.reads due.alike
              (λ name field amount has.
              let P : ℕ → Type 0 = λ n. (amount_of chart.lines plan name).has n ≡ true
              → ShowsTotal chart plan n (groups n) name field (held chart plan old name n) in
              subst P (sym number)
              (λ has_here. subst (λ s. ShowsTotal chart plan (suc k) (groups (suc k)) name field (s (suc k)))
              (sym (is_held name field amount))
              (shows_so stand card next due k within name field amount (was.before name) (stands name field amount) has_here)) has);
        },
      )
    where
      one_more : (l : Latches) → AreSetTo l k → AreSetTo (indicate_ended l (Prog level Third)) (suc k)
      one_more l set =
          let plus : level_number level ≡ k + 1 = omega (arith, number) in
          let same : k + 1 ≡ suc k = omega arith in
          subst (λ n. AreSetTo (indicate_ended l (Prog level Third)) n) same (latches-third l level k set plus)

  -- Between its cycles the machine holds what the chart wants.
  pub machine_goes :
      MachineGoes chart wiring (IsValidCard chart) (Waits chart plan wiring) (After chart plan wiring)
      (λ stand card next level machine. Within chart plan wiring stand card next (by_first chart plan level) level machine)
      (λ stand card next level machine. Within chart plan wiring stand card next (by_second chart plan level) level machine)
  machine_goes = record {
    printing = printing-is chart plan wiring panel;
    form = tape-is chart plan wiring panel;
    starts = λ card new valid run. starts card new valid run;
    cards = λ stand card next due. cards stand card next due;
    levels = λ stand card next due. record {
      first = λ k level old new number within later run. first_runs stand card next k level old new number within later run;
      second = λ level old new was run. second_runs stand card next level old new was run;
      heads = λ level. within_heads stand card next level;
      third = λ k level old new number within was run. third_runs stand card next due k level old new number within was run;
    };
    arrives = λ stand card next machine due later. record { holds = later.holds; totals = later.totals };
  }

pub machines_go : MachinesGoAsChartsWant
machines_go chart plan wiring panel rise literals = machine_goes chart plan wiring panel rise literals
