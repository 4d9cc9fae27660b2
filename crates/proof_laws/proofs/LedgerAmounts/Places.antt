-- Where a run of a machine that is wired for a chart stands between two cycles, and what the ledger of a total lists there.
use Rattle.std.proofs.Common.{◌≡◌, ◌∙◌, refl, sym, ap, subst, ℕ, suc, ◌+◌, ◌≤◌, ◌==◌, ◌&&◌, nat_lt, Bool, true, false, List, [], ◌∷◌, ◌++◌, Option, Some, None, is_some, length, arith}
use Rattle.std.proofs.lemmas.Bool.Decides.{nat_tests}
use Rattle.std.proofs.lemmas.List.{length-append}
use Rattle.report_definition.specs.FollowedDecks.Stands.{Stand, stand_after}
use Rattle.explain_ledgers.specs.LedgersWords.Ledgers.{Along}
use Rattle.explain_ledgers.specs.declared.ledgers.entry.Entry.{Entry}
use Rattle.explain_ledgers.specs.declared.ledgers.entry.Change.TheVariants.{Turned}
use Rattle.machine.specs.Machine.{MachineState, machine_at_start}
use Rattle.machine.specs.Runs.{cycle_due, moved_on}
use Rattle.net.specs.Cycles.{level_number}
use Rattle.net.specs.declared.cycle.Cycle.TheVariants.{Prog}
use Rattle.net.specs.declared.cycle.Ordinal.TheVariants.{First, Second}
use Rattle.net.specs.declared.cycle.ProgramLevel.{ProgramLevel}
use Rattle.proof_reports.proofs.WiredPanels.CycleAsks.LinePlaces.DueCycles.{stage_after}
use Rattle.proof_reports.specs.PrintedReports.Content.{AllStand, After, Waits, Within, by_first, by_second, held}
use Rattle.proof_reports.proofs.PrintedReports.Facts.{ShowsTotal}
use Rattle.proof_cycles.specs.TotalsWords.Laws.{ready as readied}
use Rattle.proof_cycles.specs.TotalsWords.CounterCycles.Acts.{Held}
use Rattle.proof_laws.proofs.LedgerAmounts.Shown.{shows-total}
use Rattle.program_unit.specs.CycleOrder.{card_over, has_level_left, is_over_at, levels_to, next_cycle, cycle_after, top_level}
use Rattle.program_unit.specs.declared.stage.Stage.TheVariants.{RanProg}
use Rattle.report_definition.specs.Breaks.{cleared, ended_after, taking}
use Rattle.proof_reports.specs.PrintedReports.Goes.{MachineGoes}
use Rattle.proof_reports.proofs.PrintedReports.Instance.{machines_go}
use Rattle.chart_rules.specs.ValidCard.{IsValidCard}
use Rattle.proof_laws.proofs.LedgerAmounts.Decks.{AtCard, at-next, card-due, next_of, rest_of}
use Rattle.proof_laws.proofs.LedgerAmounts.Due.{awaits, card-waits, none-due}
use Rattle.proof_laws.proofs.LedgerAmounts.Served.{Listed, Served, amount, under}

-- what the machine does cycle by cycle
abbrev pub Going : Served → Type 0
Going total =
    MachineGoes total.chart total.wiring (IsValidCard total.chart) (Waits total.chart total.plan total.wiring)
    (After total.chart total.plan total.wiring)
    (λ stand card next level machine. Within total.chart total.plan total.wiring stand card next (by_first total.chart total.plan level) level machine)
    (λ stand card next level machine. Within total.chart total.plan total.wiring stand card next (by_second total.chart total.plan level) level machine)

pub going : (total : Served) → Going total
going total = machines_go total.chart total.plan total.wiring total.panel total.rise total.literals

-- A card waits.
pub record IsWaiting (total : Served) (deck : List (List ℕ)) (along : Along) (entries : List Entry) : Type 0 where
  pub stand : Stand
  pub card : List ℕ
  pub cards : List (List ℕ)
  pub seen : List (List ℕ)
  pub at : AtCard total.chart deck stand card cards seen
  pub content : Waits total.chart total.plan total.wiring stand card along.run.machine
  pub first : along.run.machine.stations.first ≡ Some card
  pub hopper : along.run.hopper ≡ cards
  pub over : card_over along.run.machine.program true ≡ true
  pub counted : along.card ≡ length seen
  pub listed : Listed total (stand.so_far total.level) (stand.so_far (under total)) seen entries

-- The card cycle of a card is over, and the run is among the cycles of its levels.
pub record OfCard (total : Served) (deck : List (List ℕ)) (stand : Stand) (card : List ℕ) (cards seen : List (List ℕ)) (along : Along) :
    Type 0 where
  pub at : AtCard total.chart deck stand card cards seen
  pub levels : levels_to (top_level along.run.machine.program (is_some (next_of cards))) ≡ ended_after total.chart.lines card (next_of cards)
  pub first : along.run.machine.stations.first ≡ next_of cards
  pub hopper : along.run.hopper ≡ rest_of cards
  pub counted : along.card ≡ length seen + 1

-- what the ledger lists when so many levels have ended after a card
abbrev pub ListedAfter : Served → (k : ℕ) → Stand → (card : List ℕ) → (seen : List (List ℕ)) → List Entry → Type 0
ListedAfter total k stand card seen entries =
    Listed total (cleared k (taking card stand.so_far) total.level) (cleared k (taking card stand.so_far) (under total)) (seen ++ (card ∷ [])) entries

-- So many levels have run after a card, and one is left.
pub record IsAfter (total : Served) (deck : List (List ℕ)) (along : Along) (entries : List Entry) : Type 0 where
  pub stand : Stand
  pub card : List ℕ
  pub cards : List (List ℕ)
  pub seen : List (List ℕ)
  pub of : OfCard total deck stand card cards seen along
  pub k : ℕ
  pub done : Option ProgramLevel
  pub is_done : levels_to done ≡ k
  pub within : suc k ≤ ended_after total.chart.lines card (next_of cards)
  pub content : After total.chart total.plan total.wiring stand card (next_of cards) k along.run.machine
  pub stage : along.run.machine.program.stage ≡ stage_after done
  pub listed : ListedAfter total k stand card seen entries

-- The first cycle of a level has run.
pub record IsTested (total : Served) (deck : List (List ℕ)) (along : Along) (entries : List Entry) : Type 0 where
  pub stand : Stand
  pub card : List ℕ
  pub cards : List (List ℕ)
  pub seen : List (List ℕ)
  pub of : OfCard total deck stand card cards seen along
  pub k : ℕ
  pub level : ProgramLevel
  pub number : level_number level ≡ suc k
  pub within : suc k ≤ ended_after total.chart.lines card (next_of cards)
  pub content : Within total.chart total.plan total.wiring stand card (next_of cards) (by_first total.chart total.plan level) level
      along.run.machine
  pub stage : along.run.machine.program.stage ≡ RanProg level First
  pub listed : ListedAfter total k stand card seen entries

-- whether the total turns in the second cycle of a level
abbrev pub is_turning : Served → ProgramLevel → MachineState → Bool
is_turning total level machine =
    (amount total).is_signed
    && ((level_number level == total.level) && (held total.chart total.plan machine total.name total.level).latch)

-- what stands behind the amounts: nothing, or that the number was turned
pub data Behind (level : ProgramLevel) (card : ℕ) (turning : Bool) : List Entry → Type 0 where
  unturned : turning ≡ false → Behind level card turning []
  was_turned : turning ≡ true → (entry : Entry) → entry.cycle ≡ Prog level Second → entry.card ≡ card → entry.change ≡ Turned
      → Behind level card turning (entry ∷ [])

-- The second cycle of a level has run: its total waits.
pub record IsTurned (total : Served) (deck : List (List ℕ)) (along : Along) (entries : List Entry) : Type 0 where
  pub stand : Stand
  pub card : List ℕ
  pub cards : List (List ℕ)
  pub seen : List (List ℕ)
  pub of : OfCard total deck stand card cards seen along
  pub k : ℕ
  pub level : ProgramLevel
  pub number : level_number level ≡ suc k
  pub within : suc k ≤ ended_after total.chart.lines card (next_of cards)
  pub content : Within total.chart total.plan total.wiring stand card (next_of cards) (by_second total.chart total.plan level) level
      along.run.machine
  pub stage : awaits along.run.machine.program.stage ≡ Some level
  pub added : List Entry
  pub turned : List Entry
  pub whole : entries ≡ added ++ turned
  pub listed : ListedAfter total k stand card seen added
  pub behind : Behind level along.card (is_turning total level along.run.machine) turned

-- The run is before its first cycle.
pub record IsBefore (total : Served) (deck : List (List ℕ)) (along : Along) (entries : List Entry) : Type 0 where
  pub card : List ℕ
  pub cards : List (List ℕ)
  pub whole : deck ≡ card ∷ cards
  pub machine : along.run.machine ≡ moved_on (Some card) (machine_at_start total.wiring)
  pub hopper : along.run.hopper ≡ cards
  pub counted : along.card ≡ 0
  pub none : entries ≡ []

-- Where a run stands.
pub data Place (total : Served) (deck : List (List ℕ)) (along : Along) (entries : List Entry) : Type 0 where
  is_before : IsBefore total deck along entries → Place total deck along entries
  is_waiting : IsWaiting total deck along entries → Place total deck along entries
  is_after : IsAfter total deck along entries → Place total deck along entries
  is_tested : IsTested total deck along entries → Place total deck along entries
  is_turned : IsTurned total deck along entries → Place total deck along entries
  is_over : cycle_due along.run.machine ≡ None → Place total deck along entries

-- Levels have run after a card: another one is left, or the next card waits, or the run is over.
module _ (total : Served) (deck : List (List ℕ)) (along : Along) (entries : List Entry) (stand : Stand) (card : List ℕ) (seen : List (List ℕ))
    (k : ℕ) (done : Option ProgramLevel) (is_done : levels_to done ≡ k) (stage : along.run.machine.program.stage ≡ stage_after done)
    (listed : ListedAfter total k stand card seen entries) where
  -- none is left
  ended : (cards : List (List ℕ)) → (of : OfCard total deck stand card cards seen along)
      → After total.chart total.plan total.wiring stand card (next_of cards) k along.run.machine
      → k ≡ ended_after total.chart.lines card (next_of cards) → Place total deck along entries
  ended [] of content all =
      let none : has_level_left along.run.machine.program done false ≡ false
      = (let levels = of.levels in grind (arith, nat_tests, is_done, all, levels)) in
      is_over
      (ap (λ (f : Option (List ℕ)). next_cycle along.run.machine.program along.run.machine.carriage.spot.latch (is_some f)) of.first
      ∙ ap (λ s. cycle_after along.run.machine.program s along.run.machine.carriage.spot.latch false) stage
      ∙ none-due along.run.machine.program done along.run.machine.carriage.spot.latch none)
  ended (other ∷ cards) of content all =
      let none : has_level_left along.run.machine.program done true ≡ false
      = (let levels = of.levels in grind (arith, nat_tests, is_done, all, levels)) in
      is_waiting (record {
        stand = stand_after total.chart.lines stand card (Some other);
        card = other;
        cards = cards;
        seen = seen ++ (card ∷ []);
        at = at-next total.chart deck stand card other cards seen of.at;
        content = (going total).arrives stand card other along.run.machine (card-due total.chart deck stand card (other ∷ cards) seen of.at)
            (subst (λ n. After total.chart total.plan total.wiring stand card (Some other) n along.run.machine) all content);
        first = of.first;
        hopper = of.hopper;
        over = ap (λ s. is_over_at along.run.machine.program s true) stage ∙ card-waits along.run.machine.program done none;
        counted = of.counted ∙ sym (length-append seen (card ∷ []));
        listed = subst (λ n. Listed total (cleared n (taking card stand.so_far) total.level) (cleared n (taking card stand.so_far) (under total))
            (seen ++ (card ∷ [])) entries) all listed;
      })

  pub settled : (cards : List (List ℕ)) → (of : OfCard total deck stand card cards seen along)
      → After total.chart total.plan total.wiring stand card (next_of cards) k along.run.machine
      → k ≤ ended_after total.chart.lines card (next_of cards) → Place total deck along entries
  settled cards of content few = by (nat_lt k (ended_after total.chart.lines card (next_of cards))) refl
    where
      by : (b : Bool) → nat_lt k (ended_after total.chart.lines card (next_of cards)) ≡ b → Place total deck along entries
      by true less = is_after (record {
        stand = stand;
        card = card;
        cards = cards;
        seen = seen;
        of = of;
        k = k;
        done = done;
        is_done = is_done;
        within = grind (arith, nat_tests, less);
        content = content;
        stage = stage;
        listed = listed;
      })
      by false all = ended cards of content (grind (arith, nat_tests, all, few))

module _ (total : Served) (deck : List (List ℕ)) (along : Along) (entries : List Entry) where
  -- what the total of the level holds that runs, by the report
  pub turned-shows : (was : IsTurned total deck along entries) → (amount total).has (suc was.k) ≡ true
      → ShowsTotal total.chart total.plan (suc was.k) (taking was.card was.stand.so_far (suc was.k)) total.name total.field
      (held total.chart total.plan along.run.machine total.name (suc was.k))
  turned-shows was has =
      let within = was.content in
      let is_level = within.is_level in
      let number = was.number in
      let same_k : within.k ≡ was.k = omega (arith, is_level, number) in
      let stands = subst (λ n. AllStand total.chart total.plan (cleared n (taking was.card was.stand.so_far)) within.before) same_k within.totals in
      let holds : held total.chart total.plan along.run.machine total.name ≡ readied (amount total) (suc was.k) (within.before total.name)
      = within.is total.name total.field total.is_amount
      ∙ ap (λ n. readied (amount total) n (within.before total.name)) was.number in
      subst (λ (s : ℕ → Held). ShowsTotal total.chart total.plan (suc was.k) (taking was.card was.stand.so_far (suc was.k)) total.name total.field
      (s (suc was.k))) (sym holds)
      (shows-total total.chart total.plan total.wiring total.panel total.rise was.stand was.card (next_of was.cards)
      (card-due total.chart deck was.stand was.card was.cards was.seen was.of.at) was.k was.within total.name total.field total.is_amount
      (within.before total.name) (stands total.name total.field total.is_amount) has)
