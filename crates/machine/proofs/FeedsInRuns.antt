-- Feeds that follow one another make up a run.
use Rattle.std.proofs.Common.{◌≡◌, ℕ, Bool, true, false, not, ◌||◌, List, [], ◌∷◌, ◌++◌, Option, Some, None, is_some, if◌then◌else◌, append_assoc, refl, sym, ap, ◌∙◌, subst}
use Rattle.std.proofs.lemmas.List.{append-nil}
use Rattle.page_text.specs.declared.placed_lines.placed_line.PlacedLine.{PlacedLine}
use Rattle.hubs.specs.SetupsWords.Wiring.{Wiring}
use Rattle.net.specs.declared.cycle.Cycle.{Cycle}
use Rattle.net.specs.declared.cycle.Cycle.TheVariants.{RunIn, Card, Prog, Head}
use Rattle.program_unit.specs.CycleOrder.{card_over, cycle_after, is_fresh, is_over_at}
use Rattle.program_unit.specs.Program.{ProgramState}
use Rattle.program_unit.specs.declared.stage.Stage.{Stage}
use Rattle.program_unit.specs.declared.stage.Stage.TheVariants.{Fresh, RanIn, RanCard, RanProg, BeforeCard, BeforeTotal}
use Rattle.machine.specs.Cycles.{CycleRun, line_of}
use Rattle.machine.specs.Ends.{EndsCycle}
use Rattle.machine.specs.Feeds.{Fed, FeedRuns, FeedStep, LinesFrom, begun, due_in, is_over, taken}
use Rattle.machine.specs.Machine.{MachineState, machine_at_start}
use Rattle.machine.specs.Runs.{InRun, MachineLines, RunsBy, cards_moved, cycle_due, has_more, made_ready, moved_on, run_at_start}
use Rattle.machine.proofs.CardCycles.{awaits_card, card-over, with-card}
use Rattle.machine.proofs.FeedSteps.{due_in-going}
use Rattle.machine.proofs.FewCycles.{IsSupplied, goes-without, other-supplied}
use Rattle.machine.proofs.Keeps.{CycleRun-ends}

-- what is fed lies before the cards after it as long as it waits
abbrev waiting : Bool → Option (List ℕ) → List (List ℕ) → List (List ℕ)
waiting true None waiting_cards = waiting_cards
waiting true (Some card) waiting_cards = card ∷ waiting_cards
waiting false next waiting_cards = waiting_cards

-- a machine in a feed as one in a run, with the cards that are fed later
abbrev as_run : Fed → List (List ℕ) → InRun
as_run fed waiting_cards = record { machine = fed.machine; hopper = waiting fed.waits fed.next waiting_cards }

-- a card cycle takes what waits
card-taken : (machine : MachineState) (next : Option (List ℕ)) (waiting_cards : List (List ℕ)) → (next ≡ None → waiting_cards ≡ [])
    → cards_moved machine (waiting true next waiting_cards) ≡ record { machine = moved_on next machine; hopper = waiting_cards }
card-taken machine (Some card) waiting_cards none = refl
card-taken machine None [] none = refl
card-taken machine None (card ∷ waiting_cards) none = let e = none refl in cc

ready-taken : (cycle : Cycle) (fed : Fed) (waiting_cards : List (List ℕ)) → (fed.next ≡ None → waiting_cards ≡ [])
    → (cycle ≡ Card → fed.waits ≡ true) → made_ready cycle (as_run fed waiting_cards) ≡ as_run (taken cycle fed) waiting_cards
ready-taken RunIn fed waiting_cards none waits = refl
ready-taken Card fed waiting_cards none waits =
    ap (λ (w : Bool). cards_moved fed.machine (waiting w fed.next waiting_cards)) (waits refl)
    ∙ card-taken fed.machine fed.next waiting_cards none
ready-taken (Prog level ordinal) fed waiting_cards none waits = refl
ready-taken (Head heading) fed waiting_cards none waits = refl

taken-next : (cycle : Cycle) (fed : Fed) → (taken cycle fed).next ≡ fed.next
taken-next RunIn fed = refl
taken-next Card fed = refl
taken-next (Prog level ordinal) fed = refl
taken-next (Head heading) fed = refl

-- what is due as a card cycle in a feed takes what waits
card-waits : (fed : Fed) (cycle : Cycle) → due_in fed ≡ Some cycle → cycle ≡ Card → fed.waits ≡ true
card-waits fed cycle due is =
    let goes = due_in-going fed cycle due in
    or_true fed.waits (is_over fed.machine) goes.going
    (card-over fed.machine.program fed.machine.program.stage fed.machine.carriage.spot.latch (has_more fed.machine)
    (goes.due ∙ ap Some is))
  where
    or_true : (a b : Bool) → (a || not b) ≡ true → b ≡ true → a ≡ true
    or_true true b going over = refl
    or_true false true going over = cc
    or_true false false going over = cc

-- Cycles of a feed are cycles of a run, and what follows the feed follows them. Inside is what holds all through the feed.
module _ (wiring : Wiring) (Inside : Fed → Type 0)
    (stays : (cycle : Cycle) (old new : Fed) → FeedStep wiring cycle old new → Inside old → Inside new)
    (waiting_cards : List (List ℕ)) (last : (fed : Fed) → Inside fed → fed.next ≡ None → waiting_cards ≡ [])
    (left : MachineState) (others : List PlacedLine)
    (ends : (end : Fed) → Inside end → due_in end ≡ None → end.machine ≡ left
    → (rest : List Cycle) × RunsBy (CycleRun wiring) rest (as_run end waiting_cards) others)
  where
    feed-in-run : (cycles : List Cycle) (fed : Fed) (lines : List PlacedLine) → Inside fed → FeedRuns wiring cycles fed left lines
        → (all : List Cycle) × RunsBy (CycleRun wiring) all (as_run fed waiting_cards) (lines ++ others)
    unfolding FeedRuns RunsBy
    feed-in-run [] fed lines inside (due, is_left, none) =
        let rest = ends fed inside due (sym is_left) in (
          rest.0,
          subst (λ (l : List PlacedLine). RunsBy (CycleRun wiring) rest.0 (as_run fed waiting_cards) (l ++ others)) (sym none) rest.1,
        )
    feed-in-run (cycle ∷ cycles) fed lines inside (mid, more, step, run, is) =
        let ready = ready-taken cycle fed waiting_cards (last fed inside) (card-waits fed cycle step.due) in
        let after = feed-in-run cycles mid more (stays cycle fed mid step inside) run in
        let hopper : waiting mid.waits mid.next waiting_cards ≡ (made_ready cycle (as_run fed waiting_cards)).hopper =
        ap (λ (w : Bool). waiting w mid.next waiting_cards) step.waits
        ∙ ap (λ (n : Option (List ℕ)). waiting (taken cycle fed).waits n waiting_cards) (step.next ∙ sym (taken-next cycle fed))
        ∙ ap (λ (r : InRun). r.hopper) (sym ready) in (
          cycle ∷ after.0,
          (
            mid.machine,
            more ++ others,
            (due_in-going fed cycle step.due).due,
            subst (λ (r : InRun). CycleRun wiring cycle r.machine mid.machine) (sym ready) step.ran,
            subst
                (λ (h : List (List ℕ)).
                RunsBy (CycleRun wiring) after.0 (record { machine = mid.machine; hopper = h }) (more ++ others))
                hopper after.1,
            ap (λ (l : List PlacedLine). l ++ others) is ∙ append_assoc (line_of mid.machine) more others,
          ),
        )

stations-more : (cycle : Cycle) (old new : MachineState) → EndsCycle cycle old new → has_more new ≡ has_more old
stations-more cycle old new ends = ap (λ s. is_some s.first) ends.stations

or_false : (a b : Bool) → (a || not b) ≡ false → (a ≡ false) × (b ≡ true)
or_false true b is = cc
or_false false true is = (refl, refl)
or_false false false is = cc

-- Where a card is fed, one stands at first reading all through the feed. The feed ends once its card was taken.
record HasCard (card : List ℕ) (fed : Fed) : Type 0 where
  next : fed.next ≡ Some card
  more : has_more fed.machine ≡ true

taken-more : (card : List ℕ) (cycle : Cycle) (fed : Fed) → HasCard card fed → has_more (taken cycle fed).machine ≡ true
taken-more card RunIn fed has = has.more
taken-more card Card fed has = ap is_some has.next
taken-more card (Prog level ordinal) fed has = has.more
taken-more card (Head heading) fed has = has.more

card-stays : (wiring : Wiring) (card : List ℕ) (cycle : Cycle) (old new : Fed)
    → FeedStep wiring cycle old new → HasCard card old → HasCard card new
card-stays wiring card cycle old new step has = record {
  next = step.next ∙ has.next;
  more =
      stations-more cycle (taken cycle old).machine new.machine
      (CycleRun-ends wiring cycle (taken cycle old).machine new.machine step.ran).order
      ∙ taken-more card cycle old has;
}

begun_over : (program : ProgramState) (stage : Stage) → is_over_at program stage true ≡ true → is_fresh stage ≡ false
begun_over program Fresh over = cc
begun_over program RanIn over = refl
begun_over program RanCard over = refl
begun_over program (RanProg level ordinal) over = refl
begun_over program (BeforeCard heading) over = refl
begun_over program (BeforeTotal level heading) over = refl

card-ends : (card : List ℕ) (fed : Fed) → HasCard card fed → due_in fed ≡ None
    → (fed.waits ≡ false) × (is_fresh fed.machine.program.stage ≡ false)
card-ends card fed has = by (fed.waits || not (is_over fed.machine)) refl
  where
    by : (going : Bool) → (fed.waits || not (is_over fed.machine)) ≡ going
        → (if going then cycle_due fed.machine else None) ≡ None
        → (fed.waits ≡ false) × (is_fresh fed.machine.program.stage ≡ false)
    by true is due =
        absurd
        (with-card fed.machine.program fed.machine.program.stage fed.machine.carriage.spot.latch
        (ap (λ (more : Bool). cycle_after fed.machine.program fed.machine.program.stage fed.machine.carriage.spot.latch more)
        (sym has.more) ∙ due))
    by false is due =
        let over = or_false fed.waits (is_over fed.machine) is in (
          over.0,
          begun_over fed.machine.program fed.machine.program.stage
              (ap (λ (more : Bool). card_over fed.machine.program more) (sym has.more) ∙ over.1),
        )

-- the feed of a card, and a run over the cards after it
card-in-run : (wiring : Wiring) (card : List ℕ) (waiting_cards : List (List ℕ)) (cycles : List Cycle) (fed : Fed) (new : MachineState)
    (lines others : List PlacedLine)
    → HasCard card fed → FeedRuns wiring cycles fed new lines
    → (is_fresh new.program.stage ≡ false → has_more new ≡ true
    → (rest : List Cycle) × RunsBy (CycleRun wiring) rest (record { machine = new; hopper = waiting_cards }) others)
    → (all : List Cycle) × RunsBy (CycleRun wiring) all (as_run fed waiting_cards) (lines ++ others)
card-in-run wiring card waiting_cards cycles fed new lines others has runs goes_on =
    feed-in-run wiring (HasCard card) (card-stays wiring card) waiting_cards (λ f is none. let e = sym none ∙ is.next in cc) new others ends
    cycles fed lines has runs
  where
    ends : (end : Fed) → HasCard card end → due_in end ≡ None → end.machine ≡ new
        → (rest : List Cycle) × RunsBy (CycleRun wiring) rest (as_run end waiting_cards) others
    ends end has_card due same =
        let over = card-ends card end has_card due in
        let rest = goes_on (ap (λ (m : MachineState). is_fresh m.program.stage) (sym same) ∙ over.1)
        (ap has_more (sym same) ∙ has_card.more) in (
          rest.0,
          subst
              (λ (r : InRun). RunsBy (CycleRun wiring) rest.0 r others)
              (same_run new end.machine end.waits (sym same) (sym over.0) end.next)
              rest.1,
        )
      where
        same_run : (m n : MachineState) (w : Bool) → m ≡ n → false ≡ w → (next : Option (List ℕ))
            → ◌≡◌ {A = InRun} (record { machine = m; hopper = waiting_cards })
            (record { machine = n; hopper = waiting w next waiting_cards })
        same_run m n w machines waits next = λ i. record { machine = machines i; hopper = waiting (waits i) next waiting_cards }

-- Where the end is fed, no card stands at first reading once the end was taken.
record HasEnd (fed : Fed) : Type 0 where
  next : fed.next ≡ None
  none : fed.waits ≡ false → has_more fed.machine ≡ false
  supplied : IsSupplied fed.machine

end-stays : (wiring : Wiring) (cycle : Cycle) (old new : Fed) → FeedStep wiring cycle old new → HasEnd old → HasEnd new
end-stays wiring RunIn old new step has =
    let ends = (CycleRun-ends wiring RunIn old.machine new.machine step.ran).order in
    record {
      next = step.next ∙ has.next;
      none = λ waits. stations-more RunIn old.machine new.machine ends ∙ has.none (sym step.waits ∙ waits);
      supplied = other-supplied RunIn old.machine new.machine has.supplied (due_in-going old RunIn step.due).due ends;
    }
end-stays wiring Card old new step has =
    let ends = (CycleRun-ends wiring Card (moved_on old.next old.machine) new.machine step.ran).order in
    record {
      next = step.next ∙ has.next;
      none = λ waits. stations-more Card (moved_on old.next old.machine) new.machine ends ∙ ap is_some has.next;
      supplied = λ none. ap awaits_card ends.stage;
    }
end-stays wiring (Prog level ordinal) old new step has =
    let ends = (CycleRun-ends wiring (Prog level ordinal) old.machine new.machine step.ran).order in
    record {
      next = step.next ∙ has.next;
      none = λ waits. stations-more (Prog level ordinal) old.machine new.machine ends ∙ has.none (sym step.waits ∙ waits);
      supplied = other-supplied (Prog level ordinal) old.machine new.machine has.supplied
          (due_in-going old (Prog level ordinal) step.due).due ends;
    }
end-stays wiring (Head heading) old new step has =
    let ends = (CycleRun-ends wiring (Head heading) old.machine new.machine step.ran).order in
    record {
      next = step.next ∙ has.next;
      none = λ waits. stations-more (Head heading) old.machine new.machine ends ∙ has.none (sym step.waits ∙ waits);
      supplied = other-supplied (Head heading) old.machine new.machine has.supplied
          (due_in-going old (Head heading) step.due).due ends;
    }

-- where no cycle is due in the feed of the end, none is due at all
end-ends : (fed : Fed) → HasEnd fed → due_in fed ≡ None → cycle_due fed.machine ≡ None
end-ends fed has = by (fed.waits || not (is_over fed.machine)) refl
  where
    by : (going : Bool) → (fed.waits || not (is_over fed.machine)) ≡ going
        → (if going then cycle_due fed.machine else None) ≡ None → cycle_due fed.machine ≡ None
    by true is due = due
    by false is due = none (cycle_due fed.machine) refl
      where
        over : (fed.waits ≡ false) × (is_over fed.machine ≡ true)
        over = or_false fed.waits (is_over fed.machine) is

        no_more : has_more fed.machine ≡ false
        no_more = has.none over.0

        none : (due_now : Option Cycle) → cycle_due fed.machine ≡ due_now → due_now ≡ None
        none None same = refl
        none (Some cycle) same =
            let goes = goes-without fed.machine cycle has.supplied same no_more in
            let e : true ≡ false
            = sym over.1 ∙ ap (λ (more : Bool). card_over fed.machine.program more) no_more ∙ goes.going in cc

-- the feed of the end
end-in-run : (wiring : Wiring) (cycles : List Cycle) (fed : Fed) (new : MachineState) (lines : List PlacedLine)
    → HasEnd fed → FeedRuns wiring cycles fed new lines
    → (all : List Cycle) × RunsBy (CycleRun wiring) all (as_run fed []) lines
unfolding RunsBy
end-in-run wiring cycles fed new lines has runs =
    let all = feed-in-run wiring HasEnd (end-stays wiring) [] (λ f is none. refl) new [] ends cycles fed lines has runs in
    (all.0, subst (λ (l : List PlacedLine). RunsBy (CycleRun wiring) all.0 (as_run fed []) l) (append-nil lines) all.1)
  where
    ends : (end : Fed) → HasEnd end → due_in end ≡ None → end.machine ≡ new
        → (rest : List Cycle) × RunsBy (CycleRun wiring) rest (as_run end []) []
    ends end is due same = ([], (end-ends end is due, refl))

-- the start of a feed after the first one
begun-later : (machine : MachineState) (next : Option (List ℕ)) → is_fresh machine.program.stage ≡ false
    → begun machine next ≡ record { machine = machine; waits = true; next = next }
begun-later machine next fresh = by (is_fresh machine.program.stage) fresh
  where
    later : Fed
    later = record { machine = machine; waits = true; next = next }

    first : Fed
    first = record { machine = moved_on next machine; waits = false; next = next }

    by : (is : Bool) → is ≡ false → (if is then first else later) ≡ later
    by true is = cc
    by false is = refl

-- the feeds after the first one
later-in-run : (wiring : Wiring) (old : MachineState) (cards : List (List ℕ)) (lines : List PlacedLine)
    → is_fresh old.program.stage ≡ false → has_more old ≡ true → LinesFrom wiring old cards lines
    → (all : List Cycle) × RunsBy (CycleRun wiring) all (record { machine = old; hopper = cards }) lines
unfolding LinesFrom
later-in-run wiring old [] lines fresh more (new, feed) =
    end-in-run wiring feed.cycles (record { machine = old; waits = true; next = None }) new lines
    (record { next = refl; none = λ waits. cc; supplied = λ none. let e = sym more ∙ none in cc })
    (subst (λ (f : Fed). FeedRuns wiring feed.cycles f new lines) (begun-later old None fresh) feed.runs)
later-in-run wiring old (card ∷ cards) lines fresh more (new, first, others, feed, run, is) =
    let all =
    card-in-run wiring card cards feed.cycles (record { machine = old; waits = true; next = Some card }) new first others
    (record { next = refl; more = more })
    (subst (λ (f : Fed). FeedRuns wiring feed.cycles f new first) (begun-later old (Some card) fresh) feed.runs)
    (λ begun_now more_now. later-in-run wiring new cards others begun_now more_now run) in (
      all.0,
      subst
          (λ (l : List PlacedLine). RunsBy (CycleRun wiring) all.0 (record { machine = old; hopper = card ∷ cards }) l)
          (sym is) all.1,
    )

-- the feeds of a deck make up a run
pub feeds-in-run : (wiring : Wiring) (cards : List (List ℕ)) (lines : List PlacedLine)
    → LinesFrom wiring (machine_at_start wiring) cards lines → MachineLines wiring cards lines
unfolding LinesFrom
feeds-in-run wiring [] lines (new, feed) =
    end-in-run wiring feed.cycles (begun (machine_at_start wiring) None) new lines
    (record { next = refl; none = λ waits. refl; supplied = λ none. refl }) feed.runs
feeds-in-run wiring (card ∷ cards) lines (new, first, others, feed, run, is) =
    let all =
    card-in-run wiring card cards feed.cycles (begun (machine_at_start wiring) (Some card)) new first others
    (record { next = refl; more = refl }) feed.runs
    (λ begun_now more_now. later-in-run wiring new cards others begun_now more_now run) in (
      all.0,
      subst (λ (l : List PlacedLine). RunsBy (CycleRun wiring) all.0 (run_at_start wiring (card ∷ cards)) l) (sym is) all.1,
    )
