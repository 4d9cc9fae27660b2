-- A feed, cycle by cycle from its start.
use Rattle.std.proofs.Common.{◌≡◌, ℕ, List, [], ◌∷◌, ◌++◌, Option, None, append_assoc, refl, sym, subst, ap, ◌∙◌}
use Rattle.std.proofs.lemmas.List.{append-nil}
use Rattle.page_text.specs.declared.placed_lines.placed_line.PlacedLine.{PlacedLine}
use Rattle.hubs.specs.SetupsWords.Wiring.{Wiring}
use Rattle.net.specs.Nets.{NetRows, IsNetOf}
use Rattle.net.specs.declared.cycle.Cycle.{Cycle}
use Rattle.machine.specs.Cycles.{line_of}
use Rattle.machine.specs.Feeds.{Fed, FeedStep, FeedRuns, due_in, begun}
use Rattle.machine.specs.Gains.{GainsFeed, GainsPrefix}
use Rattle.machine.specs.Machine.{MachineState}
use Rattle.machine.proofs.OneOutcome.{FeedStep-one}

-- Lines were gained since the start of a feed. Whatever run follows from now on, it is the rest of a run from the start after
-- these lines, and each run from the start is these lines and a run from now on.
pub record Gone (net : NetRows) (start : Fed) (old : List PlacedLine) (now : Fed) (new : List PlacedLine) : Type 0 where
  pub lines : List PlacedLine
  pub gained : new ≡ old ++ lines
  pub whole :
      (wiring : Wiring) → IsNetOf wiring net → (cycles : List Cycle) (left : MachineState) (others : List PlacedLine)
      → FeedRuns wiring cycles now left others → (all : List Cycle) × FeedRuns wiring all start left (lines ++ others)
  pub rest :
      (wiring : Wiring) → IsNetOf wiring net → (cycles : List Cycle) (left : MachineState) (all : List PlacedLine)
      → FeedRuns wiring cycles start left all
      → (after : List Cycle) × (others : List PlacedLine) × FeedRuns wiring after now left others × (all ≡ lines ++ others)

-- at the start nothing is gained
pub Gone-none : (net : NetRows) (start : Fed) (old : List PlacedLine) → Gone net start old start old
Gone-none net start old = record {
  lines = [];
  gained = sym (append-nil old);
  whole = λ wiring is_net cycles left others run. (cycles, run);
  rest = λ wiring is_net cycles left all run. (cycles, all, run, refl);
}

FeedRuns-more : (wiring : Wiring) (cycle : Cycle) (cycles : List Cycle) (old mid : Fed) (left : MachineState) (others : List PlacedLine)
    → FeedStep wiring cycle old mid → FeedRuns wiring cycles mid left others
    → FeedRuns wiring (cycle ∷ cycles) old left (line_of mid.machine ++ others)
unfolding FeedRuns
FeedRuns-more wiring cycle cycles old mid left others step run = (mid, others, step, run, refl)

-- a run that can go on goes on with the step that is due
FeedRuns-after : (wiring : Wiring) (cycle : Cycle) (cycles : List Cycle) (old mid : Fed) (left : MachineState) (all : List PlacedLine)
    → FeedStep wiring cycle old mid → FeedRuns wiring cycles old left all
    → (after : List Cycle) × (others : List PlacedLine) × FeedRuns wiring after mid left others
    × (all ≡ line_of mid.machine ++ others)
unfolding FeedRuns
FeedRuns-after wiring cycle [] old mid left all step (due, is_left, none) = let e = sym due ∙ step.due in cc
FeedRuns-after wiring cycle (also ∷ cycles) old mid left all step (also_mid, others, also_step, run, is) =
    let same = (FeedStep-one wiring old also_mid mid also cycle also_step step).1 in (
      cycles,
      others,
      subst (λ (m : Fed). FeedRuns wiring cycles m left others) same run,
      is ∙ ap (λ (m : Fed). line_of m.machine ++ others) same,
    )

-- one cycle more, with the line that it places
pub Gone-more : (net : NetRows) (start : Fed) (old : List PlacedLine) (now : Fed) (new : List PlacedLine) (cycle : Cycle) (mid : Fed)
    (also later : List PlacedLine)
    → Gone net start old now new → ((wiring : Wiring) → IsNetOf wiring net → FeedStep wiring cycle now mid)
    → also ≡ line_of mid.machine → later ≡ new ++ also → Gone net start old mid later
Gone-more net start old now new cycle mid also later gone step placed is = record {
  lines = gone.lines ++ also;
  gained =
      is ∙ ap (λ (l : List PlacedLine). l ++ also) gone.gained ∙ append_assoc old gone.lines also;
  whole = λ wiring is_net cycles left others run.
      let longer = gone.whole wiring is_net (cycle ∷ cycles) left (line_of mid.machine ++ others)
      (FeedRuns-more wiring cycle cycles now mid left others (step wiring is_net) run) in (
        longer.0,
        subst (λ (all : List PlacedLine). FeedRuns wiring longer.0 start left all)
            (ap (λ (own : List PlacedLine). gone.lines ++ (own ++ others)) (sym placed)
            ∙ sym (append_assoc gone.lines also others))
            longer.1,
      );
  rest = λ wiring is_net cycles left all run.
      let before = gone.rest wiring is_net cycles left all run in
      let after = FeedRuns-after wiring cycle before.0 now mid left before.1 (step wiring is_net) before.2 in (
        after.0,
        after.1,
        after.2,
        before.3 ∙ ap (λ (o : List PlacedLine). gone.lines ++ o) after.3
            ∙ ap (λ (own : List PlacedLine). gone.lines ++ (own ++ after.1)) (sym placed)
            ∙ sym (append_assoc gone.lines also after.1),
      );
}

FeedRuns-none : (wiring : Wiring) (fed : Fed) → due_in fed ≡ None → FeedRuns wiring [] fed fed.machine []
unfolding FeedRuns
FeedRuns-none wiring fed due = (due, refl, refl)

-- where no cycle is due, the lines are those of the feed
pub Gone-all : (net : NetRows) (machine : MachineState) (next : Option (List ℕ)) (old : List PlacedLine) (now : Fed)
    (new : List PlacedLine)
    → Gone net (begun machine next) old now new → due_in now ≡ None → GainsFeed net machine next now.machine old new
Gone-all net machine next old now new gone due = record {
  lines = gone.lines;
  gained = gone.gained;
  feeds = λ wiring is_net.
      let run = gone.whole wiring is_net [] now.machine [] (FeedRuns-none wiring now due) in
      record {
        cycles = run.0;
        runs = subst (λ (all : List PlacedLine). FeedRuns wiring run.0 (begun machine next) now.machine all)
            (append-nil gone.lines) run.1;
      };
}

-- the lines so far are a prefix of those of the feed
pub Gone-prefix : (net : NetRows) (machine : MachineState) (next : Option (List ℕ)) (old : List PlacedLine) (now : Fed)
    (new : List PlacedLine)
    → Gone net (begun machine next) old now new → GainsPrefix net machine next old new
Gone-prefix net machine next old now new gone = record {
  first = gone.lines;
  gained = gone.gained;
  due = λ wiring is_net left lines feed.
      let rest = gone.rest wiring is_net feed.cycles left lines feed.runs in
      (rest.1, rest.3);
}
