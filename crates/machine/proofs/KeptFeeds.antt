-- Feeds up to a cycle that is kept.
use Rattle.std.proofs.Common.{◌≡◌, subst, refl, ℕ, List, [], ◌++◌, Option, None}
use Rattle.std.specs.Prelude.{All}
use Rattle.std.proofs.lemmas.List.Elements.{All-append, All-nil}
use Rattle.page_text.specs.declared.placed_lines.placed_line.PlacedLine.{PlacedLine}
use Rattle.hubs.specs.SetupsWords.Wiring.{Wiring}
use Rattle.net.specs.Nets.{NetRows, IsNetOf}
use Rattle.net.specs.declared.cycle.Cycle.{Cycle}
use Rattle.machine.specs.Cycles.{line_of}
use Rattle.machine.specs.Feeds.{Fed, FeedStep, begun, due_in}
use Rattle.machine.specs.Kept.{FeedsPast, IsElsewhere, Steps}
use Rattle.machine.specs.Kept.Steps.{none, more}
use Rattle.machine.specs.Machine.{MachineState}
use Rattle.machine.proofs.Going.{Gone, Gone-none, Gone-more, Gone-all}

-- The cycles of a feed so far, whose lines stand elsewhere.
pub record IsPast (net : NetRows) (start now : Fed) (page line : ℕ) : Type 0 where
  pub steps : (wiring : Wiring) → IsNetOf wiring net → Steps wiring start now
  pub lines : List PlacedLine
  pub gone : Gone net start [] now lines
  pub elsewhere : All (IsElsewhere page line) lines

pub IsPast-start : (net : NetRows) (start now : Fed) (page line : ℕ) → start ≡ now → IsPast net start now page line
IsPast-start net start now page line same = subst (λ (fed : Fed). IsPast net start fed page line) same (record {
  steps = λ wiring is_net. none;
  lines = [];
  gone = Gone-none net start [];
  elsewhere = All-nil (IsElsewhere page line);
})

pub IsPast-more : (net : NetRows) (start now : Fed) (page line : ℕ) (cycle : Cycle) (mid : Fed)
    → IsPast net start now page line → ((wiring : Wiring) → IsNetOf wiring net → FeedStep wiring cycle now mid)
    → All (IsElsewhere page line) (line_of mid.machine) → IsPast net start mid page line
IsPast-more net start now page line cycle mid past step elsewhere = record {
  steps = λ wiring is_net. more cycle now mid (past.steps wiring is_net) (step wiring is_net);
  lines = past.lines ++ line_of mid.machine;
  gone = Gone-more net start [] now past.lines cycle mid (line_of mid.machine) (past.lines ++ line_of mid.machine) past.gone step refl refl;
  elsewhere = All-append (IsElsewhere page line) past.lines (line_of mid.machine) past.elsewhere elsewhere;
}

pub IsPast-all : (net : NetRows) (machine : MachineState) (next : Option (List ℕ)) (now : Fed) (page line : ℕ)
    → IsPast net (begun machine next) now page line → due_in now ≡ None → (wiring : Wiring) → IsNetOf wiring net
    → FeedsPast wiring machine next now.machine page line
IsPast-all net machine next now page line past over wiring is_net =
    let gains = Gone-all net machine next [] now past.lines past.gone over in
    record {
      lines = gains.lines;
      feeds = gains.feeds wiring is_net;
      elsewhere = subst (λ (lines : List PlacedLine). All (IsElsewhere page line) lines) gains.gained past.elsewhere;
    }
