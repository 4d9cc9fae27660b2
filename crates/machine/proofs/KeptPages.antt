-- Feeds whose cycles are kept that place a line on a page.
use Rattle.std.proofs.Common.{◌≡◌, ◌∙◌, sym, ap, subst, refl, ℕ, Bool, List, [], ◌∷◌, ◌++◌, Option, Some, None, append_assoc, option_to_list, map}
use Rattle.std.specs.Prelude.{All, IfSome}
use Rattle.std.specs.List.{filter}
use Rattle.std.proofs.lemmas.List.{append-nil, map-append}
use Rattle.std.proofs.lemmas.List.Elements.{All-append, All-cons, All-nil, filter-append}
use Rattle.page_text.specs.declared.placed_lines.placed_line.PlacedLine.{PlacedLine}
use Rattle.hubs.specs.SetupsWords.Wiring.{Wiring}
use Rattle.net.specs.Nets.{NetRows, IsNetOf}
use Rattle.net.specs.declared.cycle.Cycle.{Cycle}
use Rattle.machine.specs.Cycles.{line_of}
use Rattle.machine.specs.Feeds.{Fed, FeedStep, begun, due_in, taken}
use Rattle.machine.specs.Kept.{GainsKept, GainsSome, KeepsPoints, PlacedInFeed, Steps, is_on, kept_of, line_kept}
use Rattle.machine.specs.Kept.Steps.{none, more}
use Rattle.machine.specs.Machine.{MachineState}
use Rattle.machine.specs.declared.kept.KeptCycle.{KeptCycle}
use Rattle.machine.specs.declared.kept.KeptPoint.{KeptPoint}
use Rattle.machine.proofs.Going.{Gone, Gone-none, Gone-more, Gone-all, Gone-prefix}

-- The cycles of a feed so far, and those of them that are kept.
pub record IsKeeping (net : NetRows) (machine : MachineState) (next : Option (List ℕ)) (now : Fed) (page : ℕ) (old new : List KeptCycle) :
    Type 0 where
  pub steps : (wiring : Wiring) → IsNetOf wiring net → Steps wiring (begun machine next) now
  pub lines : List PlacedLine
  pub gone : Gone net (begun machine next) [] now lines
  pub kept : List KeptCycle
  pub gained : new ≡ old ++ kept
  pub placed : (wiring : Wiring) → IsNetOf wiring net → All (PlacedInFeed wiring machine next) kept
  pub on_page : map line_kept kept ≡ filter (is_on page) lines

pub IsKeeping-start : (net : NetRows) (machine : MachineState) (next : Option (List ℕ)) (now : Fed) (page : ℕ) (old : List KeptCycle)
    → begun machine next ≡ now → IsKeeping net machine next now page old old
IsKeeping-start net machine next now page old same = subst (λ (fed : Fed). IsKeeping net machine next fed page old old) same (record {
  steps = λ wiring is_net. none;
  lines = [];
  gone = Gone-none net (begun machine next) [];
  kept = [];
  gained = sym (append-nil old);
  placed = λ wiring is_net. All-nil (PlacedInFeed wiring machine next);
  on_page = refl;
})

-- the lines of what is kept of a cycle
lines-kept : (cycle : Cycle) (waits : Bool) (points : List KeptPoint) (line : Option PlacedLine) → map line_kept (kept_of cycle waits points line) ≡ option_to_list line
lines-kept cycle waits points None = refl
lines-kept cycle waits points (Some line) = refl

-- what is kept of a cycle placed its line in the feed
placed-kept : (wiring : Wiring) (machine : MachineState) (next : Option (List ℕ)) (now mid : Fed) (cycle : Cycle) (points : List KeptPoint)
    (line : Option PlacedLine) → Steps wiring (begun machine next) now → FeedStep wiring cycle now mid
    → KeepsPoints wiring cycle (taken cycle now).machine 14 points → IfSome line (λ placed. line_of mid.machine ≡ placed ∷ [])
    → All (PlacedInFeed wiring machine next) (kept_of cycle mid.waits points line)
placed-kept wiring machine next now mid cycle points None steps step keeps is = All-nil (PlacedInFeed wiring machine next)
placed-kept wiring machine next now mid cycle points (Some line) steps step keeps is =
    let placed : PlacedInFeed wiring machine next (record { cycle = cycle; waits = mid.waits; points = points; line = line }) = record {
      before = now;
      after = mid;
      steps = steps;
      step = step;
      placed = is;
      waits = refl;
      points = keeps;
    } in
    All-cons (PlacedInFeed wiring machine next) _ [] placed (All-nil (PlacedInFeed wiring machine next))

pub IsKeeping-more : (net : NetRows) (machine : MachineState) (next : Option (List ℕ)) (now : Fed) (page : ℕ) (old new : List KeptCycle)
    (cycle : Cycle) (mid : Fed) (points : List KeptPoint) (line : Option PlacedLine) (newer : List KeptCycle)
    → IsKeeping net machine next now page old new
    → ((wiring : Wiring) → IsNetOf wiring net → FeedStep wiring cycle now mid)
    → ((wiring : Wiring) → IsNetOf wiring net → KeepsPoints wiring cycle (taken cycle now).machine 14 points)
    → IfSome line (λ placed. line_of mid.machine ≡ placed ∷ []) → option_to_list line ≡ filter (is_on page) (line_of mid.machine)
    → newer ≡ new ++ kept_of cycle mid.waits points line → IsKeeping net machine next mid page old newer
IsKeeping-more net machine next now page old new cycle mid points line newer keeping step keeps placed on_page gained = record {
  steps = λ wiring is_net. more cycle now mid (keeping.steps wiring is_net) (step wiring is_net);
  lines = keeping.lines ++ line_of mid.machine;
  gone =
      Gone-more net (begun machine next) [] now keeping.lines cycle mid (line_of mid.machine) (keeping.lines ++ line_of mid.machine)
      keeping.gone step refl refl;
  kept = keeping.kept ++ kept_of cycle mid.waits points line;
  gained =
      gained ∙ ap (λ (k : List KeptCycle). k ++ kept_of cycle mid.waits points line) keeping.gained
      ∙ append_assoc old keeping.kept (kept_of cycle mid.waits points line);
  placed =
      λ wiring is_net. All-append (PlacedInFeed wiring machine next) keeping.kept (kept_of cycle mid.waits points line) (keeping.placed wiring is_net)
      (placed-kept wiring machine next now mid cycle points line (keeping.steps wiring is_net) (step wiring is_net) (keeps wiring is_net) placed);
  on_page =
      rw (map-append line_kept keeping.kept (kept_of cycle mid.waits points line), lines-kept cycle mid.waits points line, on_page, keeping.on_page)
      (sym (filter-append (is_on page) keeping.lines (line_of mid.machine)));
}

pub IsKeeping-some : (net : NetRows) (machine : MachineState) (next : Option (List ℕ)) (now : Fed) (page : ℕ) (old new : List KeptCycle)
    → IsKeeping net machine next now page old new → GainsSome net machine next page old new
IsKeeping-some net machine next now page old new keeping = record {
  kept = keeping.kept;
  gained = keeping.gained;
  placed = keeping.placed;
  lines = keeping.lines;
  first = Gone-prefix net machine next [] now keeping.lines keeping.gone;
  on_page = keeping.on_page;
}

pub IsKeeping-all : (net : NetRows) (machine : MachineState) (next : Option (List ℕ)) (now : Fed) (page : ℕ) (old new : List KeptCycle)
    → IsKeeping net machine next now page old new → due_in now ≡ None → GainsKept net machine next now.machine page old new
IsKeeping-all net machine next now page old new keeping over =
    let gains = Gone-all net machine next [] now keeping.lines keeping.gone over in
    record {
      kept = keeping.kept;
      gained = keeping.gained;
      feeds = λ wiring is_net. record {
        lines = gains.lines;
        feeds = gains.feeds wiring is_net;
        placed = keeping.placed wiring is_net;
        on_page = keeping.on_page ∙ ap (λ (lines : List PlacedLine). filter (is_on page) lines) gains.gained;
      };
    }
